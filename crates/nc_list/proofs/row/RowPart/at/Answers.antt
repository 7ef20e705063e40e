use Rattle.std.proofs.Common.{ℕ, ◌<◌, List, length, get_or, map, sym, ap, ◌∙◌, arith, subst}
use Rattle.std.proofs.lemmas.Grind.{common_steps}
use Rattle.std.proofs.lemmas.List.{length-map}
use Rattle.nc_list.specs.declared.chunk.Chunk.{Chunk}
use Rattle.nc_list.proofs.Pieces.{starts_get}
use Rattle.nc_list.proofs.Parting.{starts_many}
use Rattle.nc_list.proofs.Rows.{found_at, some_part}
use Rattle.nc_list.proofs.row.RowPart.at.Given.{Over}
use Rattle.nc_list.proofs.row.RowPart.at.Goals as goal

-- the row has a part
some : (g : Over) (c : goal.After-deref g) → 0 < length c.self.inside.parts.items
some g c =
    let inside = subst (λ (z : List Chunk). c.args.i < length z) (sym c.self.view_is) c.requires in
    omega (arith, some_part (map g.T.Part.items c.self.inside.parts.items) c.args.i inside, length-map c.self.inside.parts.items g.T.Part.items)

pub part_with-k-requires-clause-some : goal.part_with-k-requires-clause-some
part_with-k-requires-clause-some g c =
    omega (
      arith,
      some g c,
      starts_many g.T.Part.items c.self.inside.parts.items c.self.inside.starts.items c.self.invariant.starts_are,
      ap (λ (z : List ℕ). length z) c.deref.ensures.value,
    )

pub part_with-k-requires-clause-first : goal.part_with-k-requires-clause-first
part_with-k-requires-clause-first g c =
    let parts = map g.T.Part.items c.self.inside.parts.items in
    let long = length-map c.self.inside.parts.items g.T.Part.items in
    omega (
      arith,
      ap (λ (z : List ℕ). get_or z 0 0) (c.deref.ensures.value ∙ c.self.invariant.starts_are),
      starts_get 0 parts 0 0 (omega (arith, some g c, long)),
    )

pub index-requires : goal.index-requires
index-requires g c =
    omega (
      arith,
      c.part_with-k.ensures.inside,
      starts_many g.T.Part.items c.self.inside.parts.items c.self.inside.starts.items c.self.invariant.starts_are,
      ap (λ (z : List ℕ). length z) c.deref.ensures.value,
      c.self.inside.parts.ok.0,
    )

pub overflow_sub-i : goal.overflow_sub-i
overflow_sub-i g c = grind (arith, common_steps)

pub at-requires : goal.at-requires
at-requires g c =
    (found_at g.T.Part.items c.self.inside.parts.items c.deref.result.now c.self.inside.starts.items c.args.self.now c.args.i
    c.part_with-k.result c.index-2.result.now c.index.result.now c.self.view_is c.self.invariant.starts_are c.deref.ensures.value
    c.part_with-k.ensures.inside c.index-2.ensures c.part_with-k.ensures.start c.part_with-k.ensures.end c.index.ensures c.requires).0

pub returns : goal.returns
returns g c =
    c.at.ensures
    ∙ (found_at g.T.Part.items c.self.inside.parts.items c.deref.result.now c.self.inside.starts.items c.args.self.now c.args.i
    c.part_with-k.result c.index-2.result.now c.index.result.now c.self.view_is c.self.invariant.starts_are c.deref.ensures.value
    c.part_with-k.ensures.inside c.index-2.ensures c.part_with-k.ensures.start c.part_with-k.ensures.end c.index.ensures c.requires).1
    c.at.result
