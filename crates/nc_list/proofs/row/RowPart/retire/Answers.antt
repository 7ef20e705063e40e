use Rattle.std.proofs.Common.{List, map, sym, arith, subst}
use Rattle.std.proofs.lemmas.Grind.{common_steps}
use Rattle.std.proofs.lemmas.List.{map-set}
use Rattle.nc_list.specs.declared.chunk.Chunk.{Chunk}
use Rattle.nc_list.specs.Chunks.{IsAscending, IsRetired, HasBase}
use Rattle.nc_list.specs.Parts.{IsRow}
use Rattle.nc_list.proofs.Rows.{found, rise_here, has_here, retired_all, retired_row}
use Rattle.nc_list.proofs.row.RowPart.retire.Goals as goal

pub part_near-k-requires-clause-some : goal.part_near-k-requires-clause-some
part_near-k-requires-clause-some g c = grind (arith, common_steps)

pub index_mut-requires : goal.index_mut-requires
index_mut-requires g c = grind (arith, common_steps)

pub retire-requires-clause-ascending : goal.retire-requires-clause-ascending
retire-requires-clause-ascending g c =
    let is = found g.T.Part.items c.self.inside.parts.items c.deref.result.now c.part_near-k.result c.args.base c.index_mut.result.now c.deref.ensures.value
    c.part_near-k.ensures c.index_mut.ensures.value in
    subst (IsAscending 0) (sym is.part)
    (rise_here (map g.T.Part.items c.self.inside.parts.items) c.part_near-k.result is.for.inside
    (subst (IsAscending 0) (sym c.self.view_is) c.requires.ascending))

pub retire-requires-clause-base : goal.retire-requires-clause-base
retire-requires-clause-base g c =
    let is = found g.T.Part.items c.self.inside.parts.items c.deref.result.now c.part_near-k.result c.args.base c.index_mut.result.now c.deref.ensures.value
    c.part_near-k.ensures c.index_mut.ensures.value in
    subst (λ (z : List Chunk). HasBase z c.args.base) (sym is.part)
    (has_here (map g.T.Part.items c.self.inside.parts.items) c.part_near-k.result c.args.base is.for
    (subst (λ (z : List Chunk). HasBase z c.args.base) (sym c.self.view_is) c.requires.base))

pub invariant_of-self : goal.invariant_of-self
invariant_of-self g c =
    let xs = c.self.inside.parts.items in
    let is = found g.T.Part.items c.self.inside.parts.items c.deref.result.now c.part_near-k.result c.args.base c.index_mut.result.now c.deref.ensures.value
    c.part_near-k.ensures c.index_mut.ensures.value in
    subst (λ (z : List (List Chunk)). IsRow z c.self.inside.starts.items c.self.inside.count c.self.inside.first c.min-self-inside.result)
    (sym (map-set g.T.Part.items xs c.part_near-k.result c.retire.new.self))
    (retired_row (map g.T.Part.items xs) c.self.inside.starts.items c.self.inside.count c.self.inside.first c.self.inside.oldest
    c.min-self-inside.result c.part_near-k.result (g.T.Part.items c.retire.new.self) c.args.base c.args.stamp is.for.inside c.self.invariant
    (subst (λ (z : List Chunk). IsRetired z (g.T.Part.items c.retire.new.self) c.args.base c.args.stamp) is.part c.retire.ensures)
    (omega (arith, c.min-self-inside.ensures)) (omega (arith, c.min-self-inside.ensures)))

pub returns : goal.returns
returns g c =
    let xs = c.self.inside.parts.items in
    let is = found g.T.Part.items c.self.inside.parts.items c.deref.result.now c.part_near-k.result c.args.base c.index_mut.result.now c.deref.ensures.value
    c.part_near-k.ensures c.index_mut.ensures.value in
    rw (← c.self.view_is, map-set g.T.Part.items xs c.part_near-k.result c.retire.new.self)
    (retired_all (map g.T.Part.items xs) c.part_near-k.result (g.T.Part.items c.retire.new.self) c.args.base c.args.stamp is.for.inside
    (subst (λ (z : List Chunk). IsRetired z (g.T.Part.items c.retire.new.self) c.args.base c.args.stamp) is.part c.retire.ensures))
