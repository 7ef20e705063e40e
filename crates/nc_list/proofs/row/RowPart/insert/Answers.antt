use Rattle.std.proofs.Common.{◌≡◌, ℕ, ◌+◌, ◌<◌, List, [], ◌++◌, length, get_or, set, take, drop, map, sym, ap, ◌∙◌, arith, subst}
use Rattle.std.proofs.lemmas.Grind.{common_steps}
use Rattle.std.proofs.lemmas.List.{length-map, length-set, map-set}
use Rattle.std.proofs.lemmas.Result.{err_from_is_err_and}
use Rattle.nc_list.specs.declared.chunk.Chunk.{Chunk}
use Rattle.nc_base.specs.Each.{Each}
use Rattle.nc_list.specs.Chunks.{IsAscending, Meets, live}
use Rattle.nc_list.specs.Stamps.{BeginsAt}
use Rattle.nc_list.specs.Parts.{IsRow, IsPut, all_of}
use Rattle.nc_list.proofs.Pieces.{part_is, starts_long}
use Rattle.std.proofs.lemmas.List.{take_at}
use Rattle.nc_list.proofs.Parting.{kept_parts, starts_many}
use Rattle.nc_list.proofs.Rows.{rise_here, free_here, few_here, put_all, row_same, row_put, starts_few}
use Rattle.nc_list.proofs.row.RowPart.insert.Given.{Over}
use Rattle.nc_list.proofs.row.RowPart.insert.Goals.{After-index_mut}
use Rattle.nc_list.proofs.row.RowPart.insert.Goals as goal

-- the parts once there is one for the new chunk
abbrev parts_of : (g : Over) (c : After-index_mut g) → List (List Chunk)
parts_of g c = map g.T.Part.items c.part_for_new.new.parts.items

-- the parts with one for the new chunk have the chunks of the row
whole : (g : Over) (c : After-index_mut g) → all_of (parts_of g c) ≡ c.args.self.now
whole g c = c.part_for_new.ensures.all ∙ c.self.view_is

-- the part for the new chunk is one of the parts
inside : (g : Over) (c : After-index_mut g) → c.in_ok-k.k < length c.part_for_new.new.parts.items
inside g c = omega (arith, c.in_ok-k.ensures.part.inside, length-map c.part_for_new.new.parts.items g.T.Part.items)

-- the chunks of that part
part : (g : Over) (c : After-index_mut g) → g.T.Part.items c.index_mut.result.now ≡ get_or (parts_of g c) c.in_ok-k.k []
part g c = part_is g.T.Part.items c.part_for_new.new.parts.items c.in_ok-k.k c.index_mut.result.now (inside g c) c.index_mut.ensures.value

pub part_for_new-requires : goal.part_for_new-requires
part_for_new-requires g c = record {
  few = omega (arith, c.requires.few, ap (λ (z : List Chunk). length z) c.self.view_is);
  starts = c.self.invariant.starts_are;
  have = c.self.invariant.some;
  ascending = subst (IsAscending 0) (sym c.self.view_is) c.requires.ascending;
}

pub invariant_of-self : goal.invariant_of-self
invariant_of-self g c =
    row_same (map g.T.Part.items c.self.inside.parts.items) (map g.T.Part.items c.part_for_new.new.parts.items) c.self.inside.starts.items
    c.part_for_new.new.starts.items c.self.inside.count c.self.inside.first c.self.inside.oldest c.self.invariant
    c.part_for_new.ensures.all c.part_for_new.ensures.starts c.part_for_new.ensures.have

pub returns-in_err-k : goal.returns-in_err-k
returns-in_err-k g c =
    let same = c.part_for_new.ensures.all ∙ c.self.view_is in
    let p = err_from_is_err_and c.from_residual.result c.from_residual.ensures.1 in
    rw p.1 (record { ok = tt; err = same })

pub index_mut-requires : goal.index_mut-requires
index_mut-requires g c = grind (arith, common_steps)

pub insert-requires-clause-ascending : goal.insert-requires-clause-ascending
insert-requires-clause-ascending g c =
    let at = (goal.at.insert-requires-clause-ascending g c).After-index_mut in
    subst (IsAscending 0) (sym (part g at)) (rise_here (parts_of g at) c.in_ok-k.k c.in_ok-k.ensures.part.inside (subst (IsAscending 0) (sym (whole g at)) c.requires.ascending))

pub insert-requires-clause-free : goal.insert-requires-clause-free
insert-requires-clause-free g c =
    let at = (goal.at.insert-requires-clause-free g c).After-index_mut in
    λ m. free_here (parts_of g at) c.in_ok-k.k c.args.base c.args.len c.in_ok-k.ensures.part.inside
    (λ n. c.requires.free (subst (Meets c.args.base c.args.len) (whole g at) n)) (subst (Meets c.args.base c.args.len) (part g at) m)

pub insert-requires-clause-few : goal.insert-requires-clause-few
insert-requires-clause-few g c =
    let at = (goal.at.insert-requires-clause-few g c).After-index_mut in
    omega (
      arith,
      c.requires.few,
      few_here (parts_of g at) c.in_ok-k.k c.in_ok-k.ensures.part.inside,
      ap (λ (z : List Chunk). length z) (whole g at),
      ap (λ (z : List Chunk). length z) (part g at),
    )

pub invariant_of-self-in_err-insert : goal.invariant_of-self-in_err-insert
invariant_of-self-in_err-insert g c =
    let at = (goal.at.invariant_of-self-in_err-insert g c).After-index_mut in
    let row = row_same (map g.T.Part.items c.self.inside.parts.items) (parts_of g at) c.self.inside.starts.items c.part_for_new.new.starts.items
    c.self.inside.count c.self.inside.first c.self.inside.oldest c.self.invariant
    c.part_for_new.ensures.all c.part_for_new.ensures.starts c.part_for_new.ensures.have in
    subst (λ (z : List (List Chunk)). IsRow z c.part_for_new.new.starts.items c.self.inside.count c.self.inside.first c.self.inside.oldest)
    (sym (kept_parts g.T.Part.items c.part_for_new.new.parts.items c.in_ok-k.k c.index_mut.result.now c.insert.new.self (inside g at) c.index_mut.ensures.value
    c.in_err-insert.ensures.err)) row

pub returns-in_err-insert-clause-err : goal.returns-in_err-insert-clause-err
returns-in_err-insert-clause-err g c =
    let at = (goal.at.returns-in_err-insert-clause-err g c).After-index_mut in
    let same = ap all_of (kept_parts g.T.Part.items c.part_for_new.new.parts.items c.in_ok-k.k c.index_mut.result.now c.insert.new.self (inside g at) c.index_mut.ensures.value
    c.in_err-insert.ensures.err) ∙ whole g at in
    let p = err_from_is_err_and c.from_residual-in_err-insert.result c.from_residual-in_err-insert.ensures.1 in
    rw p.1 same

pub overflow_add-self : goal.overflow_add-self
overflow_add-self g c = omega (arith, c.requires.few, c.self.invariant.count_is, ap (λ (z : List Chunk). length z) c.self.view_is)

pub raise-requires-clause-inside : goal.raise-requires-clause-inside
raise-requires-clause-inside g c =
    let at = (goal.at.raise-requires-clause-inside g c).After-index_mut in
    omega (
      arith,
      (inside g at),
      starts_many g.T.Part.items c.part_for_new.new.parts.items c.part_for_new.new.starts.items c.part_for_new.ensures.starts,
      ap (λ (z : List ℕ). length z) c.deref_mut.ensures.value,
    )

pub raise-requires-clause-few : goal.raise-requires-clause-few
raise-requires-clause-few g c =
    let at = (goal.at.raise-requires-clause-few g c).After-index_mut in
    subst (Each (λ (n : ℕ). n < 4294967295)) (sym c.deref_mut.ensures.value)
    (starts_few (parts_of g at) c.part_for_new.new.starts.items 4294967295 c.part_for_new.ensures.starts
    (omega (arith, c.requires.few, ap (λ (z : List Chunk). length z) (whole g at))))

pub index-requires : goal.index-requires
index-requires g c = grind (arith, common_steps)

pub invariant_of-self-2 : goal.invariant_of-self-2
invariant_of-self-2 g c =
    let at = (goal.at.invariant_of-self-2 g c).After-index_mut in
    let row = row_same (map g.T.Part.items c.self.inside.parts.items) (parts_of g at) c.self.inside.starts.items c.part_for_new.new.starts.items
    c.self.inside.count c.self.inside.first c.self.inside.oldest c.self.invariant
    c.part_for_new.ensures.all c.part_for_new.ensures.starts c.part_for_new.ensures.have in
    let free = λ (m : Meets c.args.base c.args.len (all_of (parts_of g at))). c.requires.free (subst (Meets c.args.base c.args.len) (whole g at) m) in
    let put = subst (λ (z : List Chunk). IsPut z (g.T.Part.items c.insert.new.self) (live c.args.base c.args.len)) (part g at) c.in_ok-insert.ensures.ok in
    let starts = c.part_for_new.new.starts.items in
    let are : c.raise.new.starts ≡ take (c.in_ok-k.k + 1) starts ++ map (λ (n : ℕ). n + 1) (drop (c.in_ok-k.k + 1) starts) =
    c.raise.ensures
    ∙ ap (λ (z : List ℕ). take (c.in_ok-k.k + 1) z ++ map (λ (n : ℕ). n + 1) (drop (c.in_ok-k.k + 1) z)) c.deref_mut.ensures.value in
    let sets = map-set g.T.Part.items c.part_for_new.new.parts.items c.in_ok-k.k c.insert.new.self in
    let front = subst (BeginsAt c.first-self-inside.result)
    (part_is g.T.Part.items (set c.part_for_new.new.parts.items c.in_ok-k.k c.insert.new.self) 0 c.index.result.now
    (omega (arith, (inside g at), length-set c.part_for_new.new.parts.items c.in_ok-k.k c.insert.new.self)) c.index.ensures
    ∙ ap (λ (z : List (List Chunk)). get_or z 0 []) sets) c.first-self-inside.ensures in
    let now = row_put (parts_of g at) starts c.self.inside.count c.self.inside.first c.self.inside.oldest c.in_ok-k.k
    (g.T.Part.items c.insert.new.self) c.args.base c.args.len c.first-self-inside.result row c.in_ok-k.ensures.part free put front in
    let size : length c.raise.new.starts ≡ c.part_for_new.new.starts.len =
    omega (
      arith,
      ap (λ (z : List ℕ). length z) (are ∙ now.starts_are),
      starts_long 0 (set (parts_of g at) c.in_ok-k.k (g.T.Part.items c.insert.new.self)),
      length-set (parts_of g at) c.in_ok-k.k (g.T.Part.items c.insert.new.self),
      length-map c.part_for_new.new.parts.items g.T.Part.items,
      starts_many g.T.Part.items c.part_for_new.new.parts.items starts c.part_for_new.ensures.starts,
      c.part_for_new.new.starts.ok.0,
    ) in
    rw (sets, take_at c.raise.new.starts _ c.part_for_new.new.starts.len size, are) now

pub returns-clause-ok : goal.returns-clause-ok
returns-clause-ok g c =
    let at = (goal.at.returns-clause-ok g c).After-index_mut in
    let free = λ (m : Meets c.args.base c.args.len (all_of (parts_of g at))). c.requires.free (subst (Meets c.args.base c.args.len) (whole g at) m) in
    let put = subst (λ (z : List Chunk). IsPut z (g.T.Part.items c.insert.new.self) (live c.args.base c.args.len)) (part g at) c.in_ok-insert.ensures.ok in
    let result = put_all (parts_of g at) c.in_ok-k.k (g.T.Part.items c.insert.new.self) c.args.base c.args.len c.in_ok-k.ensures.part free put in
    rw (map-set g.T.Part.items c.part_for_new.new.parts.items c.in_ok-k.k c.insert.new.self)
    (subst (λ (z : List Chunk). IsPut z (all_of (set (parts_of g at) c.in_ok-k.k (g.T.Part.items c.insert.new.self))) (live c.args.base c.args.len)) (whole g at) result)
