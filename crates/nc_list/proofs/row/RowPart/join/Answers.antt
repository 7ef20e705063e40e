use Rattle.std.proofs.Common.{◌≡◌, ◌<◌, List, [], ◌++◌, length, map, ap, ◌∙◌, arith, Bool, true, if◌then◌else◌}
use Rattle.std.proofs.lemmas.List.{map-append}
use Rattle.nc_list.specs.declared.chunk.Chunk.{Chunk}
use Rattle.nc_list.specs.Parts.{all_of}
use Rattle.nc_list.proofs.Halves.{rows_joined, starts_fit, each_some, no_row}
use Rattle.nc_list.proofs.Pieces.{all_append}
use Rattle.nc_list.proofs.Parting.{starts_many}
use Rattle.nc_list.proofs.row.RowPart.join.Goals as goal

pub join_starts-requires : goal.join_starts-requires
join_starts-requires g c = record {
  few = starts_fit (map g.T.Part.items c.upper.inside.parts.items) c.upper.inside.starts.items c.self.inside.count 4294967296
      c.upper.invariant.starts_are
      (omega (arith, c.may_join.ensures.count c.if-not-may_join.false, c.may_join.ensures.added c.if-not-may_join.false, c.upper.invariant.count_is));
  room = omega (
    arith,
    c.may_join.ensures.starts c.if-not-may_join.false,
    starts_many g.T.Part.items c.self.inside.parts.items c.self.inside.starts.items c.self.invariant.starts_are,
    starts_many g.T.Part.items c.upper.inside.parts.items c.upper.inside.starts.items c.upper.invariant.starts_are,
    c.self.inside.parts.ok.0,
    c.self.inside.starts.ok.0,
    c.upper.inside.parts.ok.0,
    c.upper.inside.starts.ok.0,
  );
}

-- the chunks of the parts of two rows, once those of the second stand behind those of the first
both : {X : Type 0} (f : X → List Chunk) (xs ys zs : List X) (b : Bool) → zs ≡ (if b then xs ++ ys else xs) → b ≡ true
    → map f zs ≡ map f xs ++ map f ys
both f xs ys zs b are is = ap (map f) (are ∙ ap (λ (c : Bool). if c then xs ++ ys else xs) is) ∙ map-append f xs ys

pub invariant_of-upper : goal.invariant_of-upper
invariant_of-upper g c =
    let ok = c.append.ensures.succeeds (c.may_join.ensures.parts c.if-not-may_join.false) in
    let none = c.append.ensures.other_items ∙ ap (λ (b : Bool). if b then [] else c.upper.inside.parts.items) ok in
    rw (none, c.clear.ensures.items) (no_row c.upper.inside.first c.upper.inside.oldest)

pub invariant_of-self : goal.invariant_of-self
invariant_of-self g c =
    let lower = map g.T.Part.items c.self.inside.parts.items in
    let upper = map g.T.Part.items c.upper.inside.parts.items in
    let added = c.may_join.ensures.added c.if-not-may_join.false in
    let parts = both g.T.Part.items c.self.inside.parts.items c.upper.inside.parts.items c.append.new.self.items _ c.append.ensures.items
    (c.append.ensures.succeeds (c.may_join.ensures.parts c.if-not-may_join.false)) in
    let some : 0 < length (all_of lower) = omega (arith, c.requires, ap (λ (z : List Chunk). length z) c.self.view_is) in
    let also : 0 < length (all_of upper) = omega (arith, added.0, c.upper.invariant.count_is) in
    rw (parts, c.join_starts.ensures)
    (rows_joined lower upper c.self.inside.starts.items c.upper.inside.starts.items c.self.inside.count c.upper.inside.count
    c.self.inside.first c.upper.inside.first c.self.inside.oldest c.upper.inside.oldest c.min-self-inside.result
    c.self.invariant c.upper.invariant some also
    (omega (arith, c.min-self-inside.ensures)) (omega (arith, c.min-self-inside.ensures))
    (each_some lower c.self.invariant.some some) (each_some upper c.upper.invariant.some also))

pub returns-clause-joined : goal.returns-clause-joined
returns-clause-joined g c = λ _.
    ap all_of (both g.T.Part.items c.self.inside.parts.items c.upper.inside.parts.items c.append.new.self.items _ c.append.ensures.items
    (c.append.ensures.succeeds (c.may_join.ensures.parts c.if-not-may_join.false)))
    ∙ (all_append (map g.T.Part.items c.self.inside.parts.items) (map g.T.Part.items c.upper.inside.parts.items)
    ∙ (ap (λ (z : List Chunk). z ++ all_of (map g.T.Part.items c.upper.inside.parts.items)) c.self.view_is
    ∙ ap (λ (z : List Chunk). c.args.self.now ++ z) c.upper.view_is))
