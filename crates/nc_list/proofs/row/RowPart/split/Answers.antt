use Rattle.std.proofs.Common.{◌≡◌, ℕ, ◌-◌, ◌<◌, List, [], length, get_or, take, drop, map, refl, sym, ap, ◌∙◌, arith, subst}
use Rattle.std.proofs.lemmas.List.{length-map, length-drop, get_or_default, take-map, drop-map}
use Rattle.nc_list.specs.declared.chunk.Chunk.{Chunk}
use Rattle.nc_list.specs.Stamps.{AreSince, BeginsAt}
use Rattle.nc_list.specs.Parts.{all_of}
use Rattle.nc_list.proofs.Pieces.{part_is}
use Rattle.nc_list.proofs.Parting.{starts_many}
use Rattle.nc_list.proofs.Halves.{cut_enough, cut_fits, row_cut, row_rest, row_parted}
use Rattle.nc_list.proofs.row.RowPart.split.Given.{Over}
use Rattle.nc_list.proofs.row.RowPart.split.Goals.{After-index}
use Rattle.nc_list.proofs.row.RowPart.split.Goals as goal

pub split_starts-requires-clause-inside : goal.split_starts-requires-clause-inside
split_starts-requires-clause-inside g c =
    omega (
      arith,
      c.cut_at-cut.ensures.1,
      ap (λ (z : List g.row.T.Denot). length z) c.deref.ensures.value,
      starts_many g.T.Part.items c.self.inside.parts.items c.self.inside.starts.items c.self.invariant.starts_are,
    )

pub split_starts-requires-clause-enough : goal.split_starts-requires-clause-enough
split_starts-requires-clause-enough g c =
    cut_enough (map g.T.Part.items c.self.inside.parts.items) c.self.inside.starts.items c.cut_at-cut.result _ c.self.invariant.starts_are
    (omega (
      arith,
      c.cut_at-cut.ensures.1,
      ap (λ (z : List g.row.T.Denot). length z) c.deref.ensures.value,
      length-map c.self.inside.parts.items g.T.Part.items,
    )) refl

pub index-requires : goal.index-requires
index-requires g c =
    omega (
      arith,
      c.cut_at-cut.ensures.1,
      ap (λ (z : List g.row.T.Denot). length z) c.deref.ensures.value,
      starts_many g.T.Part.items c.self.inside.parts.items c.self.inside.starts.items c.self.invariant.starts_are,
      c.self.inside.starts.ok.0,
    )

-- the row's parts
abbrev parts_of : (g : Over) (c : After-index g) → List (List Chunk)
parts_of g c = map g.T.Part.items c.self.inside.parts.items

-- the cut is before the end
lt : (g : Over) (c : After-index g) → c.cut_at-cut.result < length (parts_of g c)
lt g c =
    omega (
      arith,
      c.cut_at-cut.ensures.1,
      ap (λ (z : List g.row.T.Denot). length z) c.deref.ensures.value,
      length-map c.self.inside.parts.items g.T.Part.items,
    )

-- the number of chunks before the part where the row is cut
is : (g : Over) (c : After-index g) → c.index.result.now ≡ get_or c.self.inside.starts.items c.cut_at-cut.result 0
is g c =
    let many = starts_many g.T.Part.items c.self.inside.parts.items c.self.inside.starts.items c.self.invariant.starts_are in
    let long = length-map c.self.inside.parts.items g.T.Part.items in
    c.index.ensures ∙ get_or_default c.self.inside.starts.items c.cut_at-cut.result c.index.result.now 0 (omega (arith, lt g c, many, long))

pub overflow_sub-upper : goal.overflow_sub-upper
overflow_sub-upper g c =
    let at = (goal.at.overflow_sub-upper g c).After-index in
    let starts = c.self.inside.starts.items in
    let cut : ℕ = c.cut_at-cut.result in
    cut_fits (parts_of g at) starts c.self.inside.count c.self.inside.first c.self.inside.oldest cut c.index.result.now c.self.invariant (lt g at) (is g at)

pub invariant_of-upper : goal.invariant_of-upper
invariant_of-upper g c =
    let at = (goal.at.invariant_of-upper g c).After-index in
    let starts = c.self.inside.starts.items in
    let cut : ℕ = c.cut_at-cut.result in
    let back : map g.T.Part.items c.in_ok-parts.parts.items ≡ drop cut (parts_of g at) =
    ap (map g.T.Part.items) c.in_ok-parts.ensures.tail ∙ sym (drop-map g.T.Part.items cut c.self.inside.parts.items) in
    let some : 0 < length c.in_ok-parts.parts.items =
    omega (arith, ap (λ (z : List g.row.T.Denot). length z) c.in_ok-parts.ensures.tail, length-drop cut c.self.inside.parts.items, (lt g at), length-map c.self.inside.parts.items g.T.Part.items) in
    let front = subst (BeginsAt c.first.result)
    (part_is g.T.Part.items c.in_ok-parts.parts.items 0 c.index-2.result.now some c.index-2.ensures
    ∙ ap (λ (z : List (List Chunk)). get_or z 0 []) back) c.first.ensures in
    let since = subst (λ (z : List (List Chunk)). AreSince c.oldest_of.result (all_of z))
    (ap (map g.T.Part.items) c.deref-3.ensures.value ∙ back) c.oldest_of.ensures in
    rw (back, c.in_ok-starts.ensures ∙ ap (λ (n : ℕ). map (λ (m : ℕ). m - n) (drop cut starts)) (sym (is g at)))
    (row_rest (parts_of g at) starts c.self.inside.count c.self.inside.first c.self.inside.oldest cut c.index.result.now c.first.result c.oldest_of.result
    c.self.invariant c.cut_at-cut.ensures.0 (lt g at) (is g at) front since)

pub invariant_of-self-2 : goal.invariant_of-self-2
invariant_of-self-2 g c =
    let at = (goal.at.invariant_of-self-2 g c).After-index in
    let starts = c.self.inside.starts.items in
    let cut : ℕ = c.cut_at-cut.result in
    let front : map g.T.Part.items c.split_off.new.self.items ≡ take cut (parts_of g at) =
    ap (map g.T.Part.items) c.in_ok-parts.ensures.items ∙ sym (take-map g.T.Part.items cut c.self.inside.parts.items) in
    let since = subst (λ (z : List (List Chunk)). AreSince c.oldest_of-self-inside.result (all_of z))
    (ap (map g.T.Part.items) c.deref-2.ensures.value ∙ front) c.oldest_of-self-inside.ensures in
    rw (front, c.truncate.ensures.items)
    (row_cut (parts_of g at) starts c.self.inside.count c.self.inside.first c.self.inside.oldest cut c.index.result.now c.oldest_of-self-inside.result
    c.self.invariant c.cut_at-cut.ensures.0 (lt g at) (is g at) since)

pub returns-clause-ok : goal.returns-clause-ok
returns-clause-ok g c =
    let at = (goal.at.returns-clause-ok g c).After-index in
    let starts = c.self.inside.starts.items in
    let cut : ℕ = c.cut_at-cut.result in
    let front : map g.T.Part.items c.split_off.new.self.items ≡ take cut (parts_of g at) =
    ap (map g.T.Part.items) c.in_ok-parts.ensures.items ∙ sym (take-map g.T.Part.items cut c.self.inside.parts.items) in
    let back : map g.T.Part.items c.in_ok-parts.parts.items ≡ drop cut (parts_of g at) =
    ap (map g.T.Part.items) c.in_ok-parts.ensures.tail ∙ sym (drop-map g.T.Part.items cut c.self.inside.parts.items) in
    rw (← c.self.view_is, front, back) (row_parted (parts_of g at) cut c.self.invariant.some c.cut_at-cut.ensures.0 (lt g at))
