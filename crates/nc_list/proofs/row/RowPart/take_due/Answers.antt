use Rattle.std.proofs.Common.{◌≡◌, ℕ, ◌+◌, ◌-◌, ◌<◌, ◌≤◌, List, [], ◌++◌, length, get_or, take, drop, map, sym, ap, ◌∙◌, arith, subst}
use Rattle.std.proofs.lemmas.Grind.{common_steps, elements}
use Rattle.std.proofs.lemmas.List.{length-map, length-set, length-take-le}
use Rattle.nc_list.specs.declared.chunk.Chunk.{Chunk}
use Rattle.nc_base.specs.Each.{Each}
use Rattle.nc_list.specs.Stamps.{BeginsAt, AreSince}
use Rattle.nc_list.specs.Parts.{AreTakenFrom, OthersHaveSome, all_of, starts_of}
use Rattle.nc_list.proofs.Pieces.{part_is, starts_long}
use Rattle.std.proofs.lemmas.List.{take_at}
use Rattle.nc_list.proofs.Parting.{starts_many}
use Rattle.nc_list.proofs.Rows.{lowered, enough_behind, set_others}
use Rattle.nc_list.proofs.Taking.{taken_from}
use Rattle.nc_list.proofs.Leaving.{taken_long, taken_inside, taken_set, taken_here, taken_row, taken_since}
use Rattle.nc_list.proofs.row.RowPart.take_due.Given.{Over}
use Rattle.nc_list.proofs.row.RowPart.take_due.Goals.{In-Some}
use Rattle.nc_list.proofs.row.RowPart.take_due.Goals as goal

-- the chunks of each part before, and after some were taken
abbrev old : (g : Over) (c : In-Some g) → List (List Chunk)
old g c = map g.T.Part.items c.self.inside.parts.items

abbrev new : (g : Over) (c : In-Some g) → List (List Chunk)
new g c = map g.T.Part.items c.take_one.new.parts.items

-- the chunks that were taken from a part
abbrev due : (g : Over) (c : In-Some g) → List Chunk
due g c = take c.in-Some.taken.count c.take_one.new.room

many : (g : Over) (c : In-Some g) → length (due g c) ≡ c.in-Some.taken.count
many g c = length-take-le c.in-Some.taken.count c.take_one.new.room c.in-Some.ensures.count

inside : (g : Over) (c : In-Some g) → c.in-Some.taken.part < length (old g c)
inside g c = taken_inside c.args.least (old g c) (new g c) (due g c) c.in-Some.taken.part c.in-Some.ensures.some

pub overflow_add-is_last : goal.overflow_add-is_last
overflow_add-is_last g c = grind (arith, common_steps)

pub lower-requires-clause-inside : goal.lower-requires-clause-inside
lower-requires-clause-inside g c =
    let at = (goal.at.lower-requires-clause-inside g c).In-Some in
    omega (
      arith,
      (inside g at),
      length-map c.self.inside.parts.items g.T.Part.items,
      starts_many g.T.Part.items c.self.inside.parts.items c.self.inside.starts.items c.self.invariant.starts_are,
      ap (λ (z : List ℕ). length z) c.deref_mut.ensures.value,
    )

pub lower-requires-clause-enough : goal.lower-requires-clause-enough
lower-requires-clause-enough g c =
    let at = (goal.at.lower-requires-clause-enough g c).In-Some in
    subst (λ (z : List ℕ). Each (λ (n : ℕ). c.in-Some.taken.count ≤ n) (drop (c.in-Some.taken.part + 1) z)) (sym c.deref_mut.ensures.value)
    (enough_behind (old g at) c.self.inside.starts.items c.in-Some.taken.part c.in-Some.taken.count (inside g at) c.self.invariant.starts_are
    (omega (arith, taken_here c.args.least (old g at) (new g at) (due g at) c.in-Some.taken.part c.in-Some.ensures.some, (many g at))))

pub overflow_sub-self : goal.overflow_sub-self
overflow_sub-self g c =
    let at = (goal.at.overflow_sub-self g c).In-Some in
    omega (
      arith,
      (many g at),
      c.self.invariant.count_is,
      taken_long c.args.least (all_of (old g at)) (all_of (new g at)) (due g at) (taken_from c.args.least (old g at) (new g at) (due g at) c.in-Some.taken.part c.in-Some.ensures.some),
    )

pub close_up-requires-clause-inside : goal.close_up-requires-clause-inside
close_up-requires-clause-inside g c = grind (arith, elements)

pub close_up-requires-clause-starts : goal.close_up-requires-clause-starts
close_up-requires-clause-starts g c =
    let at = (goal.at.close_up-requires-clause-starts g c).In-Some in
    let so : AreTakenFrom c.args.least (old g at) (new g at) (due g at) c.in-Some.taken.part = c.in-Some.ensures.some in
    let starts = c.self.inside.starts.items in
    let are : c.lower.new.starts
    ≡ take (c.in-Some.taken.part + 1) starts ++ map (λ (n : ℕ). n - c.in-Some.taken.count) (drop (c.in-Some.taken.part + 1) starts) =
    c.lower.ensures
    ∙ ap (λ (z : List ℕ). take (c.in-Some.taken.part + 1) z ++ map (λ (n : ℕ). n - c.in-Some.taken.count) (drop (c.in-Some.taken.part + 1) z)) c.deref_mut.ensures.value in
    let fewer : length (get_or (old g at) c.in-Some.taken.part []) ≡ length so.left + c.in-Some.taken.count =
    omega (arith, taken_here c.args.least (old g at) (new g at) (due g at) c.in-Some.taken.part so, (many g at)) in
    let set_is = taken_set c.args.least (old g at) (new g at) (due g at) c.in-Some.taken.part so in
    let now : c.lower.new.starts ≡ starts_of 0 (new g at) =
    are ∙ (lowered (old g at) starts c.in-Some.taken.part c.in-Some.taken.count so.left (inside g at) c.self.invariant.starts_are fewer ∙ ap (starts_of 0) set_is) in
    let size : length c.lower.new.starts ≡ c.self.inside.starts.len =
    omega (
      arith,
      ap (λ (z : List ℕ). length z) now,
      starts_long 0 (new g at),
      ap (λ (z : List (List Chunk)). length z) set_is,
      length-set (old g at) c.in-Some.taken.part so.left,
      starts_long 0 (old g at),
      ap (λ (z : List ℕ). length z) c.self.invariant.starts_are,
      c.self.inside.starts.ok.0,
    ) in
    take_at c.lower.new.starts _ c.self.inside.starts.len size ∙ now

pub close_up-requires-clause-have : goal.close_up-requires-clause-have
close_up-requires-clause-have g c =
    let at = (goal.at.close_up-requires-clause-have g c).In-Some in
    let so : AreTakenFrom c.args.least (old g at) (new g at) (due g at) c.in-Some.taken.part = c.in-Some.ensures.some in
    subst (λ (z : List (List Chunk)). OthersHaveSome z c.in-Some.taken.part) (taken_set c.args.least (old g at) (new g at) (due g at) c.in-Some.taken.part so)
    (set_others (old g at) c.in-Some.taken.part so.left c.self.invariant.some)

pub overflow_cast-taken : goal.overflow_cast-taken
overflow_cast-taken g c = omega (arith, c.in-Some.ensures.count, c.take_one.ensures.room, c.requires.few)

pub raised-self-inside-requires : goal.raised-self-inside-requires
raised-self-inside-requires g c =
    let at = (goal.at.raised-self-inside-requires g c).In-Some in
    subst (λ (z : List g.row.T.Denot). AreSince c.self.inside.oldest (all_of (map g.T.Part.items z))) (sym c.deref-2.ensures.value)
    (subst (AreSince c.self.inside.oldest) (sym c.close_up.ensures.all)
    (taken_since c.args.least c.self.inside.oldest (all_of (old g at)) (all_of (new g at)) (due g at)
    (taken_from c.args.least (old g at) (new g at) (due g at) c.in-Some.taken.part c.in-Some.ensures.some) c.self.invariant.since))

pub invariant_of-self-2 : goal.invariant_of-self-2
invariant_of-self-2 g c =
    let at = (goal.at.invariant_of-self-2 g c).In-Some in
    let last = map g.T.Part.items c.close_up.new.parts.items in
    let long = length-map c.close_up.new.parts.items g.T.Part.items in
    let begins = subst (BeginsAt c.first-self-inside.result)
    (part_is g.T.Part.items c.close_up.new.parts.items 0 c.index.result.now c.close_up.ensures.some c.index.ensures)
    c.first-self-inside.ensures in
    taken_row c.args.least (old g at) (new g at) last c.self.inside.starts.items c.close_up.new.starts.items c.self.inside.count c.self.inside.first
    c.self.inside.oldest c.first-self-inside.result c.raised-self-inside.result c.in-Some.taken.part c.in-Some.taken.count (due g at)
    c.self.invariant c.in-Some.ensures.some (sym (many g at)) c.close_up.ensures.all c.close_up.ensures.starts c.close_up.ensures.have
    (omega (arith, c.close_up.ensures.some, long)) begins
    (subst (λ (z : List g.row.T.Denot). AreSince c.raised-self-inside.result (all_of (map g.T.Part.items z))) c.deref-2.ensures.value
    c.raised-self-inside.ensures)

pub returns-clause-taken : goal.returns-clause-taken
returns-clause-taken g c =
    let at = (goal.at.returns-clause-taken g c).In-Some in
    rw (← c.self.view_is, c.close_up.ensures.all) (taken_from c.args.least (old g at) (new g at) (due g at) c.in-Some.taken.part c.in-Some.ensures.some)
