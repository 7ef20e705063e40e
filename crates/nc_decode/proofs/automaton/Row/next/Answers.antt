use Rattle.std.proofs.Common.{◌≡◌, ◌<◌, ℕ, ◌-◌, length, ◌/◌, ◌%◌, List, [], get_or, drop, ap, sym, ◌∙◌, subst, arith}
use Rattle.std.specs.List.{flat_map}
use Rattle.std.specs.Prelude.{take}
use Rattle.std.proofs.lemmas.List.{get_or-take}
use Rattle.nc_decode.specs.Automaton.{next_state}
use Rattle.nc_decode.specs.declared.automaton.TheConstants.{ROWS, STATES}
use Rattle.nc_decode.proofs.stages.Stages.{flat_row, place_lawful}
use Rattle.nc_decode.proofs.automaton.Row.next.Goals as goal

-- what is read behind a byte at the place of a row
read_at : (all : List ℕ) (p b x : ℕ) → all ≡ flat_map (λ x. x) ROWS → length all ≡ 19532 → p % 257 ≡ 0 → p / 257 < STATES → b < 256
    → x ≡ get_or (take (length all - b) (drop b all)) p 0 → x ≡ get_or (get_or ROWS (p / 257) []) b 0
read_at all p b x is long even low b-lt e =
    e ∙ get_or-take (length all - b) (drop b all) p 0 (omega (arith, long, even, low, b-lt))
    ∙ ap (λ (l : List ℕ). get_or (drop b l) p 0) is ∙ flat_row p b even low b-lt

pub invariant_of-result : goal.invariant_of-result
invariant_of-result c =
    let i = c.self.invariant in
    let e = read_at c.as_flattened.result.now c.self.inside.place c.args.byte c.from.result c.as_flattened.ensures.value c.as_flattened.ensures.len i.0 i.1 c.ranges.byte.fits c.from.ensures in
    subst (λ (x : ℕ). (x % 257 ≡ 0) × (x / 257 < STATES)) (sym e) (place_lawful (c.self.inside.place / 257) c.args.byte)

pub returns : goal.returns
unfolding next_state
returns c =
    let i = c.self.invariant in
    let e = read_at c.as_flattened.result.now c.self.inside.place c.args.byte c.from.result c.as_flattened.ensures.value c.as_flattened.ensures.len i.0 i.1 c.ranges.byte.fits c.from.ensures in
    ap (λ (x : ℕ). x / 257) e ∙ ap (λ (s : ℕ). next_state s c.args.byte) c.self.view_is
