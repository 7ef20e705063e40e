use Rattle.std.proofs.Common.{sym, ◌≡◌, ℕ, ◌+◌, ◌-◌, ◌/◌, ◌^◌, ◌<◌, ◌≤◌, subst, ◌∙◌, ap, arith, ⊎_elim, add-one}
use Rattle.std.specs.Int.{bit_at}
use Rattle.std.proofs.lemmas.Bool.{cases_lt}
use Rattle.std.proofs.lemmas.Nat.Bits.{bit_at-zero, bit_at-suc, bit_at_above}
use Rattle.nc_decode.proofs.Offered.{bit_passed}
use Rattle.nc_region.proofs.patch.judge.steps_to_next.Goals as goal

-- the bits behind a place
behind : (places from k : ℕ) → bit_at places (from + (k + 1)) ≡ bit_at (places / 2 ^ from / 2) k
behind places from k = sym (bit_passed places from (k + 1)) ∙ (ap (λ (j : ℕ). bit_at (places / 2 ^ from) j) (add-one k) ∙ bit_at-suc (places / 2 ^ from) k)

pub returns-then-behind-eq0-clause-between : goal.returns-then-behind-eq0-clause-between
returns-then-behind-eq0-clause-between c = λ k some lt.
    let e : k - 1 + 1 ≡ k = omega arith in
    subst (λ (j : ℕ). bit_at c.args.places (c.args.from + j) ≡ 0) e
    (behind c.args.places c.args.from (k - 1)
    ∙ (ap (λ (n : ℕ). bit_at n (k - 1)) c.if-behind-eq0.true ∙ bit_at-zero (k - 1)))

pub returns-clause-inside : goal.returns-clause-inside
returns-clause-inside c =
    let k = c.lowest_place-steps.result.0 in
    ⊎_elim
    (λ (lt : c.args.from + (k + 1) < 32). omega arith)
    (λ (le : 32 ≤ c.args.from + (k + 1)). absurd
    (omega (
      arith,
      behind c.args.places c.args.from k,
      c.lowest_place-steps.ensures.set,
      bit_at_above c.args.places 32 (c.args.from + (k + 1)) (omega (arith, c.ranges.places)) le,
    )))
    (cases_lt (c.args.from + (k + 1)) 32)

pub returns-clause-between : goal.returns-clause-between
returns-clause-between c = λ k some lt.
    let e : k - 1 + 1 ≡ k = omega arith in
    subst (λ (j : ℕ). bit_at c.args.places (c.args.from + j) ≡ 0) e
    (behind c.args.places c.args.from (k - 1) ∙ c.lowest_place-steps.ensures.below (k - 1) (omega (arith, lt, some)))

pub returns-clause-next : goal.returns-clause-next
returns-clause-next c = λ lt. behind c.args.places c.args.from c.lowest_place-steps.result.0 ∙ c.lowest_place-steps.ensures.set

pub returns-clause-some : goal.returns-clause-some
returns-clause-some c = omega arith
