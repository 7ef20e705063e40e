use Rattle.std.proofs.Common.{◌≡◌, ℕ, zero, suc, ◌+◌, ◌*◌, ◌/◌, ◌%◌, ◌==◌, ◌<◌, false, if◌then◌else◌, Bool, refl, ap, sym, ◌∙◌, arith, rules}
use Rattle.std.proofs.lemmas.Grind.{common_steps}
use Rattle.std.specs.Int.{bit_at}
use Rattle.nc_decode.specs.declared.instruction.Mark.{Mark}
use Rattle.nc_decode.specs.declared.instruction.Mark.TheVariants.{After}
use Rattle.nc_text.specs.declared.masks.Masks.{Masks}
use Rattle.nc_text.specs.machinery.Masks.{mark_in}
use Rattle.nc_text.proofs.masks.Masks.set.Goals as goal

-- a place with the same bits has the same mark
same_bits : (m n : Masks) (k : ℕ) → bit_at n.starts k ≡ bit_at m.starts k → bit_at n.seconds k ≡ bit_at m.seconds k
    → bit_at n.low k ≡ bit_at m.low k → bit_at n.middle k ≡ bit_at m.middle k → bit_at n.high k ≡ bit_at m.high k
    → mark_in n k ≡ mark_in m k
same_bits m n k s t l i h = rw (s, t, l, i, h) refl

-- a number that is a bit, by the test that sets it
tested : (n : ℕ) → n < 2 → (if n == 1 then 1 else 0) ≡ n
tested zero small = refl
tested (suc zero) small = refl
tested (suc (suc n)) contrary = absurd (omega (arith, contrary))

-- a register by its three bits
by_bits : (r : ℕ) → r < 8 → (if r % 2 == 1 then 1 else 0) + 2 * (if r / 2 % 2 == 1 then 1 else 0)
    + 4 * (if r / 4 % 2 == 1 then 1 else 0) ≡ r
by_bits r lt = omega (arith, tested (r % 2) (omega arith), tested (r / 2 % 2) (omega arith), tested (r / 4 % 2) (omega arith))

-- the mark of a second half, by its bits
second_half : (m : Masks) (at r : ℕ) → r < 8 → bit_at m.starts at ≡ 0 → bit_at m.seconds at ≡ 1
    → bit_at m.low at ≡ (if r % 2 == 1 then 1 else 0) → bit_at m.middle at ≡ (if r / 2 % 2 == 1 then 1 else 0)
    → bit_at m.high at ≡ (if r / 4 % 2 == 1 then 1 else 0) → mark_in m at ≡ After r
second_half m at r lt s t l i h = rw (s, t, l, i, h) (ap after (by_bits r lt))
  where
    after : ℕ → Mark
    after k = After k

pub returns-in_default : goal.returns-in_default
returns-in_default c = grind (arith, common_steps)

pub returns-clause-same : goal.returns-clause-same
returns-clause-same c =
    let few : c.in-After.register < 8 = search rules in
    let off : c.eq.result ≡ false = search rules in
    let starts : bit_at c.with_bit-self.result c.args.at ≡ 0 = c.with_bit-self.ensures.same
    ∙ ap (λ (b : Bool). if b then 1 else 0) off in
    second_half _ c.args.at c.in-After.register few starts c.with_bit-self-2.ensures.same c.with_bit-self-3.ensures.same
    c.with_bit-self-4.ensures.same c.with_bit-self-5.ensures.same ∙ sym c.in-After.is

pub returns-clause-other : goal.returns-clause-other
returns-clause-other c = λ k lt ne. same_bits c.args.self.now _ k (c.with_bit-self.ensures.other k lt ne)
    (c.with_bit-self-2.ensures.other k lt ne) (c.with_bit-self-3.ensures.other k lt ne) (c.with_bit-self-4.ensures.other k lt ne)
    (c.with_bit-self-5.ensures.other k lt ne)
