use Rattle.std.proofs.Common.{◌≡◌, ℕ, get_or, arith, refl, sym, subst, ◌∙◌, inl, inr}
use Rattle.std.specs.Int.{bit_at}
use Rattle.std.proofs.lemmas.Bool.{cases_eq}
use Rattle.std.proofs.lemmas.Nat.Bits.{bit_at-zero}
use Rattle.nc_decode.specs.declared.instruction.Mark.{Mark}
use Rattle.nc_decode.specs.declared.instruction.Mark.TheVariants.{Unmarked, Plain, After}
use Rattle.nc_text.specs.machinery.Masks.{mark_in, plain_bit, second_bit}
use Rattle.nc_text.proofs.masks.Masks.of.Goals as goal

-- the starts alone tell a mark that is no second half
first_mark : (starts k : ℕ) (mark : Mark) → bit_at starts k ≡ plain_bit mark → second_bit mark ≡ 0
    → mark_in (record { starts = starts; seconds = 0; low = 0; middle = 0; high = 0 }) k ≡ mark
first_mark starts k Unmarked start second = rw (start, bit_at-zero k) refl
first_mark starts k Plain start second = rw start refl
first_mark starts k (After register) start second = absurd (omega (arith, second))

pub loop-left-init : goal.loop-left-init
loop-left-init c =
    record {
      done = λ k lt clear. first_mark _ k _ (c.starts_and_seconds-starts.ensures.starts k lt)
          (sym (c.starts_and_seconds-starts.ensures.seconds k lt) ∙ clear);
    }

pub loop-left-preserved : goal.loop-left-preserved
loop-left-preserved c =
    record {
      done = λ k lt clear. elim (cases_eq k c.lowest_place-at.result.0) [
        | inl here ↦ subst (λ (j : ℕ). mark_in c.set.new.self j ≡ get_or c.args.marks.now j Unmarked) (sym here) c.set.ensures.same
        | inr ne ↦ c.set.ensures.other k lt ne
            ∙ c.loop-left.invariant.done k lt (sym (c.lowest_place-at.ensures.others k lt ne) ∙ clear)
      ];
    }

pub returns : goal.returns
returns c = λ k lt. c.loop-left.invariant.done k lt (subst (λ (word : ℕ). bit_at word k ≡ 0) (sym c.loop-left-test.false) (bit_at-zero k))
