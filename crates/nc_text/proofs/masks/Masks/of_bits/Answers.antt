use Rattle.std.proofs.Common.{Bool, false, true, ◌≡◌, ℕ, ◌+◌, ◌*◌, ◌/◌, ◌%◌, ◌<◌, ◌==◌, if◌then◌else◌, arith, sym, subst, ap, ◌∙◌, inl, inr}
use Rattle.std.specs.Prelude.{slice_index}
use Rattle.std.specs.Int.{bit_at}
use Rattle.std.proofs.lemmas.Bool.{cases_eq}
use Rattle.std.proofs.lemmas.Nat.Bits.{bit_at-zero}
use Rattle.nc_decode.specs.declared.instruction.Mark.TheVariants.{Unmarked, Plain, After}
use Rattle.nc_decode.specs.declared.bundle.Bundle.{Bundle}
use Rattle.nc_decode.specs.Bits.{starts_instruction, is_second, bit_mark}
use Rattle.nc_decode.proofs.Offered.{start_word, second_word}
use Rattle.nc_text.specs.machinery.Masks.{mark_in, register_in}
use Rattle.nc_text.specs.declared.masks.Masks.{Masks}
use Rattle.nc_text.proofs.masks.Masks.of_bits.Goals as goal

-- the masks before any second half is marked
abbrev starts_of : Bundle → Masks
starts_of w = record { starts = 2 * (w.ends % 2147483648) + 1; seconds = 0; low = 0; middle = 0; high = 0 }

-- the masks before any second half is marked tell the mark of a place that is no second half
first_bits : (w : Bundle) (k next : ℕ) → k < 32 → bit_at (w.pairs / 2) k ≡ 0 → mark_in (starts_of w) k ≡ bit_mark w k next
first_bits w k next lt clear =
    let no : is_second w k ≡ false = sym (second_word w k) ∙ ap (λ (n : ℕ). n == 1) clear in
    ap (λ (b : Bool). if b then Plain else (if bit_at 0 k == 1 then After (register_in (starts_of w) k) else Unmarked)) (start_word w k lt)
    ∙ ap (λ (n : ℕ). if starts_instruction w k then Plain else (if n == 1 then After (register_in (starts_of w) k) else Unmarked)) (bit_at-zero k)
    ∙ sym (ap (λ (b : Bool). if b then After (next % 8) else (if starts_instruction w k then Plain else Unmarked)) no)

-- the mark of a second half
second_bits : (w : Bundle) (k next : ℕ) → bit_at (w.pairs / 2) k ≡ 1 → After (next % 8) ≡ bit_mark w k next
second_bits w k next set =
    let yes : is_second w k ≡ true = sym (second_word w k) ∙ ap (λ (n : ℕ). n == 1) set in
    sym (ap (λ (b : Bool). if b then After (next % 8) else (if starts_instruction w k then Plain else Unmarked)) yes)

pub loop-left-init : goal.loop-left-init
loop-left-init c =
    record {
      still = λ k lt set. set;
      done = λ k lt clear. first_bits c.args.bundle k _ lt clear;
    }

pub loop-left-preserved : goal.loop-left-preserved
loop-left-preserved c =
    let w = c.args.bundle in
    let here : c.lowest_place-at.result.0 < 32 = c.lowest_place-at.ensures.place in
    let set = c.loop-left.invariant.still c.lowest_place-at.result.0 here c.lowest_place-at.ensures.set in
    record {
      still = λ k lt one. elim (cases_eq k c.lowest_place-at.result.0) [
        | inl e ↦ absurd (omega (arith, one, ap (λ (j : ℕ). bit_at c.lowest_place-at.result.1 j) e, c.lowest_place-at.ensures.cleared))
        | inr ne ↦ c.loop-left.invariant.still k lt (sym (c.lowest_place-at.ensures.others k lt ne) ∙ one)
      ];
      done = λ k lt clear. elim (cases_eq k c.lowest_place-at.result.0) [
        | inl e ↦ subst (λ (j : ℕ). mark_in c.set.new.self j ≡ bit_mark w j (slice_index c.args.code.now (c.args.start + j + 1))) (sym e)
            (c.set.ensures.same
            ∙ (ap (λ (n : ℕ). After (n % 8)) c.byte_or_zero-next.ensures ∙ second_bits w c.lowest_place-at.result.0 _ set))
        | inr ne ↦ c.set.ensures.other k lt ne
            ∙ c.loop-left.invariant.done k lt (sym (c.lowest_place-at.ensures.others k lt ne) ∙ clear)
      ];
    }

pub returns : goal.returns
returns c = λ k lt. c.loop-left.invariant.done k lt (subst (λ (word : ℕ). bit_at word k ≡ 0) (sym c.loop-left-test.false) (bit_at-zero k))
