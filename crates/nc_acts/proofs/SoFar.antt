-- Bytes put one after the other at chosen places of a span, in the text and in the log.
use Rattle.std.proofs.Common.{◌≡◌, ℕ, ◌+◌, ◌-◌, ◌<◌, ◌≤◌, Bool, true, false, List, [], ◌∷◌, length, get_or, set, take}
use Rattle.std.proofs.Common.{arith, refl, sym, subst, ap, ◌∙◌, not, ◌==◌}
use Rattle.std.proofs.Math.Bool.{beq}
use Rattle.std.proofs.lemmas.List.{take_all}
use Rattle.nc_decode.specs.declared.instruction.Mark.{Mark}
use Rattle.nc_decode.specs.declared.instruction.Mark.TheVariants.{Unmarked, Plain, After}
use Rattle.nc_decode.specs.Bits.{mark_bit}
use Rattle.nc_text.specs.Marks.{mark_at}
use Rattle.nc_acts.specs.declared.acts.Act.TheVariants.{Put}
use Rattle.nc_acts.specs.declared.acts.Entry.{Entry}
use Rattle.nc_acts.specs.declared.acts.Entry.TheVariants.{Did}
use Rattle.nc_acts.specs.Acts.{puts_where, starts_if, marked_if, is_mark, is_marked_at, is_start}
use Rattle.nc_acts.specs.Log.{Logs, only_acts}
use Rattle.nc_text.specs.Puts.{HasPut}
use Rattle.nc_text.proofs.Offered.{put_none, put_more, put_passed}
use Rattle.nc_acts.proofs.Logged.{logs_none, log_put, log_passed}

-- the first bytes have been put at the chosen places, and logged
pub record SoFar (chosen : ℕ → Bool) (base : ℕ) (bytes : List ℕ) (count : ℕ) (old now : List ℕ) (begun ended : List Entry) : Type 0 where
  pub put : HasPut chosen base bytes count old now
  pub log : Logs begun ended (only_acts (puts_where chosen base (take count bytes)))

-- at the beginning no byte has been put and logged
pub none_yet : (chosen : ℕ → Bool) (base : ℕ) (bytes old : List ℕ) (logged : List Entry) → SoFar chosen base bytes 0 old old logged logged
none_yet chosen base bytes old logged = record { put = put_none chosen base bytes old; log = logs_none logged }

-- the byte at the next place, where it is chosen, is put and logged
pub one_put : (chosen : ℕ → Bool) (base : ℕ) (bytes : List ℕ) (i byte : ℕ) (old now : List ℕ) (a b c : List Entry)
    → SoFar chosen base bytes i old now a b → 65536 ≤ base → base + i < 65536 + length old → i < length bytes
    → chosen (base + i) ≡ true → get_or bytes i 0 ≡ byte → Logs b c (Did (Put (base + i) byte) ∷ [])
    → SoFar chosen base bytes (i + 1) old (set now (base + i - 65536) byte) a c
one_put chosen base bytes i byte old now a b c so low fits lt is same logs =
    let log = subst (λ (x : ℕ). Logs b c (Did (Put (base + i) x) ∷ [])) (sym same) logs in
    subst (λ (x : ℕ). SoFar chosen base bytes (i + 1) old (set now (base + i - 65536) x) a c) same
    (record {
      put = put_more chosen base bytes i old now so.put low fits is;
      log = log_put [] chosen base bytes i a b c lt is so.log log;
    })

-- the next place, where it isn't chosen, is passed
pub one_passed : (chosen : ℕ → Bool) (base : ℕ) (bytes : List ℕ) (i : ℕ) (old now : List ℕ) (a b : List Entry)
    → SoFar chosen base bytes i old now a b → i < length bytes → chosen (base + i) ≡ false
    → SoFar chosen base bytes (i + 1) old now a b
one_passed chosen base bytes i old now a b so lt not = record {
  put = put_passed chosen base bytes i old now so.put not;
  log = log_passed chosen base bytes i a b lt not so.log;
}

-- once all bytes are passed, the puts at the chosen places are logged
pub all_logged : (chosen : ℕ → Bool) (base : ℕ) (bytes : List ℕ) (count : ℕ) (old now : List ℕ) (a b : List Entry)
    → SoFar chosen base bytes count old now a b → length bytes ≤ count → Logs a b (only_acts (puts_where chosen base bytes))
all_logged chosen base bytes count old now a b so all =
    subst (λ (xs : List ℕ). Logs a b (only_acts (puts_where chosen base xs))) (take_all count bytes all) so.log

-- ---- which places are chosen

-- a test found to be true is true
is_true : (x : Bool) → beq x true ≡ true → x ≡ true
is_true true e = refl
is_true false e = e

is_false : (x : Bool) → beq x false ≡ true → not x ≡ true
is_false true e = e
is_false false e = refl

-- a test found not to be true is false
not_true : (x : Bool) → beq x true ≡ false → x ≡ false
not_true true e = e
not_true false e = refl

not_false : (x : Bool) → beq x false ≡ false → not x ≡ false
not_false true e = refl
not_false false e = e

-- bundle starts, or all other places
pub start_chosen : (b : Bool) (at : ℕ) → beq (is_start at) b ≡ true → starts_if b at ≡ true
start_chosen true at is = is_true (is_start at) is
start_chosen false at is = is_false (is_start at) is

pub start_passed : (b : Bool) (at : ℕ) → beq (is_start at) b ≡ false → starts_if b at ≡ false
start_passed true at not = not_true (is_start at) not
start_passed false at not = not_false (is_start at) not

-- the bit of a mark
pub small_mark_bit : (mark : Mark) → mark_bit mark < 2
small_mark_bit Unmarked = omega arith
small_mark_bit Plain = omega arith
small_mark_bit (After register) = omega arith

-- the bit of a mark is set where the mark stands for a state
pub bit_is_mark : (mark : Mark) → (mark_bit mark == 1) ≡ is_mark mark
bit_is_mark Unmarked = refl
bit_is_mark Plain = refl
bit_is_mark (After register) = refl

-- a place whose mark has this bit
mark_is : (marks : List Mark) (at bit : ℕ) → bit ≡ mark_bit (mark_at marks at) → (bit == 1) ≡ is_marked_at marks at
mark_is marks at bit is = ap (λ (n : ℕ). n == 1) is ∙ bit_is_mark (mark_at marks at)

-- marked places, or all other places
pub mark_chosen : (b : Bool) (marks : List Mark) (at bit : ℕ) → bit ≡ mark_bit (mark_at marks at) → beq (bit == 1) b ≡ true
    → marked_if b marks at ≡ true
mark_chosen true marks at bit is e =
    is_true (is_marked_at marks at) (subst (λ (x : Bool). beq x true ≡ true) (mark_is marks at bit is) e)
mark_chosen false marks at bit is e =
    is_false (is_marked_at marks at) (subst (λ (x : Bool). beq x false ≡ true) (mark_is marks at bit is) e)

pub mark_passed : (b : Bool) (marks : List Mark) (at bit : ℕ) → bit ≡ mark_bit (mark_at marks at) → beq (bit == 1) b ≡ false
    → marked_if b marks at ≡ false
mark_passed true marks at bit is e =
    not_true (is_marked_at marks at) (subst (λ (x : Bool). beq x true ≡ false) (mark_is marks at bit is) e)
mark_passed false marks at bit is e =
    not_false (is_marked_at marks at) (subst (λ (x : Bool). beq x false ≡ false) (mark_is marks at bit is) e)
