-- Tests of places, and instructions beside a span.
use Rattle.std.proofs.Common.{◌≡◌, ◌≢◌, ◌⊎◌, ℕ, ◌+◌, ◌%◌, ◌<◌, Bool, true, false, eqb, cond, Option, arith, refl}
use Rattle.std.proofs.lemmas.Bool.{eqb-true}
use Rattle.std.proofs.lemmas.Bool.Decides.{nat_tests, eqb_tells}
use Rattle.nc_decode.specs.declared.instruction.Mark.TheVariants.{Unmarked, Plain}
use Rattle.nc_decode.specs.Bundles.{IsBundleStart, IsInOneBundle}
use Rattle.nc_text.specs.Marks.{Admits}
use Rattle.nc_text.specs.MarkedText.{unused_mark}
use Rattle.nc_text.specs.Puts.{is_start, is_inside}

-- what a chosen plain mark admits tells the choice
plain_if_admitted : (b : Bool) (masked : Option ℕ) → Admits (cond b Plain Unmarked) masked → b ≡ true
plain_if_admitted true masked m = refl
plain_if_admitted false masked m = absurd m

-- an unused mark stands for states at bundle starts only
pub unused_is_start : (at : ℕ) (masked : Option ℕ) → Admits (unused_mark at) masked → IsBundleStart at
unused_is_start at masked m = eqb-true (at % 32) 0 (plain_if_admitted (eqb (at % 32) 0) masked m)

-- an unused mark at a bundle start is plain
pub unused_at_start : (at : ℕ) → IsBundleStart at → unused_mark at ≡ Plain
unused_at_start at start = grind (arith, nat_tests)

-- an instruction within one bundle that begins before a span of whole bundles doesn't reach into it
pub before_span : (at len k base : ℕ) → IsInOneBundle at len → k < len → IsBundleStart base → at < base → at + k < base
before_span at len k base fits lt start before = omega arith

-- an instruction within one bundle that begins in a span of whole bundles lies in it
pub within_span : (at len k base size : ℕ) → IsInOneBundle at len → k < len → IsBundleStart base → size % 32 ≡ 0 → at < base + size
    → at + k < base + size
within_span at len k base size fits lt start whole before = omega arith

-- a bundle start is one
pub is_start_true : (at : ℕ) → IsBundleStart at → is_start at ≡ true
is_start_true at start = grind (arith, nat_tests)

-- a bundle start is not inside a bundle
pub is_inside_false : (at : ℕ) → IsBundleStart at → is_inside at ≡ false
is_inside_false at start = grind (arith, nat_tests)

-- a place that is no bundle start is inside its bundle
pub is_inside_true : (at : ℕ) → at % 32 ≢ 0 → is_inside at ≡ true
is_inside_true at not = grind (arith, nat_tests)

-- the test of a place that is no bundle start
pub is_start_false : (at : ℕ) → at % 32 ≢ 0 → is_start at ≡ false
is_start_false at not = grind (arith, nat_tests)

-- a place is a bundle start or not
pub start_or_not : (at : ℕ) → ((is_start at ≡ true) × (at % 32 ≡ 0)) ⊎ ((is_start at ≡ false) × (at % 32 ≢ 0))
start_or_not at = eqb_tells (at % 32) 0
