-- The place of a fault.
use Rattle.std.proofs.Common.{◌≡◌, ◌≢◌, ℕ, ◌+◌, ◌<◌, List, [], ◌∷◌, length, refl, ◌∙◌, ap, arith, Some, length-append}
use Rattle.nc_decode.proofs.Offered.{spells_some}
use Rattle.nc_vet.specs.Chunk.{code_of, place}
use Rattle.nc_vet.specs.Faults.{HasFault, IsStuck, HasGoodSpan}
use Rattle.nc_vet.specs.declared.fault.VetFault.{VetFault}
use Rattle.nc_vet.specs.declared.fault.VetFault.TheVariants.{BadBase, BadLength, OutOfRange, NotPermitted, Crosses, Bare, BadTarget, OutOfMemory}
use Rattle.nc_vet.proofs.Offered.{code_of-append}
use Rattle.nc_output.specs.Verdicts.{place_of}
use Rattle.nc_report.specs.machinery.Found.{IsPlaceAt}

-- some bytes are at least one
some_long : (xs : List ℕ) → xs ≢ [] → 0 < length xs
some_long [] n = absurd (n refl)
some_long (x ∷ xs) n = omega arith

-- two addresses that are the same option are the same
same : {a b : ℕ} → Some a ≡ Some b → b ≡ a
same e = cc

-- some bytes of the code follow a place of it
followed : (base limit at before more : ℕ) (code : List ℕ) → HasGoodSpan base limit (length code) → at ≡ base + before
    → length code ≡ before + more → 0 < more → IsPlaceAt base code at
followed base limit at before more code g here long some = record {
  low = omega (arith, here);
  within = omega (arith, here, long, some);
  whole = g.whole;
  span = omega (arith, g.high, g.lawful);
}

-- a fault of reading follows a sound front
stuck_placed : (base limit at : ℕ) (code : List ℕ) (fault : VetFault) → HasGoodSpan base limit (length code)
    → (s : IsStuck base code fault) → at ≡ base + place s.front → IsPlaceAt base code at
stuck_placed base limit at code fault g s here =
    followed base limit at (place s.front) (length s.rest) code g here
    (ap (λ (z : List ℕ). length z) s.reads.parts ∙ length-append (code_of s.front) s.rest) (some_long s.rest s.some)

-- a fault with an address is at a place of the code, and base and length have no fault
pub placed : (base limit at : ℕ) (code : List ℕ) (fault : VetFault) → place_of fault ≡ Some at → HasFault base limit code fault
    → HasGoodSpan base limit (length code) × IsPlaceAt base code at
placed base limit at code BadBase e h = absurd cc
placed base limit at code BadLength e h = absurd cc
placed base limit at code OutOfRange e h = absurd cc
placed base limit at code (NotPermitted a) e h = (h.0, stuck_placed base limit at code (NotPermitted a) h.0 h.1 (same e ∙ h.1.why.0))
placed base limit at code (Crosses a) e h = (h.0, stuck_placed base limit at code (Crosses a) h.0 h.1 (same e ∙ h.1.why.0))
placed base limit at code (Bare a) e h = (h.0, stuck_placed base limit at code (Bare a) h.0 h.1 (same e ∙ h.1.why.0))
placed base limit at code (BadTarget a) e (g, m) =
    let one = spells_some m.piece.bytes m.piece.instr (m.sound.spelled m.before m.after m.piece refl) in
    let more = code_of (m.piece ∷ m.after) in (
      g,
      followed base limit at (place m.before) (length more) code g (same e ∙ m.here)
          (ap (λ (z : List ℕ). length z) (m.parts ∙ code_of-append m.before (m.piece ∷ m.after)) ∙ length-append (code_of m.before) more)
          (omega (arith, one.0, one.1, length-append m.piece.bytes (code_of m.after))),
    )
placed base limit at code OutOfMemory e h = absurd cc
