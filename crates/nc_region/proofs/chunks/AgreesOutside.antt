-- Two texts that differ in one span only, and what that leaves of a chunk beside it.
use Rattle.std.proofs.Common.{◌≡◌, ℕ, ◌+◌, ◌<◌, ◌≤◌, ◌⊎◌, length, inl, inr, arith, ◌∙◌, sym, ap, subst}
use Rattle.nc_text.specs.Places.{byte_at}
use Rattle.nc_text.specs.Marks.{mark_at}
use Rattle.nc_text.specs.MarkedText.{MarkedText}
use Rattle.nc_list.specs.declared.chunk.Chunk.{Chunk}
use Rattle.nc_region.specs.Region.{IsInChunk, HoldsValid}

-- bytes and marks agree outside the span
pub record AgreesOutside (old new : MarkedText) (base len : ℕ) : Type 0 where
  pub as_long : length new.bytes ≡ length old.bytes
  pub bytes : (at : ℕ) → 0x10000 ≤ at → (at < base) ⊎ (base + len ≤ at) → byte_at new.bytes at ≡ byte_at old.bytes at
  pub marks : (at : ℕ) → 0x10000 ≤ at → (at < base) ⊎ (base + len ≤ at) → mark_at new.marks at ≡ mark_at old.marks at

-- two chunks lie beside each other
abbrev pub LiesBeside : Chunk → Chunk → Type 0
LiesBeside c d = (d.base + d.length ≤ c.base) ⊎ (c.base + c.length ≤ d.base)

-- a place of one of two chunks that lie beside each other is outside the other
pub beside : (c d : Chunk) (at : ℕ) → LiesBeside c d → IsInChunk d at → (at < c.base) ⊎ (c.base + c.length ≤ at)
beside c d at apart inside = elim apart [ inl l ↦ inl (omega (arith, l, inside.1)) | inr b ↦ inr (omega (arith, b, inside.0)) ]

-- a chunk beside the span still stands in the text
pub still_holds : (old new : MarkedText) (c d : Chunk) → AgreesOutside old new c.base c.length → LiesBeside c d → HoldsValid old d
    → HoldsValid new d
still_holds old new c d agrees apart h =
    let low : 65536 ≤ d.base = subst (λ (b : ℕ). 65536 ≤ b) h.base_is h.valid.base_is.1 in
    record {
      vetted = h.vetted;
      valid = h.valid;
      base_is = h.base_is;
      limit_is = h.limit_is ∙ ap (λ (n : ℕ). 65536 + n) (sym agrees.as_long);
      long = h.long;
      bytes_are = λ at inside. agrees.bytes at (omega (arith, inside.0, low)) (beside c d at apart inside) ∙ h.bytes_are at inside;
      marks_are = λ at inside. agrees.marks at (omega (arith, inside.0, low)) (beside c d at apart inside) ∙ h.marks_are at inside;
    }
