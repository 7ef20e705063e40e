-- Views: the bytes that a processor may read if it fetches each byte separately, at any moment since it was last made to
-- fetch anew.
use Rattle.std.specs.Prelude.{◌≡◌, ℕ, ◌⊎◌, List, [], ◌∷◌, length}
use Rattle.nc_text.specs.Places.{InRegion, byte_at}

-- the byte is at the place in one of these texts
abbrev pub WasSeen : List (List ℕ) → ℕ → ℕ → Type 0
WasSeen [] at byte = ⊥
WasSeen (text ∷ texts) at byte = (byte_at text at ≡ byte) ⊎ WasSeen texts at byte

-- A view of a text and of the earlier ones since the last serialization: it has the same length, and each of its bytes is the
-- byte at that place in one of them. All mixtures are views, whether or not a processor could fetch one. That a processor
-- fetches nothing but views is an empirical premise. The manual doesn't bound what it may fetch (Intel SDM volume 3,
-- "Handling Self- and Cross-Modifying Code").
pub record IsView (text : List ℕ) (earlier : List (List ℕ)) (view : List ℕ) : Type 0 where
  pub as_long : length view ≡ length text
  pub seen : (at : ℕ) → InRegion text at → WasSeen (text ∷ earlier) at (byte_at view at)
