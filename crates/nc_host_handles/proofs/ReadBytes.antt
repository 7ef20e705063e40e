-- Bytes are read one after the other.
use Rattle.std.proofs.Common.{◌≡◌, ℕ, ◌+◌, ◌<◌, List, set, arith, sym, ap, ◌∙◌, ⊎_elim}
use Rattle.std.proofs.lemmas.Bool.Decides.{eqb_tells}
use Rattle.std.proofs.lemmas.Grind.{get_or-set_at}
use Rattle.std.proofs.lemmas.List.{length-set, get_or-set_other}
use Rattle.nc_text.specs.Places.{byte_at}
use Rattle.nc_host_handles.specs.machinery.Window.{HoldsText}

-- the next byte, at its place
pub read_next : (text : List ℕ) (at : ℕ) (bytes : List ℕ) (i b : ℕ) → HoldsText text at bytes i → i < 32 → b ≡ byte_at text (at + i)
    → HoldsText text at (set bytes i b) (i + 1)
read_next text at bytes i b h lt is = record {
  long = length-set bytes i b ∙ h.long;
  read = λ k less low high.
      ⊎_elim
      (λ same. get_or-set_at bytes i k b 0 same.1 (omega (arith, lt, h.long)) ∙ is ∙ ap (λ (n : ℕ). byte_at text (at + n)) (sym same.1))
      (λ other. get_or-set_other bytes i k b 0 other.1 ∙ h.read k (omega (arith, less, other.1)) low high)
      (eqb_tells k i);
}
