-- Text that is shown: without control bytes, so that it neither ends a line nor is a command to a terminal.
use Rattle.std.specs.Prelude.{◌≡◌, ℕ, Bool, true, not, ◌==◌, ◌&&◌, nat_le, List, ◌∷◌, [], ◌++◌, codes, if◌then◌else◌}
use Rattle.std.specs.Borrow.{Bor}
use Rattle.std.specs.List.{flat_map, list_all}
use Rattle.nc_output.specs.Verdicts.{with_line_end}

-- the byte isn't a control byte, as 00 to 1F and 7F are
abbrev pub is_shown : ℕ → Bool
is_shown byte = nat_le 0x20 byte && not (byte == 0x7F)

-- no byte of the text is a control byte
abbrev pub IsShown : List ℕ → Type 0
IsShown text = list_all is_shown text ≡ true

-- a byte as it is shown: itself, or a question mark in place of a control byte
abbrev pub byte_shown : ℕ → List ℕ
byte_shown byte = if is_shown byte then byte ∷ [] else 0x3F ∷ []

-- text as it is shown
abbrev pub text_shown : List ℕ → List ℕ
text_shown text = flat_map byte_shown text

-- texts as they are shown, one after the other
abbrev pub texts_shown : List (Bor (List ℕ)) → List ℕ
texts_shown texts = flat_map (λ text. text_shown text.now) texts

-- a line of details, which begins with two spaces
abbrev pub detail_line : List ℕ → List ℕ
detail_line line = codes "  " ++ with_line_end line

-- the text is lines of details, without control bytes but for their ends
pub record AreDetails (text : List ℕ) : Type 0 where
  pub lines : List (List ℕ)
  pub shown : list_all (list_all is_shown) lines ≡ true
  pub is : text ≡ flat_map detail_line lines
