-- Text that is added one after the other, as lines of details and as strings of JSON.
use Rattle.std.proofs.Common.{◌≡◌, ◌≢◌, ◌≤◌, ℕ, Bool, true, false, cond, List, [], ◌∷◌, ◌++◌, refl, sym, ◌∙◌, ap, append_assoc, append-nil, ◌&&◌, arith}
use Rattle.std.specs.Borrow.{Bor}
use Rattle.std.specs.List.{list_all}
use Rattle.std.proofs.lemmas.Bool.{and_parts}
use Rattle.std.proofs.lemmas.Bool.Decides.{nat_tests}
use Rattle.std.proofs.lemmas.List.Folds.{list_all-append}
use Rattle.nc_output.specs.Adds.{Adds}
use Rattle.nc_output.specs.Shown.{is_shown, byte_shown, text_shown, texts_shown, detail_line, AreDetails}
use Rattle.nc_output.specs.Strings.{escaped}

-- what two lists pass, both together pass
pub all_both : {X : Type 0} (p : X → Bool) (a b : List X) → list_all p a ≡ true → list_all p b ≡ true → list_all p (a ++ b) ≡ true
all_both p a b e f = list_all-append p a b ∙ ap (λ (x : Bool). x && list_all p b) e ∙ f

-- text was added twice
pub adds_both : (P Q R : List ℕ → Type 0) (old mid new : List ℕ) → ((a b : List ℕ) → P a → Q b → R (a ++ b)) → Adds old mid P → Adds mid new Q
    → Adds old new R
adds_both P Q R old mid new f a b = record {
  text = a.text ++ b.text;
  says = f a.text b.text a.says b.says;
  added = b.added ∙ ap (λ (z : List ℕ). z ++ b.text) a.added ∙ append_assoc old a.text b.text;
}

-- a byte that is shown as it is
shown_one : (byte : ℕ) → is_shown byte ≡ true → byte_shown byte ≡ byte ∷ []
shown_one byte e = ap (λ (b : Bool). cond b (byte ∷ []) (63 ∷ [])) e

-- text without control bytes is shown as it is
pub shown_same : (text : List ℕ) → list_all is_shown text ≡ true → text_shown text ≡ text
shown_same [] e = refl
shown_same (byte ∷ rest) e =
    ap (λ (z : List ℕ). z ++ text_shown rest) (shown_one byte (and_parts _ _ e).0)
    ∙ ap (λ (z : List ℕ). byte ∷ z) (shown_same rest (and_parts _ _ e).1)

-- a byte is shown without a control byte, whichever it is
byte_cases : (b : Bool) (byte : ℕ) → is_shown byte ≡ b → list_all is_shown (cond b (byte ∷ []) (63 ∷ [])) ≡ true
byte_cases true byte e = ap (λ (b : Bool). b && true) e
byte_cases false byte e = refl

-- text is shown without control bytes
text_all : (text : List ℕ) → list_all is_shown (text_shown text) ≡ true
text_all [] = refl
text_all (byte ∷ rest) = all_both is_shown (byte_shown byte) (text_shown rest) (byte_cases (is_shown byte) byte refl) (text_all rest)

-- texts are shown without control bytes
pub texts_all : (texts : List (Bor (List ℕ))) → list_all is_shown (texts_shown texts) ≡ true
texts_all [] = refl
texts_all (text ∷ rest) = all_both is_shown (text_shown text.now) (texts_shown rest) (text_all text.now) (texts_all rest)

-- the parts of a line
pub line_added : (old start mid new line : List ℕ) → start ≡ old ++ 32 ∷ 32 ∷ [] → mid ≡ start ++ line → new ≡ mid ++ 10 ∷ []
    → new ≡ old ++ detail_line line
line_added old start mid new line e f g = simp (g, f, e, append_assoc)

-- a line is details
pub line_details : (old new line : List ℕ) → list_all is_shown line ≡ true → new ≡ old ++ detail_line line → Adds old new AreDetails
line_details old new line shown e = record {
  text = detail_line line;
  says = record {
    lines = line ∷ [];
    shown = ap (λ (b : Bool). b && true) shown;
    is = sym (append-nil (detail_line line));
  };
  added = e;
}

-- a byte that stands for itself
pub escaped_plain : (byte : ℕ) → byte ≢ 0x22 → byte ≢ 0x5C → 0x20 ≤ byte → byte ≢ 0x7F → escaped byte ≡ byte ∷ []
escaped_plain byte quoted slashed low high = grind (arith, nat_tests)
