-- Texts that are added one after the other, and prefixes of them that are written.
use Rattle.std.proofs.Common.{◌≡◌, ℕ, Bool, List, [], ◌++◌, take, drop, refl, sym, subst, ◌∙◌, ap, append_assoc, append-nil, Option, inl, inr, ◌⊎◌, take-append-drop}
use Rattle.std.specs.List.{flat_map, list_all}
use Rattle.std.specs.Io.KnownBytes.{Appends}
use Rattle.std.proofs.KnownBytes.{Appends-trans, Appends-nil}
use Rattle.std.proofs.lemmas.List.Concat.{flat_map-append}
use Rattle.nc_output.proofs.Offered.{all_both, adds_both}
use Rattle.nc_output.specs.Shown.{is_shown, detail_line, AreDetails}
use Rattle.nc_report.specs.Report.{HasWritten, HasBegun}
use Rattle.nc_output.specs.Adds.{Adds}
use Rattle.nc_report.specs.machinery.Added.{After, WritesOn}

-- nothing was added
pub adds_none : (P : List ℕ → Type 0) (old : List ℕ) → P [] → Adds old old P
adds_none P old p = record { text = []; says = p; added = sym (append-nil old) }

-- no details
pub no_details : AreDetails []
no_details = record { lines = []; shown = refl; is = refl }

-- details after others
two_details : (a b : List ℕ) → AreDetails a → AreDetails b → AreDetails (a ++ b)
two_details a b d e = record {
  lines = d.lines ++ e.lines;
  shown = all_both (list_all is_shown) d.lines e.lines d.shown e.shown;
  is = ap (λ (z : List ℕ). z ++ b) d.is ∙ ap (λ (z : List ℕ). flat_map detail_line d.lines ++ z) e.is
      ∙ sym (flat_map-append detail_line d.lines e.lines);
}

pub details_both : (old mid new : List ℕ) → Adds old mid AreDetails → Adds mid new AreDetails → Adds old new AreDetails
details_both old mid new = adds_both AreDetails AreDetails AreDetails old mid new two_details

-- nothing was added or written
pub writes_none : (before : Option (List ℕ)) (out : List ℕ) (P : List ℕ → Type 0) → P [] → WritesOn before before out out P
writes_none before out P p = record {
  text = [];
  says = p;
  part = [];
  written = Appends-nil before;
  kept = sym (append-nil out);
}

-- more text was added, and some of what is kept was written
pub writes_more : (before mid after : Option (List ℕ)) (old out added new part : List ℕ) (P Q R : List ℕ → Type 0)
    → ((a b : List ℕ) → P a → Q b → R (a ++ b)) → WritesOn before mid old out P → Adds out added Q → Appends mid after part
    → part ++ new ≡ added → WritesOn before after old new R
writes_more before mid after old out added new part P Q R f w a p e = record {
  text = w.text ++ a.text;
  says = f w.text a.text w.says a.says;
  part = w.part ++ part;
  written = Appends-trans before mid after w.part part w.written p;
  kept = append_assoc w.part part new ∙ ap (λ (z : List ℕ). w.part ++ z) (e ∙ a.added)
      ∙ sym (append_assoc w.part out a.text) ∙ ap (λ (z : List ℕ). z ++ a.text) w.kept ∙ append_assoc old w.text a.text;
}

-- text was added before other text
pub writes_after : (before after : Option (List ℕ)) (old mid new : List ℕ) (P Q R : List ℕ → Type 0) → ((a b : List ℕ) → P a → Q b → R (a ++ b))
    → Adds old mid P → WritesOn before after mid new Q → WritesOn before after old new R
writes_after before after old mid new P Q R f a w = record {
  text = a.text ++ w.text;
  says = f a.text w.text a.says w.says;
  part = w.part;
  written = w.written;
  kept = w.kept ∙ ap (λ (z : List ℕ). z ++ w.text) a.added ∙ append_assoc old a.text w.text;
}

-- what is written so far is a prefix, if the text can be completed
pub cut_here : (before after : Option (List ℕ)) (old out : List ℕ) (P Q : List ℕ → Type 0)
    → ((text : List ℕ) → P text → (more : List ℕ) × Q (text ++ more)) → WritesOn before after old out P → HasBegun (After old Q) before after
cut_here before after old out P Q f w =
    let (more, q) = f w.text w.says in
    record {
      part = w.part;
      begins = inr (
        out ++ more,
        (
          w.text ++ more,
          q,
          sym (append_assoc w.part out more) ∙ ap (λ (z : List ℕ). z ++ more) w.kept ∙ append_assoc old w.text more,
        ),
      );
      written = w.written;
    }

-- where a front of what is kept was written too, what is written so far is a prefix, if the text can be completed
pub cut_in : (before mid after : Option (List ℕ)) (old out added : List ℕ) (n : ℕ) (P Q R : List ℕ → Type 0)
    → ((a b : List ℕ) → P a → Q b → (more : List ℕ) × R ((a ++ b) ++ more)) → WritesOn before mid old out P → Adds out added Q
    → Appends mid after (take n added) → HasBegun (After old R) before after
cut_in before mid after old out added n P Q R f w a p =
    cut_here before after old (drop n added) (λ text. (more : List ℕ) × R (text ++ more)) R (λ text h. h)
    (writes_more before mid after old out added (drop n added) (take n added) P Q (λ text. (more : List ℕ) × R (text ++ more)) f w a p
    (take-append-drop n added))

-- a prefix of a text that can be completed to another one
pub begun_so : (P Q : List ℕ → Type 0) (before after : Option (List ℕ)) → ((text : List ℕ) → P text → (more : List ℕ) × Q (text ++ more))
    → HasBegun P before after → HasBegun Q before after
begun_so P Q before after f h = record { part = h.part; begins = go h.begins; written = h.written }
  where
    go : (h.part ≡ []) ⊎ ((rest : List ℕ) × P (h.part ++ rest)) → (h.part ≡ []) ⊎ ((rest : List ℕ) × Q (h.part ++ rest))
    go (inl e) = inl e
    go (inr (rest, p)) =
        let (more, q) = f (h.part ++ rest) p in
        inr (rest ++ more, subst Q (append_assoc h.part rest more) q)

-- a text that was added by itself is what was written of it
pub begun_written : (P : List ℕ → Type 0) (before after : Option (List ℕ)) (text : List ℕ) (n : ℕ) → P text → Appends before after (take n text)
    → HasBegun P before after
begun_written P before after text n p w = record {
  part = take n text;
  begins = inr (drop n text, subst P (sym (take-append-drop n text)) p);
  written = w;
}

-- where nothing was there before, a prefix of text after what was there is one of the text
pub begun_alone : (P : List ℕ → Type 0) (old : List ℕ) (before after : Option (List ℕ)) → old ≡ [] → HasBegun (After old P) before after
    → HasBegun P before after
begun_alone P old before after none =
    begun_so (After old P) P before after
    (λ whole w. ([], subst P (sym (append-nil whole ∙ w.2 ∙ ap (λ (z : List ℕ). z ++ w.0) none)) w.1))

-- where nothing was there before and nothing is kept, the text was written
pub written_alone : (P : List ℕ → Type 0) (old : List ℕ) (before after : Option (List ℕ)) → old ≡ [] → WritesOn before after old [] P
    → HasWritten P before after
written_alone P old before after none w = record {
  text = w.part;
  says = subst P (sym (sym (append-nil w.part) ∙ w.kept ∙ ap (λ (z : List ℕ). z ++ w.text) none)) w.says;
  written = w.written;
}

-- a prefix of one of two texts is a prefix of either
pub begun_any : (P : Bool → List ℕ → Type 0) (Q : List ℕ → Type 0) (b : Bool) (before after : Option (List ℕ)) → ((text : List ℕ) → Q text → P b text)
    → HasBegun Q before after → HasBegun (λ text. (b : Bool) × P b text) before after
begun_any P Q b before after f =
    begun_so Q (λ text. (b : Bool) × P b text) before after (λ text q. ([], (b, subst (P b) (sym (append-nil text)) (f text q))))

-- a prefix of text after text that was added, where both together can be completed
pub begun_later : (before after : Option (List ℕ)) (old mid : List ℕ) (P Q R : List ℕ → Type 0)
    → ((a b : List ℕ) → P a → Q b → (more : List ℕ) × R ((a ++ b) ++ more)) → Adds old mid P → HasBegun (After mid Q) before after
    → HasBegun (After old R) before after
begun_later before after old mid P Q R f a = begun_so (After mid Q) (After old R) before after (λ whole h. go whole h)
  where
    go : (whole : List ℕ) → After mid Q whole → (more : List ℕ) × After old R (whole ++ more)
    go whole (text, q, e) =
        let (more, r) = f a.text text a.says q in
        (more, ((a.text ++ text) ++ more, r, simp (e, a.added, append_assoc)))
