-- Texts that were written one after the other, and the reports that they are.
use Rattle.std.proofs.Common.{◌≡◌, ℕ, Bool, true, false, List, [], ◌∷◌, ◌++◌, map, refl, sym, ◌∙◌, ap, append_assoc, append-nil, Option, subst}
use Rattle.std.specs.Prelude.{◌||◌, codes}
use Rattle.std.specs.Io.KnownBytes.{Appends}
use Rattle.std.proofs.KnownBytes.{Appends-trans}
use Rattle.nc_elf.specs.Segments.{bytes_of}
use Rattle.nc_elf.specs.declared.listing.Segment.{Segment}
use Rattle.nc_output.specs.declared.detail.Format.{Format}
use Rattle.nc_output.specs.declared.detail.Format.TheVariants.{Text}
use Rattle.nc_output.specs.declared.detail.Style.{Style}
use Rattle.nc_report.specs.Report.{HasWritten}
use Rattle.nc_files.specs.declared.request.Request.{Request}
use Rattle.nc_files.specs.Parts.{bases_in, codes_in, names_in, part_name}
use Rattle.nc_files.specs.Reports.{Judged, judged_in, segment_code, raw_code, ReportsCode, ReportsAll, ReportsRaw, has_note, note_if, explanation, refusal_text}
use Rattle.nc_files.specs.declared.parts.Part.{Part}

-- what was written says what it has to
pub written_so : (P Q : List ℕ → Type 0) (before after : Option (List ℕ)) → ((text : List ℕ) → P text → Q text)
    → HasWritten P before after → HasWritten Q before after
written_so P Q before after f h = record { text = h.text; says = f h.text h.says; written = h.written }

-- more was written
pub written_more : (P Q R : List ℕ → Type 0) (before mid after : Option (List ℕ)) → ((a b : List ℕ) → P a → Q b → R (a ++ b))
    → HasWritten P before mid → HasWritten Q mid after → HasWritten R before after
written_more P Q R before mid after f a b = record {
  text = a.text ++ b.text;
  says = f a.text b.text a.says b.says;
  written = Appends-trans before mid after a.text b.text a.written b.written;
}

pub or-false : (b : Bool) → b ≡ b || false
or-false true = refl
or-false false = refl

pub or_assoc : (a b c : Bool) → (a || b) || c ≡ a || (b || c)
or_assoc true b c = refl
or_assoc false b c = refl

-- the report on one more, after the reports on others
pub reports_more : (request : Request) (done : List Judged) (judged : Judged) (refused more : Bool) (text next : List ℕ)
    → ReportsAll request done refused text → ReportsCode request judged more next
    → ReportsAll request (done ++ judged ∷ []) (refused || more) (text ++ next)
reports_more request [] judged refused more text next (none, empty) h = (
  more,
  false,
  next,
  [],
  h,
  (refl, refl),
  ap (λ (b : Bool). b || more) none ∙ or-false more,
  ap (λ (z : List ℕ). z ++ next) empty ∙ sym (append-nil next),
)
reports_more request (one ∷ done) judged refused more text next (a, b, first, rest, says, others, is, whole) h = (
  a,
  b || more,
  first,
  rest ++ next,
  says,
  reports_more request done judged b more rest next others h,
  ap (λ (z : Bool). z || more) is ∙ or_assoc a b more,
  ap (λ (z : List ℕ). z ++ next) whole ∙ append_assoc first rest next,
)

-- parts with the addresses, the names and the bytes of segments are these segments
pub judged_segments : (format : Format) (name code : List ℕ) (parts : List Part) (segments : List Segment)
    → bases_in parts ≡ map (λ s. s.address) segments → names_in parts ≡ map (λ s. part_name format name s.address) segments
    → codes_in parts ≡ map (bytes_of code) segments → map judged_in parts ≡ map (segment_code format name code) segments
judged_segments format name code [] [] bases names codes = refl
judged_segments format name code [] (segment ∷ segments) bases names codes = absurd (cc)
judged_segments format name code (part ∷ parts) [] bases names codes = absurd (cc)
judged_segments format name code (part ∷ parts) (segment ∷ segments) bases names codes =
    let base : part.base ≡ segment.address = cc in
    let name_is : part.source.name.items ≡ part_name format name segment.address = cc in
    let code_is : part.source.code.items ≡ bytes_of code segment = cc in
    let others = judged_segments format name code parts segments (cc) (cc) (cc) in
    cc

-- one more of a file's parts is before those that are left
pub split_more : (all before after : List Part) (part : Part) (done : List Judged) → map judged_in all ≡ done ++ map judged_in before
    → before ≡ part ∷ after → map judged_in all ≡ (done ++ judged_in part ∷ []) ++ map judged_in after
split_more all before after part done is next =
    is ∙ ap (λ (z : List Part). done ++ map judged_in z) next ∙ sym (append_assoc done (judged_in part ∷ []) (map judged_in after))

-- the report on raw code that is refused, which has no note
pub raw_refused : (request : Request) (name code : List ℕ) (refused : Bool) (before after : Option (List ℕ)) → refused ≡ true
    → HasWritten (ReportsCode request (raw_code request name code) refused) before after
    → HasWritten (ReportsRaw request name code true) before after
raw_refused request name code refused before after is h = record {
  text = h.text;
  says = record {
    report = h.text;
    says = subst (λ (b : Bool). ReportsCode request (raw_code request name code) b h.text) is h.says;
    written = sym (append-nil h.text);
  };
  written = h.written;
}

-- the report on raw code that is accepted, and after it the note, if it has one
pub raw_accepted : (request : Request) (name code : List ℕ) (refused noted : Bool) (before mid after : Option (List ℕ)) → refused ≡ false
    → noted ≡ has_note request.style code → HasWritten (ReportsCode request (raw_code request name code) refused) before mid
    → Appends mid after (note_if noted) → HasWritten (ReportsRaw request name code false) before after
raw_accepted request name code refused noted before mid after is tells h more = record {
  text = h.text ++ note_if noted;
  says = record {
    report = h.text;
    says = subst (λ (b : Bool). ReportsCode request (raw_code request name code) b h.text) is h.says;
    written = ap (λ (b : Bool). h.text ++ note_if b) tells;
  };
  written = Appends-trans before mid after h.text (note_if noted) h.written more;
}

-- the line of a refusal, and after it what explains it
pub refusal_added : (style : Style) (old name meaning mid after new : List ℕ) → style.format ≡ Text → mid ≡ old ++ name
    → after ≡ mid ++ codes ": refused BadElf\n" → new ≡ after ++ explanation style.detail meaning
    → new ≡ old ++ refusal_text style.format style.detail name meaning
refusal_added style old name meaning mid after new is a b e =
    let line = codes ": refused BadElf\n" in
    let more = explanation style.detail meaning in
    e ∙ ap (λ (z : List ℕ). z ++ more) (b ∙ ap (λ (z : List ℕ). z ++ line) a ∙ append_assoc old name line)
    ∙ append_assoc old (name ++ line) more ∙ ap (λ (f : Format). old ++ refusal_text f style.detail name meaning) (sym is)
