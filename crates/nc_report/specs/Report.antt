-- The report on a source: a verdict, and for a refused source its fault and what is shown about that.
use Rattle.std.specs.Prelude.{◌≡◌, ◌≢◌, ℕ, ◌-◌, ◌⊎◌, Bool, true, false, List, [], ◌∷◌, ◌++◌, length, codes}
use Rattle.std.specs.Prelude.{MatchOption, Option}
use Rattle.std.specs.Fmt.{decimal}
use Rattle.std.specs.Io.KnownBytes.{Appends}
use Rattle.nc_vet.specs.Chunk.{Piece, code_of, AreSpelled}
use Rattle.nc_vet.specs.Faults.{HasFault}
use Rattle.nc_vet.specs.declared.fault.VetFault.{VetFault}
use Rattle.nc_vet.specs.declared.fault.VetFault.TheVariants.{OutOfMemory}
use Rattle.nc_output.specs.Verdicts.{IsValidAt, with_line_end, refused_words, fault_words, place_of}
use Rattle.nc_output.specs.declared.detail.Detail.{Detail}
use Rattle.nc_output.specs.declared.detail.Detail.TheVariants.{Brief}
use Rattle.nc_output.specs.declared.detail.Detail.TheVariants as detail
use Rattle.nc_output.specs.declared.detail.Format.{Format}
use Rattle.nc_output.specs.declared.detail.Format.TheVariants.{Text, Json}
use Rattle.nc_output.specs.declared.detail.Style.{Style}
use Rattle.nc_reading.specs.declared.steps.Step.{Step}
use Rattle.nc_reading.specs.Reading.{IsReading, classes_of}
use Rattle.nc_report.specs.declared.totals.Counts.{Counts}
use Rattle.nc_output.specs.Shown.{AreDetails, detail_line}
use Rattle.nc_report.specs.Outside.{OutsideRow, AreCalls, rows_text}
use Rattle.nc_report.specs.Objects.{AreMembers, accepted_members, refused_members, fault_object}
use Rattle.nc_report.specs.Further.{others_to}
use Rattle.nc_report.specs.Totals.{counts_to, totals_line, counts_member}

-- words about a source, after its name
abbrev pub said_of : List ℕ → List ℕ → List ℕ
said_of name words = name ++ (codes ": " ++ words)

-- `ok`, and a valid chunk's numbers of bytes and of instructions
abbrev pub accepted_words : ℕ → ℕ → List ℕ
accepted_words bytes instructions =
    codes "ok, " ++ (decimal bytes ++ (codes " bytes, " ++ (decimal instructions ++ codes " instructions")))

-- the beginning of the text for an accepted source: a line, or the first members of an object
abbrev pub ok_text : Format → ℕ → List ℕ → ℕ → ℕ → List ℕ
ok_text Text base name bytes instructions = said_of name (with_line_end (accepted_words bytes instructions))
ok_text Json base name bytes instructions = accepted_members base name bytes instructions

-- the end of the text for any source: that of an object
abbrev pub end_of : Format → List ℕ
end_of Text = []
end_of Json = codes "}\n"

-- the text written for an accepted source, and these rows of its transfers to addresses outside; nothing in brief
abbrev pub accepted_text : Detail → Format → ℕ → List ℕ → ℕ → ℕ → List OutsideRow → List ℕ
accepted_text Brief format base name bytes instructions rows = []
accepted_text detail format base name bytes instructions rows =
    ok_text format base name bytes instructions ++ (rows_text detail format rows ++ end_of format)

-- the code is a valid chunk, and this is the text written for it, with the number of its instructions
pub record ReportsAccepted (base limit : ℕ) (style : Style) (name code text : List ℕ) : Type 0 where
  pub valid : IsValidAt base limit code
  pub pieces : List Piece
  pub spelled : AreSpelled pieces
  pub parts : code ≡ code_of pieces
  pub rows : List OutsideRow
  pub calls : AreCalls style.detail base pieces rows
  pub written : text ≡ accepted_text style.detail style.format base name (length code) (length pieces) rows

-- the line that is the verdict on a source that has this fault
abbrev pub refused_line : List ℕ → VetFault → List ℕ
refused_line name fault = said_of name (with_line_end (refused_words (fault_words fault)))

-- the verdict as this line, or as the first members of an object
abbrev pub refused_text : Format → ℕ → List ℕ → VetFault → List ℕ
refused_text Text base name fault = refused_line name fault
refused_text Json base name fault = refused_members base name fault

-- the names of the members about a fault, and of those after the numbers of all faults
abbrev pub about_fault : List (List ℕ)
about_fault =
    codes "symbol" ∷ codes "meaning" ∷ codes "target" ∷ codes "why" ∷ codes "bundle" ∷ codes "starts" ∷ []

abbrev pub about_all : List (List ℕ)
about_all = codes "note" ∷ []

-- what is shown about a source: lines of details, or further members of its object, each of which has one of these names
abbrev pub Shows : List (List ℕ) → Format → List ℕ → Type 0
Shows names Text text = AreDetails text
Shows names Json text = AreMembers names text

-- the verdict on a source that has this fault, and what is shown about the fault; in brief the verdict alone
abbrev pub ReportsFault : Detail → Format → ℕ → List ℕ → VetFault → List ℕ → Type 0
ReportsFault Brief format base name fault text = text ≡ refused_text format base name fault
ReportsFault detail format base name fault text =
    (shown : List ℕ) × Shows about_fault format shown × (text ≡ refused_text format base name fault ++ shown)

-- what is shown about one of several faults, after its name and address: lines, or the other members of its object
abbrev pub ShowsOne : Format → List ℕ → Type 0
ShowsOne Text text = AreDetails text
ShowsOne Json text = (members : List ℕ) × AreMembers about_fault members × (text ≡ members ++ codes "}")

-- the name and the address of a further fault: a line, or the beginning of a further element of an array
abbrev pub heading : Format → VetFault → List ℕ
heading Text fault = detail_line (codes "also " ++ fault_words fault)
heading Json fault = codes "," ++ fault_object fault

-- the name and the address of each further fault, and after them what is shown about the fault
abbrev pub ReportsEach : Format → List VetFault → List ℕ → Type 0
ReportsEach format [] text = text ≡ []
ReportsEach format (fault ∷ faults) text =
    (words rest : List ℕ) × ShowsOne format words × ReportsEach format faults rest × (text ≡ heading format fault ++ (words ++ rest))

-- the text before the further faults: none, or the beginning of an array whose first element is the source's own fault
abbrev pub Opens : Format → VetFault → List ℕ → Type 0
Opens Text fault text = text ≡ []
Opens Json fault text = (words : List ℕ) × ShowsOne Json words × (text ≡ codes ",\"faults\":[" ++ (fault_object fault ++ words))

-- the text after the further faults: the numbers of all faults, and what else is shown
abbrev pub counts_text : Format → Counts → List ℕ
counts_text Text counts = detail_line (totals_line counts)
counts_text Json counts = codes "]" ++ counts_member counts

-- The text about all faults that reading a refused chunk finds: first the one at `own`, for which text has no further lines,
-- then each other one, and then the numbers of all of them.
pub record ReportsOthers (format : Format) (base limit : ℕ) (code : List ℕ) (fault : VetFault) (own : ℕ) (text : List ℕ) : Type 0 where
  pub steps : List Step
  pub reading : IsReading code steps
  pub first : List ℕ
  pub opens : Opens format fault first
  pub each : List ℕ
  pub reports : ReportsEach format (others_to base limit code (classes_of steps) own (length code)) each
  pub last : List ℕ
  pub shown : Shows about_all format last
  pub is : text ≡ first ++ (each ++ (counts_text format (counts_to base limit code (classes_of steps) (length code)) ++ last))

-- the text about the other faults of a source that has this one, if they are asked for; none if the fault has no address
abbrev pub ReportsMore : Detail → Format → ℕ → ℕ → List ℕ → VetFault → List ℕ → Type 0
ReportsMore detail.All format base limit code fault text =
    MatchOption (place_of fault) (text ≡ []) (λ at. ReportsOthers format base limit code fault (at - base) text)
ReportsMore _ format base limit code fault text = text ≡ []

-- the code has a fault, which isn't lack of memory, and this is the text written for it
pub record ReportsRefused (base limit : ℕ) (style : Style) (name code text : List ℕ) : Type 0 where
  pub fault : VetFault
  pub has : HasFault base limit code fault
  pub real : fault ≢ OutOfMemory
  pub first : List ℕ
  pub verdict : ReportsFault style.detail style.format base name fault first
  pub more : List ℕ
  pub others : ReportsMore style.detail style.format base limit code fault more
  pub written : text ≡ first ++ (more ++ end_of style.format)

-- the code is refused or not, and this is the report on it
abbrev pub Reports : ℕ → ℕ → Style → List ℕ → List ℕ → Bool → List ℕ → Type 0
Reports base limit style name code refused text =
    ((refused ≡ false) × ReportsAccepted base limit style name code text)
    ⊎ ((refused ≡ true) × ReportsRefused base limit style name code text)

-- a text that satisfies `Says` was written
pub record HasWritten (Says : List ℕ → Type 0) (before after : Option (List ℕ)) : Type 0 where
  pub text : List ℕ
  pub says : Says text
  pub written : Appends before after text

-- nothing was written, or a prefix of a text that satisfies `Says`
pub record HasBegun (Says : List ℕ → Type 0) (before after : Option (List ℕ)) : Type 0 where
  pub part : List ℕ
  pub begins : (part ≡ []) ⊎ ((rest : List ℕ) × Says (part ++ rest))
  pub written : Appends before after part
