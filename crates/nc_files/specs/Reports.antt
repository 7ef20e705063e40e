-- The report on a file: that on its raw code, or those on its segments of code.
use Rattle.std.specs.Prelude.{◌≡◌, ◌≢◌, ◌⊎◌, ℕ, Bool, true, false, not, ◌&&◌, ◌||◌, if◌then◌else◌, List, [], ◌∷◌, ◌++◌, map, codes, Option, Some, None, ⊤}
use Rattle.nc_decode.specs.Bundles.{limit_after}
use Rattle.nc_elf.specs.Faults.{HasElfFault}
use Rattle.nc_elf.specs.Header.{IsElf}
use Rattle.nc_elf.specs.Segments.{IsWellFormed, bytes_of, segments_of}
use Rattle.nc_elf.specs.declared.fault.ElfFault.{ElfFault}
use Rattle.nc_elf.specs.declared.fault.ElfFault.TheVariants.{OutOfMemory}
use Rattle.nc_elf.specs.declared.listing.Segment.{Segment}
use Rattle.nc_output.specs.Verdicts.{with_line_end, refused_words}
use Rattle.nc_output.specs.declared.detail.Detail.{Detail}
use Rattle.nc_output.specs.declared.detail.Detail.TheVariants.{Brief}
use Rattle.nc_output.specs.declared.detail.Format.{Format}
use Rattle.nc_output.specs.declared.detail.Format.TheVariants.{Text, Json}
use Rattle.nc_output.specs.declared.detail.Style.{Style}
use Rattle.nc_report.specs.Forms.{is_hexadecimal}
use Rattle.nc_report.specs.Objects.{file_object}
use Rattle.nc_report.specs.Report.{Reports, said_of}
use Rattle.nc_files.specs.declared.request.Request.{Request}
use Rattle.nc_files.specs.Parts.{part_name}
use Rattle.nc_files.specs.declared.parts.Part.{Part}
use Rattle.nc_files.specs.declared.working.Report.{Report}

-- code that is judged: the address of its first byte, its name in the report, and its bytes
pub record Judged : Type 0 where
  pub base : ℕ
  pub name : List ℕ
  pub code : List ℕ

-- the code of a part
abbrev pub judged_in : Part → Judged
judged_in part = record { base = part.base; name = part.source.name.items; code = part.source.code.items }

-- the code is refused or not, and this is the report on it, for the region and in the style that are asked for
abbrev pub ReportsCode : Request → Judged → Bool → List ℕ → Type 0
ReportsCode request judged refused text =
    Reports judged.base (limit_after request.bundles) request.style judged.name judged.code refused text

-- the reports on all of these, in order; it is refused if any of them is
abbrev pub ReportsAll : Request → List Judged → Bool → List ℕ → Type 0
ReportsAll request [] refused text = (refused ≡ false) × (text ≡ [])
ReportsAll request (judged ∷ others) refused text =
    (one more : Bool) × (first rest : List ℕ) × ReportsCode request judged one first × ReportsAll request others more rest
    × (refused ≡ one || more) × (text ≡ first ++ rest)

-- a file of raw code, at the address that is asked for
abbrev pub raw_code : Request → List ℕ → List ℕ → Judged
raw_code request name code = record { base = request.base; name = name; code = code }

-- a segment of an ELF file, at its own address
abbrev pub segment_code : Format → List ℕ → List ℕ → Segment → Judged
segment_code format name code segment =
    record { base = segment.address; name = part_name format name segment.address; code = bytes_of code segment }

-- the note on an accepted file of hexadecimal text
abbrev pub hexadecimal_note : List ℕ
hexadecimal_note =
    codes "  this is hexadecimal text: its characters were judged, and not the bytes that they spell; turn it into bytes with xxd -r -p\n"

-- more than the verdict is written about an accepted file, in lines of text
abbrev pub has_lines : Detail → Format → Bool
has_lines Brief format = false
has_lines detail Text = true
has_lines detail Json = false

-- a file of this raw code has the note, if it is accepted
abbrev pub has_note : Style → List ℕ → Bool
has_note style code = has_lines style.detail style.format && is_hexadecimal code

abbrev pub note_if : Bool → List ℕ
note_if noted = if noted then hexadecimal_note else []

-- the report on a file of raw code, and after it the note, if it is accepted and has one
pub record ReportsRaw (request : Request) (name code : List ℕ) (refused : Bool) (text : List ℕ) : Type 0 where
  pub report : List ℕ
  pub says : ReportsCode request (raw_code request name code) refused report
  pub written : text ≡ report ++ note_if (not refused && has_note request.style code)

-- the line that explains a fault; none if only verdicts are written
abbrev pub explanation : Detail → List ℕ → List ℕ
explanation Brief meaning = []
explanation detail meaning = codes "  " ++ with_line_end meaning

-- the text for an ELF file that is refused as a whole, for a fault of this meaning
abbrev pub refusal_text : Format → Detail → List ℕ → List ℕ → List ℕ
refusal_text Text detail name meaning =
    said_of name (with_line_end (refused_words (codes "BadElf"))) ++ explanation detail meaning
refusal_text Json detail name meaning = with_line_end (file_object name (codes "BadElf") meaning)

-- the ELF file has a fault, which isn't lack of memory, and this is the text written for it, with a meaning of the fault
pub record RefusesElf (style : Style) (name code text : List ℕ) : Type 0 where
  pub fault : ElfFault
  pub has : HasElfFault code fault
  pub real : fault ≢ OutOfMemory
  pub meaning : List ℕ
  pub written : text ≡ refusal_text style.format style.detail name meaning

-- the reports on the segments of code of an ELF file, in the order of its program headers; or its refusal as a whole
abbrev pub ReportsElf : Request → List ℕ → List ℕ → Bool → List ℕ → Type 0
ReportsElf request name code refused text =
    (IsWellFormed code × ReportsAll request (map (segment_code request.style.format name code) (segments_of code)) refused text)
    ⊎ ((refused ≡ true) × RefusesElf request.style name code text)

-- the file is judged as raw code: it doesn't begin as ELF files do, or that is asked for
abbrev pub IsRaw : Request → List ℕ → Type 0
IsRaw request code = (request.raw ≡ true) ⊎ ¬ IsElf code

-- a file of this name and with these bytes is refused or not, and this is the report on it
abbrev pub ReportsFile : Request → List ℕ → List ℕ → Bool → List ℕ → Type 0
ReportsFile request name code refused text =
    (IsRaw request code × ReportsRaw request name code refused text)
    ⊎ (((request.raw ≡ false) × IsElf code) × ReportsElf request name code refused text)

-- the report is that on a file of this name, for some bytes
abbrev pub ReportsOn : Request → List ℕ → Report → Type 0
ReportsOn request name report = (code : List ℕ) × ReportsFile request name code report.is_refused report.text.items

-- the place is empty, or has the report on the file of this name
abbrev pub FitsFile : Request → List ℕ → Option Report → Type 0
FitsFile request name None = ⊤
FitsFile request name (Some report) = ReportsOn request name report
