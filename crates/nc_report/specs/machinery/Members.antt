-- Machinery of the proofs, cited by no public contract: the name of an address, and the target of a transfer.
use Rattle.std.specs.Prelude.{ℕ, ◌-◌, ◌==◌, false, List, [], ◌++◌, codes, if◌then◌else◌, Option, Some, None}
use Rattle.std.specs.Fmt.{digits}
use Rattle.nc_output.specs.Shown.{detail_line, text_shown}
use Rattle.nc_output.specs.Verdicts.{address_digits}
use Rattle.nc_report.specs.Objects.{string_member}
use Rattle.nc_report.specs.declared.labels.Label.{Label}
use Rattle.nc_report.specs.declared.targets.Target.{Target}

-- how far an address is from its label; nothing at the label itself
abbrev pub offset_text : ℕ → List ℕ
offset_text offset = if offset == 0 then [] else codes "+0x" ++ digits 16 false offset

-- an address by its label
abbrev pub label_text : Label → ℕ → List ℕ
label_text label at = label.name.items ++ offset_text (at - label.address)

-- the member that names an address, and the line, if it has a label
abbrev pub symbol_member : Option Label → ℕ → List ℕ
symbol_member None at = []
symbol_member (Some label) at = string_member (codes "symbol") (label_text label at)

abbrev pub label_line : Option Label → ℕ → List ℕ
label_line None at = []
label_line (Some label) at =
    detail_line (text_shown (address_digits at ++ (codes " <" ++ (label_text label at ++ codes ">"))))

-- why a target isn't allowed: words, and after them the address of the instruction that they name
abbrev pub named_text : Option ℕ → List ℕ
named_text None = []
named_text (Some at) = address_digits at

abbrev pub reason_text : Target → List ℕ
reason_text target = target.words.now ++ named_text target.named

-- the members about a target, and the line, if there is one
abbrev pub target_members : Option Target → List ℕ
target_members None = []
target_members (Some target) =
    string_member (codes "target") (address_digits target.to) ++ string_member (codes "why") (reason_text target)

abbrev pub target_line : Option Target → List ℕ
target_line None = []
target_line (Some target) =
    detail_line (text_shown (codes "-> " ++ (address_digits target.to ++ (codes ": " ++ reason_text target))))
