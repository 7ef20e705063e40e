-- Objects, written part after part.
use Rattle.std.proofs.Common.{◌≡◌, ℕ, List, [], ◌++◌, append_assoc, append-nil, codes, flat_map}
use Rattle.nc_vet.specs.declared.fault.VetFault.{VetFault}
use Rattle.nc_output.specs.Verdicts.{with_line_end}
use Rattle.nc_output.specs.declared.detail.Format.TheVariants.{Json}
use Rattle.nc_output.specs.Strings.{escaped}
use Rattle.nc_report.specs.Objects.{file_member, string_member, fault_object, file_object}
use Rattle.nc_report.specs.Report.{ShowsOne}

-- the bytes of a string, escaped
abbrev pub inner : List ℕ → List ℕ
inner bytes = flat_map escaped bytes

-- the name and the address of a source
pub front_parts : (o name digits : List ℕ)
    → (o ++ (codes "{\"file\":\"" ++ (inner name ++ codes "\",\"address\":\""))) ++ (inner digits ++ codes "\"")
    ≡ o ++ (file_member name ++ string_member (codes "address") digits)
front_parts o name digits = simp append_assoc

-- the first members of the object for a source that is accepted
pub accepted_parts : (o file address verdict first bytes second instructions : List ℕ)
    → (o ++ (file ++ address)) ++ ((verdict ++ first) ++ ((bytes ++ (second ++ instructions)) ++ []))
    ≡ o ++ (file ++ (address ++ (verdict ++ ((first ++ bytes) ++ (second ++ instructions)))))
accepted_parts o file address verdict first bytes second instructions = simp (append_assoc, append-nil)

-- the object for a file
pub file_parts : (o name fault meaning : List ℕ)
    → (((o ++ (codes "{\"file\":\"" ++ (inner name ++ codes "\",\"verdict\":\"refused\",\"fault\":\""))) ++ (inner fault ++ codes "\""))
    ++ string_member (codes "meaning") meaning) ++ codes "}\n"
    ≡ o ++ with_line_end (file_object name fault meaning)
file_parts o name fault meaning = simp append_assoc

-- the first members of the object for a source that is refused
pub refused_parts : (o file address fault at : List ℕ)
    → ((o ++ (file ++ address)) ++ (codes ",\"verdict\":\"refused\",\"fault\":\"" ++ (inner fault ++ codes "\""))) ++ at
    ≡ o ++ (file ++ (address ++ (string_member (codes "verdict") (codes "refused") ++ (string_member (codes "fault") fault ++ at))))
refused_parts o file address fault at = simp append_assoc

-- what is written of one of several faults
abbrev pub ReportsObject : List ℕ → VetFault → List ℕ → Type 0
ReportsObject before fault text = (words : List ℕ) × ShowsOne Json words × (text ≡ before ++ (fault_object fault ++ words))
