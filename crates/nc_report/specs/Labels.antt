-- Names for addresses of code.
use Rattle.std.specs.Prelude.{ℕ, ◌-◌, List, Option, filter, length, nat_le, slice_get}
use Rattle.std.specs.List.Sorted.{IsNonDecreasingBy}
use Rattle.nc_report.specs.declared.labels.Label.{Label}

-- the labels are in ascending order of their addresses
abbrev pub LabelsAscend : List Label → Type 0
LabelsAscend labels = IsNonDecreasingBy (λ (l : Label). l.address) labels

-- the labels at this address or below it
abbrev pub labels_to : List Label → ℕ → List Label
labels_to labels at = filter (λ (l : Label). nat_le l.address at) labels

-- the label of an address, the last one at it or below it, if there is one
abbrev pub label_of : List Label → ℕ → Option Label
label_of labels at = slice_get (labels_to labels at) (length (labels_to labels at) - 1)
