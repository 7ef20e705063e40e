-- What is shown about a fault, by its words alone.
use Rattle.std.proofs.Common.{ℕ, List, [], ◌∷◌, codes, refl}
use Rattle.nc_output.specs.Adds.{Adds}
use Rattle.nc_output.specs.declared.detail.Format.{Format}
use Rattle.nc_output.specs.declared.detail.Format.TheVariants.{Text, Json}
use Rattle.nc_report.specs.Report.{about_fault, Shows}
use Rattle.nc_report.proofs.Members.{wider}

-- its meaning is one of the things that are shown
meaning_shown : (f : Format) (text : List ℕ) → Shows (codes "meaning" ∷ []) f text → Shows about_fault f text
meaning_shown Text text shown = shown
meaning_shown Json text shown = wider (codes "meaning" ∷ []) about_fault text refl shown

pub adds_meaning : (f : Format) (old new : List ℕ) → Adds old new (Shows (codes "meaning" ∷ []) f) → Adds old new (Shows about_fault f)
adds_meaning f old new a = record { text = a.text; says = meaning_shown f a.text a.says; added = a.added }
