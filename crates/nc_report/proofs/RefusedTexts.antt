-- What is written of a refused source: its verdict, what is shown about its fault, and its other faults.
use Rattle.std.proofs.Common.{◌≡◌, ◌≢◌, ℕ, List, [], ◌++◌, refl, sym, subst, ◌∙◌, ap, append_assoc, Option}
use Rattle.nc_vet.specs.Faults.{HasFault}
use Rattle.nc_vet.specs.declared.fault.VetFault.{VetFault}
use Rattle.nc_vet.specs.declared.fault.VetFault.TheVariants.{OutOfMemory}
use Rattle.nc_output.specs.declared.detail.Detail.{Detail}
use Rattle.nc_output.specs.declared.detail.Detail.TheVariants.{Brief, Usual, Calls}
use Rattle.nc_output.specs.declared.detail.Detail.TheVariants as detail
use Rattle.nc_output.specs.declared.detail.Style.{Style}
use Rattle.nc_report.specs.Report.{refused_text, about_fault, Shows, ReportsFault, ReportsMore, end_of, ReportsRefused}
use Rattle.nc_output.specs.Adds.{Adds}
use Rattle.nc_report.specs.machinery.Added.{WritesOn}
use Rattle.nc_report.proofs.Additions.{writes_after}

-- the verdict and what is shown about the fault were added
pub explained : (old mid new : List ℕ) (s : Style) (base : ℕ) (name : List ℕ) (fault : VetFault) → s.detail ≢ Brief
    → mid ≡ old ++ refused_text s.format base name fault → Adds mid new (Shows about_fault s.format)
    → Adds old new (ReportsFault s.detail s.format base name fault)
explained old mid new s base name fault long e a = record {
  text = refused_text s.format base name fault ++ a.text;
  says = says s.detail long;
  added = a.added ∙ ap (λ (z : List ℕ). z ++ a.text) e ∙ append_assoc old (refused_text s.format base name fault) a.text;
}
  where
    says : (d : Detail) → d ≢ Brief → ReportsFault d s.format base name fault (refused_text s.format base name fault ++ a.text)
    says Brief n = absurd (n refl)
    says Usual n = (a.text, a.says, refl)
    says Calls n = (a.text, a.says, refl)
    says detail.All n = (a.text, a.says, refl)

-- in brief the verdict alone was added
pub brief : (old new : List ℕ) (s : Style) (base : ℕ) (name : List ℕ) (fault : VetFault) → s.detail ≡ Brief
    → new ≡ old ++ refused_text s.format base name fault → Adds old new (ReportsFault s.detail s.format base name fault)
brief old new s base name fault is e = record {
  text = refused_text s.format base name fault;
  says = subst (λ (d : Detail). ReportsFault d s.format base name fault (refused_text s.format base name fault)) (sym is) refl;
  added = e;
}

-- nothing more is reported unless it is asked for
pub none_asked : (s : Style) (base limit : ℕ) (code : List ℕ) (fault : VetFault) → s.detail ≢ detail.All
    → ReportsMore s.detail s.format base limit code fault []
none_asked s base limit code fault other = none s.detail other
  where
    none : (d : Detail) → d ≢ detail.All → ReportsMore d s.format base limit code fault []
    none Brief n = refl
    none Usual n = refl
    none Calls n = refl
    none detail.All n = absurd (n refl)

-- a text on a refused source, but for its end
abbrev pub ReportsOpen : ℕ → ℕ → Style → List ℕ → List ℕ → List ℕ → Type 0
ReportsOpen base limit s name code text = ReportsRefused base limit s name code (text ++ end_of s.format)

-- the text on a fault, and what is reported further about it, are such a text
pub open_text : (base limit : ℕ) (s : Style) (name code : List ℕ) (fault : VetFault) → HasFault base limit code fault → fault ≢ OutOfMemory
    → (a b : List ℕ) → ReportsFault s.detail s.format base name fault a → ReportsMore s.detail s.format base limit code fault b
    → ReportsOpen base limit s name code (a ++ b)
open_text base limit s name code fault h real a b f m = record {
  fault = fault;
  has = h;
  real = real;
  first = a;
  verdict = f;
  more = b;
  others = m;
  written = append_assoc a b (end_of s.format);
}

-- the text on a fault was added, and then what is reported further about it
pub reported_open : (base limit : ℕ) (s : Style) (name code old out kept : List ℕ) (fault : VetFault) (before after : Option (List ℕ))
    → HasFault base limit code fault → (fault ≢ OutOfMemory) × Adds old out (ReportsFault s.detail s.format base name fault)
    → WritesOn before after out kept (ReportsMore s.detail s.format base limit code fault)
    → WritesOn before after old kept (ReportsOpen base limit s name code)
reported_open base limit s name code old out kept fault before after h f w =
    writes_after before after old out kept _ _ _ (open_text base limit s name code fault h f.0) f.1 w

-- the end of a report was added
pub end_added : (s : Style) (kept all : List ℕ) → all ≡ kept ++ end_of s.format → Adds kept all (λ text. text ≡ end_of s.format)
end_added s kept all e = record { text = end_of s.format; says = refl; added = e }

-- a report that lacks only its end is whole with it
pub whole : (base limit : ℕ) (s : Style) (name code a b : List ℕ) → ReportsOpen base limit s name code a → b ≡ end_of s.format
    → ReportsRefused base limit s name code (a ++ b)
whole base limit s name code a b t e = subst (λ (z : List ℕ). ReportsRefused base limit s name code (a ++ z)) (sym e) t
