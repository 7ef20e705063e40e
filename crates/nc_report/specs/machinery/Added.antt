-- Machinery of the proofs, cited by no public contract: texts that were added or written.
use Rattle.std.specs.Prelude.{◌≡◌, ℕ, List, ◌++◌, Option, ◌⊎◌}
use Rattle.std.specs.Io.KnownBytes.{Appends}
use Rattle.nc_report.specs.declared.fault.ReportFault.{ReportFault}
use Rattle.nc_report.specs.declared.fault.ReportFault.TheVariants.{OutOfMemory, WriteFailed}

-- text that satisfies `Says`, after other text
abbrev pub After : List ℕ → (List ℕ → Type 0) → List ℕ → Type 0
After old Says whole = (text : List ℕ) × Says text × (whole ≡ old ++ text)

-- text that satisfies `Says` was added to other text; a prefix of all was written, and the rest is kept
pub record WritesOn (before after : Option (List ℕ)) (old new : List ℕ) (Says : List ℕ → Type 0) : Type 0 where
  pub text : List ℕ
  pub says : Says text
  pub part : List ℕ
  pub written : Appends before after part
  pub kept : part ++ new ≡ old ++ text

-- there was no memory for the text, or the writer failed
abbrev pub IsOfWriting : ReportFault → Type 0
IsOfWriting fault = (fault ≡ OutOfMemory) ⊎ (fault ≡ WriteFailed)
