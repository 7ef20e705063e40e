-- Machinery, cited by no public contract: what has been written for files.
use Rattle.std.specs.Prelude.{◌≡◌, ℕ, Bool, ◌||◌, List, Option}
use Rattle.std.specs.Borrow.{Bor}
use Rattle.nc_report.specs.Report.{HasWritten}
use Rattle.nc_files.specs.declared.request.Request.{Request}
use Rattle.nc_files.specs.Files.{PrintsFiles}
use Rattle.nc_files.specs.declared.outcome.Outcome.{Outcome}

-- exactly what is written for these files was written, and the outcome has what was found about them too
pub record HasPrinted (request : Request) (files : List (Bor (List ℕ))) (old new : Outcome) (before after : Option (List ℕ)) : Type 0 where
  pub faulty : Bool
  pub refused : Bool
  pub written : HasWritten (PrintsFiles request files faulty refused) before after
  pub faulty_is : new.is_faulty ≡ old.is_faulty || faulty
  pub refused_is : new.is_refused ≡ old.is_refused || refused
