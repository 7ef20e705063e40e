-- Machinery, cited by no public contract: reports in the places of their files.
use Rattle.std.specs.Prelude.{◌≡◌, ℕ, List, slice_get, Option, Some, None, ⊤}
use Rattle.std.specs.Borrow.{Bor}
use Rattle.nc_files.specs.declared.request.Request.{Request}
use Rattle.nc_files.specs.Reports.{ReportsOn}
use Rattle.nc_files.specs.declared.working.Report.{Report}

-- the report in place `at`, if there is one, is that on the file of this number
abbrev pub FitsReport : Request → List (Bor (List ℕ)) → ℕ → Option Report → Type 0
FitsReport request files at None = ⊤
FitsReport request files at (Some report) = (file : Bor (List ℕ)) × (slice_get files at ≡ Some file) × ReportsOn request file.now report
