-- Refusals that are reported by numbers.
use Rattle.std.proofs.Common.{◌≡◌, ℕ, ◌<◌, Ok, Err, inr, arith, ap, subst}
use Rattle.std.specs.Prelude.{Option, Some, Result, IfOk, IfErr}
use Rattle.nc_host_handles.specs.declared.fault.RunsFault.{RunsFault}
use Rattle.nc_host_handles.specs.RegionHandle.{RegionHandleState}
use Rattle.nc_host.specs.declared.region_results.NcChange.{NcChange}
use Rattle.nc_host.specs.Handles.{IsNumberedRefusal}
use Rattle.nc_host.specs.Running.{runs_number, runs_wanted}

-- the refusal of a region's runs, by what the region is
pub runs_refusal : (handle : Option RegionHandleState) (h k : RegionHandleState) (may : RegionHandleState → RunsFault → Type 0) (none : ℕ) (reported : Result ℕ RunsFault)
    (answer : NcChange) → handle ≡ Some h → k ≡ h → IfErr reported (may k)
    → IfOk reported (λ count. answer ≡ record { fault = 0; at = 0; count = count })
    → IfErr reported (λ f. answer ≡ record { fault = runs_number none f; at = 0; count = runs_wanted f })
    → 0 < answer.fault → IsNumberedRefusal handle may (runs_number none) runs_wanted answer.fault answer.count
runs_refusal handle h k may none (Ok n) answer had same due reported_ok reported_no = λ lt.
    absurd (omega (arith, lt, ap (λ (a : NcChange). a.fault) reported_ok))
runs_refusal handle h k may none (Err f) answer had same due reported_ok reported_no = λ lt.
    inr (h, f, had, subst (λ (x : RegionHandleState). may x f) same due, ap (λ (a : NcChange). a.fault) reported_no, ap (λ (a : NcChange). a.count) reported_no)
