-- The effects of the program.
use Rattle.std.specs.Prelude.{◌≡◌, ◌≢◌, ◌↔◌, ℕ, Bool, List, Option, Result, Ok, Err, OnOk, IfErr, IfSome, IsErrOf, ⊤}
use Rattle.std.specs.Io.KnownBytes.{IsAtEnd}
use Rattle.nc_decode.specs.Bundles.{IsRegionSize, limit_after}
use Rattle.nc_work.specs.Verdicts.{AreWorkers}
use Rattle.nc_command.specs.declared.carrying.Ask.{Ask}
use Rattle.nc_command.specs.declared.carrying.Ask.TheVariants.{Replay, Vet}
use Rattle.nc_lines.specs.declared.fault.ReplayFault.{ReplayFault}
use Rattle.nc_lines.specs.declared.fault.ReplayFault.TheVariants.{WriteFailed, BadSize, BadSeats, BadWorkers}
use Rattle.nc_command.specs.declared.halt.Halt.{Halt}
use Rattle.nc_command.specs.declared.halt.Halt.TheVariants.{Words, Fault}
use Rattle.nc_lines.specs.Lines.{lines_of}
use Rattle.nc_lines.specs.Vetting.{HasVetted, HasBegunVetted}
use Rattle.nc_script.specs.Run.{HasRun}

-- `P` holds if the program stopped at its command line
abbrev pub IfWords : {T : Type 0} → Result T Halt → Type 0 → Type 0
IfWords (Ok x) P = ⊤
IfWords (Err (Words error)) P = P
IfWords (Err (Fault fault)) P = ⊤

-- `P` holds for the outcome if the program continued after its command line
abbrev pub IfRun : {T : Type 0} → Result T Halt → (Result T ReplayFault → Type 0) → Type 0
IfRun (Ok x) P = P (Ok x)
IfRun (Err (Words error)) P = ⊤
IfRun (Err (Fault fault)) P = P (Err fault)

-- the effect of vetting lines of chunks, by its result: the contract of `vet_lines` of nc_lines
pub record HasVettedLines {R W T : Type 0} (bundles workers : ℕ) (remaining : R → Option (List ℕ)) (contents : W → Option (List ℕ))
    (reader left : R) (writer after : W) (result : Result T ReplayFault) : Type 0 where
  pub bad_size : IsErrOf result BadSize ↔ ¬ IsRegionSize bundles
  pub bad_workers : IsErrOf result BadWorkers ↔ (IsRegionSize bundles × ¬ AreWorkers workers)
  pub no_seats : IfErr result (λ fault. fault ≢ BadSeats)
  pub untouched : ¬ (IsRegionSize bundles × AreWorkers workers) → (left ≡ reader) × (after ≡ writer)
  pub ok : OnOk result (IfSome (remaining reader) (λ input.
      HasVetted (limit_after bundles) (contents writer) (contents after) (lines_of input)))
  pub read : OnOk result (IsAtEnd (remaining left))
  pub write_failed : IsErrOf result WriteFailed → IfSome (remaining reader) (λ input.
      HasBegunVetted (limit_after bundles) (contents writer) (contents after) (lines_of input))
  pub unwritten : IfErr result (λ fault. fault ≢ WriteFailed → after ≡ writer)

-- the effect of this work, by its result: a script was run, whose `chunk` lines are requests if queries are taken, or lines were vetted
abbrev pub IsDone : {R W T : Type 0} → (queries : Bool) → Ask → (R → Option (List ℕ)) → (W → Option (List ℕ))
    → (reader left : R) (writer after : W) → Result T ReplayFault → Type 0
IsDone queries (Replay bundles seats) remaining contents reader left writer after result =
    HasRun queries bundles seats remaining contents reader left writer after result
IsDone queries (Vet bundles workers) remaining contents reader left writer after result =
    HasVettedLines bundles workers remaining contents reader left writer after result
