-- A call keeps what a lock's rule says: the region that it leaves was reached from the same first one.
use Rattle.std.proofs.Common.{◌≡◌, ℕ, List, length, Option, None, Some, Result, Ok, Err, OnOk, OnErr, IfOk, IfErr, sym, subst}
use Rattle.nc_vet.specs.Chunk.{MarkedChunk, IsValid}
use Rattle.nc_text.specs.Places.{limit_of}
use Rattle.nc_region.specs.declared.fault.CreateFault.{CreateFault}
use Rattle.nc_region.specs.declared.fault.ModifyFault.{ModifyFault}
use Rattle.nc_region.specs.declared.fault.DeleteFault.{DeleteFault}
use Rattle.nc_region.specs.Region.{Region, IsCreated, IsRefused, MayRefuse, Meets}
use Rattle.nc_region.specs.Patch.{IsPatch, IsPatched}
use Rattle.nc_region.specs.Deletion.{IsDeleted}
use Rattle.nc_region.specs.Reached.{IsOneCall, OfCreate, OfRefusedCreate, OfPatch, OfDelete, AfterCall, IsUnderRule}

pub after-call : (first : Option Region) {old new : Region} → IsUnderRule first old → IsOneCall old new → IsUnderRule first new
after-call None under call = tt
after-call (Some first) under call = AfterCall under call

kept : (first : Option Region) {old new : Region} → IsUnderRule first old → new ≡ old → IsUnderRule first new
kept first under same = subst (IsUnderRule first) (sym same) under

pub after-delete : (first : Option Region) (answer : Result ℕ DeleteFault) (old new : Region) (base : ℕ) → IsUnderRule first old
    → IfOk answer (IsDeleted old new base) → OnErr answer (new ≡ old) → IsUnderRule first new
after-delete first (Ok stamp) old new base under is _ = after-call first under (OfDelete base stamp is)
after-delete first (Err fault) old new base under _ same = kept first under same

pub after-patch : (first : Option Region) (answer : Result (Unit {0}) ModifyFault) (old new : Region) (at : ℕ) (bytes : List ℕ)
    → IsUnderRule first old → OnOk answer (IsPatch old at bytes) → OnOk answer (IsPatched old new at bytes)
    → IfErr answer (λ e. new ≡ old) → IsUnderRule first new
after-patch first (Ok _) old new at bytes under lawful is _ = after-call first under (OfPatch at bytes lawful is)
after-patch first (Err fault) old new at bytes under _ _ same = kept first under same

pub after-create : (first : Option Region) (answer : Result (Unit {0}) (MarkedChunk × CreateFault)) (old new : Region) (v : MarkedChunk)
    → IsUnderRule first old → IsValid v → OnOk answer (IsCreated old new v)
    → OnOk answer ((v.limit ≡ limit_of old.marked.bytes) × ¬ Meets v.base (length v.code) old.chunks)
    → IfErr answer (λ e. (e.0 ≡ v) × IsRefused old new v e.1) → IfErr answer (λ e. MayRefuse old v e.1) → IsUnderRule first new
after-create first (Ok _) old new v under valid is free _ _ = after-call first under (OfCreate v valid free.0 free.1 is)
after-create first (Err e) old new v under _ _ _ refused may = after-call first under (OfRefusedCreate v e.1 may refused.1)
