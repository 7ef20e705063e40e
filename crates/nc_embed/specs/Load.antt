-- The effect of a host's load on a region, and when the load is refused.
use Rattle.std.specs.Prelude.{◌≡◌, ℕ, List}
use Rattle.nc_text.specs.Places.{limit_of}
use Rattle.nc_vet.specs.Chunk.{MarkedChunk, IsValid}
use Rattle.nc_vet.specs.Faults.{HasFault}
use Rattle.nc_region.specs.Region.{Region, IsCreated, IsRefused, MayRefuse}
use Rattle.nc_embed.specs.declared.fault.LoadFault.{LoadFault}
use Rattle.nc_embed.specs.declared.fault.LoadFault.TheVariants.{NotAdmitted, NotCreated}

-- the code as a chunk at this base is valid for this limit, with these marks
pub record IsAdmitted (base limit : ℕ) (code : List ℕ) (v : MarkedChunk) : Type 0 where
  pub valid : IsValid v
  pub base_is : v.base ≡ base
  pub limit_is : v.limit ≡ limit
  pub code_is : v.code ≡ code

-- the code is a valid chunk for the region, and the new region is the old one with this chunk created
abbrev pub IsLoaded : Region → Region → ℕ → List ℕ → Type 0
IsLoaded old new base code = (v : MarkedChunk) × IsAdmitted base (limit_of old.marked.bytes) code v × IsCreated old new v

-- The code has this fault; or it is a valid chunk, and the region may refuse to create it for this reason.
abbrev pub MayRefuseCode : Region → ℕ → List ℕ → LoadFault → Type 0
MayRefuseCode r base code (NotAdmitted fault) = HasFault base (limit_of r.marked.bytes) code fault
MayRefuseCode r base code (NotCreated fault) =
    (v : MarkedChunk) × IsAdmitted base (limit_of r.marked.bytes) code v × MayRefuse r v fault

-- The region after a refused load: if the code isn't admitted, the region as it was; if a valid chunk isn't created, the
-- region after that refusal (`IsRefused`): as it was, except that pages of the span may have been made if memory ran out.
abbrev pub IsLeft : Region → Region → ℕ → List ℕ → LoadFault → Type 0
IsLeft old new base code (NotAdmitted fault) = new ≡ old
IsLeft old new base code (NotCreated fault) =
    (v : MarkedChunk) × IsAdmitted base (limit_of old.marked.bytes) code v × IsRefused old new v fault
