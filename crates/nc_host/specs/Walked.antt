-- A walk as it is reported to a host.
use Rattle.std.specs.Prelude.{◌≡◌, ◌⊎◌, ◌<◌, ℕ, List, length}
use Rattle.nc_region.specs.declared.trace.End.{End}
use Rattle.nc_region.specs.declared.trace.End.TheVariants.{Stop, Trampoline, Beyond, More}
use Rattle.nc_region.specs.Trace.{IsTrace, IsOnlyTrace, IsSafeWalk, IsWalkStart}
use Rattle.nc_host_acts.specs.Shown.{over}
use Rattle.nc_host.specs.declared.fault_numbers.TheConstants.{OUT_OF_MEMORY, NO_ROOM, NO_START}
use Rattle.nc_host.specs.declared.region_results.NcWalk.{NcWalk}

-- the number of an end
abbrev pub end_number : End → ℕ
end_number Stop = 1
end_number Trampoline = 2
end_number Beyond = 3
end_number More = 4

-- a walk to this end, over this number of places
abbrev pub walk_of : ℕ → End → NcWalk
walk_of count end = record { count = count; fault = 0; end = end_number end }

-- no walk, for a fault of this number: all other fields are 0
abbrev pub no_walk : ℕ → NcWalk
no_walk fault = record { count = 0; fault = fault; end = 0 }

-- The reported walk is a trace (`IsTrace`) over safe states, the only one by these choices from this bundle start of the
-- region. The buffer begins with its places; the rest of it is as before.
pub record IsShownWalk (text : List ℕ) (start : ℕ) (choices : List ℕ) (reported : NcWalk) (old new : List ℕ) : Type 0 where
  pub places : List ℕ
  pub end : End
  pub begins : IsWalkStart text start
  pub trace : IsTrace text start choices places end
  pub only : IsOnlyTrace text start choices places end
  pub safe : IsSafeWalk text start choices end
  pub numbers : reported ≡ walk_of (length places) end
  pub written : new ≡ over places old

-- there is a walk over more places than the buffer holds; NO_ROOM is reported, with the number of its places
pub record IsLongWalk (text : List ℕ) (start : ℕ) (choices : List ℕ) (room : ℕ) (reported : NcWalk) : Type 0 where
  pub places : List ℕ
  pub end : End
  pub begins : IsWalkStart text start
  pub trace : IsTrace text start choices places end
  pub longer : room < length places
  pub numbers : reported ≡ record { count = length places; fault = NO_ROOM; end = 0 }

-- when a walk is refused: NO_START if no walk may begin there; OUT_OF_MEMORY only if one may; NO_ROOM, with the number of
-- places, if the buffer holds fewer
abbrev pub MayRefuseShownWalk : List ℕ → ℕ → List ℕ → ℕ → NcWalk → Type 0
MayRefuseShownWalk text start choices room reported =
    ((reported ≡ no_walk NO_START) × ¬ IsWalkStart text start)
    ⊎ (((reported ≡ no_walk OUT_OF_MEMORY) × IsWalkStart text start) ⊎ IsLongWalk text start choices room reported)
