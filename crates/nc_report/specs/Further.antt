-- The faults that the reading of a refused chunk finds.
use Rattle.std.specs.Prelude.{ℕ, ◌+◌, ◌-◌, ◌%◌, Bool, true, false, not, ◌==◌, ◌&&◌, nat_le, nat_lt, List, [], length, drop}
use Rattle.std.specs.Prelude.{get_or, Option, Some, None, option_to_list, if◌then◌else◌}
use Rattle.std.specs.List.{flat_map, range_with_len}
use Rattle.nc_decode.specs.declared.instruction.Instr.{Instr}
use Rattle.nc_decode.specs.Front.{first_instruction}
use Rattle.nc_decode.specs.Transfers.{is_direct, target}
use Rattle.nc_vet.specs.declared.fault.VetFault.{VetFault}
use Rattle.nc_vet.specs.declared.fault.VetFault.TheVariants as vet
use Rattle.nc_reading.specs.declared.class.Class.{Class}
use Rattle.nc_reading.specs.declared.class.Class.TheVariants.{Inside, Skipped, Entry, Second, NotPermitted, Crosses, Bare}

-- a direct transfer may target a byte of this class: not the inside of an instruction, and not the second half of a pair;
-- skipped bytes pass, because nothing is known about them
abbrev pub is_open : Class → Bool
is_open Inside = false
is_open Second = false
is_open _ = true

-- a direct transfer may target this address: a byte of the code with an open class (`is_open`), or a bundle start outside
-- it below the limit
abbrev pub may_go : ℕ → ℕ → List Class → ℕ → Bool
may_go base limit classes to =
    if nat_le base to && nat_lt to (base + length classes) then is_open (get_or classes (to - base) Inside)
    else (to % 32 == 0 && nat_lt to limit)

-- the instruction at this address, if there is one, is a direct transfer to an address that it may not target
abbrev pub has_bad_target : ℕ → ℕ → List Class → ℕ → Option Instr → Bool
has_bad_target base limit classes at None = false
has_bad_target base limit classes at (Some i) = is_direct i.flow && not (may_go base limit classes (target i at))

-- the fault at an address, by the class of its byte; an instruction that is otherwise allowed may still have a bad target
abbrev pub fault_by : Class → Bool → ℕ → Option VetFault
fault_by Inside bad_target at = None
fault_by Skipped bad_target at = None
fault_by Second bad_target at = None
fault_by Entry bad_target at = if bad_target then Some (vet.BadTarget at) else None
fault_by NotPermitted bad_target at = Some (vet.NotPermitted at)
fault_by Crosses bad_target at = Some (vet.Crosses at)
fault_by Bare bad_target at = Some (vet.Bare at)

-- the fault at a place of the code, if there is one
abbrev pub fault_at : ℕ → ℕ → List ℕ → List Class → ℕ → Option VetFault
fault_at base limit code classes k =
    fault_by (get_or classes k Inside) (has_bad_target base limit classes (base + k) (first_instruction (drop k code))) (base + k)

-- a step of the reading begins at this byte: an instruction, or the bytes that are skipped after one, end before it
abbrev pub is_begun : Class → Bool
is_begun Inside = false
is_begun Skipped = false
is_begun _ = true

-- the faults at a place of the code, at most one; none at `own`, the place of the chunk's own fault
abbrev pub others_at : ℕ → ℕ → List ℕ → List Class → ℕ → ℕ → List VetFault
others_at base limit code classes own k = if k == own then [] else option_to_list (fault_at base limit code classes k)

-- the faults at the first `count` places, except that at `own`
abbrev pub others_to : ℕ → ℕ → List ℕ → List Class → ℕ → ℕ → List VetFault
others_to base limit code classes own count = flat_map (others_at base limit code classes own) (range_with_len 0 count)
