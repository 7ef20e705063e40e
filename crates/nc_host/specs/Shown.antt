-- Instructions, marks and faults as a host reads them: as numbers.
use Rattle.std.specs.Prelude.{ℕ, ◌+◌, pos, Option, Some, None}
use Rattle.nc_decode.specs.declared.instruction.Flow.{Flow}
use Rattle.nc_decode.specs.declared.instruction.Flow.TheVariants.{Next, Branch, Jump, Call, IndirectJump, IndirectCall, Stop}
use Rattle.nc_decode.specs.declared.instruction.Instr.{Instr}
use Rattle.nc_decode.specs.declared.instruction.Mark.{Mark}
use Rattle.nc_decode.specs.declared.instruction.Mark.TheVariants.{Unmarked, Plain, After}
use Rattle.nc_vet.specs.declared.fault.VetFault.{VetFault}
use Rattle.nc_vet.specs.declared.fault.VetFault.TheVariants.{BadBase, BadLength, OutOfRange, NotPermitted, Crosses, Bare, BadTarget}
use Rattle.nc_vet.specs.declared.fault.VetFault.TheVariants.{OutOfMemory}
use Rattle.nc_region.specs.declared.fault.ModifyFault.{ModifyFault}
use Rattle.nc_region.specs.declared.fault.ModifyFault.TheVariants as patch
use Rattle.nc_host.specs.declared.fault_numbers.TheConstants.{BAD_BASE, BAD_LENGTH, OUT_OF_RANGE, NOT_PERMITTED, CROSSES, BARE, BAD_TARGET}
use Rattle.nc_host.specs.declared.fault_numbers.TheConstants.{OUT_OF_MEMORY, PATCH_BAD_SPAN, PATCH_NOT_LIVE, PATCH_NOT_PERMITTED}
use Rattle.nc_host.specs.declared.fault_numbers.TheConstants.{PATCH_BOUNDARIES, PATCH_PAIR_TOUCHED, PATCH_BAD_TARGET}
use Rattle.nc_host.specs.declared.lent_results.NcInstruction.{NcInstruction}

-- the number of a flow
abbrev pub flow_number : Flow → ℕ
flow_number Next = 1
flow_number Branch = 2
flow_number Jump = 3
flow_number Call = 4
flow_number IndirectJump = 5
flow_number IndirectCall = 6
flow_number Stop = 7

-- 16 plus the number of a register, or 0 for none
abbrev pub register_number : Option ℕ → ℕ
register_number None = 0
register_number (Some register) = 16 + register

-- an instruction as numbers: length, flow (1 to 7), displacement, register, and 16 + r if it masks register r, else 0
abbrev pub instruction_of : Instr → NcInstruction
instruction_of i = record {
  fault = 0;
  length = i.len;
  flow = flow_number i.flow;
  rel = i.rel;
  register = i.reg;
  masks = register_number i.masks;
}

-- no instruction, for a fault of this number: all other fields are 0
abbrev pub no_instruction : ℕ → NcInstruction
no_instruction fault = record { fault = fault; length = 0; flow = 0; rel = pos 0; register = 0; masks = 0 }

-- a mark as a number: 0 unmarked, 1 plain, 16 + r at an indirect transfer on register r
abbrev pub mark_number : Mark → ℕ
mark_number Unmarked = 0
mark_number Plain = 1
mark_number (After register) = 16 + register

-- the number of a chunk's fault
abbrev pub fault_number : VetFault → ℕ
fault_number BadBase = BAD_BASE
fault_number BadLength = BAD_LENGTH
fault_number OutOfRange = OUT_OF_RANGE
fault_number (NotPermitted at) = NOT_PERMITTED
fault_number (Crosses at) = CROSSES
fault_number (Bare at) = BARE
fault_number (BadTarget at) = BAD_TARGET
fault_number OutOfMemory = OUT_OF_MEMORY

-- the address of a chunk's fault, or 0 for a fault without one
abbrev pub fault_place : VetFault → ℕ
fault_place (NotPermitted at) = at
fault_place (Crosses at) = at
fault_place (Bare at) = at
fault_place (BadTarget at) = at
fault_place _ = 0

-- the number of a patch's fault
abbrev pub refused_patch_number : ModifyFault → ℕ
refused_patch_number patch.BadSpan = PATCH_BAD_SPAN
refused_patch_number patch.NotLive = PATCH_NOT_LIVE
refused_patch_number patch.NotPermitted = PATCH_NOT_PERMITTED
refused_patch_number patch.Boundaries = PATCH_BOUNDARIES
refused_patch_number patch.PairTouched = PATCH_PAIR_TOUCHED
refused_patch_number patch.BadTarget = PATCH_BAD_TARGET
