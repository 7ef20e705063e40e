-- Where control goes after an instruction.
use Rattle.std.specs.Prelude.{ℕ, ◌+◌, ◌%◌, ◌^◌, Bool, true, false, ◌==◌, ◌&&◌, ◌||◌, nat_le}
use Rattle.std.specs.Int.{w32, cast_unsigned}
use Rattle.nc_decode.specs.declared.instruction.Instr.{Instr}
use Rattle.nc_decode.specs.declared.instruction.Flow.{Flow}
use Rattle.nc_decode.specs.declared.instruction.Flow.TheVariants.{Branch, Jump, Call, IndirectJump, IndirectCall}

-- whether a flow is a direct transfer: a branch, a jump or a call to a target that the instruction names
abbrev pub is_direct : Flow → Bool
is_direct Branch = true
is_direct Jump = true
is_direct Call = true
is_direct _ = false

-- whether a flow is an indirect transfer: a jump or a call to where a register points
abbrev pub is_indirect : Flow → Bool
is_indirect IndirectJump = true
is_indirect IndirectCall = true
is_indirect _ = false

-- the address directly after an instruction at `at` (no region ends near 2^32, so the sum is the same modulo 2^32)
abbrev pub behind : Instr → ℕ → ℕ
behind i at = at + i.len

-- the target of a direct transfer: the sum of its address, length and displacement modulo 2^32 (Intel SDM volume 2, JMP,
-- Jcc and CALL)
abbrev pub target : Instr → ℕ → ℕ
target i at = (at + i.len + cast_unsigned w32 i.rel) % 2 ^ 32

-- whether a direct transfer may begin with this byte: 0F, 70 to 7F, or E0 to EB (Intel SDM volume 2, appendix A)
abbrev pub may_transfer : ℕ → Bool
may_transfer byte = byte == 0x0F || (nat_le 0x70 byte && nat_le byte 0x7F) || (nat_le 0xE0 byte && nat_le byte 0xEB)
