-- What a host reads of an instruction tells which it is.
use Rattle.std.proofs.Common.{◌≡◌, ℕ, ◌-◌, ◌<◌, Option, Some, None, Result, Ok, Err, refl, ap, sym, ◌∙◌, arith}
use Rattle.std.specs.Prelude.{◌==◌, if◌then◌else◌}
use Rattle.nc_decode.specs.declared.instruction.Flow.{Flow}
use Rattle.nc_decode.specs.declared.instruction.Flow.TheVariants.{Next, Branch, Jump, Call, IndirectJump, IndirectCall, Stop}
use Rattle.nc_decode.specs.declared.instruction.Instr.{Instr}
use Rattle.nc_decode.specs.declared.instruction.DecodeFault.{DecodeFault}
use Rattle.nc_decode.specs.declared.instruction.DecodeFault.TheVariants.{Truncated, NotPermitted}
use Rattle.nc_host.specs.declared.lent_results.NcInstruction.{NcInstruction}
use Rattle.nc_host.specs.Shown.{flow_number, register_number, instruction_of, no_instruction}

-- the flow of a number
abbrev flow_of : ℕ → Flow
flow_of n =
    if n == 1 then Next else (if n == 2 then Branch else (if n == 3 then Jump else (if n == 4 then Call
    else (if n == 5 then IndirectJump else (if n == 6 then IndirectCall else Stop)))))

flow_back : (f : Flow) → flow_of (flow_number f) ≡ f
flow_back Next = refl
flow_back Branch = refl
flow_back Jump = refl
flow_back Call = refl
flow_back IndirectJump = refl
flow_back IndirectCall = refl
flow_back Stop = refl

-- the register of a number
abbrev register_of : ℕ → Option ℕ
register_of n = if n == 0 then None else Some (n - 16)

register_back : (r : Option ℕ) → register_of (register_number r) ≡ r
register_back None = refl
register_back (Some r) = grind (arith)

-- the instruction of what is read
abbrev instr_of : NcInstruction → Instr
instr_of n = record { len = n.length; flow = flow_of n.flow; rel = n.rel; reg = n.register; masks = register_of n.masks }

instr_back : (i : Instr) → instr_of (instruction_of i) ≡ i
instr_back i = rw (flow_back i.flow, register_back i.masks) refl

-- two instructions that are read alike are the same
pub same_instr : (i j : Instr) → instruction_of i ≡ instruction_of j → i ≡ j
same_instr i j e = sym (instr_back i) ∙ (ap instr_of e ∙ instr_back j)

-- answers with an instruction are equal only if the instructions are
pub same_ok : (i j : Instr) → ◌≡◌ {A = Result Instr DecodeFault} (Ok i) (Ok j) → i ≡ j
same_ok i j e = cc

-- what is read is not both an instruction and a fault
pub not_both : (r : Result Instr DecodeFault) (f : DecodeFault) (i : Instr) → r ≡ Err f → r ≡ Ok i → ⊥
not_both r f i a b = cc

pub one_fault : (r : Result Instr DecodeFault) → r ≡ Err Truncated → r ≡ Err NotPermitted → ⊥
one_fault r a b = cc

-- what is read where there is no instruction tells the fault
pub one_number : (a b : ℕ) → no_instruction a ≡ no_instruction b → a ≡ b
one_number a b e = ap (λ (n : NcInstruction). n.fault) e

-- no instruction is read as none
pub none_read : (fault : ℕ) (i : Instr) → 0 < fault → no_instruction fault ≡ instruction_of i → ⊥
none_read fault i some e = omega (arith, some, ap (λ (n : NcInstruction). n.fault) e)
