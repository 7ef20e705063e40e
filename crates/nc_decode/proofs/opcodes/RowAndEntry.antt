-- What it means that a row and an entry agree.
use Rattle.std.proofs.Common.{◌≡◌, ℕ, ℤ, zero, suc, Bool, true, false, List, [], ◌∷◌, ◌++◌, length, Option, ◌==◌, ◌&&◌, ◌||◌, cond, if◌then◌else◌, refl, sym}
use Rattle.std.proofs.Common.{◌∙◌, ap, arith, eqb-true, pos}
use Rattle.std.specs.Prelude.{slice_index}
use Rattle.std.specs.Int.{w8, w32, cast_signed, from_le_bytes}
use Rattle.nc_decode.specs.declared.instruction.Flow.{Flow}
use Rattle.nc_decode.specs.declared.instruction.Flow.TheVariants.{Next, Branch, Jump, Call, IndirectJump, IndirectCall, Stop}
use Rattle.nc_decode.specs.declared.entry.Entry.{Entry}
use Rattle.nc_decode.specs.declared.entry.Number as coded
use Rattle.nc_decode.specs.declared.entry.Number.TheVariants.{Absent, Byte, Sized, Offset, Short, Near, TestByte, TestSized}
use Rattle.nc_decode.specs.declared.entry.Prefix.{Prefix}
use Rattle.nc_decode.specs.Rows.{Number, absent, byte, sized, offset, rel8, rel32, Row, rm_of, reg_of}
use Rattle.nc_decode.specs.machinery.Shapes.{coded_len, flow_of, reg_if}
use Rattle.nc_decode.specs.Spelling.{number_len, displacement, register_of}
use Rattle.nc_decode.specs.machinery.Reading.{rel_of}
use Rattle.nc_decode.specs.Transfers.{is_indirect}
use Rattle.nc_decode.proofs.opcodes.EntriesMatchRows.{agrees, prefix_byte, row_kind, coded_kind, flow_number}
use Rattle.nc_base.proofs.Offered.{same}
use Rattle.nc_base.proofs.Offered.{both, same_is}

-- what it means that a row and an entry agree after a prefix, for this reg field
pub record Agreed (p : Prefix) (e : Entry) (reg : ℕ) (row : Row) : Type 0 where
  pub number : number_len (prefix_byte p) row.number ≡ coded_len p e.number reg
  pub kind : row_kind row.number ≡ coded_kind e.number
  pub flow : row.flow ≡ flow_of e reg
  pub indirect : is_indirect row.flow ≡ (e.indirect && ((reg == 2) || (reg == 4)))

-- the flow with this number
numbered_flow : ℕ → Flow
numbered_flow zero = Next
numbered_flow (suc zero) = Branch
numbered_flow (suc (suc zero)) = Jump
numbered_flow (suc (suc (suc zero))) = Call
numbered_flow (suc (suc (suc (suc zero)))) = IndirectJump
numbered_flow (suc (suc (suc (suc (suc zero))))) = IndirectCall
numbered_flow (suc (suc (suc (suc (suc (suc k)))))) = Stop

-- numbering a flow and taking it back
numbered : (f : Flow) → numbered_flow (flow_number f) ≡ f
unfolding numbered_flow
numbered Next = refl
numbered Branch = refl
numbered Jump = refl
numbered Call = refl
numbered IndirectJump = refl
numbered IndirectCall = refl
numbered Stop = refl

-- where the computed test of agreement holds, a row and an entry agree
pub agreed_is : (p : Prefix) (e : Entry) (reg : ℕ) (row : Row) → agrees p e reg row ≡ true → Agreed p e reg row
agreed_is p e reg row h =
    let a = both (((number_len (prefix_byte p) row.number == coded_len p e.number reg) && (row_kind row.number == coded_kind e.number))
    && (flow_number row.flow == flow_number (flow_of e reg)))
    (same (is_indirect row.flow) (e.indirect && ((reg == 2) || (reg == 4)))) h in
    let b = both ((number_len (prefix_byte p) row.number == coded_len p e.number reg) && (row_kind row.number == coded_kind e.number))
    (flow_number row.flow == flow_number (flow_of e reg)) a.0 in
    let c = both (number_len (prefix_byte p) row.number == coded_len p e.number reg) (row_kind row.number == coded_kind e.number) b.0 in
    record {
      number = eqb-true _ _ c.0;
      kind = eqb-true _ _ c.1;
      flow = sym (numbered row.flow) ∙ ap numbered_flow (eqb-true _ _ b.1) ∙ numbered (flow_of e reg);
      indirect = same_is _ _ a.1;
    }

-- the displacement of a number of this kind
abbrev rel_by : ℕ → List ℕ → ℤ
rel_by kind ys = if kind == 1 then cast_signed w8 (slice_index ys 0) else (if kind == 2 then cast_signed w32 (from_le_bytes w32 ys) else pos 0)

-- the code reads the displacement by the number's kind
read_by : (c : coded.Number) (ys : List ℕ) → rel_of c ys ≡ rel_by (coded_kind c) ys
read_by Absent ys = refl
read_by Byte ys = refl
read_by Sized ys = refl
read_by Offset ys = refl
read_by Short ys = refl
read_by Near ys = refl
read_by TestByte ys = refl
read_by TestSized ys = refl

-- the only byte of a list is still its first with more bytes behind it
short_front : (xs r : List ℕ) → length xs ≡ 1 → slice_index xs 0 ≡ slice_index (xs ++ r) 0
short_front [] r e = absurd (omega arith)
short_front (a ∷ xs) r e = refl

-- the number of four bytes is still that of the first four with more bytes behind them
near_front : (xs r : List ℕ) → length xs ≡ 4 → from_le_bytes w32 xs ≡ from_le_bytes w32 (xs ++ r)
near_front [] r e = absurd (omega arith)
near_front (a ∷ []) r e = absurd (omega arith)
near_front (a ∷ b ∷ []) r e = absurd (omega arith)
near_front (a ∷ b ∷ c ∷ []) r e = absurd (omega arith)
near_front (a ∷ b ∷ c ∷ d ∷ xs) r e = refl

-- a row's number spells the displacement of its kind, whatever bytes follow
spelled_by : (prefix : Option ℕ) (n : Number) (xs r : List ℕ) → length xs ≡ number_len prefix n → displacement n xs ≡ rel_by (row_kind n) (xs ++ r)
spelled_by prefix rel8 xs r len = ap (λ (b : ℕ). cast_signed w8 b) (short_front xs r len)
spelled_by prefix rel32 xs r len = ap (λ (b : ℕ). cast_signed w32 b) (near_front xs r len)
spelled_by prefix absent xs r len = refl
spelled_by prefix byte xs r len = refl
spelled_by prefix sized xs r len = refl
spelled_by prefix offset xs r len = refl

-- the displacement that the number spells is the one that the code reads
pub same_rel : (prefix : Option ℕ) (n : Number) (c : coded.Number) (xs r : List ℕ) → row_kind n ≡ coded_kind c
    → length xs ≡ number_len prefix n → displacement n xs ≡ rel_of c (xs ++ r)
same_rel prefix n c xs r kind len =
    spelled_by prefix n xs r len ∙ ap (λ (k : ℕ). rel_by k (xs ++ r)) kind ∙ sym (read_by c (xs ++ r))

-- only an indirect transfer names a register
register_if : (f : Flow) (operand : List ℕ) → register_of f operand ≡ cond (is_indirect f) (rm_of (slice_index operand 0)) 0
register_if Next operand = refl
register_if Branch operand = refl
register_if Jump operand = refl
register_if Call operand = refl
register_if IndirectJump operand = refl
register_if IndirectCall operand = refl
register_if Stop operand = refl

-- two choices of the same value are one
nested : (i a b : Bool) (r : ℕ) → cond i (cond a r (cond b r 0)) 0 ≡ cond (i && (a || b)) r 0
nested true true b r = refl
nested true false true r = refl
nested true false false r = refl
nested false a b r = refl

-- the register that the row names is the one that the code reads
pub same_reg : (f : Flow) (e : Entry) (modrm : ℕ) (tail : List ℕ)
    → is_indirect f ≡ (e.indirect && ((reg_of modrm == 2) || (reg_of modrm == 4))) → register_of f (modrm ∷ tail) ≡ reg_if e modrm
unfolding reg_if
same_reg f e modrm tail h =
    register_if f (modrm ∷ tail) ∙ ap (λ (b : Bool). cond b (rm_of modrm) 0) h
    ∙ sym (nested e.indirect (reg_of modrm == 2) (reg_of modrm == 4) (rm_of modrm))

-- an opcode without operand names no register
pub no_reg : (f : Flow) (i : Bool) → is_indirect f ≡ (i && false) → register_of f [] ≡ 0
no_reg f i h = register_if f [] ∙ ap (λ (b : Bool). cond b (rm_of 0) 0) (h ∙ and_false i) ∙ refl
  where
    and_false : (i : Bool) → (i && false) ≡ false
    and_false true = refl
    and_false false = refl
