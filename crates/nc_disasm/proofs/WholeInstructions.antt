-- Bytes that are one instruction, against bytes that begin with one as long as they are.
use Rattle.std.proofs.Common.{◌≡◌, ℕ, ◌+◌, List, [], ◌++◌, length, sym, ap, subst, ◌∙◌, arith}
use Rattle.std.proofs.lemmas.List.{append-nil, length-append, nil_from_length}
use Rattle.std.specs.Prelude.{Result, Ok, Err}
use Rattle.nc_decode.specs.declared.instruction.DecodeFault.{DecodeFault}
use Rattle.nc_decode.specs.declared.instruction.Instr.{Instr}
use Rattle.nc_decode.specs.Spelling.{Spells, IsAtFront}

-- the length of what was decoded, or 0
abbrev pub len_of : Result Instr DecodeFault → ℕ
len_of (Ok i) = i.len
len_of (Err _) = 0

-- an instruction has the length of its bytes
pub spelled_long : (bytes : List ℕ) (i : Instr) → Spells bytes i → i.len ≡ length bytes
spelled_long bytes i s = ap (λ (x : Instr). x.len) s.says ∙ sym (ap (λ (z : List ℕ). length z) s.whole)

-- bytes that are an instruction begin with it
pub whole_at_front : (bytes : List ℕ) (i : Instr) → Spells bytes i → IsAtFront bytes i
whole_at_front bytes i s = record { front = bytes; rest = []; parts = sym (append-nil bytes); spells = s }

-- bytes that begin with an instruction as long as they are, are that instruction
pub spelled_whole : (bytes : List ℕ) (i : Instr) → IsAtFront bytes i → i.len ≡ length bytes → Spells bytes i
spelled_whole bytes i f whole =
    let long = spelled_long f.front i f.spells in
    let parts : length bytes ≡ length f.front + length f.rest =
    ap (λ (z : List ℕ). length z) f.parts ∙ length-append f.front f.rest in
    let none : f.rest ≡ [] = nil_from_length f.rest (omega (arith, long, parts, whole)) in
    let all : f.front ≡ bytes =
    sym (f.parts ∙ ap (λ (z : List ℕ). f.front ++ z) none ∙ append-nil f.front) in
    subst (λ (z : List ℕ). Spells z i) all f.spells
