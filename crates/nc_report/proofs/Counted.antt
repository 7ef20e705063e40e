-- The number of instructions by marks.
use Rattle.std.proofs.Common.{◌≡◌, ℕ, ◌+◌, ◌-◌, Bool, true, false, List, [], ◌∷◌, length, cond, replicate, refl, ◌∙◌, ap, arith, sum_by}
use Rattle.std.proofs.lemmas.List.Sums.{sum_by-cons, sum_by-append}
use Rattle.std.proofs.lemmas.List.Folds.{sum_by-replicate}
use Rattle.nc_decode.specs.declared.instruction.Mark.{Mark}
use Rattle.nc_decode.specs.declared.instruction.Mark.TheVariants.{Unmarked, Plain, After}
use Rattle.nc_decode.specs.Transfers.{is_indirect}
use Rattle.nc_vet.specs.Chunk.{Piece, instr_marks, marks_of, mark_of, MarkedChunk, IsValid}
use Rattle.nc_report.specs.machinery.Found.{HasInstructions}
use Rattle.nc_report.specs.machinery.Counts.{count_mark}

-- an instruction has a mark at its first byte
marked_first : (b : Bool) (r : ℕ) → count_mark (cond b (After r) Plain) ≡ 1
marked_first true r = refl
marked_first false r = refl

-- an instruction counts as one
one_counted : (p : Piece) → sum_by count_mark (instr_marks p.instr) ≡ 1
one_counted p =
    sum_by-cons count_mark (mark_of p.instr) (replicate (p.instr.len - 1) Unmarked)
    ∙ ap (λ (n : ℕ). n + sum_by count_mark (replicate (p.instr.len - 1) Unmarked)) (marked_first (is_indirect p.instr.flow) p.instr.reg)
    ∙ ap (λ (n : ℕ). 1 + n) {y = 0} (sum_by-replicate count_mark (p.instr.len - 1) Unmarked ∙ omega arith)

-- the marks of instructions count as many as there are instructions
pub all_counted : (pieces : List Piece) → sum_by count_mark (marks_of pieces) ≡ length pieces
all_counted [] = refl
all_counted (p ∷ ps) =
    sum_by-append count_mark (instr_marks p.instr) (marks_of ps)
    ∙ ap (λ (n : ℕ). n + sum_by count_mark (marks_of ps)) (one_counted p)
    ∙ ap (λ (n : ℕ). 1 + n) (all_counted ps) ∙ omega arith

-- a valid chunk has as many instructions as marks
pub counted : (c : MarkedChunk) (count : ℕ) → IsValid c → count ≡ sum_by count_mark c.marks → HasInstructions c.code count
counted c count v e = record {
  pieces = v.pieces;
  spelled = v.sound.spelled;
  parts = v.parts;
  counted = e ∙ ap (λ (ms : List Mark). sum_by count_mark ms) v.marks_are ∙ all_counted v.pieces;
}
