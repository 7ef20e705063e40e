-- A patch of a single instruction.
use Rattle.std.proofs.Common.{◌≡◌, ℕ, ◌-◌, List, [], ◌∷◌, ◌++◌, length, get_or, take, drop, Some, refl}
use Rattle.std.proofs.Common.{sym, subst, ◌∙◌, ap, arith, append-nil}
use Rattle.std.specs.Prelude.{IsTrue, ◌↔◌}
use Rattle.std.proofs.lemmas.List.{length-append, length-take, length-drop, nil_from_length, take_all}
use Rattle.nc_decode.specs.declared.instruction.Instr.{Instr}
use Rattle.nc_decode.specs.Front.{first_instruction}
use Rattle.nc_decode.specs.Spelling.{Spells}
use Rattle.nc_decode.specs.Transfers.{is_direct, target}
use Rattle.nc_decode.proofs.Offered.{exact, spells_some}
use Rattle.nc_vet.specs.Chunk.{Piece, IsTarget}
use Rattle.nc_vet.proofs.Offered.{split_none}
use Rattle.nc_text.specs.Places.{limit_of}
use Rattle.nc_text.specs.MarkedText.{MarkedText}
use Rattle.nc_list.specs.declared.chunk.Chunk.{Chunk}
use Rattle.nc_acts.specs.declared.acts.Act.TheVariants.{Put}
use Rattle.nc_acts.specs.declared.acts.Entry.TheVariants.{Did}
use Rattle.nc_region.specs.Patch.{AreBytesOf, IsRun, SparesPair, GoWell, LeavesPairs, KeepsTargets, log_of_instruction}
use Rattle.nc_region.specs.machinery.PatchSteps.{RunsAlong}
use Rattle.nc_region.proofs.patching.NewInstructions.{none_of_none, parted, spelled_cons}
use Rattle.nc_region.proofs.patching.Sparing.{same_piece, spares_from, spares_to}
use Rattle.nc_region.proofs.patching.Runs.{run_along}

-- the bytes are all of this instruction
pub record IsOne (bytes : List ℕ) (i : Instr) : Type 0 where
  pub first : first_instruction bytes ≡ Some i
  pub only : i.len ≡ length bytes

-- the instruction as a piece
abbrev pub piece_of : List ℕ → Instr → Piece
piece_of bytes i = record { bytes = bytes; instr = i }

-- bytes that are one instruction spell it
one_spells : (bytes : List ℕ) (i : Instr) → IsOne bytes i → Spells bytes i
one_spells bytes i o =
    let f = (exact bytes i).0 o.first in
    let n = spells_some f.front i f.spells in
    let none : f.rest ≡ [] = nil_from_length f.rest
    (omega (arith, o.only, n.0, ap (λ (z : List ℕ). length z) f.parts, length-append f.front f.rest)) in
    let all : bytes ≡ f.front = f.parts ∙ (ap (λ (z : List ℕ). f.front ++ z) none ∙ append-nil f.front) in
    subst (λ (z : List ℕ). Spells z i) (sym all) f.spells

-- bytes that are one instruction are the bytes of its piece
pub one_is : (bytes : List ℕ) (i : Instr) → IsOne bytes i → AreBytesOf bytes (piece_of bytes i ∷ [])
one_is bytes i o = record {
  spelled = spelled_cons (piece_of bytes i) [] (one_spells bytes i o) (λ before after p e. absurd (split_none before after p e));
  parts = sym (append-nil bytes);
}

-- bytes that are one instruction are the bytes of no other pieces
pub only_one : (bytes : List ℕ) (news : List Piece) (i : Instr) → IsOne bytes i → AreBytesOf bytes news → news ≡ piece_of bytes i ∷ []
only_one bytes news i o b =
    let p = parted bytes news i b o.first in
    let none : p.rest ≡ [] = none_of_none (take (length bytes - i.len) (drop i.len bytes)) p.rest
    (omega (arith, o.only, length-take {A = ℕ}, length-drop {A = ℕ})) p.behind in
    let front : p.first.bytes ≡ bytes = sym p.front ∙ take_all i.len bytes (omega (arith, o.only)) in
    p.is ∙ (ap (λ (z : List Piece). p.first ∷ z) none
    ∙ ap (λ (z : Piece). z ∷ []) (same_piece p.first bytes i front p.instr))

-- what a run of one instruction replaces
pub record OneRun (marked : MarkedText) (c : Chunk) (at : ℕ) (bytes : List ℕ) (i : Instr) (r : IsRun marked c at bytes) : Type 0 where
  pub old : Piece
  pub rest : List Piece
  pub is : r.run.old ++ r.run.after ≡ old ∷ rest
  pub news : r.run.news ≡ piece_of bytes i ∷ []
  pub long : length old.bytes ≡ length bytes

-- a run of one new instruction replaces one instruction
pub one_run : (marked : MarkedText) (c : Chunk) (at : ℕ) (bytes : List ℕ) (i : Instr) → IsOne bytes i → (r : IsRun marked c at bytes)
    → OneRun marked c at bytes i r
one_run marked c at bytes i o r = go (r.run.old ++ r.run.after) refl
  where
    news : r.run.news ≡ piece_of bytes i ∷ []
    news = only_one bytes r.run.news i o r.run.bytes

    along : RunsAlong (r.run.old ++ r.run.after) (piece_of bytes i ∷ [])
    along = subst (RunsAlong (r.run.old ++ r.run.after)) news (run_along marked c at bytes r).runs

    go : (all : List Piece) → r.run.old ++ r.run.after ≡ all → OneRun marked c at bytes i r
    go [] e = absurd (subst (λ (z : List Piece). RunsAlong z (piece_of bytes i ∷ [])) e along)
    go (p ∷ rest) e = record {
      old = p;
      rest = rest;
      is = e;
      news = news;
      long = (subst (λ (z : List Piece). RunsAlong z (piece_of bytes i ∷ [])) e along).0;
    }

-- a run of one new instruction leaves pairs alone exactly where that instruction does
pub one_leaves : (marked : MarkedText) (c : Chunk) (at : ℕ) (bytes : List ℕ) (i : Instr) (r : IsRun marked c at bytes)
    (x : OneRun marked c at bytes i r) → SparesPair x.old x.rest (piece_of bytes i) ↔ LeavesPairs r.run
one_leaves marked c at bytes i r x = (
  λ one. spares_from (r.run.old ++ r.run.after) r.run.news x.old (piece_of bytes i) x.rest [] x.is x.news one tt,
  λ all. (spares_to (r.run.old ++ r.run.after) r.run.news x.old (piece_of bytes i) x.rest [] x.is x.news all).0,
)

-- a run of one new instruction keeps targets exactly where that instruction's target is good
pub one_keeps : (marked : MarkedText) (c : Chunk) (at : ℕ) (bytes : List ℕ) (i : Instr) (r : IsRun marked c at bytes)
    (x : OneRun marked c at bytes i r)
    → (IsTrue (is_direct i.flow) → IsTarget c.base (limit_of marked.bytes) r.holds.valid.pieces (target i at))
    ↔ KeepsTargets (limit_of marked.bytes) r.run
one_keeps marked c at bytes i r x = (
  λ one. subst (GoWell (IsTarget c.base (limit_of marked.bytes) r.holds.valid.pieces) at) (sym x.news) (one, tt),
  λ all. (subst (GoWell (IsTarget c.base (limit_of marked.bytes) r.holds.valid.pieces) at) x.news all).0,
)

-- the log of an instruction of one byte
pub log_of_one : (at : ℕ) (bytes : List ℕ) → length bytes ≡ 1 → log_of_instruction at bytes ≡ Did (Put at (get_or bytes 0 0)) ∷ []
log_of_one at [] one = absurd (omega (arith, one))
log_of_one at (byte ∷ []) one = refl
log_of_one at (byte ∷ next ∷ rest) one = absurd (omega (arith, one))
