-- A chunk is valid or has one fault.
use Rattle.std.proofs.Common.{◌≡◌, ◌≢◌, ◌↔◌, ℕ, ◌+◌, List, ◌∷◌, ◌++◌, length, refl, sym, subst, ◌∙◌}
use Rattle.nc_decode.specs.declared.instruction.Mark.{Mark}
use Rattle.nc_decode.specs.Transfers.{target}
use Rattle.nc_vet.specs.declared.fault.VetFault.{VetFault}
use Rattle.nc_vet.specs.declared.fault.VetFault.TheVariants.{BadBase, BadLength, OutOfRange, NotPermitted, Crosses, Bare, BadTarget}
use Rattle.nc_vet.specs.declared.fault.VetFault.TheVariants.{OutOfMemory}
use Rattle.nc_vet.specs.Chunk.{Piece, place, IsBase, IsLength, IsInRange, IsTarget, MarkedChunk, IsValid}
use Rattle.nc_vet.specs.Faults.{HasFirstBadTarget, HasGoodSpan, HasFault}
use Rattle.nc_vet.proofs.OneReading.{same_pieces}
use Rattle.nc_vet.proofs.Stuck.{sound_not_stuck}

-- ---- a valid chunk has no fault

-- a valid chunk's transfers have good targets
no_first_bad_target : (c : MarkedChunk) (at : ℕ) → IsValid c → HasFirstBadTarget c.base c.limit c.code at → ⊥
no_first_bad_target c at v m =
    let same : v.pieces ≡ m.before ++ m.piece ∷ m.after = same_pieces v.pieces
    (m.before ++ m.piece ∷ m.after) v.sound.spelled m.sound.spelled (sym v.parts ∙ m.parts) in
    m.bad
    (subst (λ (z : List Piece). IsTarget c.base c.limit z (target m.piece.instr (c.base + place m.before))) same
    (v.targets m.before m.after m.piece same m.direct))

-- a valid chunk is refused only for lack of memory
pub none_valid : (base limit : ℕ) (code : List ℕ) (marks : List Mark) (fault : VetFault)
    → IsValid (record { base = base; limit = limit; code = code; marks = marks }) → HasFault base limit code fault → fault ≡ OutOfMemory
none_valid base limit code marks BadBase v f = absurd (f v.base_is)
none_valid base limit code marks BadLength v f = absurd (f.1 v.length_is)
none_valid base limit code marks OutOfRange v f = absurd (f.2 v.range)
none_valid base limit code marks (NotPermitted at) v f = absurd (sound_not_stuck base code v.pieces (NotPermitted at) v.parts v.sound f.1)
none_valid base limit code marks (Crosses at) v f = absurd (sound_not_stuck base code v.pieces (Crosses at) v.parts v.sound f.1)
none_valid base limit code marks (Bare at) v f = absurd (sound_not_stuck base code v.pieces (Bare at) v.parts v.sound f.1)
none_valid base limit code marks (BadTarget at) v f = absurd (no_first_bad_target _ at v f.1)
none_valid base limit code marks OutOfMemory v f = refl

-- ---- the first three faults are given exactly when they are due

-- the fault is each of the first three exactly when that one is due
pub record AreDue (base limit len : ℕ) (fault : VetFault) : Type 0 where
  pub bad_base : (fault ≡ BadBase) ↔ ¬ IsBase base
  pub bad_length : (fault ≡ BadLength) ↔ (IsBase base × ¬ IsLength len)
  pub out_of_range : (fault ≡ OutOfRange) ↔ (IsBase base × IsLength len × ¬ IsInRange base limit len)

-- where the span is good and the fault is none of the first three, none of these is due
none_due : (base limit len : ℕ) (fault : VetFault) → HasGoodSpan base limit len → fault ≢ BadBase → fault ≢ BadLength → fault ≢ OutOfRange
    → AreDue base limit len fault
none_due base limit len fault g a b c = record {
  bad_base = (λ e. absurd (a e), λ n. absurd (n (g.start, g.low)));
  bad_length = (λ e. absurd (b e), λ n. absurd (n.1 (g.some, g.whole)));
  out_of_range = (λ e. absurd (c e), λ n. absurd (n.2 (g.lawful, g.high)));
}

-- each fault of a chunk is one of the first three exactly when that one is due
pub due : (base limit : ℕ) (code : List ℕ) (fault : VetFault) → HasFault base limit code fault → AreDue base limit (length code) fault
due base limit code BadBase f = record {
  bad_base = (λ e. f, λ n. refl);
  bad_length = (λ e. absurd cc, λ n. absurd (f n.0));
  out_of_range = (λ e. absurd cc, λ n. absurd (f n.0));
}
due base limit code BadLength f = record {
  bad_base = (λ e. absurd cc, λ n. absurd (n f.0));
  bad_length = (λ e. f, λ n. refl);
  out_of_range = (λ e. absurd cc, λ n. absurd (f.1 n.1));
}
due base limit code OutOfRange f = record {
  bad_base = (λ e. absurd cc, λ n. absurd (n f.0));
  bad_length = (λ e. absurd cc, λ n. absurd (n.1 f.1));
  out_of_range = (λ e. f, λ n. refl);
}
due base limit code (NotPermitted at) f = none_due base limit (length code) (NotPermitted at) f.0 (λ e. cc) (λ e. cc) (λ e. cc)
due base limit code (Crosses at) f = none_due base limit (length code) (Crosses at) f.0 (λ e. cc) (λ e. cc) (λ e. cc)
due base limit code (Bare at) f = none_due base limit (length code) (Bare at) f.0 (λ e. cc) (λ e. cc) (λ e. cc)
due base limit code (BadTarget at) f = none_due base limit (length code) (BadTarget at) f.0 (λ e. cc) (λ e. cc) (λ e. cc)
due base limit code OutOfMemory f = none_due base limit (length code) OutOfMemory f (λ e. cc) (λ e. cc) (λ e. cc)
