-- A chunk has one verdict: at most one fault besides lack of memory, and one list of marks.
use Rattle.std.proofs.Common.{◌≡◌, ℕ, ◌+◌, List, ◌∷◌, ◌++◌, refl, sym, subst, ◌∙◌, ap, arith, inl, inr, append-nil}
use Rattle.std.proofs.Common.{append_assoc}
use Rattle.std.proofs.lemmas.List.{append_cancel_left}
use Rattle.nc_decode.specs.Transfers.{target}
use Rattle.nc_vet.specs.declared.fault.VetFault.{VetFault}
use Rattle.nc_vet.specs.declared.fault.VetFault.TheVariants.{BadBase, BadLength, OutOfRange, NotPermitted, Crosses, Bare, BadTarget}
use Rattle.nc_vet.specs.declared.fault.VetFault.TheVariants.{OutOfMemory}
use Rattle.nc_vet.specs.Chunk.{Piece, code_of, place, marks_of, AreSpelled, IsTarget}
use Rattle.nc_vet.specs.Faults.{IsSoundFront, IsStuck, StandsAfter, HasFirstBadTarget}
use Rattle.nc_vet.specs.Laws.{HasOneFault, HasOneReading}
use Rattle.nc_vet.proofs.Splits.{split_two}
use Rattle.nc_vet.proofs.Pieces.{place-append}
use Rattle.nc_vet.proofs.OneReading.{agree, none_after, same_pieces}
use Rattle.nc_vet.proofs.Stuck.{none_cut, sound_not_stuck}
use Rattle.nc_vet.proofs.OneFault.{due}

-- the longest sound fronts of one code are the same
same_front : (code rest others : List ℕ) (front other : List Piece) → IsSoundFront code rest front → IsSoundFront code others other
    → place front ≡ place other → (front ≡ other) × (rest ≡ others)
same_front code rest others front other s t e =
    let same : front ≡ other = elim (agree front other rest others s.sound.spelled t.sound.spelled (sym s.parts ∙ t.parts)) [
      | inl on ↦ sym (all front other on.more t.sound.spelled on.parts (sym e))
      | inr on ↦ all other front on.more s.sound.spelled on.parts e
    ] in
    (same, append_cancel_left (code_of other) rest others (ap (λ (z : List Piece). code_of z ++ rest) (sym same) ∙ sym s.parts ∙ t.parts))
  where
    all : (us vs more : List Piece) → AreSpelled vs → vs ≡ us ++ more → place vs ≡ place us → vs ≡ us
    all us vs more spelled f g =
        f ∙ ap (λ (z : List Piece). us ++ z)
        (none_after more (λ before after p h. spelled (us ++ before) after p
        (f ∙ ap (λ (z : List Piece). us ++ z) h ∙ sym (append_assoc us before (p ∷ after))))
        (omega (arith, g, ap (λ (z : List Piece). place z) f, place-append us more)))
        ∙ append-nil us

-- only one fault stands after a front
one_after : (base : ℕ) (front : List Piece) (rest : List ℕ) (f g : VetFault) → StandsAfter base front rest f
    → StandsAfter base front rest g → f ≡ g
one_after base front rest (Bare a) (Bare b) s t = ap (λ (k : ℕ). Bare k) (s.0 ∙ sym t.0)
one_after base front rest (Bare a) (Crosses b) s t = absurd (none_cut _ s.1.0 s.1.1 t.1)
one_after base front rest (Bare a) (NotPermitted b) s t = absurd (t.1 s.1.0 s.1.1)
one_after base front rest (Crosses a) (Bare b) s t = absurd (none_cut _ t.1.0 t.1.1 s.1)
one_after base front rest (Crosses a) (Crosses b) s t = ap (λ (k : ℕ). Crosses k) (s.0 ∙ sym t.0)
one_after base front rest (Crosses a) (NotPermitted b) s t = absurd (t.2 s.1)
one_after base front rest (NotPermitted a) (Bare b) s t = absurd (s.1 t.1.0 t.1.1)
one_after base front rest (NotPermitted a) (Crosses b) s t = absurd (s.2 t.1)
one_after base front rest (NotPermitted a) (NotPermitted b) s t = ap (λ (k : ℕ). NotPermitted k) (s.0 ∙ sym t.0)
one_after base front rest BadBase g s t = absurd s
one_after base front rest BadLength g s t = absurd s
one_after base front rest OutOfRange g s t = absurd s
one_after base front rest (BadTarget a) g s t = absurd s
one_after base front rest OutOfMemory g s t = absurd s
one_after base front rest f BadBase s t = absurd t
one_after base front rest f BadLength s t = absurd t
one_after base front rest f OutOfRange s t = absurd t
one_after base front rest f (BadTarget b) s t = absurd t
one_after base front rest f OutOfMemory s t = absurd t

-- a code is stuck with one fault
same_stuck : (base : ℕ) (code : List ℕ) (f g : VetFault) → IsStuck base code f → IsStuck base code g → f ≡ g
same_stuck base code f g s t =
    let long = s.longest t.front t.rest t.reads in
    let short = t.longest s.front s.rest s.reads in
    let same = same_front code s.rest t.rest s.front t.front s.reads t.reads (omega (arith, long, short)) in
    one_after base t.front t.rest f g (subst (λ (z : List ℕ). StandsAfter base t.front z f) same.1
    (subst (λ (z : List Piece). StandsAfter base z s.rest f) same.0 s.why)) t.why

-- a code that is all sound isn't stuck
stuck_or_sound : (base limit at : ℕ) (code : List ℕ) (f : VetFault) → IsStuck base code f → HasFirstBadTarget base limit code at → ⊥
stuck_or_sound base limit at code f s m = sound_not_stuck base code (m.before ++ m.piece ∷ m.after) f m.parts m.sound s

-- there is one first transfer with a bad target
same_transfer : (base limit : ℕ) (code : List ℕ) (a b : ℕ) → HasFirstBadTarget base limit code a → HasFirstBadTarget base limit code b → a ≡ b
same_transfer base limit code a b m n =
    let same : m.before ++ m.piece ∷ m.after ≡ n.before ++ n.piece ∷ n.after
    = same_pieces (m.before ++ m.piece ∷ m.after) (n.before ++ n.piece ∷ n.after) m.sound.spelled n.sound.spelled
    (sym m.parts ∙ n.parts) in
    elim (split_two m.before m.after n.before n.after m.piece n.piece same) [
      | inl e ↦ m.here ∙ ap (λ (z : List Piece). base + place z) e ∙ sym n.here
      | inr (inl e) ↦
          absurd (m.bad (subst (λ (z : List Piece). IsTarget base limit z (target m.piece.instr (base + place m.before))) (sym same)
          (n.least m.before e.0 m.piece e.1 m.direct)))
      | inr (inr e) ↦
          absurd (n.bad (subst (λ (z : List Piece). IsTarget base limit z (target n.piece.instr (base + place n.before))) same
          (m.least n.before e.0 n.piece e.1 n.direct)))
    ]

-- a chunk has at most one fault besides lack of memory
pub one_fault : HasOneFault
one_fault base limit code BadBase g f h nf ng = sym ((due base limit code g h).bad_base.1 f)
one_fault base limit code BadLength g f h nf ng = sym ((due base limit code g h).bad_length.1 f)
one_fault base limit code OutOfRange g f h nf ng = sym ((due base limit code g h).out_of_range.1 f)
one_fault base limit code f BadBase k h nf ng = (due base limit code f k).bad_base.1 h
one_fault base limit code f BadLength k h nf ng = (due base limit code f k).bad_length.1 h
one_fault base limit code f OutOfRange k h nf ng = (due base limit code f k).out_of_range.1 h
one_fault base limit code OutOfMemory g f h nf ng = absurd (nf refl)
one_fault base limit code f OutOfMemory k h nf ng = absurd (ng refl)
one_fault base limit code (BadTarget a) (BadTarget b) f h nf ng = ap (λ (k : ℕ). BadTarget k) (same_transfer base limit code a b f.1 h.1)
one_fault base limit code (BadTarget a) (NotPermitted b) f h nf ng = absurd (stuck_or_sound base limit a code (NotPermitted b) h.1 f.1)
one_fault base limit code (BadTarget a) (Crosses b) f h nf ng = absurd (stuck_or_sound base limit a code (Crosses b) h.1 f.1)
one_fault base limit code (BadTarget a) (Bare b) f h nf ng = absurd (stuck_or_sound base limit a code (Bare b) h.1 f.1)
one_fault base limit code (NotPermitted a) (BadTarget b) f h nf ng = absurd (stuck_or_sound base limit b code (NotPermitted a) f.1 h.1)
one_fault base limit code (Crosses a) (BadTarget b) f h nf ng = absurd (stuck_or_sound base limit b code (Crosses a) f.1 h.1)
one_fault base limit code (Bare a) (BadTarget b) f h nf ng = absurd (stuck_or_sound base limit b code (Bare a) f.1 h.1)
one_fault base limit code (NotPermitted a) (NotPermitted b) f h nf ng = same_stuck base code (NotPermitted a) (NotPermitted b) f.1 h.1
one_fault base limit code (NotPermitted a) (Crosses b) f h nf ng = same_stuck base code (NotPermitted a) (Crosses b) f.1 h.1
one_fault base limit code (NotPermitted a) (Bare b) f h nf ng = same_stuck base code (NotPermitted a) (Bare b) f.1 h.1
one_fault base limit code (Crosses a) (NotPermitted b) f h nf ng = same_stuck base code (Crosses a) (NotPermitted b) f.1 h.1
one_fault base limit code (Crosses a) (Crosses b) f h nf ng = same_stuck base code (Crosses a) (Crosses b) f.1 h.1
one_fault base limit code (Crosses a) (Bare b) f h nf ng = same_stuck base code (Crosses a) (Bare b) f.1 h.1
one_fault base limit code (Bare a) (NotPermitted b) f h nf ng = same_stuck base code (Bare a) (NotPermitted b) f.1 h.1
one_fault base limit code (Bare a) (Crosses b) f h nf ng = same_stuck base code (Bare a) (Crosses b) f.1 h.1
one_fault base limit code (Bare a) (Bare b) f h nf ng = same_stuck base code (Bare a) (Bare b) f.1 h.1

-- the marks of valid chunks with the same code are the same
pub one_reading : HasOneReading
one_reading c d v w e =
    let same : v.pieces ≡ w.pieces = same_pieces v.pieces w.pieces v.sound.spelled w.sound.spelled (sym v.parts ∙ e ∙ w.parts) in
    v.marks_are ∙ ap (λ (z : List Piece). marks_of z) same ∙ sym w.marks_are
