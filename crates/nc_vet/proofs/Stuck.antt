-- Where the reading stops, no longer front is sound.
use Rattle.std.proofs.Common.{◌≡◌, ◌↔◌, ℕ, ◌+◌, ◌-◌, ◌%◌, ◌<◌, ◌≤◌, List, [], ◌∷◌, ◌++◌, length, take, drop, Option, Some, refl, sym, subst}
use Rattle.std.proofs.Common.{◌∙◌, ap, arith, inl, inr, append_assoc, append-nil}
use Rattle.std.specs.Prelude.{IsTrue}
use Rattle.std.proofs.lemmas.List.{length-append, append_cancel_left}
use Rattle.nc_decode.specs.declared.instruction.Instr.{Instr}
use Rattle.nc_decode.specs.declared.instruction.Mark.{Mark}
use Rattle.nc_decode.specs.Spelling.{Spells, IsAtFront, IsProperFront}
use Rattle.nc_decode.specs.Transfers.{is_indirect}
use Rattle.nc_decode.proofs.Offered.{prefix_free}
use Rattle.nc_vet.specs.declared.fault.VetFault.{VetFault}
use Rattle.nc_vet.specs.declared.fault.VetFault.TheVariants.{BadBase, BadLength, OutOfRange, NotPermitted, Crosses, Bare, BadTarget}
use Rattle.nc_vet.specs.declared.fault.VetFault.TheVariants.{OutOfMemory}
use Rattle.nc_vet.specs.Chunk.{Piece, code_of, place, FollowsMask, AreSound}
use Rattle.nc_vet.specs.Faults.{IsSoundFront, IsLongest, bundle_rest, StandsAfter, IsStuck}
use Rattle.nc_vet.specs.machinery.Steps.{NoneMayFollow, HasRead, EndsReading}
use Rattle.nc_vet.proofs.Pieces.{code_of-append, place-append, rest_is, front_within}
use Rattle.nc_vet.proofs.OneReading.{agree, one_at_front}

-- bytes that are only the beginning of an instruction have none at their front
pub none_cut : (bytes : List ℕ) (i : Instr) → IsAtFront bytes i → IsProperFront bytes → ⊥
none_cut bytes i f cut =
    let whole : bytes ++ cut.more ≡ f.front ++ (f.rest ++ cut.more) = ap (λ (z : List ℕ). z ++ cut.more) f.parts
    ∙ append_assoc f.front f.rest cut.more in
    let none : f.rest ++ cut.more ≡ [] = prefix_free f.front (f.rest ++ cut.more) i cut.instr f.spells
    (subst (λ (z : List ℕ). Spells z cut.instr) whole cut.spells) in
    cut.some (end f.rest cut.more none)
  where
    end : (xs ys : List ℕ) → xs ++ ys ≡ [] → ys ≡ []
    end [] ys e = e
    end (x ∷ xs) ys e = absurd cc

-- where none may follow, no sound instruction stands
blocked : (window : List ℕ) (masked : Option ℕ) (address : ℕ) (fault : VetFault) (i : Instr) → NoneMayFollow window masked address fault
    → IsAtFront window i → (IsTrue (is_indirect i.flow) → masked ≡ Some i.reg) → ⊥
blocked window masked address (Bare at) i none f paired =
    let same : none.1.0 ≡ i = one_at_front window none.1.0 i none.1.1 f in
    none.1.3 (subst (λ (j : Instr). IsTrue (is_indirect j.flow) → masked ≡ Some j.reg) (sym same) paired none.1.2)
blocked window masked address (Crosses at) i none f paired = none_cut window i f none.1
blocked window masked address (NotPermitted at) i none f paired = none.1 i f
blocked window masked address BadBase i none f paired = none
blocked window masked address BadLength i none f paired = none
blocked window masked address OutOfRange i none f paired = none
blocked window masked address (BadTarget at) i none f paired = none
blocked window masked address OutOfMemory i none f paired = none

-- the bytes after a front of a longer sound front
longest : (code rest : List ℕ) (front : List Piece) (masked : Option ℕ) (address : ℕ) (fault : VetFault) → IsSoundFront code rest front
    → ((r : ℕ) → (masked ≡ Some r) ↔ FollowsMask front r)
    → NoneMayFollow (bundle_rest (place front) rest) masked address fault → IsLongest code front
longest code rest front masked address fault reads masked_is none other others s =
    elim (agree front other rest others reads.sound.spelled s.sound.spelled (sym reads.parts ∙ s.parts)) [
      | inl on ↦ go on.more on.parts
      | inr on ↦ omega (arith, ap (λ (z : List Piece). place z) on.parts, place-append other on.more)
    ]
  where
    go : (more : List Piece) → other ≡ front ++ more → place other ≤ place front
    go [] e = omega (arith, ap (λ (z : List Piece). place z) (e ∙ append-nil front))
    go (p ∷ more) e =
        let parts : code_of front ++ rest ≡ code_of front ++ (p.bytes ++ (code_of more ++ others))
        = sym reads.parts ∙ s.parts ∙ ap (λ (z : List Piece). code_of z ++ others) e
        ∙ ap (λ (z : List ℕ). z ++ others) (code_of-append front (p ∷ more))
        ∙ append_assoc (code_of front) (p.bytes ++ code_of more) others
        ∙ ap (λ (z : List ℕ). code_of front ++ z) (append_assoc p.bytes (code_of more) others) in
        let next : rest ≡ p.bytes ++ (code_of more ++ others) = append_cancel_left (code_of front) rest
        (p.bytes ++ (code_of more ++ others)) parts in
        let inside = s.sound.inside front more p e in
        let f : IsAtFront (bundle_rest (place front) rest) p.instr
        = subst (λ (z : List ℕ). IsAtFront (bundle_rest (place front) z) p.instr) (sym next)
        (front_within p.bytes (code_of more ++ others) p.instr (32 - place front % 32) (s.sound.spelled front more p e)
        (omega (arith, inside))) in
        absurd (blocked (bundle_rest (place front) rest) masked address fault p.instr none f
        (λ indirect. (masked_is p.instr.reg).1 (s.sound.paired front more p e indirect)))

-- why none may follow is what stands after
stands_after : (base at : ℕ) (front : List Piece) (rest : List ℕ) (masked : Option ℕ) (fault : VetFault) → place front ≡ at
    → NoneMayFollow (bundle_rest (place front) rest) masked (base + at) fault → StandsAfter base front rest fault
stands_after base at front rest masked (Bare a) here none = (none.0 ∙ ap (λ (k : ℕ). base + k) (sym here), (none.1.0, none.1.1))
stands_after base at front rest masked (Crosses a) here none = (none.0 ∙ ap (λ (k : ℕ). base + k) (sym here), none.1)
stands_after base at front rest masked (NotPermitted a) here none = (none.0 ∙ ap (λ (k : ℕ). base + k) (sym here), none.1, none.2)
stands_after base at front rest masked BadBase here none = absurd none
stands_after base at front rest masked BadLength here none = absurd none
stands_after base at front rest masked OutOfRange here none = absurd none
stands_after base at front rest masked (BadTarget a) here none = absurd none
stands_after base at front rest masked OutOfMemory here none = absurd none

-- a code that is stuck ends the reading
ends : (base : ℕ) (code : List ℕ) (fault : VetFault) → IsStuck base code fault → EndsReading base code fault
ends base code (Bare a) s = s
ends base code (Crosses a) s = s
ends base code (NotPermitted a) s = s
ends base code BadBase s = s
ends base code BadLength s = s
ends base code OutOfRange s = s
ends base code (BadTarget a) s = s
ends base code OutOfMemory s = tt

-- the reading stops after the longest sound front, with its fault
pub stuck : (base : ℕ) (code : List ℕ) (at w : ℕ) (masked : Option ℕ) (marks : List Mark) (fault : VetFault)
    → HasRead code at masked marks → at < length code → w + at % 32 ≡ 32
    → NoneMayFollow (take w (drop at code)) masked (base + at) fault → EndsReading base code fault
stuck base code at w masked marks fault h lt w-is none =
    let window : take w (drop at code) ≡ bundle_rest (place h.front) h.rest
    = ap (λ (z : List ℕ). take w z) (rest_is code h.rest h.front at h.reads.parts h.here)
    ∙ ap (λ (k : ℕ). take k h.rest) (omega (arith, h.here, w-is)) in
    let none2 : NoneMayFollow (bundle_rest (place h.front) h.rest) masked (base + at) fault = subst
    (λ (z : List ℕ). NoneMayFollow z masked (base + at) fault) window none in
    ends base code fault
    (record {
      front = h.front;
      rest = h.rest;
      reads = h.reads;
      longest = longest code h.rest h.front masked (base + at) fault h.reads h.masked_is none2;
      some = λ e. omega (
        arith,
        ap (λ (z : List ℕ). length z) h.reads.parts,
        length-append (code_of h.front) h.rest,
        ap
            (λ (z : List ℕ). length z) e,
        h.here,
        lt,
      );
      why = stands_after base at h.front h.rest masked fault h.here none2;
    })

-- code that consists of sound instructions isn't stuck
pub sound_not_stuck : (base : ℕ) (code : List ℕ) (pieces : List Piece) (fault : VetFault) → code ≡ code_of pieces → AreSound pieces
    → IsStuck base code fault → ⊥
sound_not_stuck base code pieces fault parts sound s =
    let long = s.longest pieces [] (record { parts = parts ∙ sym (append-nil (code_of pieces)); sound = sound }) in
    let none : length s.rest ≡ 0 = omega (
      arith,
      long,
      ap (λ (z : List ℕ). length z) parts,
      ap (λ (z : List ℕ). length z) s.reads.parts,
      length-append (code_of s.front) s.rest,
    ) in
    s.some (empty s.rest none)
  where
    empty : (xs : List ℕ) → length xs ≡ 0 → xs ≡ []
    empty [] e = refl
    empty (x ∷ xs) e = absurd (omega arith)
