-- The reading grows by one instruction.
use Rattle.std.proofs.Common.{◌≡◌, ◌≢◌, ◌↔◌, ℕ, suc, ◌+◌, ◌-◌, ◌/◌, ◌%◌, ◌<◌, ◌≤◌, Bool, true, false, List, [], ◌∷◌, ◌++◌, length, take}
use Rattle.std.proofs.Common.{drop, set, Option, Some, None, cond, refl, sym, subst, ◌∙◌, ap, arith, append_assoc, append-nil, replicate}
use Rattle.std.proofs.Common.{◌==◌, eqb-true}
use Rattle.std.proofs.lemmas.Bool.{eqb-false}
use Rattle.std.proofs.lemmas.List.{length-append, length-take, length-drop, take-append-drop, set_at, replicate-append-replicate}
use Rattle.nc_decode.specs.declared.instruction.Instr.{Instr}
use Rattle.nc_decode.specs.declared.instruction.Mark.{Mark}
use Rattle.nc_decode.specs.declared.instruction.Mark.TheVariants.{Unmarked}
use Rattle.nc_decode.proofs.Offered.{spells_some}
use Rattle.nc_vet.specs.Chunk.{Piece, code_of, place, FollowsMask, mark_of, instr_marks, marks_of}
use Rattle.nc_vet.specs.machinery.Steps.{MayFollow, masked_after, HasRead, HasReadAll}
use Rattle.nc_vet.proofs.Splits.{split_none, split_last}
use Rattle.nc_vet.proofs.Pieces.{code_of-push, place-push, marks_of-push, length-marks_of, none_sound, sound_push, rest_is}

-- nothing has been read yet
pub begun : (code : List ℕ) (marks : List Mark) → marks ≡ replicate (length code) Unmarked → HasRead code 0 None marks
begun code marks is = record {
  front = [];
  rest = code;
  reads = record { parts = refl; sound = none_sound };
  here = refl;
  masked_is = λ r. (λ e. absurd cc, λ f. absurd (split_none f.earlier [] f.mask f.last));
  marks_are = is ∙ ap (λ (k : ℕ). replicate k Unmarked) (omega arith);
}

-- the marks of one more instruction, where all places after were unmarked
marks_grow : (before : List Mark) (i : Instr) (at n : ℕ) → length before ≡ at → 0 < i.len → i.len ≤ n
    → set (before ++ replicate n Unmarked) at (mark_of i) ≡ (before ++ instr_marks i) ++ replicate (n - i.len) Unmarked
marks_grow before i at n len some long =
    let first : replicate n Unmarked ≡ Unmarked ∷ (replicate (i.len - 1) Unmarked ++ replicate (n - i.len) Unmarked)
    = ap (λ (k : ℕ). replicate k Unmarked) n-is ∙ ap (λ (z : List Mark). Unmarked ∷ z)
    (sym (replicate-append-replicate (i.len - 1) (n - i.len) Unmarked)) in
    ap (λ (z : List Mark). set (before ++ z) at (mark_of i)) first
    ∙ set_at before Unmarked (replicate (i.len - 1) Unmarked ++ replicate (n - i.len) Unmarked) (mark_of i) at len
    ∙ sym (append_assoc before (instr_marks i) (replicate (n - i.len) Unmarked))
  where
    n-is : n ≡ suc ((i.len - 1) + (n - i.len))
    n-is = omega arith

-- a masked register
abbrev some_mask : ℕ → Option ℕ
some_mask r = Some r

-- a register that is masked after an instruction is one that it masks, and no bundle begins there
masked_from : (b : Bool) (m : Option ℕ) (r : ℕ) → cond b None m ≡ Some r → (b ≡ false) × (m ≡ Some r)
masked_from true m r e = absurd cc
masked_from false m r e = (refl, e)

-- a register that an instruction masks is masked after it, unless a bundle begins there
masked_by : (b : Bool) (m : Option ℕ) (r : ℕ) → b ≡ false → m ≡ Some r → cond b None m ≡ Some r
masked_by true m r e f = absurd cc
masked_by false m r e f = f

-- a test for zero that fails
not_start : (n : ℕ) → n ≢ 0 → (n == 0) ≡ false
not_start n h = go (n == 0) refl
  where
    go : (b : Bool) → (n == 0) ≡ b → b ≡ false
    go true e = absurd (h (eqb-true n 0 e))
    go false e = refl

-- the places of an instruction and of the one after it lie in one bundle, unless that begins one
same_bundle : (at len : ℕ) → at % 32 + len ≤ 32 → (at + len) % 32 ≢ 0 → at / 32 ≡ (at + len) / 32
same_bundle at len inside inner = omega (arith, inside, inner)

-- an instruction that stays in its bundle ends at no start of one
bundle_begun : (at len : ℕ) → 0 < len → at / 32 ≡ (at + len) / 32 → (at + len) % 32 ≢ 0
bundle_begun at len some same = λ e. omega (arith, some, same, e)

-- the mask that the last instruction leaves
mask_left : (front : List Piece) (p : Piece) (at r : ℕ) → place front ≡ at → 0 < length p.bytes → at % 32 + length p.bytes ≤ 32
    → (masked_after p.instr (at + length p.bytes) ≡ Some r) ↔ FollowsMask (front ++ p ∷ []) r
mask_left front p at r here some inside = (
  λ e. (
      let n = masked_from ((at + length p.bytes) % 32 == 0) p.instr.masks r e in
      record {
        earlier = front;
        mask = p;
        last = refl;
        masks = n.1;
        together = ap (λ (k : ℕ). k / 32) here ∙ same_bundle at (length p.bytes) inside (eqb-false _ _ n.0)
            ∙ ap (λ (k : ℕ). k / 32) (sym there);
      }),
  λ f. (
      let w = split_last front f.earlier p f.mask f.last in
      let together : at / 32 ≡ (at + length p.bytes) / 32
      = ap (λ (k : ℕ). k / 32) (sym here) ∙ ap (λ (z : List Piece). place z / 32) w.0 ∙ f.together ∙ ap (λ (k : ℕ). k / 32) there in
      masked_by ((at + length p.bytes) % 32 == 0) p.instr.masks r (not_start _ (bundle_begun at (length p.bytes) some together))
      (ap (λ (q : Piece). q.instr.masks) w.1 ∙ f.masks)),
)
  where
    there : place (front ++ p ∷ []) ≡ at + length p.bytes
    there = place-push front p ∙ ap (λ (k : ℕ). k + length p.bytes) here

-- the code is read up to the end of one more instruction
pub grown : (code : List ℕ) (at w n : ℕ) (masked : Option ℕ) (marks : List Mark) (i : Instr) → HasRead code at masked marks
    → w + at % 32 ≡ 32 → at ≤ length code → MayFollow (take w (drop at code)) masked i → n ≡ i.len
    → HasRead code (at + n) (masked_after i (at + n)) (set marks at (mark_of i))
grown code at w n masked marks i h w-is in_code f n-is =
    let bytes : List ℕ = f.front.front in
    let l = spells_some f.front.front i f.front.spells in
    let in_window : length f.front.front ≤ w = omega (arith, f.inside, length-take w (drop at code), l.0) in
    let in_rest : i.len ≤ length code - at = omega (arith, f.inside, length-take w (drop at code), length-drop at code) in
    let rest : h.rest ≡ f.front.front ++ (f.front.rest ++ drop w h.rest)
    = sym (take-append-drop w h.rest)
    ∙ ap (λ (z : List ℕ). z ++ drop w h.rest) (ap (λ (z : List ℕ). take w z) (sym (rest_is code h.rest h.front at h.reads.parts h.here))
    ∙ f.front.parts)
    ∙ append_assoc f.front.front f.front.rest (drop w h.rest) in
    let inside : at % 32 + length f.front.front ≤ 32 = omega (arith, in_window, w-is) in
    let len : n ≡ length f.front.front = n-is ∙ l.0 in
    let marks_len : length (marks_of h.front) ≡ at = length-marks_of h.front h.reads.sound.spelled ∙ h.here in
    subst (λ (k : ℕ). HasRead code (at + k) (masked_after i (at + k)) (set marks at (mark_of i))) (sym len)
    (record {
      front = h.front ++ (record { bytes = f.front.front; instr = i }) ∷ [];
      rest = f.front.rest ++ drop w h.rest;
      reads = record {
        parts = h.reads.parts ∙ ap (λ (z : List ℕ). code_of h.front ++ z) rest
            ∙ sym (append_assoc (code_of h.front) f.front.front (f.front.rest ++ drop w h.rest))
            ∙ ap (λ (z : List ℕ). z ++ (f.front.rest ++ drop w h.rest))
            (sym (code_of-push h.front (record { bytes = f.front.front; instr = i })));
        sound = sound_push h.front (record { bytes = f.front.front; instr = i }) h.reads.sound f.front.spells
            (subst (λ (k : ℕ). k % 32 + length f.front.front ≤ 32) (sym h.here) inside)
            (λ indirect. (h.masked_is i.reg).0 (f.paired indirect));
      };
      here = place-push h.front (record { bytes = f.front.front; instr = i }) ∙ ap (λ (k : ℕ). k + length f.front.front) h.here;
      masked_is = λ r. mask_left h.front (record { bytes = f.front.front; instr = i }) at r h.here (omega (arith, l.0, l.1)) inside;
      marks_are = ap (λ (z : List Mark). set z at (mark_of i)) h.marks_are
          ∙ marks_grow (marks_of h.front) i at (length code - at) marks_len l.1 in_rest
          ∙ ap (λ (z : List Mark). z ++ replicate (length code - at - i.len) Unmarked)
          (sym (marks_of-push h.front (record { bytes = f.front.front; instr = i })))
          ∙ ap (λ (k : ℕ). marks_of (h.front ++ (record { bytes = f.front.front; instr = i }) ∷ []) ++ replicate k Unmarked)
          (omega (arith, l.0));
    })

-- an instruction of a window ends in the code
pub grown_in : (code : List ℕ) (at w n : ℕ) (masked : Option ℕ) (i : Instr) → at ≤ length code
    → MayFollow (take w (drop at code)) masked i → n ≡ i.len → at + n ≤ length code
grown_in code at w n masked i h f len = omega (arith, f.inside, length-take w (drop at code), length-drop at code)

-- code that has been read up to its end has all been read
pub read_all : (code : List ℕ) (at : ℕ) (masked : Option ℕ) (marks : List Mark) → HasRead code at masked marks → at ≡ length code
    → HasReadAll code marks
read_all code at masked marks h end =
    let none : h.rest ≡ [] = empty h.rest (omega
    (arith, ap (λ (z : List ℕ). length z) h.reads.parts, length-append (code_of h.front) h.rest, h.here, end)) in
    record {
      pieces = h.front;
      parts = h.reads.parts ∙ ap (λ (z : List ℕ). code_of h.front ++ z) none ∙ append-nil (code_of h.front);
      sound = h.reads.sound;
      marks_are = h.marks_are ∙ ap (λ (k : ℕ). marks_of h.front ++ replicate k Unmarked) {y = 0} (omega (arith, end))
          ∙ append-nil (marks_of h.front);
    }
  where
    empty : (xs : List ℕ) → length xs ≡ 0 → xs ≡ []
    empty [] e = refl
    empty (x ∷ xs) e = absurd (omega arith)
