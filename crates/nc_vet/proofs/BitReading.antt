-- Bundles whose bits tell the states after their bytes are read, and judged where their transfers are.
use Rattle.std.proofs.Common.{◌≡◌, ◌≢◌, ℕ, ◌+◌, ◌-◌, ◌*◌, ◌/◌, ◌%◌, ◌^◌, ◌<◌, ◌≤◌, Bool, true, false, None, List, [], ◌++◌, length, drop}
use Rattle.std.proofs.Common.{replicate, get_or, append_assoc, append-nil, refl, sym, subst, ◌∙◌, ap, arith, inl, inr, ◌==◌, ◌&&◌}
use Rattle.std.proofs.Common.{eqb-true, eq-eqb, nat_le, nat_lt, lt-ltb, ltb-true, w8, Fits}
use Rattle.std.specs.Prelude.{slice_index, ℤ}
use Rattle.std.specs.Int.{bit_at, w32, cast_signed, cast_unsigned, from_le_bytes}
use Rattle.std.proofs.lemmas.Bool.{cases_lt, eqb-false}
use Rattle.std.proofs.lemmas.Nat.Bits.{bit_at_above}
use Rattle.std.proofs.lemmas.List.{get_or_default, get_or-append-add, length-append, take_all, ext_get_or, nil_from_length}
use Rattle.nc_decode.specs.declared.automaton.TheConstants.{END, AFTER_SHORT, AFTER_NEAR, AFTER_PAIR}
use Rattle.nc_decode.specs.declared.instruction.Instr.{Instr}
use Rattle.nc_decode.specs.declared.instruction.Mark.TheVariants.{Unmarked}
use Rattle.nc_decode.specs.Transfers.{target}
use Rattle.nc_decode.specs.Spelling.{mask}
use Rattle.nc_base.proofs.Offered.{true_or_false}
use Rattle.nc_decode.proofs.Offered.{length-marks_in, marks_in-at}
use Rattle.nc_decode.proofs.Offered.{exact, masks_exactly}
use Rattle.nc_decode.proofs.Offered.{spells_some}
use Rattle.nc_decode.specs.declared.bundle.Bundle.{Bundle}
use Rattle.nc_vet.specs.Chunk.{Piece, code_of, place, AreSpelled, FollowsMask, marks_of, IsTarget}
use Rattle.nc_vet.specs.machinery.Steps.{HasReadTo, HasReadAll, HasJudged}
use Rattle.nc_decode.specs.Bits.{starts_instruction, is_second, no_bits, mark_by_bits, marks_in}
use Rattle.nc_vet.specs.machinery.Running.{state_after, state_before, TellsBundle, AreTold, EndsFront}
use Rattle.nc_vet.specs.machinery.Scans.{AreStates, second, mark_by, IsDisplaced, IsScanned}
use Rattle.nc_vet.specs.machinery.Judged.{short_to, near_to, IsGood, AreJudged}
use Rattle.nc_vet.proofs.Pieces.{code_of-push, length-marks_of, piece_some, place-push}
use Rattle.nc_vet.proofs.Judging.{code_at}
use Rattle.nc_vet.proofs.MarkedPlaces.{target_inside, target_outside}
use Rattle.nc_vet.proofs.RunStates.{state_next}
use Rattle.nc_vet.proofs.Scanning.{scans}

-- the bundle of a place is told
told_at : (code : List ℕ) (bundles : List Bundle) (k : ℕ) → AreTold code bundles → k < 32 * length bundles
    → TellsBundle code (32 * (k / 32)) (get_or bundles (k / 32) no_bits)
told_at code bundles k t lt = (t (k / 32) (omega (arith, lt))).0

-- the states after the places, where bundles are told and an instruction ends at a place in the one after them
states_told : (code : List ℕ) (bundles : List Bundle) (to : ℕ) → ((k : ℕ) → Fits w8 (get_or code k 0)) → length code % 32 ≡ 0
    → AreTold code bundles → 32 * length bundles ≤ to → to ≤ 32 * length bundles + 32 → to ≤ length code
    → (32 * length bundles < to → END ≤ state_after code (to - 1)) → AreStates code to (state_after code)
states_told code bundles to fits even t low near high end = record {
  next = state_next code;
  whole = λ k lt last. elim (cases_lt k (32 * length bundles)) [
    | inl early ↦ omega (
      arith,
      (t (k / 32) (omega (arith, early))).1,
      ap (λ (j : ℕ). state_after code j) {x = 32 * (k / 32) + 31} {y = k}
          (omega (arith, last)),
    )
    | inr late ↦ omega (
      arith,
      end (omega (arith, lt, late)),
      ap (λ (j : ℕ). state_after code j) {x = to - 1} {y = k}
          (omega (arith, lt, late, last, near)),
    )
  ];
  ended = λ k is. elim (cases_lt (32 * length bundles) to) [
    | inl later ↦ omega (arith, end later, ap (λ (j : ℕ). state_after code j) {x = to - 1} {y = k} (omega (arith, is)))
    | inr same ↦ omega (
      arith,
      (t (k / 32) (omega (arith, is, same, low))).1,
      ap
          (λ (j : ℕ). state_after code j) {x = 32 * (k / 32) + 31} {y = k} (omega (arith, is, same, low)),
    )
  ];
  bytes = λ k d lt. omega (arith, get_or_default code k d 0 lt, (fits k).fits);
  bundles = even;
  within = high;
}

-- the bits of all bundles tell the states after all places
all_told : (code : List ℕ) (bundles : List Bundle) → ((k : ℕ) → Fits w8 (get_or code k 0)) → AreTold code bundles
    → length code ≡ 32 * length bundles → AreStates code (length code) (state_after code)
all_told code bundles fits t len = states_told code bundles (length code) fits (omega (arith, len)) t (omega (arith, len))
    (omega (arith, len)) (omega arith) (λ later. absurd (omega (arith, later, len)))

-- the last byte of a mask
mask_ends : (front : List Piece) (rest code : List ℕ) (at r : ℕ) → code ≡ code_of front ++ rest → AreSpelled front → place front ≡ at
    → FollowsMask front r → slice_index code (at - 1) ≡ 0xE0
mask_ends front rest code at r parts spelled here f =
    let s = spelled f.earlier [] f.mask f.last in
    let l = spells_some f.mask.bytes f.mask.instr s in
    let three : f.mask.bytes ≡ mask r =
    sym (take_all f.mask.instr.len f.mask.bytes (omega (arith, l.0)))
    ∙ ((masks_exactly f.mask.bytes f.mask.instr r ((exact f.mask.bytes f.mask.instr).1
    (record { front = f.mask.bytes; rest = []; parts = sym (append-nil f.mask.bytes); spells = s }))).0 f.masks).0 in
    let len : length f.mask.bytes ≡ 3 = ap (λ (z : List ℕ). length z) three in
    let end : place front ≡ place f.earlier + length f.mask.bytes = ap (λ (z : List Piece). place z) f.last
    ∙ place-push f.earlier f.mask in
    let bytes : code ≡ code_of f.earlier ++ (mask r ++ rest) =
    parts ∙ ap (λ (z : List Piece). code_of z ++ rest) f.last ∙ ap (λ (z : List ℕ). z ++ rest) (code_of-push f.earlier f.mask)
    ∙ append_assoc (code_of f.earlier) f.mask.bytes rest ∙ ap (λ (z : List ℕ). code_of f.earlier ++ (z ++ rest)) three in
    ap (λ (z : List ℕ). slice_index z (at - 1)) bytes
    ∙ ap (λ (k : ℕ). get_or (code_of f.earlier ++ (mask r ++ rest)) k 0) {x = at - 1} {y = length (code_of f.earlier) + 2}
    (omega (arith, here, end, len))
    ∙ get_or-append-add (code_of f.earlier) (mask r ++ rest) 2 0

-- no register is masked after instructions that end where a bundle does
none_masked : (pieces : List Piece) (at r : ℕ) → AreSpelled pieces → place pieces ≡ at → at % 32 ≡ 0 → FollowsMask pieces r → ⊥
none_masked pieces at r spelled here start f =
    let one = piece_some pieces f.earlier [] f.mask spelled f.last in
    let end : place pieces ≡ place f.earlier + length f.mask.bytes = ap (λ (z : List Piece). place z) f.last
    ∙ place-push f.earlier f.mask in
    omega (arith, here, end, one.0, one.1, f.together, start)

-- a front after which reading may continue is sound instructions, and no register is masked after it
pub read_front : (code : List ℕ) (bundles : List Bundle) (at : ℕ) → ((k : ℕ) → Fits w8 (get_or code k 0)) → length code % 32 ≡ 0
    → EndsFront code bundles at → HasReadTo code at None
read_front code bundles at fits even e =
    let s = scans code at (state_after code) (states_told code bundles at fits even e.told e.low e.near e.high
    (λ later. (e.ended later).0)) in (
      marks_of s.pieces ++ replicate (length code - at) Unmarked,
      record {
        front = s.pieces;
        rest = s.rest;
        reads = s.reads;
        here = s.here;
        masked_is = λ r. (
          λ is. absurd cc,
          λ f. elim (cases_lt (32 * length bundles) at) [
            | inl later ↦ absurd ((e.ended later).1 (mask_ends s.pieces s.rest code at r s.reads.parts s.reads.sound.spelled s.here f))
            | inr same ↦ absurd (none_masked s.pieces at r s.reads.sound.spelled s.here (omega (arith, same, e.low)) f)
          ],
        );
        marks_are = refl;
      },
    )

-- ---- marks

-- a word of 32 bits has no bit at 32
no_bit : (n k : ℕ) → n < 2 ^ 32 → k ≡ 32 → (bit_at n k == 1) ≡ false
no_bit n k small is = ap (λ (b : ℕ). b == 1) (bit_at_above n 32 k small (omega (arith, is)))

-- the bit of a second half tells what the states do
second_told : (code : List ℕ) (bundles : List Bundle) (k : ℕ) → TellsBundle code (32 * (k / 32)) (get_or bundles (k / 32) no_bits)
    → is_second (get_or bundles (k / 32) no_bits) (k % 32) ≡ second (state_after code) k
second_told code bundles k w = elim (cases_lt (k % 32) 31) [
  | inl inner ↦
      (w.pairs (k % 32 + 1) (omega (arith, inner)) ∙ ap (λ (j : ℕ). state_after code j == AFTER_PAIR) {y = k + 1} (omega arith))
      ∙ sym (ap (λ (b : Bool). b && (state_after code (k + 1) == AFTER_PAIR)) (lt-ltb (k % 32) 31 inner))
  | inr last ↦
      no_bit (get_or bundles (k / 32) no_bits).pairs (k % 32 + 1) w.small (omega (arith, last))
      ∙ sym (ap (λ (b : Bool). b && (state_after code (k + 1) == AFTER_PAIR)) (ltb-false_of (k % 32) 31 last))
]
  where
    ltb-false_of : (a b : ℕ) → b ≤ a → nat_lt a b ≡ false
    ltb-false_of a b le = go (nat_lt a b) refl
      where
        go : (x : Bool) → nat_lt a b ≡ x → nat_lt a b ≡ false
        go true e = absurd (omega (arith, le, ltb-true a b e))
        go false e = e

-- the bit of a start tells what the states do
start_told : (code : List ℕ) (bundles : List Bundle) (k : ℕ) → TellsBundle code (32 * (k / 32)) (get_or bundles (k / 32) no_bits)
    → starts_instruction (get_or bundles (k / 32) no_bits) (k % 32) ≡ nat_le END (state_before (state_after code) k)
start_told code bundles k w = elim (true_or_false (k % 32 == 0)) [
  | inl first ↦ rw first refl
  | inr inner ↦
      (let some : k % 32 ≢ 0 = eqb-false _ 0 inner in
      rw inner (w.ends (k % 32 - 1) (omega arith) ∙ ap (λ (j : ℕ). nat_le END (state_after code j)) (omega (arith, some))))
]

-- the mark by the bits is that by the states
mark_told : (code : List ℕ) (bundles : List Bundle) (k : ℕ) → TellsBundle code (32 * (k / 32)) (get_or bundles (k / 32) no_bits)
    → mark_by_bits code bundles k ≡ mark_by (state_after code) code k
mark_told code bundles k w = rw (second_told code bundles k w, start_told code bundles k w) refl

-- ---- the reading

-- the marks by the bits are those of the scanned instructions
scanned_marks : (code : List ℕ) (bundles : List Bundle) → AreTold code bundles → length code ≡ 32 * length bundles
    → (s : IsScanned code (length code) (state_after code)) → marks_in code bundles ≡ marks_of s.pieces
scanned_marks code bundles t len s =
    ext_get_or Unmarked (marks_in code bundles) (marks_of s.pieces)
    (length-marks_in code bundles ∙ sym s.here ∙ sym (length-marks_of s.pieces s.reads.sound.spelled))
    (λ k lt. (let in_code : k < length code = omega (arith, lt, length-marks_in code bundles) in
    marks_in-at code bundles k Unmarked in_code ∙ mark_told code bundles k (told_at code bundles k t (omega (arith, in_code, len)))
    ∙ sym (s.marks k in_code)))

-- all of the code is scanned instructions
all_parts : (code : List ℕ) (s : IsScanned code (length code) (state_after code)) → code ≡ code_of s.pieces
all_parts code s =
    s.reads.parts
    ∙ ap (λ (z : List ℕ). code_of s.pieces ++ z) (nil_from_length s.rest
    (omega (arith, ap (λ (z : List ℕ). length z) s.reads.parts, length-append (code_of s.pieces) s.rest, s.here)))
    ∙ append-nil (code_of s.pieces)

-- code whose bundles are told is read
read_told : (code : List ℕ) (bundles : List Bundle) → AreTold code bundles → length code ≡ 32 * length bundles
    → (s : IsScanned code (length code) (state_after code)) → HasReadAll code (marks_in code bundles)
read_told code bundles t len s =
    record { pieces = s.pieces; parts = all_parts code s; sound = s.reads.sound; marks_are = scanned_marks code bundles t len s }

-- ---- the targets

-- a good address may be a target
good_target : (base limit : ℕ) (code : List ℕ) (bundles : List Bundle) (to : ℕ) → (r : HasReadAll code (marks_in code bundles))
    → IsGood base limit code bundles to → IsTarget base limit r.pieces to
good_target base limit code bundles to r g =
    let len = length-marks_in code bundles in
    elim (cases_lt to base) [
      | inl under ↦ outside (λ low lt. omega (arith, low, under))
      | inr over ↦ elim (cases_lt (to - base) (length code)) [
        | inl inner ↦ target_inside base limit to r.pieces (marks_in code bundles) r.marks_are r.sound.spelled over
            (omega (arith, len, inner)) (marks_in-at code bundles (to - base) Unmarked inner ∙ g.inside over inner)
        | inr past ↦ outside (λ low lt. omega (arith, lt, past))
      ]
    ]
  where
    outside : (base ≤ to → to - base < length code → ⊥) → IsTarget base limit r.pieces to
    outside out = target_outside base limit to r.pieces (marks_in code bundles) r.marks_are r.sound.spelled
        (λ low lt. out low (omega (arith, lt, length-marks_in code bundles))) (g.outside out).0 (g.outside out).1

-- where the state is that after a displacement of one byte, the place's bit is set
set_bit : (n s k : ℕ) → (bit_at n k == 1) ≡ (s == AFTER_SHORT) → s ≡ AFTER_SHORT → bit_at n k ≡ 1
set_bit n s k e is = eqb-true _ 1 (e ∙ eq-eqb s AFTER_SHORT is)

-- where the state is that after a displacement of four bytes, the place's bit is set
set_near : (n s k : ℕ) → (bit_at n k == 1) ≡ (s == AFTER_NEAR) → s ≡ AFTER_NEAR → bit_at n k ≡ 1
set_near n s k e is = eqb-true _ 1 (e ∙ eq-eqb s AFTER_NEAR is)

-- where a displaced transfer goes is good
displaced_good : (base limit : ℕ) (code : List ℕ) (bundles : List Bundle) → AreTold code bundles → length code ≡ 32 * length bundles
    → (n : ℕ) → AreJudged base limit code bundles n → (i : Instr) (at end : ℕ)
    → end ≡ at + i.len → 0 < end → end ≤ length code → end ≤ 32 * n → IsDisplaced (state_after code) code end i
    → IsGood base limit code bundles (target i (base + at))
displaced_good base limit code bundles t len n j i at end end-is some in_code judged (inl d) =
    let z : ℕ = end - 1 in
    let w = told_at code bundles (end - 1) t (omega (arith, in_code, some, len)) in
    let place : 32 * ((end - 1) / 32) + (end - 1) % 32 ≡ end - 1 = omega arith in
    let bit = set_bit (get_or bundles ((end - 1) / 32) no_bits).shorts (state_after code (32 * ((end - 1) / 32) + (end - 1) % 32))
    ((end - 1) % 32) (w.shorts ((end - 1) % 32) (omega arith)) (ap (λ (k : ℕ). state_after code k) place ∙ d.0) in
    let good = (j ((end - 1) / 32) (omega (arith, judged, some))).shorts ((end - 1) % 32) (omega arith) bit in
    let rel = ap (λ (x : ℤ). cast_unsigned w32 x) d.1 in
    subst (λ (to : ℕ). IsGood base limit code bundles to)
    (ap (λ (k : ℕ). short_to base code k) place ∙ ap (λ (n : ℕ). n % 2 ^ 32) {x = base + (end - 1) + 1 + cast_unsigned w32
    (cast_signed w8 (slice_index code (end - 1)))} {y = base + at + i.len + cast_unsigned w32 i.rel}
    (omega (arith, rel, end-is, some))) good
displaced_good base limit code bundles t len n j i at end end-is some in_code judged (inr d) =
    let w = told_at code bundles (end - 1) t (omega (arith, in_code, some, len)) in
    let place : 32 * ((end - 1) / 32) + (end - 1) % 32 ≡ end - 1 = omega arith in
    let bit = set_near (get_or bundles ((end - 1) / 32) no_bits).nears (state_after code (32 * ((end - 1) / 32) + (end - 1) % 32))
    ((end - 1) % 32) (w.nears ((end - 1) % 32) (omega arith)) (ap (λ (k : ℕ). state_after code k) place ∙ d.0) in
    let good = (j ((end - 1) / 32) (omega (arith, judged, some))).nears ((end - 1) % 32) (omega arith) bit in
    let rel = ap (λ (x : ℤ). cast_unsigned w32 x) d.2 ∙ ap (λ (n : ℕ). cast_unsigned w32
    (cast_signed w32 (from_le_bytes w32 (drop n code)))) {x = end - 4} {y = end - 1 - 3} (omega (arith, d.1)) in
    subst (λ (to : ℕ). IsGood base limit code bundles to)
    (ap (λ (k : ℕ). near_to base code k) place ∙ ap (λ (n : ℕ). n % 2 ^ 32) {x = base + (end - 1) + 1 + cast_unsigned w32
    (cast_signed w32 (from_le_bytes w32 (drop (end - 1 - 3) code)))} {y = base + at + i.len + cast_unsigned w32 i.rel}
    (omega (arith, rel, end-is, some))) good

-- all of the code is read, with its marks by the bits
pub read_bits : (code : List ℕ) (bundles : List Bundle) → ((k : ℕ) → Fits w8 (get_or code k 0)) → AreTold code bundles
    → length code ≡ 32 * length bundles → HasReadAll code (marks_in code bundles)
unfolding read_told
read_bits code bundles fits t len =
    read_told code bundles t len (scans code (length code) (state_after code) (all_told code bundles fits t len))

-- where the first bundles are judged, no instruction that begins in them has a bad target
pub judged_bits : (base limit : ℕ) (code : List ℕ) (bundles : List Bundle) (n : ℕ) → ((k : ℕ) → Fits w8 (get_or code k 0))
    → AreTold code bundles → length code ≡ 32 * length bundles → AreJudged base limit code bundles n
    → HasJudged base limit code (marks_in code bundles) (32 * n)
unfolding read_told
judged_bits base limit code bundles n fits t len j =
    let s = scans code (length code) (state_after code) (all_told code bundles fits t len) in
    let r = read_told code bundles t len s in
    record {
      read = r;
      good = λ k lt b a p e here d. (
          let one = piece_some s.pieces b a p s.reads.sound.spelled e in
          let whole = ap (λ (z : List ℕ). length z) (code_at code s.pieces b a p (all_parts code s) e) in
          let end : place b + length p.bytes ≤ length code = omega
          (arith, whole, length-append (code_of b) (p.bytes ++ code_of a), length-append p.bytes (code_of a)) in
          good_target base limit code bundles (target p.instr (base + k)) r
          (subst (λ (m : ℕ). IsGood base limit code bundles (target p.instr (base + m))) here
          (displaced_good base limit code bundles t len n j p.instr (place b) (place b + length p.bytes) (omega (arith, one.0))
          (omega (arith, one.0, one.1)) end (omega (arith, lt, here, s.reads.sound.inside b a p e)) (s.direct b a p e d))));
    }
