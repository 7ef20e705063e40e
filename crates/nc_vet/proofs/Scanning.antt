-- A run of the automaton over whole bundles finds sound instructions.
use Rattle.std.proofs.Common.{◌≡◌, ◌≢◌, ℕ, zero, suc, ◌+◌, ◌-◌, ◌%◌, ◌<◌, ◌≤◌, Bool, true, false, List, [], ◌∷◌, ◌++◌, length, take}
use Rattle.std.proofs.Common.{drop, get_or, Option, Some, None, refl, sym, subst, ◌∙◌, ap, arith, inl, inr, append_assoc, ◌==◌, eqb-true}
use Rattle.std.proofs.Common.{nat_lt, nat_le, All, le-leb, ltb-true, lt-ltb, leb-true, eq-eqb}
use Rattle.std.specs.Prelude.{IsTrue}
use Rattle.std.specs.Int.{w8, w32, cast_signed, from_le_bytes}
use Rattle.std.proofs.lemmas.Bool.{cases_lt, eqb-false, false_from_ne_true}
use Rattle.std.proofs.lemmas.List.{length-drop, length-take-le, take-append-drop, drop_more, get_or-take, get_or-drop}
use Rattle.std.proofs.lemmas.List.{get_or_append_left, get_or-append_right, get_or-replicate}
use Rattle.nc_decode.specs.declared.automaton.TheConstants.{STATES, END, AFTER_PAIR}
use Rattle.nc_decode.specs.declared.instruction.Instr.{Instr}
use Rattle.nc_decode.specs.declared.instruction.Mark.{Mark}
use Rattle.nc_decode.specs.declared.instruction.Mark.TheVariants.{Unmarked, Plain, After}
use Rattle.nc_decode.specs.Automaton.{next_state, masked_at, LeadsToEnd, Ends}
use Rattle.nc_decode.specs.Transfers.{is_direct, is_indirect}
use Rattle.nc_decode.proofs.Offered.{spells_some}
use Rattle.nc_base.proofs.Offered.{true_or_false, both, cond_is_true, cond_is_false}
use Rattle.nc_decode.proofs.Offered.{reads_by_states, none_is_paired}
use Rattle.nc_decode.proofs.Offered.{next_small}
use Rattle.nc_vet.specs.Chunk.{Piece, code_of, place, FollowsMask, mark_of, instr_marks, marks_of}
use Rattle.nc_vet.specs.Faults.{IsSoundFront}
use Rattle.nc_vet.specs.machinery.Running.{state_before}
use Rattle.nc_vet.specs.machinery.Scans.{AreStates, second, mark_by, IsDisplaced, Scans}
use Rattle.nc_vet.proofs.Splits.{split_none, split_push}
use Rattle.nc_vet.proofs.Pieces.{code_of-push, place-push, marks_of-push, length-marks_of, none_sound, sound_push, rest_is}

-- ---- the states

-- the state before a place that begins no bundle
before_inner : (S : ℕ → ℕ) (k : ℕ) → k % 32 ≢ 0 → state_before S k ≡ S (k - 1)
before_inner S k h = go (k % 32 == 0) refl
  where
    go : (b : Bool) → (k % 32 == 0) ≡ b → state_before S k ≡ S (k - 1)
    go true e = absurd (h (eqb-true _ 0 e))
    go false e = rw e refl

-- the state before a bundle
before_first : (S : ℕ → ℕ) (k : ℕ) → k % 32 ≡ 0 → state_before S k ≡ END
before_first S k h = rw h refl

-- the state after each place is one of the states
state_small : (code : List ℕ) (to : ℕ) (S : ℕ → ℕ) (k : ℕ) → AreStates code to S → k < length code → S k < STATES
state_small code to S k a lt = omega (arith, a.next k lt, next_small (state_before S k) (get_or code k 0))

-- the state before each place is one of the states
before_small : (code : List ℕ) (to : ℕ) (S : ℕ → ℕ) (k : ℕ) → AreStates code to S → k < length code → state_before S k < STATES
before_small code to S k a lt = go (k % 32 == 0) refl
  where
    go : (b : Bool) → (k % 32 == 0) ≡ b → state_before S k < STATES
    go true e = rw e (omega arith)
    go false e = rw e (state_small code to S (k - 1) a (omega (arith, lt)))

-- after a state inside an instruction no bundle begins
inner_place : (code : List ℕ) (to : ℕ) (S : ℕ → ℕ) (k : ℕ) → AreStates code to S → k < to → S k < END → k % 32 < 31
inner_place code to S k a lt inside = elim (cases_lt (k % 32) 31) [
  | inl ok ↦ ok
  | inr last ↦ absurd (omega (arith, a.whole k lt (omega (arith, last)), inside))
]

-- where an indirect transfer ends, the byte before is its first
second_inside : (code : List ℕ) (to : ℕ) (S : ℕ → ℕ) (k : ℕ) → AreStates code to S → k < length code → second S k ≡ true → (S k < END)
    × (S (k + 1) ≡ AFTER_PAIR) × (k + 1 < length code)
second_inside code to S k a lt e =
    let w = both (nat_lt (k % 32) 31) (S (k + 1) == AFTER_PAIR) e in
    let in_bundle : k % 32 < 31 = ltb-true (k % 32) 31 w.0 in
    let in_code : k + 1 < length code = omega (arith, in_bundle, a.bundles, lt) in
    let pair : S (k + 1) ≡ AFTER_PAIR = eqb-true (S (k + 1)) AFTER_PAIR w.1 in
    let inner : state_before S (k + 1) ≡ S (k + 1 - 1) = before_inner S (k + 1) (λ z. omega (arith, z, in_bundle)) in
    let same : S (k + 1 - 1) ≡ S k = ap S (omega arith) in (
      elim (cases_lt (S k) END) [
        | inl inside ↦ inside
        | inr ended ↦ absurd (none_is_paired (S k) (get_or code (k + 1) 0) ended (state_small code to S k a lt) (a.bytes (k + 1) 0 in_code)
            (ap (λ (s : ℕ). next_state s (get_or code (k + 1) 0)) (sym (inner ∙ same)) ∙ sym (a.next (k + 1) in_code) ∙ pair))
      ],
      pair,
      in_code,
    )

-- ---- one instruction

-- a byte inside an instruction, in front of bytes that lead to its end, leads there with them
leads_more : (s c e : ℕ) (bs : List ℕ) → next_state s c < END → LeadsToEnd (next_state s c) bs e → LeadsToEnd s (c ∷ bs) e
leads_more s c e [] lt l = absurd l
leads_more s c e (b ∷ bs) lt l = (lt, l)

-- bytes from one end to the next
leads_from : (code : List ℕ) (to : ℕ) (S : ℕ → ℕ) → AreStates code to S → (n b s : ℕ) → b + n < to → s ≡ state_before S b
    → ((k : ℕ) → b ≤ k → k < b + n → S k < END) → END ≤ S (b + n)
    → LeadsToEnd s (take (suc n) (drop b code)) (S (b + n))
leads_from code to S a zero b s lt is inner ended =
    let here : b + 0 ≡ b = omega arith in
    let first : drop b code ≡ get_or code b 0 ∷ drop (b + 1) code = drop_more code b 0 (omega (arith, lt, a.within)) in
    subst (λ (z : List ℕ). LeadsToEnd s (take (suc zero) z) (S (b + 0))) (sym first)
    (ap S here ∙ a.next b (omega (arith, lt, a.within)) ∙ ap (λ (t : ℕ). next_state t (get_or code b 0)) (sym is), ended)
leads_from code to S a (suc n) b s lt is inner ended =
    let b-lt : b < length code = omega (arith, lt, a.within) in
    let first : drop b code ≡ get_or code b 0 ∷ drop (b + 1) code = drop_more code b 0 b-lt in
    let state : next_state s (get_or code b 0) ≡ S b = ap (λ (t : ℕ). next_state t (get_or code b 0)) is ∙ sym (a.next b b-lt) in
    let low : S b < END = inner b (omega arith) (omega arith) in
    let next : S b ≡ state_before S (b + 1) = ap S {y = b + 1 - 1} (omega arith)
    ∙ sym (before_inner S (b + 1) (λ z. omega (arith, z, inner_place code to S b a (omega (arith, lt)) low))) in
    let there : b + 1 + n ≡ b + suc n = omega arith in
    let rest = leads_from code to S a n (b + 1) (next_state s (get_or code b 0)) (omega (arith, lt)) (state ∙ next)
    (λ k lo hi. inner k (omega (arith, lo)) (omega (arith, hi))) (subst (λ (j : ℕ). END ≤ S j) (sym there) ended) in
    subst (λ (z : List ℕ). LeadsToEnd s (take (suc (suc n)) z) (S (b + suc n))) (sym first)
    (leads_more s (get_or code b 0) (S (b + suc n)) (take (suc n) (drop (b + 1) code)) (omega (arith, state, low))
    (subst (λ (j : ℕ). LeadsToEnd (next_state s (get_or code b 0)) (take (suc n) (drop (b + 1) code)) (S j)) there rest))

-- what has been scanned so far
record Scanned (code : List ℕ) (S : ℕ → ℕ) (at : ℕ) : Type 0 where
  front : List Piece
  rest : List ℕ
  reads : IsSoundFront code rest front
  here : place front ≤ at
  inner : (k : ℕ) → place front ≤ k → k < at → S k < END
  begins : END ≤ state_before S (place front)
  masks : (r : ℕ) → masked_at (state_before S (place front)) ≡ Some r → FollowsMask front r
  marks : (k : ℕ) → k < place front → get_or (marks_of front) k Unmarked ≡ mark_by S code k
  direct : (b a : List Piece) (p : Piece) → front ≡ b ++ p ∷ a → IsTrue (is_direct p.instr.flow)
      → IsDisplaced S code (place b + length p.bytes) p.instr

-- before the first place nothing has been scanned
none_scanned : (code : List ℕ) (S : ℕ → ℕ) → Scanned code S 0
none_scanned code S = record {
  front = [];
  rest = code;
  reads = record { parts = refl; sound = none_sound };
  here = omega arith;
  inner = λ k lo hi. absurd (omega (arith, hi));
  begins = omega arith;
  masks = λ r h. absurd cc;
  marks = λ k lt. absurd (omega (arith, lt));
  direct = λ b a p e d. absurd (split_none b a p e);
}

-- ---- an instruction that ends at a place

-- an instruction from one place to another, by the states
record Read (code : List ℕ) (S : ℕ → ℕ) (b at : ℕ) : Type 0 where
  instr : Instr
  ends : Ends (state_before S b) (S at) (take (suc (at - b)) (drop b code)) instr
  inside : b % 32 + suc (at - b) ≤ 32
  long : length (take (suc (at - b)) (drop b code)) ≡ suc (at - b)

-- the states from one place to before another are inside an instruction
abbrev AllInside : (ℕ → ℕ) → ℕ → ℕ → Type 0
AllInside S b at = (k : ℕ) → b ≤ k → k < at → S k < END

-- the bytes from where an instruction begins to where it ends, by the states, are read as one
read_from : (code : List ℕ) (to : ℕ) (S : ℕ → ℕ) (b at : ℕ) → AreStates code to S → b ≤ at → at < to → AllInside S b at → END ≤ state_before S b
    → END ≤ S at → Read code S b at
read_from code to S b at a le lt inner begins ended =
    let sum : b + (at - b) ≡ at = omega arith in
    let leads = leads_from code to S a (at - b) b (state_before S b) (omega (arith, lt)) refl (λ k lo hi. inner k lo (omega (arith, hi)))
    (subst (λ (j : ℕ). END ≤ S j) (sym sum) ended) in
    let there : LeadsToEnd (state_before S b) (take (suc (at - b)) (drop b code)) (S at) = subst
    (λ (j : ℕ). LeadsToEnd (state_before S b) (take (suc (at - b)) (drop b code)) (S j)) sum leads in
    let long : length (take (suc (at - b)) (drop b code)) ≡ suc (at - b) = length-take-le (suc (at - b)) (drop b code)
    (omega (arith, length-drop b code, lt, a.within)) in
    let fits : All (λ x. x < 256) (take (suc (at - b)) (drop b code)) = λ k d k-lt. (
    let in_take : k < suc (at - b) = omega (arith, k-lt, long) in
    let is : get_or (take (suc (at - b)) (drop b code)) k d ≡ get_or code (b + k) d = get_or-take (suc (at - b)) (drop b code) k d in_take
    ∙ get_or-drop b code k d in
    omega (arith, is, a.bytes (b + k) d (omega (arith, in_take, lt, a.within)))) in
    let r = reads_by_states (state_before S b) (S at) (take (suc (at - b)) (drop b code)) begins
    (before_small code to S b a (omega (arith, lt, a.within))) fits there in
    record {
      instr = r.0;
      ends = r.1;
      long = long;
      inside = elim (cases_lt 32 (b % 32 + suc (at - b))) [
        | inl over ↦
            (let k : ℕ = b + (31 - b % 32) in
            let last : (b + (31 - b % 32)) % 32 ≡ 31 = omega arith in
            let low : S (b + (31 - b % 32)) < END = inner (b + (31 - b % 32)) (omega arith) (omega (arith, over)) in
            absurd (omega (arith, low, a.whole (b + (31 - b % 32)) (omega (arith, over, lt)) last)))
        | inr fine ↦ fine
      ];
    }

-- a byte of an instruction is that of the code at its place
read_byte : (code : List ℕ) (b n k : ℕ) → k < n → get_or (take n (drop b code)) k 0 ≡ get_or code (b + k) 0
read_byte code b n k lt = get_or-take n (drop b code) k 0 lt ∙ get_or-drop b code k 0

-- bytes with the same first four denote the same number of four bytes
four_bytes : (xs ys : List ℕ) → get_or xs 0 0 ≡ get_or ys 0 0 → get_or xs 1 0 ≡ get_or ys 1 0 → get_or xs 2 0 ≡ get_or ys 2 0
    → get_or xs 3 0 ≡ get_or ys 3 0 → from_le_bytes w32 xs ≡ from_le_bytes w32 ys
four_bytes xs ys p q r s = rw (p, q, r, s) refl

-- where a direct transfer ends, its displacement is the last byte or the last four
displaced : (code : List ℕ) (S : ℕ → ℕ) (b at : ℕ) → b ≤ at → (r : Read code S b at) → IsTrue (is_direct r.instr.flow)
    → IsDisplaced S code (b + suc (at - b)) r.instr
displaced code S b at le r d =
    let n : ℕ = suc (at - b) in
    let end : b + suc (at - b) - 1 ≡ at = omega arith in
    let bytes : List ℕ = take (suc (at - b)) (drop b code) in
    elim (r.ends.direct d) [
      | inl near ↦ inl (
        ap S end ∙ near.0,
        near.1 ∙ ap (λ (x : ℕ). cast_signed w8 x) (ap (λ (k : ℕ). get_or (take (suc (at - b)) (drop b code)) k 0) {y = at - b}
            (omega (arith, r.long)) ∙ read_byte code b (suc (at - b)) (at - b) (omega arith)
            ∙ ap (λ (k : ℕ). get_or code k 0) (omega arith)),
      )
      | inr far ↦ inr (
        ap S end ∙ far.0,
        omega (arith, far.1, r.long),
        far.2 ∙ ap (λ (x : ℕ). cast_signed w32 x) (four_bytes (drop (length (take (suc (at - b)) (drop b code)) - 4)
            (take (suc (at - b)) (drop b code))) (drop (b + suc (at - b) - 4) code)
            (byte_of 0 far.1 (omega arith)) (byte_of 1 far.1 (omega arith)) (byte_of 2 far.1 (omega arith))
            (byte_of 3 far.1 (omega arith))),
      )
    ]
  where
    byte_of : (j : ℕ) → 4 ≤ length (take (suc (at - b)) (drop b code)) → j < 4
        → get_or (drop (length (take (suc (at - b)) (drop b code)) - 4) (take (suc (at - b)) (drop b code))) j 0 ≡ get_or
        (drop (b + suc (at - b) - 4) code) j 0
    byte_of j four lt =
        get_or-drop (length (take (suc (at - b)) (drop b code)) - 4) (take (suc (at - b)) (drop b code)) j 0
        ∙ read_byte code b (suc (at - b)) (length (take (suc (at - b)) (drop b code)) - 4 + j) (omega (arith, r.long, four, lt))
        ∙ ap (λ (k : ℕ). get_or code k 0) (omega (arith, r.long, four))
        ∙ sym (get_or-drop (b + suc (at - b) - 4) code j 0)

-- ---- its marks

-- a mark by the states is plain where an instruction begins that is no second half
plain_by : (S : ℕ → ℕ) (code : List ℕ) (k : ℕ) → second S k ≡ false → END ≤ state_before S k → mark_by S code k ≡ Plain
plain_by S code k e low = rw (e, le-leb END (state_before S k) low) refl

-- a mark by the states is none where no instruction begins
unmarked_by : (S : ℕ → ℕ) (code : List ℕ) (k : ℕ) → second S k ≡ false → state_before S k < END → mark_by S code k ≡ Unmarked
unmarked_by S code k e low = rw (e, false_from_ne_true (nat_le END (state_before S k)) (λ h. omega (arith, leb-true END (state_before S k) h, low))) refl

-- a mark by the states is that of a second half where one begins
after_by : (S : ℕ → ℕ) (code : List ℕ) (k : ℕ) → second S k ≡ true → mark_by S code k ≡ After (get_or code (k + 1) 0 % 8)
after_by S code k e = rw e refl

-- a second half is one by its state
second_made : (S : ℕ → ℕ) (k : ℕ) → k % 32 < 31 → S (k + 1) ≡ AFTER_PAIR → second S k ≡ true
second_made S k lt e = rw (lt-ltb (k % 32) 31 lt, eq-eqb (S (k + 1)) AFTER_PAIR e) refl

-- only the first of two bytes begins an indirect transfer
second_only : (code : List ℕ) (to : ℕ) (S : ℕ → ℕ) (b at k : ℕ) → AreStates code to S → b ≤ at → at < to → AllInside S b at → END ≤ S at
    → (r : Read code S b at) → b ≤ k → k ≤ at → second S k ≡ true → (k ≡ b) × (at ≡ b + 1) × (S at ≡ AFTER_PAIR)
second_only code to S b at k a le lt inner ended r lo hi e =
    let w = second_inside code to S k a (omega (arith, hi, lt, a.within)) e in
    let before_end : k < at = elim (cases_lt k at) [
      | inl ok ↦ ok
      | inr past ↦ absurd
          (omega (arith, w.0, ap S {x = k} {y = at} (omega (arith, past, hi)), ended))
    ] in
    let at_is : k + 1 ≡ at = elim (cases_lt (k + 1) at) [
      | inl early ↦ absurd
          (omega (arith, w.1, inner (k + 1) (omega (arith, lo)) early))
      | inr ok ↦ omega (arith, ok, before_end)
    ] in
    let pair : S at ≡ AFTER_PAIR = ap S (sym at_is) ∙ w.1 in
    let two : length (take (suc (at - b)) (drop b code)) ≡ 2 = (r.ends.paired pair).1 in
    (omega (arith, two, r.long, at_is), omega (arith, two, r.long, le), pair)

-- the mark of an instruction is that by the states where it begins
first_mark : (code : List ℕ) (to : ℕ) (S : ℕ → ℕ) (b at : ℕ) → AreStates code to S → b ≤ at → at < to → AllInside S b at → END ≤ state_before S b
    → END ≤ S at → (r : Read code S b at) → mark_of r.instr ≡ mark_by S code b
first_mark code to S b at a le lt inner begins ended r =
    elim (true_or_false (S at == AFTER_PAIR)) [
      | inl is ↦
          (let pair : S at ≡ AFTER_PAIR = eqb-true (S at) AFTER_PAIR is in
          let p = r.ends.paired pair in
          let next : at ≡ b + 1 = omega (arith, p.1, r.long, le) in
          let sec : second S b ≡ true = second_made S b (omega (arith, r.inside, next)) (ap S (sym next) ∙ pair) in
          let reg : r.instr.reg ≡ get_or code (b + 1) 0 % 8 = p.2
          ∙ ap (λ (x : ℕ). x % 8) (read_byte code b (suc (at - b)) 1 (omega (arith, next))) in
          cond_is_true (is_indirect r.instr.flow) (After r.instr.reg) Plain (r.ends.indirect ∙ is) ∙ ap (λ (x : ℕ). After x) reg
          ∙ sym (after_by S code b sec))
      | inr other ↦
          (let none : second S b ≡ false = false_from_ne_true (second S b)
          (λ e. (let w = second_only code to S b at b a le lt inner ended r (omega arith) le e in
          absurd (let f : true ≡ false = sym (eq-eqb (S at) AFTER_PAIR w.2) ∙ other in cc))) in
          cond_is_false (is_indirect r.instr.flow) (After r.instr.reg) Plain (r.ends.indirect ∙ other)
          ∙ sym (plain_by S code b none begins))
    ]

-- inside an instruction the marks by the states are none
later_mark : (code : List ℕ) (to : ℕ) (S : ℕ → ℕ) (b at k : ℕ) → AreStates code to S → b ≤ at → at < to → AllInside S b at → END ≤ S at
    → (r : Read code S b at) → b < k → k ≤ at → Unmarked ≡ mark_by S code k
later_mark code to S b at k a le lt inner ended r lo hi =
    let none : second S k ≡ false = false_from_ne_true (second S k) (λ e. absurd
    (omega (arith, (second_only code to S b at k a le lt inner ended r (omega (arith, lo)) hi e).0, lo))) in
    let not_first : k % 32 ≢ 0 = λ z. omega (arith, z, r.inside, lo, hi) in
    let low : state_before S k < END = omega (arith, before_inner S k not_first, inner (k - 1) (omega (arith, lo)) (omega (arith, lo, hi))) in
    sym (unmarked_by S code k none low)

-- the mark at each place of an instruction is that by the states
mark_here : (code : List ℕ) (to : ℕ) (S : ℕ → ℕ) (b at k : ℕ) → AreStates code to S → b ≤ at → at < to → AllInside S b at
    → END ≤ state_before S b → END ≤ S at → (r : Read code S b at)
    → r.instr.len ≡ length (take (suc (at - b)) (drop b code)) → b ≤ k → k < at + 1
    → get_or (instr_marks r.instr) (k - b) Unmarked ≡ mark_by S code k
mark_here code to S b at k a le lt inner begins ended r len lo hi =
    elim (cases_lt b k) [
      | inl later ↦
          ap (λ (j : ℕ). get_or (instr_marks r.instr) j Unmarked) {y = suc (k - b - 1)} (omega (arith, later))
          ∙ get_or-replicate (r.instr.len - 1) (k - b - 1) Unmarked Unmarked (omega (arith, len, r.long, later, hi))
          ∙ later_mark code to S b at k a le lt inner ended r later (omega (arith, hi))
      | inr here ↦
          ap (λ (j : ℕ). get_or (instr_marks r.instr) j Unmarked) {y = 0} (omega (arith, here))
          ∙ first_mark code to S b at a le lt inner begins ended r
          ∙ ap (λ (j : ℕ). mark_by S code j) {x = b} {y = k} (omega (arith, here, lo))
    ]

-- a register that is masked by the states after an instruction was masked by it
masked_next : (code : List ℕ) (S : ℕ → ℕ) (at : ℕ) (front : List Piece) (r : Read code S (place front) at) → place front ≤ at → (q : ℕ)
    → masked_at (state_before S (at + 1)) ≡ Some q
    → FollowsMask (front ++ (record { bytes = take (suc (at - place front)) (drop (place front) code); instr = r.instr }) ∷ []) q
masked_next code S at front r le q e =
    elim (true_or_false ((at + 1) % 32 == 0)) [
      | inl first ↦ absurd (let f : none ≡ some q = ap masked_at (sym (before_first S (at + 1) (eqb-true _ 0 first))) ∙ e in cc)
      | inr other ↦
          (let inner : (at + 1) % 32 ≢ 0 = eqb-false _ 0 other in
          let state : state_before S (at + 1) ≡ S at = before_inner S (at + 1) inner ∙ ap S (omega arith) in
          record {
            earlier = front;
            mask = record { bytes = take (suc (at - place front)) (drop (place front) code); instr = r.instr };
            last = refl;
            masks = r.ends.masks q (ap masked_at (sym state) ∙ e);
            together = omega (
              arith,
              inner,
              r.inside,
              r.long,
              le,
              place-push front
                  (record { bytes = take (suc (at - place front)) (drop (place front) code); instr = r.instr }),
            );
          })
    ]
  where
    none : Option ℕ
    none = None

    some : ℕ → Option ℕ
    some x = Some x

-- ---- the step

-- with an instruction that ends at a place, code is scanned up to behind the place
pushed : (code : List ℕ) (to : ℕ) (S : ℕ → ℕ) (at : ℕ) → AreStates code to S → at < to → (h : Scanned code S at) → END ≤ S at
    → Scanned code S (at + 1)
pushed code to S at a lt h ended =
    let b : ℕ = place h.front in
    let r = read_from code to S (place h.front) at a h.here lt h.inner h.begins ended in
    let bytes : List ℕ = take (suc (at - place h.front)) (drop (place h.front) code) in
    let p : Piece = record { bytes = take (suc (at - place h.front)) (drop (place h.front) code); instr = r.instr } in
    let s = spells_some (take (suc (at - place h.front)) (drop (place h.front) code)) r.instr r.ends.spells in
    let there : place (h.front ++ p ∷ []) ≡ at + 1 = omega (arith, place-push h.front p, r.long, h.here) in
    let rest_here : drop (place h.front) code ≡ h.rest = rest_is code h.rest h.front (place h.front) h.reads.parts refl in
    let marks_len : length (marks_of h.front) ≡ place h.front = length-marks_of h.front h.reads.sound.spelled in
    record {
      front = h.front ++ p ∷ [];
      rest = drop (suc (at - place h.front)) h.rest;
      reads = record {
        parts = h.reads.parts
            ∙ ap (λ (z : List ℕ). code_of h.front ++ z) (sym (take-append-drop (suc (at - place h.front)) h.rest)
            ∙ ap (λ (z : List ℕ). take (suc (at - place h.front)) z ++ drop (suc (at - place h.front)) h.rest) (sym rest_here))
            ∙ sym (append_assoc (code_of h.front) (take (suc (at - place h.front)) (drop (place h.front) code))
            (drop (suc (at - place h.front)) h.rest))
            ∙ ap (λ (z : List ℕ). z ++ drop (suc (at - place h.front)) h.rest) (sym (code_of-push h.front p));
        sound = sound_push h.front p h.reads.sound r.ends.spells (omega (arith, r.inside, r.long))
            (λ indirect. h.masks r.instr.reg (r.ends.paired (eqb-true (S at) AFTER_PAIR
            (sym r.ends.indirect ∙ is_true (is_indirect r.instr.flow) indirect))).0);
      };
      here = omega (arith, there);
      inner = λ k lo hi. absurd (omega (arith, there, lo, hi));
      begins = subst (λ (k : ℕ). END ≤ state_before S k) (sym there) (begins_next (at + 1) (omega arith)
          (subst (λ (k : ℕ). END ≤ S k) {x = at} {y = at + 1 - 1} (omega arith) ended));
      masks = λ q e. masked_next code S at h.front r h.here q (ap (λ (k : ℕ). masked_at (state_before S k)) (sym there) ∙ e);
      marks = λ k k-lt. ap (λ (z : List Mark). get_or z k Unmarked) (marks_of-push h.front p) ∙ (elim (cases_lt k (place h.front)) [
        | inl earlier ↦ get_or_append_left (marks_of h.front) (instr_marks r.instr) Unmarked k (omega (arith, marks_len, earlier))
            ∙ h.marks k earlier
        | inr here ↦ get_or-append_right (marks_of h.front) (instr_marks r.instr) (place h.front) k Unmarked marks_len here
            ∙ mark_here code to S (place h.front) at k a h.here lt h.inner h.begins ended r s.0 here (omega (arith, k-lt, there))
      ]);
      direct = λ before2 after2 q e d. elim (split_push h.front before2 after2 p q e) [
        | inl w ↦ subst (λ (x : Piece). IsTrue (is_direct x.instr.flow) → IsDisplaced S code (place before2 + length x.bytes) x.instr) w.1
            (λ d2. subst (λ (n : ℕ). IsDisplaced S code n r.instr) {x = place h.front + suc
            (at - place h.front)} {y = place before2 + length (take (suc (at - place h.front)) (drop (place h.front) code))}
            (omega (arith, ap (λ (z : List Piece). place z) w.0, r.long)) (displaced code S (place h.front) at h.here r d2)) d
        | inr w ↦ h.direct before2 w.0 q w.1 d
      ];
    }
  where
    is_true : (x : Bool) → IsTrue x → x ≡ true
    is_true true t = refl
    is_true false t = absurd cc

    begins_next : (k : ℕ) → 0 < k → END ≤ S (k - 1) → END ≤ state_before S k
    begins_next k some low = elim (true_or_false (k % 32 == 0)) [
      | inl e ↦ rw e (omega arith)
      | inr e ↦ rw e low
    ]

-- code is scanned up to one more place
scanned_more : (code : List ℕ) (to : ℕ) (S : ℕ → ℕ) (at : ℕ) → AreStates code to S → at < to → Scanned code S at → Scanned code S (at + 1)
scanned_more code to S at a lt h = elim (cases_lt (S at) END) [
  | inl inside ↦ record {
    front = h.front;
    rest = h.rest;
    reads = h.reads;
    here = omega (arith, h.here);
    inner = λ k lo hi. elim (cases_lt k at) [
      | inl early ↦ h.inner k lo early
      | inr last ↦ omega (arith, inside, ap S {x = k} {y = at} (omega (arith, last, hi)))
    ];
    begins = h.begins;
    masks = h.masks;
    marks = h.marks;
    direct = h.direct;
  }
  | inr ended ↦ pushed code to S at a lt h ended
]

-- code is scanned up to each place
scanned_to : (code : List ℕ) (to : ℕ) (S : ℕ → ℕ) → AreStates code to S → (n : ℕ) → n ≤ to → Scanned code S n
scanned_to code to S a zero le = none_scanned code S
scanned_to code to S a (suc n) le =
    subst (λ (k : ℕ). Scanned code S k) {x = n + 1} {y = suc n} (omega arith)
    (scanned_more code to S n a (omega (arith, le)) (scanned_to code to S a n (omega (arith, le))))

-- wherever the states say so, code is scanned
pub scans : Scans
scans code to S a =
    let h = scanned_to code to S a to (omega arith) in
    let all : place h.front ≡ to = elim (cases_lt (place h.front) to) [
      | inl short ↦ absurd (omega
          (arith, h.inner (to - 1) (omega (arith, short)) (omega (arith, short)), a.ended (to - 1) (omega (arith, short))))
      | inr whole ↦ omega (arith, whole, h.here)
    ] in
    record {
      pieces = h.front;
      rest = h.rest;
      reads = h.reads;
      here = all;
      marks = λ k lt. h.marks k (omega (arith, lt, all));
      direct = h.direct;
    }
