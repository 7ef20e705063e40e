-- What each state of the automaton waits for, and that its table says the next one.
use Rattle.std.proofs.Common.{◌≡◌, ℕ, zero, suc, ◌+◌, ◌-◌, ◌*◌, ◌/◌, ◌%◌, ◌<◌, Bool, true, false, List, [], ◌∷◌, Option, Some, None, get_or, refl}
use Rattle.std.proofs.Common.{ap, sym, ◌∙◌, arith, subst, length, inl, inr, ◌==◌, ◌&&◌, ◌||◌, eqb-true, ltb-true, nat_le, nat_lt}
use Rattle.std.specs.Prelude.{if◌then◌else◌, take, drop, ◌++◌}
use Rattle.std.specs.List.{flat_map}
use Rattle.std.proofs.Math.ListN.{get_or-append}
use Rattle.std.proofs.lemmas.List.{get_or-take, get_or-drop, get_or-append-add, length-take-le}
use Rattle.nc_decode.specs.declared.automaton.TheConstants.{ROWS, STATES}
use Rattle.nc_decode.specs.declared.entry.Entry.{Entry}
use Rattle.nc_decode.specs.declared.entry.Number.{Number}
use Rattle.nc_decode.specs.declared.entry.Number.TheVariants.{Short, Near}
use Rattle.nc_decode.specs.declared.entry.Prefix.{Prefix}
use Rattle.nc_decode.specs.declared.entry.Prefix.TheVariants.{Absent as Unprefixed, Word, Repeat, RepeatNot, Lock}
use Rattle.nc_decode.specs.Automaton.{next_state}
use Rattle.nc_decode.specs.machinery.Entries.{opcode_entry}
use Rattle.nc_decode.specs.Rows.{mod_of, reg_of}
use Rattle.nc_decode.specs.machinery.Shapes.{prefix_of, prefix_index, forms_of, coded_len, permits, has_sib, escapes}
use Rattle.nc_decode.specs.Spelling.{operand_len}
use Rattle.nc_base.proofs.Offered.{each, each_below}
use Rattle.nc_base.proofs.Offered.{both, true_or_false, chosen_true, chosen_false, each_below-at}

-- what has just been read
pub data Ended : Type 0 where
  plain : Ended
  masked : ℕ → Ended
  by_short : Ended
  by_near : Ended
  paired : Ended

-- what the automaton waits for: nothing any more; an opcode after a prefix, or after 0F; ModRM of these forms, with the
-- bytes of the number where reg is 0 and where it isn't; ModRM after 83, and the number after that of a register; ModRM of
-- FF after a mask; SIB where mod is 0; n bytes of a number; a displacement; and an instruction
pub data Stage : Type 0 where
  dead : Stage
  prefixed : Prefix → Stage
  escaped : Prefix → Stage
  operand : ℕ → ℕ → ℕ → Stage
  masking : Stage
  mask_number : ℕ → Stage
  transfer_after_mask : ℕ → Stage
  sib : ℕ → Stage
  number : ℕ → Stage
  short : Stage
  near : ℕ → Stage
  ended : Ended → Stage

-- n bytes more come next, or the instruction has ended
abbrev pub numbers : ℕ → Stage
numbers zero = ended plain
numbers (suc n) = number (suc n)

-- the number comes next
abbrev pub by_number : Prefix → Number → Stage
by_number p Short = short
by_number p Near = near 4
by_number p n = numbers (coded_len p n 0)

-- the forms that are no indirect transfer
abbrev pub calm : ℕ → ℕ
calm forms = if forms == 0x5743 then 0x4343 else forms

-- an opcode with this entry has been read
abbrev pub after_opcode : Prefix → Entry → Stage
after_opcode p e =
    if forms_of p e == 0 then dead
    else (if e.operand then operand (calm (forms_of p e)) (coded_len p e.number 0) (coded_len p e.number 1)
    else by_number p e.number)

-- an opcode comes next
abbrev pub opcode : Prefix → ℕ → Stage
opcode p b = if b == 0x0F then (if escapes p then escaped p else dead) else after_opcode p (opcode_entry false b)

-- a first byte: a prefix, or an opcode that no prefix stands before
abbrev pub unprefixed : Prefix → ℕ → Stage
unprefixed Unprefixed b = if b == 0x83 then masking else opcode Unprefixed b
unprefixed p b = prefixed p

-- an instruction begins, after the mask of a register or not
abbrev pub begun : Option ℕ → ℕ → Stage
begun None b = unprefixed (prefix_of b) b
begun (Some r) b = if b == 0xFF then transfer_after_mask r else unprefixed (prefix_of b) b

-- ModRM
abbrev pub modrm : ℕ → ℕ → ℕ → ℕ → Stage
modrm forms initial other b =
    let n = if reg_of b == 0 then initial else other in
    if permits forms b then (if has_sib b && (mod_of b == 0) then sib n else numbers (n + (operand_len b 0 - 1))) else dead

-- the register that has just been masked
abbrev pub masked_by : Ended → Option ℕ
masked_by (masked r) = Some r
masked_by _ = None

-- a mask's ModRM
abbrev pub masks_there : ℕ → Bool
masks_there b = nat_le 0xE0 b && nat_lt b 0xE8 && (if b == 0xE4 then false else true)

-- an indirect transfer on the register
abbrev pub goes_by : ℕ → ℕ → Bool
goes_by r b = (b == 0xD0 + r) || (b == 0xE0 + r)

-- the stage after one byte more
abbrev pub after : Stage → ℕ → Stage
after dead b = dead
after (prefixed p) b = opcode p b
after (escaped p) b = after_opcode p (opcode_entry true b)
after (operand forms initial other) b = modrm forms initial other b
after masking b = if masks_there b then mask_number (b - 0xE0) else modrm 0xFFFF 1 1 b
after (mask_number r) b = if b == 0xE0 then ended (masked r) else ended plain
after (transfer_after_mask r) b = if goes_by r b then ended paired else modrm 0x4343 0 0 b
after (sib n) b = numbers ((if b % 8 == 5 then 4 else 0) + n)
after (number n) b = numbers (n - 1)
after short b = ended by_short
after (near n) b = if n == 1 then ended by_near else near (n - 1)
after (ended k) b = begun (masked_by k) b

-- the states, from 0 on, in the order of `State`
abbrev pub stages : List Stage
stages =
    dead ∷ (prefixed Word) ∷ (prefixed Repeat) ∷ (prefixed RepeatNot) ∷ (prefixed Lock) ∷ (escaped Unprefixed) ∷
    (escaped Word) ∷ (escaped Lock) ∷ (operand 0x0003 0 0) ∷ (operand 0x000C 1 0) ∷ (operand 0x000C 4 0) ∷
    (operand 0x007F 1 1) ∷ (operand 0x007F 4 4) ∷ (operand 0x00E0 1 1) ∷ (operand 0x00FF 0 0) ∷
    (operand 0x0101 0 0) ∷ (operand 0x0101 1 1) ∷ (operand 0x0101 2 2) ∷ (operand 0x0101 4 4) ∷
    (operand 0x0303 0 0) ∷ (operand 0x4343 0 0) ∷ (operand 0xBFBF 0 0) ∷ (operand 0xBFBF 1 1) ∷
    (operand 0xF0F0 1 1) ∷ (operand 0xFDFD 1 0) ∷ (operand 0xFDFD 2 0) ∷ (operand 0xFDFD 4 0) ∷
    (operand 0xFFFF 0 0) ∷ (operand 0xFFFF 1 1) ∷ (operand 0xFFFF 2 2) ∷ (operand 0xFFFF 4 4) ∷ masking ∷
    (mask_number 0) ∷ (mask_number 1) ∷ (mask_number 2) ∷ (mask_number 3) ∷ (mask_number 5) ∷ (mask_number 6) ∷
    (mask_number 7) ∷ (transfer_after_mask 0) ∷ (transfer_after_mask 1) ∷ (transfer_after_mask 2) ∷ (transfer_after_mask 3)
    ∷ (transfer_after_mask 5) ∷ (transfer_after_mask 6) ∷ (transfer_after_mask 7) ∷ (sib 0) ∷
    (sib 1) ∷ (sib 2) ∷ (sib 4) ∷ (number 1) ∷ (number 2) ∷ (number 3) ∷ (number 4) ∷ (number 5) ∷ (number 6) ∷
    (number 7) ∷ (number 8) ∷ (number 9) ∷ short ∷ (near 1) ∷ (near 2) ∷ (near 3) ∷ (near 4) ∷ (operand 0x0002 0 0) ∷
    (ended plain) ∷ (ended (masked 0)) ∷ (ended (masked 1)) ∷ (ended (masked 2)) ∷ (ended (masked 3)) ∷ (ended (masked 5)) ∷
    (ended (masked 6)) ∷ (ended (masked 7)) ∷ (ended by_short) ∷ (ended by_near) ∷ (ended paired) ∷ []

-- the stage of a state
abbrev pub stage_of : ℕ → Stage
stage_of s = get_or stages s dead

-- equal prefixes
abbrev pub same_prefix : Prefix → Prefix → Bool
same_prefix p q = prefix_index p == prefix_index q

-- equal ends
abbrev pub same_end : Ended → Ended → Bool
same_end plain plain = true
same_end (masked r) (masked t) = r == t
same_end by_short by_short = true
same_end by_near by_near = true
same_end paired paired = true
same_end _ _ = false

-- equal stages
abbrev pub same_stage : Stage → Stage → Bool
same_stage dead dead = true
same_stage (prefixed p) (prefixed q) = same_prefix p q
same_stage (escaped p) (escaped q) = same_prefix p q
same_stage (operand f m n) (operand g j k) = (f == g) && (m == j) && (n == k)
same_stage masking masking = true
same_stage (mask_number r) (mask_number t) = r == t
same_stage (transfer_after_mask r) (transfer_after_mask t) = r == t
same_stage (sib m) (sib n) = m == n
same_stage (number m) (number n) = m == n
same_stage short short = true
same_stage (near m) (near n) = m == n
same_stage (ended k) (ended l) = same_end k l
same_stage _ _ = false

-- prefixes that the test finds equal are equal
prefix_same : (p q : Prefix) → same_prefix p q ≡ true → p ≡ q
prefix_same Unprefixed Unprefixed e = refl
prefix_same Word Word e = refl
prefix_same Repeat Repeat e = refl
prefix_same RepeatNot RepeatNot e = refl
prefix_same Lock Lock e = refl
prefix_same _ _ e = absurd cc

-- endings that the test finds equal are equal
end_same : (k l : Ended) → same_end k l ≡ true → k ≡ l
end_same plain plain e = refl
end_same (masked r) (masked t) e = ap (λ (x : ℕ). masked x) (eqb-true r t e)
end_same by_short by_short e = refl
end_same by_near by_near e = refl
end_same paired paired e = refl
end_same _ _ e = absurd cc

-- stages that the test finds equal are equal
pub stage_same : (x y : Stage) → same_stage x y ≡ true → x ≡ y
stage_same dead dead e = refl
stage_same (prefixed p) (prefixed q) e = ap (λ (z : Prefix). prefixed z) (prefix_same p q e)
stage_same (escaped p) (escaped q) e = ap (λ (z : Prefix). escaped z) (prefix_same p q e)
stage_same (operand f m n) (operand g j k) e =
    let one = both ((f == g) && (m == j)) (n == k) e in
    let two = both (f == g) (m == j) one.0 in
    rw (eqb-true f g two.0, eqb-true m j two.1, eqb-true n k one.1) refl
stage_same masking masking e = refl
stage_same (mask_number r) (mask_number t) e = ap (λ (x : ℕ). mask_number x) (eqb-true r t e)
stage_same (transfer_after_mask r) (transfer_after_mask t) e = ap (λ (x : ℕ). transfer_after_mask x) (eqb-true r t e)
stage_same (sib m) (sib n) e = ap (λ (x : ℕ). sib x) (eqb-true m n e)
stage_same (number m) (number n) e = ap (λ (x : ℕ). number x) (eqb-true m n e)
stage_same short short e = refl
stage_same (near m) (near n) e = ap (λ (x : ℕ). near x) (eqb-true m n e)
stage_same (ended k) (ended l) e = ap (λ (x : Ended). ended x) (end_same k l e)
stage_same _ _ e = absurd cc

-- a test of each element with its place, where the first stands at place k
abbrev each_numbered : (ℕ → ℕ → Bool) → ℕ → List ℕ → Bool
each_numbered t k [] = true
each_numbered t k (x ∷ xs) = elim (t k x) [ true ↦ each_numbered t (suc k) xs | false ↦ false ]

-- the first of a test of each, and the others
numbered_first : (t : ℕ → ℕ → Bool) (k x : ℕ) (xs : List ℕ) → each_numbered t k (x ∷ xs) ≡ true
    → (t k x ≡ true) × (each_numbered t (suc k) xs ≡ true)
numbered_first t k x xs e = elim (true_or_false (t k x)) [
  | inl is ↦ (is, chosen_true (t k x) (each_numbered t (suc k) xs) false true is e)
  | inr not ↦ absurd (let f : false ≡ true = chosen_false (t k x) (each_numbered t (suc k) xs) false true not e in cc)
]

-- a test of each element with its place, at one of them
numbered-at : (t : ℕ → ℕ → Bool) (k : ℕ) (xs : List ℕ) (b n : ℕ) → each_numbered t k xs ≡ true → b < length xs → n ≡ k + b
    → t n (get_or xs b 0) ≡ true
numbered-at t k [] b n e lt is = absurd (omega arith)
numbered-at t k (x ∷ xs) zero n e lt is =
    let same : k ≡ n = omega arith in subst (λ (j : ℕ). t j x ≡ true) same (numbered_first t k x xs e).0
numbered-at t k (x ∷ xs) (suc b) n e lt is = numbered-at t (suc k) xs b n (numbered_first t k x xs e).1 (omega arith) (omega arith)

-- a row of the table agrees with a stage, in the place of a row for each byte
abbrev agrees : List ℕ → Stage → Bool
agrees row x = (length row == 257) && each_numbered (λ b p. same_stage (stage_of (p / 257)) (after x b)) 0 (take 256 row)

-- each row of the table agrees with the stage of its state
tabled : each_below (λ s. agrees (get_or ROWS s []) (stage_of s)) STATES ≡ true
unfolding opcode_entry forms_of prefix_of coded_len permits
tabled = refl

-- the next state by the table has the stage that comes after the byte
pub next_stage : (s b : ℕ) → s < STATES → b < 256 → stage_of (next_state s b) ≡ after (stage_of s) b
unfolding next_state
next_stage s b s-lt b-lt =
    let row : List ℕ = get_or ROWS s [] in
    let test : ℕ → ℕ → Bool = λ x y. same_stage (stage_of (y / 257)) (after (stage_of s) x) in
    let h = both (length row == 257) (each_numbered test 0 (take 256 row))
    (each_below-at (λ t. agrees (get_or ROWS t []) (stage_of t)) STATES s tabled s-lt) in
    let long : length row ≡ 257 = eqb-true (length row) 257 h.0 in
    let here : get_or (take 256 row) b 0 ≡ get_or row b 0 = get_or-take 256 row b 0 b-lt in
    ap (λ (p : ℕ). stage_of (p / 257)) (sym here)
    ∙ stage_same _ _ (numbered-at test 0 (take 256 row) b b h.1 (omega (arith, length-take-le 256 row (omega (arith, long)), b-lt)) (omega arith))

-- the number is the place of a state's row in the table
abbrev is_place : ℕ → Bool
is_place p = (p % 257 == 0) && nat_lt (p / 257) STATES

placed : each (λ row. each is_place row) ROWS ≡ true
placed = refl

-- each row of the table has 257 numbers
long_rows : each (λ row. length row == 257) ROWS ≡ true
long_rows = refl

-- the first of a test of each
each_first : {A : Type 0} (t : A → Bool) (x : A) (xs : List A) → each t (x ∷ xs) ≡ true → (t x ≡ true) × (each t xs ≡ true)
each_first t x xs e = elim (true_or_false (t x)) [
  | inl is ↦ (is, chosen_true (t x) (each t xs) false true is e)
  | inr not ↦ absurd (let f : false ≡ true = chosen_false (t x) (each t xs) false true not e in cc)
]

-- where each number of a row is the place of a state's row, the one at an index is
row_placed : (row : List ℕ) (b : ℕ) → each is_place row ≡ true → is_place (get_or row b 0) ≡ true
row_placed [] b e = refl
row_placed (s ∷ row) zero e = (each_first is_place s row e).0
row_placed (s ∷ row) (suc b) e = row_placed row b (each_first is_place s row e).1

-- where each number of each row is the place of a state's row, the one at an index of a row is
table_placed : (rows : List (List ℕ)) (s b : ℕ) → each (λ row. each is_place row) rows ≡ true → is_place (get_or (get_or rows s []) b 0) ≡ true
table_placed [] s b e = refl
table_placed (row ∷ rows) zero b e = row_placed row b (each_first (λ r. each is_place r) row rows e).0
table_placed (row ∷ rows) (suc s) b e = table_placed rows s b (each_first (λ r. each is_place r) row rows e).1

-- the place in the table at a state and a byte is that of the row of the next state
pub place_lawful : (s b : ℕ) → (get_or (get_or ROWS s []) b 0 % 257 ≡ 0) × (get_or (get_or ROWS s []) b 0 / 257 < STATES)
place_lawful s b =
    let p : ℕ = get_or (get_or ROWS s []) b 0 in
    let h = both (p % 257 == 0) (nat_lt (p / 257) STATES) (table_placed ROWS s b placed) in
    (eqb-true (p % 257) 0 h.0, ltb-true (p / 257) STATES h.1)

-- the next state is one of the states
pub next_small : (s b : ℕ) → next_state s b < STATES
unfolding next_state
next_small s b = (place_lawful s b).1

-- in rows of 257 numbers one after the other, the number at a row and a place in it
flat_at : (rows : List (List ℕ)) (s b : ℕ) → each (λ row. length row == 257) rows ≡ true → s < length rows → b < 257
    → get_or (flat_map (λ x. x) rows) (257 * s + b) 0 ≡ get_or (get_or rows s []) b 0
flat_at [] s b e lt b-lt = absurd (omega (arith, lt))
flat_at (row ∷ rows) zero b e lt b-lt =
    let long : length row ≡ 257 = eqb-true (length row) 257 (each_first (λ r. length r == 257) row rows e).0 in
    ap (λ (k : ℕ). get_or (row ++ flat_map (λ x. x) rows) k 0) {x = 257 * 0 + b} {y = b} (omega arith)
    ∙ get_or-append row (flat_map (λ x. x) rows) 0 b (omega (arith, long, b-lt))
flat_at (row ∷ rows) (suc s) b e lt b-lt =
    let h = each_first (λ r. length r == 257) row rows e in
    let long : length row ≡ 257 = eqb-true (length row) 257 h.0 in
    ap (λ (k : ℕ). get_or (row ++ flat_map (λ x. x) rows) k 0) {x = 257 * suc s + b} {y = length row + (257 * s + b)} (omega (arith, long))
    ∙ get_or-append-add row (flat_map (λ x. x) rows) (257 * s + b) 0 ∙ flat_at rows s b h.1 (omega (arith, lt)) b-lt

-- the number of the flattened table behind a byte at the place of a row
pub flat_row : (p b : ℕ) → p % 257 ≡ 0 → p / 257 < STATES → b < 256
    → get_or (drop b (flat_map (λ x. x) ROWS)) p 0 ≡ get_or (get_or ROWS (p / 257) []) b 0
flat_row p b even low b-lt =
    get_or-drop b (flat_map (λ x. x) ROWS) p 0
    ∙ ap (λ (k : ℕ). get_or (flat_map (λ x. x) ROWS) k 0) {x = b + p} {y = 257 * (p / 257) + b} (omega (arith, even))
    ∙ flat_at ROWS (p / 257) b long_rows (omega (arith, low)) (omega (arith, b-lt))
