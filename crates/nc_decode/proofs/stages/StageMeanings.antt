-- What the bytes after an instruction's begin say at each stage of the automaton, and that one more byte leads on.
use Rattle.std.proofs.Common.{◌≡◌, ◌≢◌, ℕ, zero, suc, ◌+◌, ◌-◌, ◌%◌, ◌<◌, ◌≤◌, Bool, true, false, List, [], ◌∷◌, ◌++◌, Option, Some}
use Rattle.std.proofs.Common.{Result, Ok, Err, length, drop, get_or, refl, sym, ◌∙◌, ap, arith, inl, inr, ◌==◌, ◌&&◌, eqb-true, nat_lt}
use Rattle.std.proofs.Common.{append_assoc, append-nil, not}
use Rattle.std.specs.Prelude.{if◌then◌else◌, slice_index}
use Rattle.std.specs.Int.{w8, w32, cast_signed, from_le_bytes}
use Rattle.std.proofs.lemmas.Bool.{eqb-false}
use Rattle.std.proofs.lemmas.List.{length_push, get_or-drop}
use Rattle.nc_decode.specs.declared.entry.Entry.{Entry}
use Rattle.nc_decode.specs.declared.entry.Number.{Number}
use Rattle.nc_decode.specs.declared.entry.Number.TheVariants.{Absent, Byte, Sized, Offset, Short, Near, TestByte, TestSized}
use Rattle.nc_decode.specs.declared.entry.Prefix.{Prefix}
use Rattle.nc_decode.specs.declared.entry.Prefix.TheVariants.{Absent as Unprefixed, Word, Repeat, RepeatNot, Lock}
use Rattle.nc_decode.specs.declared.entry.Shape.{Shape}
use Rattle.nc_decode.specs.declared.instruction.DecodeFault.{DecodeFault}
use Rattle.nc_decode.specs.declared.instruction.DecodeFault.TheVariants.{Truncated}
use Rattle.nc_decode.specs.declared.instruction.Instr.{Instr}
use Rattle.nc_decode.specs.machinery.Reading.{reading, rel_of}
use Rattle.nc_decode.specs.Rows.{mod_of, reg_of, rm_of}
use Rattle.nc_decode.specs.machinery.Shapes.{◌>>=◌, forms_of, coded_len, permits, flow_of, reg_if, has_sib, sized_operand, operand_shape}
use Rattle.nc_decode.specs.machinery.Shapes.{escaped_shape, opcode_shape, shape_of}
use Rattle.nc_decode.specs.Spelling.{operand_len}
use Rattle.nc_decode.specs.Transfers.{is_direct, is_indirect}
use Rattle.nc_base.proofs.Offered.{both, true_or_false, cond_is_true, cond_is_false}
use Rattle.nc_decode.proofs.reading.ReadIsSpelled.{instr_at}
use Rattle.nc_decode.proofs.reading.Readings.{reads_whole}
use Rattle.nc_decode.proofs.stages.Stages.{Ended, plain, masked, by_short, by_near, paired, Stage, dead, prefixed, escaped, operand, masking}
use Rattle.nc_decode.proofs.stages.Stages.{mask_number, transfer_after_mask, sib, number, short, near, ended, numbers, modrm, after}

-- ---- the meanings

-- the answer with a shape
abbrev pub ok : Shape → Result Shape DecodeFault
ok s = Ok s

-- the bytes fix this shape, with at least n more after them
abbrev pub Fixed : List ℕ → ℕ → Shape → Type 0
Fixed pre n s = (rest : List ℕ) → n ≤ length rest → shape_of (pre ++ rest) ≡ Ok s

-- n bytes more end an instruction that is no transfer
pub record WaitsFor (n : ℕ) (pre : List ℕ) : Type 0 where
  pub shape : Shape
  pub fixed : Fixed pre n shape
  pub total : shape.head + shape.number_len ≡ length pre + n
  pub direct : is_direct shape.flow ≡ false
  pub indirect : is_indirect shape.flow ≡ false

-- n bytes more end a transfer whose displacement has four bytes
pub record WaitsForNear (n : ℕ) (pre : List ℕ) : Type 0 where
  pub shape : Shape
  pub fixed : Fixed pre n shape
  pub head : shape.head + 4 ≡ length pre + n
  pub number : shape.number ≡ Near
  pub number_len : shape.number_len ≡ 4
  pub indirect : is_indirect shape.flow ≡ false

-- one byte more ends a transfer whose displacement it is
pub record WaitsForShort (pre : List ℕ) : Type 0 where
  pub shape : Shape
  pub fixed : Fixed pre 1 shape
  pub head : shape.head ≡ length pre
  pub number : shape.number ≡ Short
  pub number_len : shape.number_len ≡ 1
  pub indirect : is_indirect shape.flow ≡ false

-- ModRM comes next, of these forms at least, and a number of `initial` bytes where its reg is 0 and of `other` bytes where it isn't
pub record WaitsForOperand (forms initial other : ℕ) (pre : List ℕ) : Type 0 where
  pub prefix : Prefix
  pub entry : Entry
  pub shapes : (rest : List ℕ) → shape_of (pre ++ rest) ≡ operand_shape prefix (length pre) entry rest
  pub initial_is : coded_len prefix entry.number 0 ≡ initial
  pub other_is : coded_len prefix entry.number 1 ≡ other
  pub permitted : (b : ℕ) → b < 256 → permits forms b ≡ true
      → (permits (forms_of prefix entry) b ≡ true) × (is_direct (flow_of entry (reg_of b)) ≡ false)
      × (is_indirect (flow_of entry (reg_of b)) ≡ false)

-- what has ended; `o` is the register that was masked directly before
abbrev pub IsKind : Option ℕ → Ended → List ℕ → Instr → Type 0
IsKind o plain pre i = (is_direct i.flow ≡ false) × (is_indirect i.flow ≡ false)
IsKind o (masked r) pre i = (is_direct i.flow ≡ false) × (is_indirect i.flow ≡ false) × (pre ≡ 0x83 ∷ (0xE0 + r) ∷ 0xE0 ∷ []) × (r < 8)
    × (r ≢ 4)
IsKind o by_short pre i = (is_indirect i.flow ≡ false) × (i.rel ≡ cast_signed w8 (slice_index pre (length pre - 1)))
IsKind o by_near pre i = (is_indirect i.flow ≡ false) × (4 ≤ length pre)
    × (i.rel ≡ cast_signed w32 (from_le_bytes w32 (drop (length pre - 4) pre)))
IsKind o paired pre i = (is_direct i.flow ≡ false) × (is_indirect i.flow ≡ true) × (o ≡ Some i.reg) × (length pre ≡ 2)
    × (i.reg ≡ slice_index pre 1 % 8)

-- the bytes are read as one whole instruction
pub record Finished (o : Option ℕ) (k : Ended) (pre : List ℕ) : Type 0 where
  pub instr : Instr
  pub read : reading pre ≡ Ok instr
  pub len : instr.len ≡ length pre
  pub kind : IsKind o k pre instr

-- what the bytes say at a stage
abbrev pub Meant : Option ℕ → Stage → List ℕ → Type 0
Meant o dead pre = Unit {0}
Meant o (prefixed p) pre = (length pre ≡ 1) × ((rest : List ℕ) → shape_of (pre ++ rest) ≡ opcode_shape p 1 rest)
Meant o (escaped p) pre = (rest : List ℕ) → shape_of (pre ++ rest) ≡ escaped_shape p (length pre) rest
Meant o (operand forms initial other) pre = WaitsForOperand forms initial other pre
Meant o masking pre = (pre ≡ 0x83 ∷ []) × WaitsForOperand 0xFFFF 1 1 pre
Meant o (mask_number r) pre = (pre ≡ 0x83 ∷ (0xE0 + r) ∷ []) × (r < 8) × (r ≢ 4) × WaitsFor 1 pre
Meant o (transfer_after_mask r) pre = (pre ≡ 0xFF ∷ []) × (r < 8) × (o ≡ Some r) × WaitsForOperand 0x4343 0 0 pre
Meant o (sib n) pre = (b : ℕ) → b < 256 → WaitsFor ((if b % 8 == 5 then 4 else 0) + n) (pre ++ b ∷ [])
Meant o (number n) pre = (0 < n) × WaitsFor n pre
Meant o short pre = WaitsForShort pre
Meant o (near n) pre = (0 < n) × WaitsForNear n pre
Meant o (ended k) pre = Finished o k pre

-- ---- bytes alone

-- one byte more at the end of some bytes, and then the rest, are the bytes, and then that byte in front of the rest
pub more : (pre rest : List ℕ) (b : ℕ) → (pre ++ b ∷ []) ++ rest ≡ pre ++ b ∷ rest
more pre rest b = append_assoc pre (b ∷ []) rest

-- a shape that bytes fix with n more after them is fixed by them and one byte more, with one fewer after them
fixed_more : (pre : List ℕ) (b n m : ℕ) (s : Shape) → n ≡ m + 1 → Fixed pre n s → Fixed (pre ++ b ∷ []) m s
fixed_more pre b n m s e f rest long = ap shape_of (more pre rest b) ∙ f (b ∷ rest) (omega (arith, e, long))

-- where the bytes that fix a shape are as many as it has, they are read as its instruction
fixed_whole : (pre : List ℕ) (s : Shape) → Fixed pre 0 s → s.head + s.number_len ≡ length pre → reading pre ≡ Ok (instr_at pre s)
fixed_whole pre s f total = reads_whole pre s (ap shape_of (sym (append-nil pre)) ∙ f [] (omega arith)) (omega (arith, total))

-- where n bytes are waited for, one fewer is after one byte more
pub waits_more : (pre : List ℕ) (b n m : ℕ) → n ≡ m + 1 → WaitsFor n pre → WaitsFor m (pre ++ b ∷ [])
waits_more pre b n m e w = record {
  shape = w.shape;
  fixed = fixed_more pre b n m w.shape e w.fixed;
  total = omega (arith, w.total, e, length_push pre b);
  direct = w.direct;
  indirect = w.indirect;
}

-- nothing is waited for any more: the instruction is whole
pub finished : (o : Option ℕ) (pre : List ℕ) → WaitsFor 0 pre → Finished o plain pre
finished o pre w = record {
  instr = instr_at pre w.shape;
  read = fixed_whole pre w.shape w.fixed (omega (arith, w.total));
  len = omega (arith, w.total);
  kind = (w.direct, w.indirect);
}

-- the stage that waits for n bytes means that n bytes are waited for
pub numbers_meant : (o : Option ℕ) (n : ℕ) (pre : List ℕ) → WaitsFor n pre → Meant o (numbers n) pre
numbers_meant o zero pre w = finished o pre w
numbers_meant o (suc n) pre w = (omega arith, w)

-- ---- displacements

-- the byte of a short displacement ends the instruction
pub short_ends : (o : Option ℕ) (pre : List ℕ) (b : ℕ) → WaitsForShort pre → Finished o by_short (pre ++ b ∷ [])
short_ends o pre b w =
    let bytes : List ℕ = pre ++ b ∷ [] in
    let total : w.shape.head + w.shape.number_len ≡ length (pre ++ b ∷ []) = omega (arith, w.head, w.number_len, length_push pre b) in
    record {
      instr = instr_at (pre ++ b ∷ []) w.shape;
      read = fixed_whole (pre ++ b ∷ []) w.shape (fixed_more pre b 1 0 w.shape (omega arith) w.fixed) total;
      len = total;
      kind = (
        w.indirect,
        ap (λ (k : Number). rel_of k (drop w.shape.head (pre ++ b ∷ []))) w.number
            ∙ ap (λ (x : ℕ). cast_signed w8 x) (get_or-drop w.shape.head (pre ++ b ∷ []) 0 0
            ∙ ap (λ (k : ℕ). get_or (pre ++ b ∷ []) k 0) (omega (arith, w.head, length_push pre b))),
      );
    }

-- where n bytes of a displacement of four are waited for, one fewer is after one byte more
near_more : (pre : List ℕ) (b n m : ℕ) → n ≡ m + 1 → WaitsForNear n pre → WaitsForNear m (pre ++ b ∷ [])
near_more pre b n m e w = record {
  shape = w.shape;
  fixed = fixed_more pre b n m w.shape e w.fixed;
  head = omega (arith, w.head, e, length_push pre b);
  number = w.number;
  number_len = w.number_len;
  indirect = w.indirect;
}

-- the last byte of a displacement of four ends the instruction
near_ends : (o : Option ℕ) (pre : List ℕ) → WaitsForNear 0 pre → Finished o by_near pre
near_ends o pre w = record {
  instr = instr_at pre w.shape;
  read = fixed_whole pre w.shape w.fixed (omega (arith, w.head, w.number_len));
  len = omega (arith, w.head, w.number_len);
  kind = (
    w.indirect,
    omega (arith, w.head),
    ap (λ (k : Number). rel_of k (drop w.shape.head pre)) w.number
        ∙ ap (λ (k : ℕ). cast_signed w32 (from_le_bytes w32 (drop k pre))) (omega (arith, w.head)),
  );
}

-- after one byte more of a displacement of four the next stage means what has been read
pub near_step : (o : Option ℕ) (pre : List ℕ) (b n : ℕ) → 0 < n → WaitsForNear n pre → Meant o (after (near n) b) (pre ++ b ∷ [])
near_step o pre b n some w =
    elim (true_or_false (n == 1)) [
      | inl last ↦ rw last (near_ends o (pre ++ b ∷ []) (near_more pre b n 0 (eqb-true n 1 last) w))
      | inr inner ↦ (let other : n ≢ 1 = eqb-false n 1 inner in rw inner (omega arith, near_more pre b n (n - 1) (omega arith) w))
    ]

-- ---- ModRM

-- the bytes of a number depend on whether reg is 0
coded_by : (p : Prefix) (k : Number) (reg initial other : ℕ) → coded_len p k 0 ≡ initial → coded_len p k 1 ≡ other
    → coded_len p k reg ≡ (if reg == 0 then initial else other)
unfolding coded_len
coded_by p k reg initial other z o = elim (true_or_false (reg == 0)) [
  | inl is ↦ rw is (ap (λ (r : ℕ). coded_len p k r) (eqb-true reg 0 is) ∙ z)
  | inr not ↦ rw not (by p k not ∙ o)
]
  where
    by : (p : Prefix) (k : Number) → (reg == 0) ≡ false → coded_len p k reg ≡ coded_len p k 1
    by p Absent e = refl
    by p Byte e = refl
    by Word Sized e = refl
    by Unprefixed Sized e = refl
    by Repeat Sized e = refl
    by RepeatNot Sized e = refl
    by Lock Sized e = refl
    by p Offset e = refl
    by p Short e = refl
    by p Near e = refl
    by p TestByte e = rw e refl
    by Word TestSized e = rw e refl
    by Unprefixed TestSized e = rw e refl
    by Repeat TestSized e = rw e refl
    by RepeatNot TestSized e = rw e refl
    by Lock TestSized e = rw e refl

-- where mod is 0, an operand with SIB has two bytes, and four more where SIB says so
sib_len : (b c : ℕ) → has_sib b ≡ true → (mod_of b == 0) ≡ true → operand_len b c ≡ 2 + (if c % 8 == 5 then 4 else 0)
sib_len b c two first =
    let rm : (rm_of b == 4) ≡ true = (both (rm_of b == 4) (nat_lt (mod_of b) 3) two).0 in
    let m : mod_of b ≡ 0 = eqb-true (mod_of b) 0 first in
    let r : rm_of b ≡ 4 = eqb-true (rm_of b) 4 rm in
    rw (m, r) refl

-- where mod isn't 0, SIB doesn't count for the length of an operand
sib_free : (b c : ℕ) → (mod_of b == 0) ≡ false → operand_len b c ≡ operand_len b 0
sib_free b c other = rw other refl

-- an operand has a byte, ModRM
operand_some : (b : ℕ) → 1 ≤ operand_len b 0
operand_some b = elim (true_or_false ((rm_of b == 4) && nat_lt (mod_of b) 3)) [
  | inl two ↦ rw two (omega arith)
  | inr one ↦ rw one (omega arith)
]

-- an operand with SIB has at least two bytes
operand_two : (b : ℕ) → has_sib b ≡ true → 2 ≤ operand_len b 0
operand_two b two = rw two (omega arith)

-- an answer with a length
abbrev ok_len : ℕ → Result ℕ DecodeFault
ok_len n = Ok n

-- the operand is sized where enough bytes follow
sized : (b : ℕ) (rest : List ℕ) → (has_sib b && (mod_of b == 0)) ≡ false → operand_len b 0 - 1 ≤ length rest
    → sized_operand b rest ≡ Ok (operand_len b 0)
unfolding sized_operand
sized b [] e long = elim (true_or_false (has_sib b)) [
  | inl two ↦ absurd (omega (arith, operand_two b two, long))
  | inr one ↦ cond_is_false (has_sib b) (Err Truncated) (ok_len (operand_len b 0)) one
]
sized b (c ∷ rest) e long = elim (true_or_false (has_sib b)) [
  | inl two ↦
      (let other : (mod_of b == 0) ≡ false = second (has_sib b) (mod_of b == 0) two e in
      cond_is_true (has_sib b) (ok_len (operand_len b c)) (ok_len (operand_len b 0)) two ∙ ap ok_len (sib_free b c other))
  | inr one ↦ cond_is_false (has_sib b) (ok_len (operand_len b c)) (ok_len (operand_len b 0)) one
]
  where
    second : (x y : Bool) → x ≡ true → (x && y) ≡ false → y ≡ false
    second true y e h = h
    second false y e h = absurd cc

-- the shape by the length of its operand
abbrev formed : Prefix → ℕ → Entry → ℕ → ℕ → Shape
formed p head e b n = record {
  head = head + n;
  number = e.number;
  number_len = coded_len p e.number (reg_of b);
  flow = flow_of e (reg_of b);
  reg = reg_if e b;
}

-- where ModRM is permitted and its operand sized, the shape is fixed
formed_at : (p : Prefix) (head : ℕ) (e : Entry) (b n : ℕ) (rest : List ℕ) → permits (forms_of p e) b ≡ true → sized_operand b rest ≡ Ok n
    → operand_shape p head e (b ∷ rest) ≡ Ok (formed p head e b n)
unfolding operand_shape
formed_at p head e b n rest passes size =
    cond_is_true (permits (forms_of p e) b) (sized_operand b rest >>= λ k. ok (formed p head e b k)) _ passes
    ∙ ap (λ (x : Result ℕ DecodeFault). x >>= λ k. ok (formed p head e b k)) size

-- the operand of ModRM with SIB has the length that both give
sib_sized : (b c : ℕ) (rest : List ℕ) → has_sib b ≡ true → sized_operand b (c ∷ rest) ≡ Ok (operand_len b c)
unfolding sized_operand
sib_sized b c rest two = cond_is_true (has_sib b) (ok_len (operand_len b c)) (ok_len (operand_len b 0)) two

-- after ModRM the next stage means what has been read
pub modrm_meant : (o : Option ℕ) (forms initial other b : ℕ) (pre : List ℕ) → b < 256 → WaitsForOperand forms initial other pre
    → Meant o (modrm forms initial other b) (pre ++ b ∷ [])
modrm_meant o forms initial other b pre lt w =
    elim (true_or_false (permits forms b)) [
      | inl passes ↦
          (let q = w.permitted b lt passes in
          let n : ℕ = if reg_of b == 0 then initial else other in
          let coded : coded_len w.prefix w.entry.number (reg_of b) ≡
          (if reg_of b == 0 then initial else other) = coded_by w.prefix w.entry.number
          (reg_of b) initial other w.initial_is w.other_is in
          elim (true_or_false (has_sib b && (mod_of b == 0))) [
            | inl with_sib ↦
                (let parts = both (has_sib b) (mod_of b == 0) with_sib in
                rw (passes, with_sib) (λ c c-lt. record {
                  shape = formed w.prefix (length pre) w.entry b (operand_len b c);
                  fixed = λ rest long. ap shape_of (more (pre ++ b ∷ []) rest c ∙ more pre (c ∷ rest) b) ∙ w.shapes (b ∷ c ∷ rest)
                      ∙ formed_at w.prefix (length pre) w.entry b (operand_len b c) (c ∷ rest) q.0 (sib_sized b c rest parts.0);
                  total = omega (arith, coded, sib_len b c parts.0 parts.1, length_push pre b, length_push (pre ++ b ∷ []) c);
                  direct = q.1;
                  indirect = q.2;
                }))
            | inr without ↦
                rw (passes, without) (numbers_meant o _ (pre ++ b ∷ []) (record {
                  shape = formed w.prefix (length pre) w.entry b (operand_len b 0);
                  fixed = λ rest long. ap shape_of (more pre rest b) ∙ w.shapes (b ∷ rest)
                      ∙ formed_at w.prefix (length pre) w.entry b (operand_len b 0) rest q.0 (sized b rest without (omega (arith, long)));
                  total = omega (arith, coded, operand_some b, length_push pre b);
                  direct = q.1;
                  indirect = q.2;
                }))
          ])
      | inr fails ↦ rw fails tt
    ]
