-- One more byte leads from stage to stage.
use Rattle.std.proofs.Common.{◌≡◌, ◌≢◌, ℕ, ◌+◌, ◌-◌, ◌%◌, ◌<◌, ◌≤◌, Bool, true, false, List, [], ◌∷◌, ◌++◌, Option, Some, None, Result, Ok}
use Rattle.std.proofs.Common.{Err, length, refl, sym, subst, ◌∙◌, ap, arith, inl, inr, ◌==◌, ◌&&◌, eqb-true, not}
use Rattle.std.specs.Prelude.{if◌then◌else◌, IfSome}
use Rattle.std.proofs.lemmas.Bool.Decides.{nat_tests}
use Rattle.std.proofs.lemmas.List.{length_push}
use Rattle.nc_decode.specs.declared.entry.Entry.{Entry}
use Rattle.nc_decode.specs.declared.entry.Number.{Number}
use Rattle.nc_decode.specs.declared.entry.Number.TheVariants.{Absent, Byte, Sized, Offset, Short, Near, TestByte, TestSized}
use Rattle.nc_decode.specs.declared.entry.Prefix.{Prefix}
use Rattle.nc_decode.specs.declared.entry.Prefix.TheVariants.{Absent as Unprefixed, Word, Repeat, RepeatNot, Lock}
use Rattle.nc_decode.specs.declared.entry.Shape.{Shape}
use Rattle.nc_decode.specs.declared.instruction.DecodeFault.{DecodeFault}
use Rattle.nc_decode.specs.declared.instruction.DecodeFault.TheVariants.{NotPermitted}
use Rattle.nc_decode.specs.declared.instruction.Instr.{Instr}
use Rattle.nc_decode.specs.machinery.Entries.{opcode_entry}
use Rattle.nc_decode.specs.machinery.Reading.{reading, whole_of}
use Rattle.nc_decode.specs.Rows.{reg_of}
use Rattle.nc_decode.specs.machinery.Shapes.{prefix_of, forms_of, coded_len, permits, flow_of, reg_if, sized_operand, operand_shape}
use Rattle.nc_decode.specs.machinery.Shapes.{entry_shape, escapes, escaped_shape, opcode_shape, prefixed_shape, shape_of}
use Rattle.nc_decode.specs.Transfers.{is_direct, is_indirect}
use Rattle.nc_decode.proofs.opcodes.EntriesMatchRows.{coded_kind, each_prefix}
use Rattle.nc_base.proofs.Offered.{each_below}
use Rattle.nc_base.proofs.Offered.{both, not_is, true_or_false, either, chosen_true, chosen_false, cond_is_true, cond_is_false}
use Rattle.nc_base.proofs.Offered.{each_below-at}
use Rattle.nc_decode.proofs.reading.EntryReads.{shape_alone}
use Rattle.nc_decode.proofs.reading.PrefixAndOpcode.{far_plain, plain_shape}
use Rattle.nc_decode.proofs.opcodes.PermittedIsListed.{each_prefix-at}
use Rattle.nc_decode.proofs.reading.SpellingParts.{entry_alone}
use Rattle.nc_decode.proofs.stages.Stages.{paired, Stage, dead, prefixed, escaped, operand, masking, mask_number, transfer_after_mask, sib}
use Rattle.nc_decode.proofs.stages.Stages.{number, short, near, ended, numbers, by_number, calm, after_opcode, opcode, unprefixed, begun, modrm}
use Rattle.nc_decode.proofs.stages.Stages.{masks_there, goes_by, after, same_stage, stage_same}
use Rattle.nc_decode.proofs.stages.StageMeanings.{Meant, ok, WaitsForOperand, Finished, more, waits_more, finished, numbers_meant, short_ends}
use Rattle.nc_decode.proofs.stages.StageMeanings.{near_step, modrm_meant}

-- ---- what the entries have

-- a test that counts only where another is met
abbrev given : Bool → Bool → Bool
given true b = b
given false b = true

-- a ModRM that the forms without indirect transfer permit is permitted, and makes no transfer
abbrev calm_form : Prefix → Entry → ℕ → Bool
calm_form p e b = given (permits (calm (forms_of p e)) b) (permits (forms_of p e) b && not (is_direct (flow_of e (reg_of b)))
    && not (is_indirect (flow_of e (reg_of b))))

-- An entry's own flow is never indirect, and direct only with a displacement, which no entry with an operand has. Only
-- indirect transfers are marked so, and the stage leaves them out.
abbrev pub transfers_as_marked : Prefix → Entry → Bool
transfers_as_marked p e =
    not (is_indirect e.flow)
    && given (coded_kind e.number == 0) (not (is_direct e.flow))
    && given e.operand (coded_kind e.number == 0)
    && (elim e.indirect [ true ↦ each_below (calm_form p e) 256 | false ↦ not (forms_of p e == 0x5743) ])

-- with each prefix each opcode of one byte, or each one after 0F, transfers only as its entry is marked
abbrev all_as_marked : Bool → Bool
all_as_marked two = each_below (λ o. each_prefix (λ p. transfers_as_marked p (opcode_entry two o))) 256

-- computed: with each prefix each opcode of one byte transfers only as its entry is marked
first_as_marked : all_as_marked false ≡ true
unfolding opcode_entry forms_of permits flow_of
first_as_marked = refl

-- computed: with each prefix each opcode after 0F transfers only as its entry is marked
second_as_marked : all_as_marked true ≡ true
unfolding opcode_entry forms_of permits flow_of
second_as_marked = refl

-- with any prefix an opcode of one byte or after 0F transfers only as its entry is marked
pub as_marked_at : (two : Bool) (o : ℕ) (p : Prefix) → o < 256 → transfers_as_marked p (opcode_entry two o) ≡ true
as_marked_at false o p lt = each_prefix-at (λ q. transfers_as_marked q (opcode_entry false o)) p
    (each_below-at (λ x. each_prefix (λ q. transfers_as_marked q (opcode_entry false x))) 256 o first_as_marked lt)
as_marked_at true o p lt = each_prefix-at (λ q. transfers_as_marked q (opcode_entry true o)) p
    (each_below-at (λ x. each_prefix (λ q. transfers_as_marked q (opcode_entry true x))) 256 o second_as_marked lt)

-- what it comes to that with a prefix an entry transfers only as it is marked
pub record TransfersAsMarked (p : Prefix) (e : Entry) : Type 0 where
  pub indirect : is_indirect e.flow ≡ false
  pub direct : (coded_kind e.number == 0) ≡ true → is_direct e.flow ≡ false
  pub permitted : e.operand ≡ true → (b : ℕ) → b < 256 → permits (calm (forms_of p e)) b ≡ true
      → (permits (forms_of p e) b ≡ true) × (is_direct (flow_of e (reg_of b)) ≡ false) × (is_indirect (flow_of e (reg_of b)) ≡ false)

-- what a test says where its condition holds
given_is : (a b : Bool) → given a b ≡ true → a ≡ true → b ≡ true
given_is true b e h = e
given_is false b e h = absurd cc

-- the flow of an entry that isn't marked as indirect is its own
own_flow : (e : Entry) (reg : ℕ) → e.indirect ≡ false → flow_of e reg ≡ e.flow
unfolding flow_of
own_flow e reg h = rw h refl

-- an entry that passes the test transfers only as it is marked
as_marked : (p : Prefix) (e : Entry) → transfers_as_marked p e ≡ true → TransfersAsMarked p e
as_marked p e h =
    let a = both (not (is_indirect e.flow) && given (coded_kind e.number == 0) (not (is_direct e.flow))
    && given e.operand (coded_kind e.number == 0)) (elim e.indirect [
      | true ↦ each_below (calm_form p e) 256
      | false ↦ not
          (forms_of p e == 0x5743)
    ]) h in
    let b = both (not (is_indirect e.flow) && given (coded_kind e.number == 0) (not (is_direct e.flow)))
    (given e.operand (coded_kind e.number == 0)) a.0 in
    let c = both (not (is_indirect e.flow)) (given (coded_kind e.number == 0) (not (is_direct e.flow))) b.0 in
    let indirect : is_indirect e.flow ≡ false = not_is _ c.0 in
    let direct : (coded_kind e.number == 0) ≡ true → is_direct e.flow ≡ false = λ k. not_is _ (given_is _ _ c.1 k) in
    record {
      indirect = indirect;
      direct = direct;
      permitted = λ has m lt passes. elim (true_or_false e.indirect) [
        | inl marked ↦
            (let all : each_below (calm_form p e) 256 ≡ true = chosen_true e.indirect (each_below (calm_form p e) 256)
            (not (forms_of p e == 0x5743)) true marked a.1 in
            let f = given_is (permits (calm (forms_of p e)) m) _ (each_below-at (calm_form p e) 256 m all lt) passes in
            let g = both (permits (forms_of p e) m && not (is_direct (flow_of e (reg_of m))))
            (not (is_indirect (flow_of e (reg_of m)))) f in
            let k = both (permits (forms_of p e) m) (not (is_direct (flow_of e (reg_of m)))) g.0 in
            (k.0, not_is _ k.1, not_is _ g.1))
        | inr own ↦
            (let other : (forms_of p e == 0x5743) ≡ false = not_is _
            (chosen_false e.indirect (each_below (calm_form p e) 256) (not (forms_of p e == 0x5743)) true own a.1) in (
              ap (λ (f : ℕ). permits f m) (sym (cond_is_false (forms_of p e == 0x5743) 0x4343 (forms_of p e) other)) ∙ passes,
              ap is_direct (own_flow e (reg_of m) own) ∙ direct (given_is e.operand (coded_kind e.number == 0) b.1 has),
              ap is_indirect (own_flow e (reg_of m) own) ∙ indirect,
            ))
      ];
    }

-- the entry of each opcode transfers only as it is marked
entry_as_marked : (two : Bool) (b : ℕ) (p : Prefix) → b < 256 → TransfersAsMarked p (opcode_entry two b)
entry_as_marked two b p lt = as_marked p (opcode_entry two b) (as_marked_at two b p lt)

-- ---- an opcode has been read

-- the refusal of a shape
abbrev refused : Result Shape DecodeFault
refused = Err NotPermitted

-- the shape of an entry with an operand
entry_operand : (p : Prefix) (head : ℕ) (e : Entry) (rest : List ℕ) → (forms_of p e == 0) ≡ false → e.operand ≡ true
    → entry_shape p head e rest ≡ operand_shape p head e rest
unfolding entry_shape
entry_operand p head e rest some has = cond_is_false (forms_of p e == 0) refused _ some
    ∙ cond_is_true e.operand (operand_shape p head e rest) (ok (shape_alone p head e)) has

-- after an opcode with no operand the next stage means what has been read
plain_number : (o : Option ℕ) (p : Prefix) (e : Entry) (pre : List ℕ) → TransfersAsMarked p e
    → ((rest : List ℕ) → shape_of (pre ++ rest) ≡ Ok (shape_alone p (length pre) e)) → (k : Number) → e.number ≡ k
    → (coded_kind e.number == 0) ≡ true → Meant o (numbers (coded_len p k 0)) pre
plain_number o p e pre t fixed k is kind = numbers_meant o (coded_len p k 0) pre (record {
  shape = shape_alone p (length pre) e;
  fixed = λ rest long. fixed rest;
  total = ap (λ (j : Number). length pre + coded_len p j 0) is;
  direct = t.direct kind;
  indirect = t.indirect;
})

-- a number comes next
number_meant : (o : Option ℕ) (p : Prefix) (e : Entry) (pre : List ℕ) → TransfersAsMarked p e
    → ((rest : List ℕ) → shape_of (pre ++ rest) ≡ Ok (shape_alone p (length pre) e)) → (k : Number) → e.number ≡ k
    → Meant o (by_number p k) pre
unfolding coded_len
number_meant o p e pre t fixed Short is = record {
  shape = shape_alone p (length pre) e;
  fixed = λ rest long. fixed rest;
  head = refl;
  number = is;
  number_len = ap (λ (k : Number). coded_len p k 0) is;
  indirect = t.indirect;
}
number_meant o p e pre t fixed Near is = (
  omega arith,
  record {
    shape = shape_alone p (length pre) e;
    fixed = λ rest long. fixed rest;
    head = refl;
    number = is;
    number_len = ap (λ (k : Number). coded_len p k 0) is;
    indirect = t.indirect;
  },
)
number_meant o p e pre t fixed Absent is = plain_number o p e pre t fixed Absent is (ap (λ (k : Number). coded_kind k == 0) is)
number_meant o p e pre t fixed Byte is = plain_number o p e pre t fixed Byte is (ap (λ (k : Number). coded_kind k == 0) is)
number_meant o p e pre t fixed Sized is = plain_number o p e pre t fixed Sized is (ap (λ (k : Number). coded_kind k == 0) is)
number_meant o p e pre t fixed Offset is = plain_number o p e pre t fixed Offset is (ap (λ (k : Number). coded_kind k == 0) is)
number_meant o p e pre t fixed TestByte is = plain_number o p e pre t fixed TestByte is (ap (λ (k : Number). coded_kind k == 0) is)
number_meant o p e pre t fixed TestSized is = plain_number o p e pre t fixed TestSized is (ap (λ (k : Number). coded_kind k == 0) is)

-- after an opcode the next stage means what has been read
after_opcode_meant : (o : Option ℕ) (p : Prefix) (e : Entry) (pre : List ℕ) → TransfersAsMarked p e
    → ((rest : List ℕ) → shape_of (pre ++ rest) ≡ entry_shape p (length pre) e rest) → Meant o (after_opcode p e) pre
unfolding forms_of
after_opcode_meant o p e pre t shapes =
    elim (true_or_false (forms_of p e == 0)) [
      | inl none ↦ rw none tt
      | inr some ↦ elim (true_or_false e.operand) [
        | inl has ↦ rw (some, has) (record {
          prefix = p;
          entry = e;
          shapes = λ rest. shapes rest ∙ entry_operand p (length pre) e rest some has;
          initial_is = refl;
          other_is = refl;
          permitted = t.permitted has;
        })
        | inr without ↦ rw (some, without) (number_meant o p e pre t
            (λ rest. shapes rest ∙ entry_alone p (length pre) e rest some without) e.number refl)
      ]
    ]

-- after an opcode, or after 0F, the next stage means what has been read
opcode_meant : (o : Option ℕ) (p : Prefix) (pre : List ℕ) (b : ℕ) → b < 256
    → ((rest : List ℕ) → shape_of (pre ++ b ∷ rest) ≡ opcode_shape p (length pre) (b ∷ rest)) → Meant o (opcode p b) (pre ++ b ∷ [])
unfolding opcode_shape
opcode_meant o p pre b lt shapes =
    elim (true_or_false (b == 0x0F)) [
      | inl escape ↦ elim (true_or_false (escapes p)) [
        | inl may ↦ rw (escape, may) (λ rest.
            ap shape_of (more pre rest b) ∙ shapes rest
            ∙ cond_is_true (b == 0x0F) (if escapes p then escaped_shape p (length pre + 1) rest else refused) _ escape
            ∙ cond_is_true (escapes p) (escaped_shape p (length pre + 1) rest) refused may
            ∙ ap (λ (n : ℕ). escaped_shape p n rest) (sym (length_push pre b)))
        | inr never ↦ rw (escape, never) tt
      ]
      | inr other ↦ rw other (after_opcode_meant o p (opcode_entry false b) (pre ++ b ∷ []) (entry_as_marked false b p lt) (λ rest.
          ap shape_of (more pre rest b) ∙ shapes rest
          ∙ cond_is_false (b == 0x0F) (if escapes p then escaped_shape p (length pre + 1) rest else refused)
          (entry_shape p (length pre + 1) (opcode_entry false b) rest) other
          ∙ ap (λ (n : ℕ). entry_shape p n (opcode_entry false b) rest) (sym (length_push pre b))))
    ]

-- after an opcode that stands behind 0F the next stage means what has been read
escaped_meant : (o : Option ℕ) (p : Prefix) (pre : List ℕ) (b : ℕ) → b < 256
    → ((rest : List ℕ) → shape_of (pre ++ rest) ≡ escaped_shape p (length pre) rest)
    → Meant o (after_opcode p (opcode_entry true b)) (pre ++ b ∷ [])
unfolding escaped_shape
escaped_meant o p pre b lt shapes = after_opcode_meant o p (opcode_entry true b) (pre ++ b ∷ []) (entry_as_marked true b p lt) (λ rest.
    ap shape_of (more pre rest b) ∙ shapes (b ∷ rest) ∙ ap (λ (n : ℕ). entry_shape p n (opcode_entry true b) rest) (sym (length_push pre b)))

-- ---- an instruction begins

-- after 83, ModRM of any form and one byte of a number are waited for
mask_operand : (o : Option ℕ) → Meant o (opcode Unprefixed 0x83) (0x83 ∷ []) → WaitsForOperand 0xFFFF 1 1 (0x83 ∷ [])
unfolding opcode_entry forms_of coded_len
mask_operand o m = m

-- after FF, ModRM of a form that is no indirect transfer is waited for
transfer_operand : (o : Option ℕ) → Meant o (opcode Unprefixed 0xFF) (0xFF ∷ []) → WaitsForOperand 0x4343 0 0 (0xFF ∷ [])
unfolding opcode_entry forms_of coded_len
transfer_operand o m = m

-- the first byte where it is no prefix
first_unprefixed : (o : Option ℕ) (b : ℕ) → b < 256 → prefix_of b ≡ Unprefixed → Meant o (unprefixed Unprefixed b) (b ∷ [])
first_unprefixed o b lt e =
    let m = opcode_meant o Unprefixed [] b lt (λ rest. plain_shape b rest e) in
    elim (true_or_false (b == 0x83)) [
      | inl mask ↦
          (let is : b ≡ 0x83 = eqb-true b 0x83 mask in
          rw mask (
            ap (λ (x : ℕ). x ∷ []) is,
            subst (λ (x : ℕ). WaitsForOperand 0xFFFF 1 1 (x ∷ [])) (sym is)
                (mask_operand o (subst (λ (x : ℕ). Meant o (opcode Unprefixed x) (x ∷ [])) is m)),
          ))
      | inr other ↦ rw other m
    ]

-- the first byte, where no mask comes directly before
unprefixed_meant : (o : Option ℕ) (b : ℕ) → b < 256 → (p : Prefix) → prefix_of b ≡ p → Meant o (unprefixed p b) (b ∷ [])
unfolding shape_of prefixed_shape
unprefixed_meant o b lt Unprefixed e = first_unprefixed o b lt e
unprefixed_meant o b lt Word e = (refl, λ rest. ap (λ (p : Prefix). prefixed_shape p (b ∷ rest) rest) e)
unprefixed_meant o b lt Repeat e = (refl, λ rest. ap (λ (p : Prefix). prefixed_shape p (b ∷ rest) rest) e)
unprefixed_meant o b lt RepeatNot e = (refl, λ rest. ap (λ (p : Prefix). prefixed_shape p (b ∷ rest) rest) e)
unprefixed_meant o b lt Lock e = (refl, λ rest. ap (λ (p : Prefix). prefixed_shape p (b ∷ rest) rest) e)

-- the first byte of an instruction
pub begun_meant : (o : Option ℕ) (b : ℕ) → b < 256 → IfSome o (λ r. r < 8) → Meant o (begun o b) (b ∷ [])
begun_meant None b lt small = unprefixed_meant None b lt (prefix_of b) refl
begun_meant (Some r) b lt small =
    elim (true_or_false (b == 0xFF)) [
      | inl far ↦
          (let is : b ≡ 0xFF = eqb-true b 0xFF far in
          let m = transfer_operand (Some r) (opcode_meant (Some r) Unprefixed [] 0xFF (omega arith)
          (λ rest. plain_shape 0xFF rest far_plain)) in
          rw far (ap (λ (x : ℕ). x ∷ []) is, small, refl, subst (λ (x : ℕ). WaitsForOperand 0x4343 0 0 (x ∷ [])) (sym is) m))
      | inr other ↦ rw other (unprefixed_meant (Some r) b lt (prefix_of b) refl)
    ]

-- ---- masks and their transfers

-- the ModRM of a mask takes one byte more
mask_numbers : each_below (λ b. given (masks_there b) (same_stage (modrm 0xFFFF 1 1 b) (number 1))) 256 ≡ true
unfolding permits
mask_numbers = refl

-- after a mask's ModRM one byte is waited for
mask_number_next : (b : ℕ) → b < 256 → masks_there b ≡ true → modrm 0xFFFF 1 1 b ≡ number 1
mask_number_next b lt e = stage_same _ _ (given_is _ _ (each_below-at
    (λ x. given (masks_there x) (same_stage (modrm 0xFFFF 1 1 x) (number 1))) 256 b mask_numbers lt) e)

-- the ModRM of a mask is one from E0 to E7, but not E4
mask_bounds : (b : ℕ) → masks_there b ≡ true → (0xE0 ≤ b) × (b < 0xE8) × (b ≢ 0xE4)
mask_bounds b e = grind (arith, nat_tests)

-- a reading of an indirect transfer on the register
abbrev pairs : ℕ → Result Instr DecodeFault → Bool
pairs r (Ok i) = (i.len == 2) && is_indirect i.flow && not (is_direct i.flow) && (i.reg == r)
pairs r (Err e) = false

-- computed: FF and ModRM on each register are read as an indirect transfer on it
paired_reads : each_below (λ r. pairs r (reading (0xFF ∷ (0xD0 + r) ∷ [])) && pairs r (reading (0xFF ∷ (0xE0 + r) ∷ []))) 8 ≡ true
unfolding reading whole_of shape_of prefixed_shape prefix_of opcode_shape entry_shape operand_shape sized_operand opcode_entry forms_of
    coded_len permits flow_of reg_if
paired_reads = refl

-- FF and ModRM that are read as an indirect transfer on the masked register are a finished one
paired_at : (o : Option ℕ) (r b : ℕ) → r < 8 → o ≡ Some r → b % 8 ≡ r → (x : Result Instr DecodeFault) → reading (0xFF ∷ b ∷ []) ≡ x
    → pairs r x ≡ true → Finished o paired (0xFF ∷ b ∷ [])
paired_at o r b lt is last (Err e) h p = absurd cc
paired_at o r b lt is last (Ok i) h p =
    let a = both ((i.len == 2) && is_indirect i.flow && not (is_direct i.flow)) (i.reg == r) p in
    let c = both ((i.len == 2) && is_indirect i.flow) (not (is_direct i.flow)) a.0 in
    let d = both (i.len == 2) (is_indirect i.flow) c.0 in
    let reg : i.reg ≡ r = eqb-true i.reg r a.1 in
    record {
      instr = i;
      read = h;
      len = eqb-true i.len 2 d.0;
      kind = (not_is _ c.1, d.1, is ∙ ap (λ (k : ℕ). some_reg k) (sym reg), refl, reg ∙ sym last);
    }
  where
    some_reg : ℕ → Option ℕ
    some_reg k = Some k

-- FF and ModRM on the masked register are a finished indirect transfer
transfer_meant : (o : Option ℕ) (r b : ℕ) → b < 256 → r < 8 → o ≡ Some r → goes_by r b ≡ true → Finished o paired (0xFF ∷ b ∷ [])
transfer_meant o r b lt small is e =
    let p = both (pairs r (reading (0xFF ∷ (0xD0 + r) ∷ []))) (pairs r (reading (0xFF ∷ (0xE0 + r) ∷ [])))
    (each_below-at (λ x. pairs x (reading (0xFF ∷ (0xD0 + x) ∷ []))
    && pairs x (reading (0xFF ∷ (0xE0 + x) ∷ []))) 8 r paired_reads small) in
    elim (either (b == 0xD0 + r) (b == 0xE0 + r) e) [
      | inl call ↦ (let at : b ≡ 0xD0 + r = eqb-true b (0xD0 + r) call in subst (λ (x : ℕ). Finished o paired (0xFF ∷ x ∷ [])) (sym at)
          (paired_at o r (0xD0 + r) small is (omega arith) _ refl p.0))
      | inr jump ↦ (let at : b ≡ 0xE0 + r = eqb-true b (0xE0 + r) jump in subst (λ (x : ℕ). Finished o paired (0xFF ∷ x ∷ [])) (sym at)
          (paired_at o r (0xE0 + r) small is (omega arith) _ refl p.1))
    ]

-- ---- the step

-- the stage is no end
abbrev pub IsInside : Stage → Type 0
IsInside (ended k) = ⊥
IsInside _ = Unit {0}

-- after one byte more the next stage means what has been read
pub step : (o : Option ℕ) (x : Stage) (b : ℕ) (pre : List ℕ) → b < 256 → IsInside x → Meant o x pre → Meant o (after x b) (pre ++ b ∷ [])
step o dead b pre lt inside m = tt
step o (prefixed p) b pre lt inside m = opcode_meant o p pre b lt
    (λ rest. m.1 (b ∷ rest) ∙ ap (λ (n : ℕ). opcode_shape p n (b ∷ rest)) (sym m.0))
step o (escaped p) b pre lt inside m = escaped_meant o p pre b lt m
step o (operand forms initial other) b pre lt inside m = modrm_meant o forms initial other b pre lt m
step o masking b pre lt inside m =
    let next = modrm_meant o 0xFFFF 1 1 b pre lt m.1 in
    elim (true_or_false (masks_there b)) [
      | inl mask ↦
          (let w = mask_bounds b mask in
          let bytes : pre ++ b ∷ [] ≡ 0x83 ∷ (0xE0 + (b - 0xE0)) ∷ [] = ap (λ (z : List ℕ). z ++ b ∷ []) m.0
          ∙ ap (λ (k : ℕ). 0x83 ∷ k ∷ []) (omega (arith, w.0)) in
          let waits = subst (λ (z : Stage). Meant o z (pre ++ b ∷ [])) (mask_number_next b lt mask) next in
          rw mask (bytes, omega (arith, w.0, w.1), (λ (e : b - 0xE0 ≡ 4). w.2 (omega (arith, e, w.0))), waits.1))
      | inr other ↦ rw other next
    ]
step o (mask_number r) b pre lt inside m =
    let done = finished o (pre ++ b ∷ []) (waits_more pre b 1 0 (omega arith) m.3) in
    elim (true_or_false (b == 0xE0)) [
      | inl mask ↦
          (let bytes : pre ++ b ∷ [] ≡ 0x83 ∷ (0xE0 + r) ∷ 0xE0 ∷ [] = ap (λ (z : List ℕ). z ++ b ∷ []) m.0
          ∙ ap (λ (k : ℕ). 0x83 ∷ (0xE0 + r) ∷ k ∷ []) (eqb-true b 0xE0 mask) in
          rw mask (record { instr = done.instr; read = done.read; len = done.len; kind = (done.kind.0, done.kind.1, bytes, m.1, m.2) }))
      | inr other ↦ rw other done
    ]
step o (transfer_after_mask r) b pre lt inside m =
    elim (true_or_false (goes_by r b)) [
      | inl goes ↦ rw goes (subst (λ (z : List ℕ). Finished o paired (z ++ b ∷ [])) (sym m.0) (transfer_meant o r b lt m.1 m.2 goes))
      | inr other ↦ rw other (modrm_meant o 0x4343 0 0 b pre lt m.3)
    ]
step o (sib n) b pre lt inside m = numbers_meant o _ (pre ++ b ∷ []) (m b lt)
step o (number n) b pre lt inside m = numbers_meant o (n - 1) (pre ++ b ∷ []) (waits_more pre b n (n - 1) (omega (arith, m.0)) m.1)
step o short b pre lt inside m = short_ends o pre b m
step o (near n) b pre lt inside m = near_step o pre b n m.0 m.1
step o (ended k) b pre lt inside m = absurd inside
