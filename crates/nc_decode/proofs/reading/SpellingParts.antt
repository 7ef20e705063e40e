-- The parts of a spelling, and how each is read.
use Rattle.std.proofs.Common.{◌≡◌, ℕ, ◌+◌, ◌<◌, Bool, true, false, List, [], ◌∷◌, ◌++◌, length, Option, Some, None, Result, Ok, Err, ◌==◌}
use Rattle.std.proofs.Common.{◌||◌, refl, sym, ◌∙◌, ap, arith, inl, inr, eqb-true, Contains, append_assoc}
use Rattle.std.specs.Prelude.{slice_index, option_to_list, IfSome}
use Rattle.std.proofs.lemmas.List.{length-append}
use Rattle.nc_decode.specs.declared.instruction.DecodeFault.{DecodeFault}
use Rattle.nc_decode.specs.declared.instruction.DecodeFault.TheVariants.{Truncated, NotPermitted}
use Rattle.nc_decode.specs.declared.entry.Entry.{Entry}
use Rattle.nc_decode.specs.declared.entry.Shape.{Shape}
use Rattle.nc_decode.specs.declared.entry.Prefix.{Prefix}
use Rattle.nc_decode.specs.declared.entry.Prefix.TheVariants.{Absent as Unprefixed, Word, Repeat, RepeatNot, Lock}
use Rattle.nc_decode.specs.Rows.{PrefixRow, prefix_rows}
use Rattle.nc_decode.specs.Rows.{first_prefix_rows, later_prefix_rows}
use Rattle.nc_decode.specs.machinery.Shapes.{forms_of, permits, has_sib, sized_operand, ◌>>=◌, operand_shape, entry_shape, escapes}
use Rattle.nc_decode.specs.Spelling.{operand_len, displacement_len, Parts, spelled, Allows, AreParts}
use Rattle.nc_decode.proofs.opcodes.EntriesMatchRows.{prefix_byte}
use Rattle.nc_base.proofs.Offered.{each}
use Rattle.nc_base.proofs.Offered.{true_or_false, each-Contains, cond_is_true, cond_is_false, either}
use Rattle.nc_decode.proofs.reading.PrefixAndOpcode.{code, header, Stands, plain_is}
use Rattle.nc_decode.proofs.reading.EntryReads.{shape_alone, formed_shape}
use Rattle.nc_decode.proofs.opcodes.PermittedIsListed.{opcode_stands}
use Rattle.nc_decode.proofs.reading.OperandLengths.{sib_counts}

-- an answer with a length
abbrev ok_len : ℕ → Result ℕ DecodeFault
ok_len n = Ok n

-- the answer with an operand of this length
abbrev formed_of : Prefix → ℕ → Entry → ℕ → ℕ → Result Shape DecodeFault
formed_of p head e modrm k = Ok (formed_shape p head e modrm k)

-- a permitted operand is read
pub operand_formed : (p : Prefix) (head : ℕ) (e : Entry) (modrm : ℕ) (tail : List ℕ) (k : ℕ) → permits (forms_of p e) modrm ≡ true
    → sized_operand modrm tail ≡ Ok k
    → operand_shape p head e (modrm ∷ tail) ≡ formed_of p head e modrm k
unfolding operand_shape
operand_formed p head e modrm tail k permitted sized =
    cond_is_true (permits (forms_of p e) modrm) (sized_operand modrm tail >>= formed_of p head e modrm) (Err NotPermitted) permitted
    ∙ ap (λ (x : Result ℕ DecodeFault). x >>= formed_of p head e modrm) sized

-- an entry with an operand reads it
pub entry_formed : (p : Prefix) (head : ℕ) (e : Entry) (modrm : ℕ) (tail : List ℕ) (k : ℕ) → (forms_of p e == 0) ≡ false
    → e.operand ≡ true → permits (forms_of p e) modrm ≡ true → sized_operand modrm tail ≡ Ok k
    → entry_shape p head e (modrm ∷ tail) ≡ formed_of p head e modrm k
unfolding entry_shape
entry_formed p head e modrm tail k some_form operand permitted sized =
    cond_is_false (forms_of p e == 0) _ _ some_form ∙ cond_is_true e.operand (operand_shape p head e (modrm ∷ tail)) _ operand
    ∙ operand_formed p head e modrm tail k permitted sized

-- an entry without operand reads none
pub entry_alone : (p : Prefix) (head : ℕ) (e : Entry) (rest : List ℕ) → (forms_of p e == 0) ≡ false → e.operand ≡ false
    → entry_shape p head e rest ≡ Ok (shape_alone p head e)
unfolding entry_shape
entry_alone p head e rest some_form operand =
    cond_is_false (forms_of p e == 0) _ _ some_form ∙ cond_is_false e.operand (operand_shape p head e rest)
    (Ok (shape_alone p head e)) operand

-- equal lengths, equal answers
ok_same : (n m : ℕ) → n ≡ m → ok_len n ≡ ok_len m
ok_same n m e = ap ok_len e

-- the operand's own bytes give its length, whatever follows
pub sized_front : (modrm : ℕ) (tail r : List ℕ) → modrm < 256 → length tail + 1 ≡ operand_len modrm (slice_index tail 0)
    → sized_operand modrm (tail ++ r) ≡ Ok (length tail + 1)
unfolding sized_operand
sized_front modrm [] [] lt len =
    elim (true_or_false (has_sib modrm)) [
      | inl sib ↦ absurd (let two : operand_len modrm 0 ≡ 2 + displacement_len modrm 0 = (rw sib refl) in omega (arith, two, len))
      | inr no_sib ↦ cond_is_false (has_sib modrm) (Err Truncated) (Ok (operand_len modrm 0)) no_sib ∙ ok_same _ _ (sym len)
    ]
sized_front modrm [] (x ∷ r) lt len =
    elim (true_or_false (has_sib modrm)) [
      | inl sib ↦ absurd (let two : operand_len modrm 0 ≡ 2 + displacement_len modrm 0 = (rw sib refl) in omega (arith, two, len))
      | inr no_sib ↦ cond_is_false (has_sib modrm) (Ok (operand_len modrm x)) (Ok (operand_len modrm 0)) no_sib ∙ ok_same _ _ (sym len)
    ]
sized_front modrm (sib ∷ tail) r lt len =
    elim (true_or_false (has_sib modrm)) [
      | inl is ↦ cond_is_true (has_sib modrm) (Ok (operand_len modrm sib)) (Ok (operand_len modrm 0)) is ∙ ok_same _ _ (sym len)
      | inr no_sib ↦ cond_is_false (has_sib modrm) (Ok (operand_len modrm sib)) (Ok (operand_len modrm 0)) no_sib
          ∙ ok_same _ _ (sib_counts modrm 0 sib no_sib lt ∙ sym len)
    ]

-- ---- the prefix of a spelling

-- the byte of a line is one of the four prefixes
abbrev known : PrefixRow → Bool
known line = ((line.prefix == 0x66) || (line.prefix == 0xF3)) || ((line.prefix == 0xF2) || (line.prefix == 0xF0))

-- the byte of each line of the prefix table is one of the four prefixes
all_known : each known prefix_rows ≡ true
unfolding prefix_rows first_prefix_rows later_prefix_rows
all_known = refl

-- the byte of each line of the prefix table is that of a prefix
prefix_known : (line : PrefixRow) → Contains prefix_rows line → (p : Prefix) × (prefix_byte p ≡ Some line.prefix)
prefix_known line c =
    elim (either ((line.prefix == 0x66) || (line.prefix == 0xF3)) ((line.prefix == 0xF2) || (line.prefix == 0xF0))
    (each-Contains known prefix_rows line all_known c)) [
      | inl a ↦ elim (either (line.prefix == 0x66) (line.prefix == 0xF3) a) [
        | inl is ↦ (Word, ap (λ (n : ℕ). Some n) (sym (eqb-true _ _ is)))
        | inr is ↦ (Repeat, ap (λ (n : ℕ). Some n) (sym (eqb-true _ _ is)))
      ]
      | inr a ↦ elim (either (line.prefix == 0xF2) (line.prefix == 0xF0) a) [
        | inl is ↦ (RepeatNot, ap (λ (n : ℕ). Some n) (sym (eqb-true _ _ is)))
        | inr is ↦ (Lock, ap (λ (n : ℕ). Some n) (sym (eqb-true _ _ is)))
      ]
    ]

-- a line allows the byte before these parts
abbrev pub Allowed : Parts → ℕ → Type 0
Allowed q b = (line : PrefixRow) × Contains prefix_rows line × Allows line b q

-- the prefix of a spelling
pub prefix_at : (q : Parts) (o : Option ℕ) → IfSome o (Allowed q) → (p : Prefix) × (prefix_byte p ≡ o)
prefix_at q None h = (Unprefixed, refl)
prefix_at q (Some b) h = let w = prefix_known h.0 h.1 in (w.0, w.1 ∙ ap (λ (n : ℕ). Some n) h.2.same)

-- prefix and opcode of a spelling stand together
pub stands : (q : Parts) (p : Prefix) → AreParts q → q.opcode < 256 → (q.row.escaped ≡ true → escapes p ≡ true)
    → Stands p q.row.escaped q.opcode
stands q p fit lt escape = record {
  escape = escape;
  no_escape = λ one. (opcode_stands q.row q.opcode fit.listed lt fit.opcode one).0;
  no_prefix = λ one. plain_is _ (opcode_stands q.row q.opcode fit.listed lt fit.opcode one).1;
}

-- ---- the bytes of a spelling

-- the bytes of a spelling begin with its prefix and opcode
pub header_spelled : (q : Parts) (p : Prefix) (r : List ℕ) → prefix_byte p ≡ q.prefix
    → spelled q ++ r ≡ header p q.row.escaped q.opcode ++ (q.operand ++ (q.number ++ r))
header_spelled q p r is =
    ap (λ (o : Option ℕ). (((option_to_list o ++ code q.row.escaped q.opcode) ++ q.operand) ++ q.number) ++ r) (sym is)
    ∙ append_assoc ((header p q.row.escaped q.opcode) ++ q.operand) q.number r
    ∙ append_assoc (header p q.row.escaped q.opcode) q.operand (q.number ++ r)

-- the length of a spelling is that of its parts
pub spelled_len : (q : Parts) (p : Prefix) → prefix_byte p ≡ q.prefix
    → length (spelled q) ≡ length (header p q.row.escaped q.opcode) + length q.operand + length q.number
spelled_len q p is =
    ap (λ (o : Option ℕ). length (((option_to_list o ++ code q.row.escaped q.opcode) ++ q.operand) ++ q.number)) (sym is)
    ∙ length-append ((header p q.row.escaped q.opcode) ++ q.operand) q.number
    ∙ ap (λ (n : ℕ). n + length q.number) (length-append (header p q.row.escaped q.opcode) q.operand)
