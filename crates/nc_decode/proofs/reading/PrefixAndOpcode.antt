-- The prefix and the opcode at the front of some bytes.
use Rattle.std.proofs.Common.{◌≡◌, ℕ, ◌+◌, Bool, true, false, List, [], ◌∷◌, ◌++◌, length, Option, Some, Result, Ok, Err, ◌==◌, cond, refl, sym}
use Rattle.std.proofs.Common.{subst, ◌∙◌, ap, arith, inl, inr, ◌⊎◌, eqb-true}
use Rattle.std.specs.Prelude.{option_to_list}
use Rattle.nc_decode.specs.declared.instruction.DecodeFault.{DecodeFault}
use Rattle.nc_decode.specs.declared.instruction.DecodeFault.TheVariants.{NotPermitted}
use Rattle.nc_decode.specs.declared.entry.Shape.{Shape}
use Rattle.nc_decode.specs.declared.entry.Prefix.{Prefix}
use Rattle.nc_decode.specs.declared.entry.Prefix.TheVariants.{Absent as Unprefixed, Word, Repeat, RepeatNot, Lock}
use Rattle.nc_decode.specs.machinery.Entries.{opcode_entry}
use Rattle.nc_decode.specs.machinery.Shapes.{prefix_of, entry_shape, escapes, escaped_shape, opcode_shape, prefixed_shape, shape_of}
use Rattle.nc_decode.proofs.opcodes.EntriesMatchRows.{prefix_byte, coded_plain}
use Rattle.nc_base.proofs.Offered.{true_or_false}

-- the opcode's bytes, and those in front of the operand
abbrev pub code : Bool → ℕ → List ℕ
code escaped o = cond escaped (0x0F ∷ o ∷ []) (o ∷ [])

-- the bytes of prefix and opcode
abbrev pub header : Prefix → Bool → ℕ → List ℕ
header p escaped o = option_to_list (prefix_byte p) ++ code escaped o

-- a byte is a prefix, or none
pub prefix_is : (b : ℕ) → (prefix_of b ≡ Unprefixed) ⊎ ((p : Prefix) × (prefix_of b ≡ p) × (prefix_byte p ≡ Some b))
unfolding prefix_of
prefix_is b =
    elim (true_or_false (b == 0x66)) [
      | inl is ↦ inr (Word, rw is refl, ap (λ (n : ℕ). Some n) (sym (eqb-true _ _ is)))
      | inr not_word ↦ elim (true_or_false (b == 0xF3)) [
        | inl is ↦ inr (Repeat, rw (not_word, is) refl, ap (λ (n : ℕ). Some n) (sym (eqb-true _ _ is)))
        | inr not_repeat ↦ elim (true_or_false (b == 0xF2)) [
          | inl is ↦ inr (RepeatNot, rw (not_word, not_repeat, is) refl, ap (λ (n : ℕ). Some n) (sym (eqb-true _ _ is)))
          | inr not_repeat_not ↦ elim (true_or_false (b == 0xF0)) [
            | inl is ↦ inr (Lock, rw (not_word, not_repeat, not_repeat_not, is) refl, ap (λ (n : ℕ). Some n) (sym (eqb-true _ _ is)))
            | inr not_lock ↦ inl (rw (not_word, not_repeat, not_repeat_not, not_lock) refl)
          ]
        ]
      ]
    ]

-- what is numbered as no prefix is none
pub plain_is : (p : Prefix) → coded_plain p ≡ true → p ≡ Unprefixed
plain_is Unprefixed e = refl
plain_is Word e = absurd cc
plain_is Repeat e = absurd cc
plain_is RepeatNot e = absurd cc
plain_is Lock e = absurd cc

-- the bytes begin with an opcode under a prefix, and the entry of the opcode reads the rest
pub record Opens (p : Prefix) (bytes : List ℕ) (s : Shape) (count : ℕ) : Type 0 where
  pub escaped : Bool
  pub opcode : ℕ
  pub rest : List ℕ
  pub parts : bytes ≡ code escaped opcode ++ rest
  pub reads : entry_shape p (count + length (code escaped opcode)) (opcode_entry escaped opcode) rest ≡ Ok s

-- the refusal
abbrev none : Result Shape DecodeFault
none = Err NotPermitted

-- an opcode of two bytes
opens_escaped : (p : Prefix) (n : ℕ) (rest : List ℕ) (s : Shape) → escaped_shape p (n + 1) rest ≡ Ok s → Opens p (0x0F ∷ rest) s n
unfolding escaped_shape
opens_escaped p n [] s e = absurd cc
opens_escaped p n (o ∷ rest) s e = record {
  escaped = true;
  opcode = o;
  rest = rest;
  parts = refl;
  reads = subst (λ (k : ℕ). entry_shape p k (opcode_entry true o) rest ≡ Ok s) (omega arith) e;
}

-- an opcode
opens_opcode : (p : Prefix) (n : ℕ) (bytes : List ℕ) (s : Shape) → opcode_shape p n bytes ≡ Ok s → Opens p bytes s n
unfolding opcode_shape
opens_opcode p n [] s e = absurd cc
opens_opcode p n (o ∷ rest) s e =
    elim (true_or_false (o == 0x0F)) [
      | inl is ↦ elim (true_or_false (escapes p)) [
        | inl may ↦ subst (λ (k : ℕ). Opens p (k ∷ rest) s n) (sym (eqb-true _ _ is)) (opens_escaped p n rest s (rw (is, may) at e))
        | inr may_not ↦ absurd (let f : none ≡ Ok s = (rw (is, may_not) at e) in cc)
      ]
      | inr is_not ↦ record { escaped = false; opcode = o; rest = rest; parts = refl; reads = rw is_not at e }
    ]

-- what was read begins with a prefix and an opcode
pub record Begins (bytes : List ℕ) (s : Shape) : Type 0 where
  pub prefix : Prefix
  pub escaped : Bool
  pub opcode : ℕ
  pub rest : List ℕ
  pub parts : bytes ≡ header prefix escaped opcode ++ rest
  pub reads : entry_shape prefix (length (header prefix escaped opcode)) (opcode_entry escaped opcode) rest ≡ Ok s

-- a prefix adds one byte
length_code : (b : ℕ) (escaped : Bool) (o : ℕ) → 1 + length (code escaped o) ≡ length (b ∷ code escaped o)
length_code b true o = refl
length_code b false o = refl

-- an opcode after a prefix
begins_behind : (p : Prefix) (b : ℕ) (rest : List ℕ) (s : Shape) → prefix_byte p ≡ Some b → Opens p rest s 1 → Begins (b ∷ rest) s
begins_behind p b rest s e o =
    let front : b ∷ code o.escaped o.opcode ≡ header p o.escaped o.opcode
    = sym (ap (λ (x : Option ℕ). option_to_list x ++ code o.escaped o.opcode) e) in
    record {
      prefix = p;
      escaped = o.escaped;
      opcode = o.opcode;
      rest = o.rest;
      parts = ap (λ (z : List ℕ). b ∷ z) o.parts ∙ ap (λ (z : List ℕ). z ++ o.rest) front;
      reads = subst (λ (k : ℕ). entry_shape p k (opcode_entry o.escaped o.opcode) o.rest ≡ Ok s)
          (length_code b o.escaped o.opcode ∙ ap (λ (z : List ℕ). length z) front) o.reads;
    }

-- after a prefix the opcode comes next
pub prefixed_reads : (p : Prefix) (b : ℕ) (first rest : List ℕ) (s : Shape) → prefix_byte p ≡ Some b
    → prefixed_shape p first rest ≡ Ok s → opcode_shape p 1 rest ≡ Ok s
unfolding prefixed_shape
prefixed_reads Unprefixed b first rest s e h = absurd cc
prefixed_reads Word b first rest s e h = h
prefixed_reads Repeat b first rest s e h = h
prefixed_reads RepeatNot b first rest s e h = h
prefixed_reads Lock b first rest s e h = h

-- with no prefix the opcode comes first
pub plain_reads : (p : Prefix) (first rest : List ℕ) (s : Shape) → p ≡ Unprefixed → prefixed_shape p first rest ≡ Ok s
    → opcode_shape Unprefixed 0 first ≡ Ok s
unfolding prefixed_shape
plain_reads Unprefixed first rest s e h = h
plain_reads Word first rest s e h = absurd cc
plain_reads Repeat first rest s e h = absurd cc
plain_reads RepeatNot first rest s e h = absurd cc
plain_reads Lock first rest s e h = absurd cc

-- all bytes from which a shape was read begin with a prefix and an opcode
pub begins : (bytes : List ℕ) (s : Shape) → shape_of bytes ≡ Ok s → Begins bytes s
unfolding shape_of
begins [] s e = absurd cc
begins (first ∷ rest) s e =
    elim (prefix_is first) [
      | inl is ↦
          (let o = opens_opcode Unprefixed 0 (first ∷ rest) s (plain_reads (prefix_of first) (first ∷ rest) rest s is e) in
          record {
            prefix = Unprefixed;
            escaped = o.escaped;
            opcode = o.opcode;
            rest = o.rest;
            parts = o.parts;
            reads = subst (λ (k : ℕ). entry_shape Unprefixed k (opcode_entry o.escaped o.opcode) o.rest ≡ Ok s) (omega arith) o.reads;
          })
      | inr w ↦
          begins_behind w.0 first rest s w.2
          (opens_opcode w.0 1 rest s (prefixed_reads w.0 first (first ∷ rest) rest s w.2
          (subst (λ (q : Prefix). prefixed_shape q (first ∷ rest) rest ≡ Ok s) w.1 e)))
    ]

-- ---- the other way

-- a prefix and an opcode that stand together
pub record Stands (p : Prefix) (escaped : Bool) (o : ℕ) : Type 0 where
  pub escape : escaped ≡ true → escapes p ≡ true
  pub no_escape : escaped ≡ false → (o == 0x0F) ≡ false
  pub no_prefix : escaped ≡ false → prefix_of o ≡ Unprefixed

-- an opcode of two bytes is read by its entry
escaped_read : (p : Prefix) (n o : ℕ) (rest : List ℕ) → escapes p ≡ true
    → opcode_shape p n (0x0F ∷ o ∷ rest) ≡ entry_shape p (n + 1 + 1) (opcode_entry true o) rest
unfolding opcode_shape escaped_shape
escaped_read p n o rest may = rw may refl

-- an opcode of one byte is read by its entry
bare_read : (p : Prefix) (n o : ℕ) (rest : List ℕ) → (o == 0x0F) ≡ false
    → opcode_shape p n (o ∷ rest) ≡ entry_shape p (n + 1) (opcode_entry false o) rest
unfolding opcode_shape
bare_read p n o rest is_not = rw is_not refl

-- FF is no prefix
pub far_plain : prefix_of 0xFF ≡ Unprefixed
unfolding prefix_of
far_plain = refl

-- a byte that is no prefix is read as an opcode
pub plain_shape : (o : ℕ) (rest : List ℕ) → prefix_of o ≡ Unprefixed → shape_of (o ∷ rest) ≡ opcode_shape Unprefixed 0 (o ∷ rest)
unfolding shape_of prefixed_shape
plain_shape o rest is = rw is refl

-- prefix and opcode are read, and the entry reads the rest
pub header_read : (p : Prefix) (escaped : Bool) (o : ℕ) (rest : List ℕ) → Stands p escaped o
    → shape_of (header p escaped o ++ rest) ≡ entry_shape p (length (header p escaped o)) (opcode_entry escaped o) rest
unfolding shape_of prefixed_shape prefix_of
header_read Unprefixed true o rest h = escaped_read Unprefixed 0 o rest refl
header_read Unprefixed false o rest h = plain_shape o rest (h.no_prefix refl) ∙ bare_read Unprefixed 0 o rest (h.no_escape refl)
header_read Word true o rest h = escaped_read Word 1 o rest refl
header_read Word false o rest h = bare_read Word 1 o rest (h.no_escape refl)
header_read Repeat true o rest h = escaped_read Repeat 1 o rest (h.escape refl)
header_read Repeat false o rest h = bare_read Repeat 1 o rest (h.no_escape refl)
header_read RepeatNot true o rest h = escaped_read RepeatNot 1 o rest (h.escape refl)
header_read RepeatNot false o rest h = bare_read RepeatNot 1 o rest (h.no_escape refl)
header_read Lock true o rest h = escaped_read Lock 1 o rest refl
header_read Lock false o rest h = bare_read Lock 1 o rest (h.no_escape refl)
