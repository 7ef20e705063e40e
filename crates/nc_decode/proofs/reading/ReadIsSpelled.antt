-- What is read is spelled.
use Rattle.std.proofs.Common.{◌≡◌, ℕ, suc, ◌+◌, ◌<◌, ◌≤◌, Bool, true, false, List, [], ◌∷◌, ◌++◌, length, take, drop, Option, Ok, ◌==◌}
use Rattle.std.proofs.Common.{◌&&◌, ◌||◌, refl, sym, subst, ◌∙◌, ap, arith, inl, inr, All, append-nil}
use Rattle.std.proofs.Math.Seq.{drop-append_seam, take-append-add}
use Rattle.std.specs.Prelude.{option_to_list, IsTrue, ℤ}
use Rattle.std.proofs.lemmas.List.{length-take-le, length-append, length-drop, take-append-drop}
use Rattle.std.proofs.lemmas.Option.{IfSome_then}
use Rattle.nc_decode.specs.declared.instruction.Instr.{Instr}
use Rattle.nc_decode.specs.declared.instruction.Flow.{Flow}
use Rattle.nc_decode.specs.declared.entry.Entry.{Entry}
use Rattle.nc_decode.specs.declared.entry.Shape.{Shape}
use Rattle.nc_decode.specs.declared.entry.Prefix.{Prefix}
use Rattle.nc_decode.specs.declared.entry.Prefix.TheVariants.{Absent as Unprefixed, Word, Repeat, RepeatNot, Lock}
use Rattle.nc_decode.specs.machinery.Entries.{opcode_entry}
use Rattle.nc_decode.specs.Rows.{Row, is_at, mod_of, reg_of}
use Rattle.nc_decode.specs.machinery.Shapes.{forms_of, coded_len, flow_of, permits, sized_operand, shape_of}
use Rattle.nc_decode.specs.Spelling.{register_of, masks_of, Parts, spelled, AreParts, Spells}
use Rattle.nc_decode.specs.machinery.Reading.{rel_of}
use Rattle.nc_decode.specs.Transfers.{is_indirect}
use Rattle.nc_decode.proofs.opcodes.EntriesMatchRows.{prefix_byte}
use Rattle.nc_decode.proofs.reading.PrefixAndOpcode.{code, header, begins}
use Rattle.nc_decode.proofs.opcodes.PermittedIsListed.{listed_form, listed_bare, place_is, permits_is}
use Rattle.nc_decode.proofs.opcodes.RowAndEntry.{agreed_is, same_rel, same_reg, no_reg}
use Rattle.nc_decode.proofs.reading.EntryReads.{IsBytes, shape_alone, formed_shape, entry_read}
use Rattle.nc_decode.proofs.reading.OperandLengths.{sized_is, front_is, all_front}

-- an instruction by its fields
abbrev instr : ℕ → Flow → ℤ → ℕ → Option ℕ → Instr
instr len flow rel reg masks = record { len = len; flow = flow; rel = rel; reg = reg; masks = masks }

-- equal fields, equal instructions
pub instr_same : (l k : ℕ) (f g : Flow) (r t : ℤ) (a b : ℕ) (m n : Option ℕ) → l ≡ k → f ≡ g → r ≡ t → a ≡ b → m ≡ n
    → instr l f r a m ≡ instr k g t b n
instr_same l k f g r t a b m n p q u v w = rw (p, q, u, v, w) refl

-- the instruction of a shape at the front of the bytes
abbrev pub instr_at : List ℕ → Shape → Instr
instr_at bytes s = record {
  len = s.head + s.number_len;
  flow = s.flow;
  rel = rel_of s.number (drop s.head bytes);
  reg = s.reg;
  masks = masks_of (take (s.head + s.number_len) bytes);
}

-- what stands after prefix, opcode and operand
drop_header : (h : List ℕ) (m : ℕ) (tail : List ℕ) (k : ℕ) → drop (length h + (k + 1)) (h ++ m ∷ tail) ≡ drop k tail
drop_header [] m tail k = let e : 0 + (k + 1) ≡ suc k = omega arith in rw e refl
drop_header (x ∷ h) m tail k = let e : suc (length h) + (k + 1) ≡ suc (length h + (k + 1)) = omega arith in rw e (drop_header h m tail k)

-- the parts of what was read with an operand
abbrev formed_parts : Prefix → Row → ℕ → ℕ → List ℕ → ℕ → ℕ → Parts
formed_parts p row o modrm tail k j = record {
  prefix = prefix_byte p;
  row = row;
  opcode = o;
  operand = modrm
      ∷ take k tail;
  number = take j (drop k tail);
}

-- the bytes that were read with an operand are those that its parts spell
formed_spelled : (p : Prefix) (row : Row) (escaped : Bool) (o modrm : ℕ) (tail : List ℕ) (k j : ℕ) → row.escaped ≡ escaped
    → take (length (header p escaped o) + (k + 1) + j) (header p escaped o ++ modrm ∷ tail) ≡ spelled (formed_parts p row o modrm tail k j)
formed_spelled p row escaped o modrm tail k j is =
    front_is (header p escaped o) modrm tail k j
    ∙ ap (λ (b : Bool). ((option_to_list (prefix_byte p) ++ code b o) ++ modrm ∷ take k tail) ++ take j (drop k tail)) (sym is)

-- what is read with an operand is spelled
pub formed_spells : (p : Prefix) (escaped : Bool) (o modrm : ℕ) (tail : List ℕ) (k : ℕ) → o < 256 → modrm < 256
    → IsBytes (header p escaped o ++ modrm ∷ tail) → (opcode_entry escaped o).operand ≡ true
    → permits (forms_of p (opcode_entry escaped o)) modrm ≡ true → sized_operand modrm tail ≡ Ok k
    → length (header p escaped o) + k + coded_len p (opcode_entry escaped o).number (reg_of modrm) ≤ length
    (header p escaped o ++ modrm ∷ tail)
    → Spells (take (length (header p escaped o) + k + coded_len p (opcode_entry escaped o).number (reg_of modrm))
    (header p escaped o ++ modrm ∷ tail))
    (instr_at (header p escaped o ++ modrm ∷ tail) (formed_shape p (length (header p escaped o)) (opcode_entry escaped o) modrm k))
formed_spells p escaped o modrm tail k o-lt modrm-lt fits operand permitted sized long =
    let e : Entry = opcode_entry escaped o in
    let w = sized_is modrm tail k modrm-lt sized in
    let j : ℕ = coded_len p (opcode_entry escaped o).number (reg_of modrm) in
    let n : ℕ = length (header p escaped o) in
    let bytes : List ℕ = header p escaped o ++ modrm ∷ tail in
    let l = listed_form p escaped o (reg_of modrm) (mod_of modrm == 3) o-lt (omega arith) operand
    (sym (permits_is (forms_of p (opcode_entry escaped o)) modrm) ∙ permitted) in
    let row : Row = l.0.0 in
    let r = l.0.1 in
    let a = agreed_is p (opcode_entry escaped o) (reg_of modrm) row r.agreed in
    let total : n + k + j ≡ n + (w.0 + 1) + j = omega (arith, w.1) in
    let whole : take (n + k + j) bytes ≡ spelled (formed_parts p row o modrm tail w.0 j)
    = ap (λ (t : ℕ). take t bytes) total ∙ formed_spelled p row escaped o modrm tail w.0 j r.escaped_is in
    let long_tail : w.0 + j ≤ length tail = omega (arith, w.1, length-append (header p escaped o) (modrm ∷ tail)) in
    let long_drop : j ≤ length (drop w.0 tail) = omega (arith, length-drop w.0 tail) in
    let front_len : length (take w.0 tail) ≡ w.0 = length-take-le w.0 tail (omega arith) in
    let mod-lt : mod_of modrm < 4 = omega arith in
    let place : is_at row.place (mod_of modrm) ≡ true = place_is row.place (mod_of modrm) mod-lt ∙ l.0.4 in
    let fit : AreParts (formed_parts p row o modrm tail w.0 j) = record {
      listed = r.listed;
      opcode = r.opcode;
      operand = (l.0.2, omega (arith, w.1, w.2, front_len), l.0.3, place);
      number = length-take-le j (drop w.0 tail) long_drop ∙ sym a.number;
      prefix = IfSome_then (prefix_byte p) l.1 (λ b v. (
        v.0,
        v.1.listed,
        record {
          same = v.1.byte_is;
          escaped = v.1.escaped_is ∙ sym r.escaped_is;
          opcode = v.1.opcode;
          operand = λ _. (v.2, place_is v.0.place (mod_of modrm) mod-lt ∙ v.3);
        },
      ));
      bytes = subst (λ (xs : List ℕ). All (λ b. b < 256) xs) whole (all_front bytes (n + k + j) fits);
    } in
    record {
      parts = formed_parts p row o modrm tail w.0 j;
      fit = fit;
      whole = whole;
      says = instr_same _ _ _ _ _ _ _ _ _ _
          (sym (length-take-le (n + k + j) bytes long) ∙ ap (λ (xs : List ℕ). length xs) whole)
          (sym a.flow)
          (ap (λ (xs : List ℕ). rel_of (opcode_entry escaped o).number xs)
          (ap (λ (t : ℕ). drop (n + t) bytes) w.1 ∙ drop_header (header p escaped o) modrm tail w.0
          ∙ sym (take-append-drop j (drop w.0 tail)))
          ∙ sym (same_rel (prefix_byte p) row.number (opcode_entry escaped o).number (take j (drop w.0 tail))
          (drop j (drop w.0 tail)) a.kind (length-take-le j (drop w.0 tail) long_drop ∙ sym a.number)))
          (sym (same_reg row.flow (opcode_entry escaped o) modrm (take w.0 tail) a.indirect))
          (ap (λ (xs : List ℕ). masks_of xs) whole);
    }

-- ---- an instruction without operand

-- a front after prefix and opcode
bare_front : (h rest : List ℕ) (j : ℕ) → take (length h + j) (h ++ rest) ≡ (h ++ []) ++ take j rest
bare_front h rest j = take-append-add h rest j ∙ ap (λ (xs : List ℕ). xs ++ take j rest) (sym (append-nil h))

-- the parts of what was read without operand
abbrev bare_parts : Prefix → Row → ℕ → List ℕ → ℕ → Parts
bare_parts p row o rest j = record { prefix = prefix_byte p; row = row; opcode = o; operand = []; number = take j rest }

-- the bytes that were read without operand are those that its parts spell
bare_spelled : (p : Prefix) (row : Row) (escaped : Bool) (o : ℕ) (rest : List ℕ) (j : ℕ) → row.escaped ≡ escaped
    → take (length (header p escaped o) + j) (header p escaped o ++ rest) ≡ spelled (bare_parts p row o rest j)
bare_spelled p row escaped o rest j is =
    bare_front (header p escaped o) rest j
    ∙ ap (λ (b : Bool). ((option_to_list (prefix_byte p) ++ code b o) ++ []) ++ take j rest) (sym is)

-- an opcode without operand goes where its entry says
pub flow_bare : (e : Entry) → e.indirect ≡ false → flow_of e 0 ≡ e.flow
unfolding flow_of
flow_bare e h = rw h refl

-- an opcode without operand names no register
pub no_register : (f : Flow) (i : Bool) → is_indirect f ≡ (i && ((0 == 2) || (0 == 4))) → register_of f [] ≡ 0
no_register f i h = no_reg f i h

-- no row is both without operand and with one
operand_free : (row : Row) → row.operand ≡ false → IsTrue row.operand → ⊥
operand_free row h t = let f : true ≡ false = sym t ∙ h in cc

-- what is read without operand is spelled
pub bare_spells : (p : Prefix) (escaped : Bool) (o : ℕ) (rest : List ℕ) → o < 256
    → IsBytes (header p escaped o ++ rest) → (opcode_entry escaped o).operand ≡ false → (forms_of p (opcode_entry escaped o) == 0) ≡ false
    → length (header p escaped o) + coded_len p (opcode_entry escaped o).number 0 ≤ length (header p escaped o ++ rest)
    → Spells (take (length (header p escaped o) + coded_len p (opcode_entry escaped o).number 0) (header p escaped o ++ rest))
    (instr_at (header p escaped o ++ rest) (shape_alone p (length (header p escaped o)) (opcode_entry escaped o)))
bare_spells p escaped o rest o-lt fits operand some_form long =
    let j : ℕ = coded_len p (opcode_entry escaped o).number 0 in
    let n : ℕ = length (header p escaped o) in
    let bytes : List ℕ = header p escaped o ++ rest in
    let l = listed_bare p escaped o o-lt operand some_form in
    let row : Row = l.0.0 in
    let r = l.0.1 in
    let a = agreed_is p (opcode_entry escaped o) 0 row r.agreed in
    let whole : take (n + j) bytes ≡ spelled (bare_parts p row o rest j) = bare_spelled p row escaped o rest j r.escaped_is in
    let long_rest : j ≤ length rest = omega (arith, length-append (header p escaped o) rest) in
    let fit : AreParts (bare_parts p row o rest j) = record {
      listed = r.listed;
      opcode = r.opcode;
      operand = l.0.2;
      number = length-take-le j rest long_rest ∙ sym a.number;
      prefix = IfSome_then (prefix_byte p) l.1 (λ b v. (
        v.0,
        v.1.listed,
        record {
          same = v.1.byte_is;
          escaped = v.1.escaped_is ∙ sym r.escaped_is;
          opcode = v.1.opcode;
          operand = λ t. absurd (operand_free row l.0.2 t);
        },
      ));
      bytes = subst (λ (xs : List ℕ). All (λ b. b < 256) xs) whole (all_front bytes (n + j) fits);
    } in
    record {
      parts = bare_parts p row o rest j;
      fit = fit;
      whole = whole;
      says = instr_same _ _ _ _ _ _ _ _ _ _
          (sym (length-take-le (n + j) bytes long) ∙ ap (λ (xs : List ℕ). length xs) whole)
          (sym (a.flow ∙ flow_bare (opcode_entry escaped o) l.0.3))
          (ap (λ (xs : List ℕ). rel_of (opcode_entry escaped o).number xs)
          (drop-append_seam (header p escaped o) rest ∙ sym (take-append-drop j rest))
          ∙ sym (same_rel (prefix_byte p) row.number (opcode_entry escaped o).number (take j rest) (drop j rest) a.kind
          (length-take-le j rest long_rest ∙ sym a.number)))
          (sym (no_register row.flow (opcode_entry escaped o).indirect a.indirect))
          (ap (λ (xs : List ℕ). masks_of xs) whole);
    }

-- ---- both

-- the rest of a list of bytes is bytes
pub bytes_of_rest : (h rest : List ℕ) → IsBytes (h ++ rest) → IsBytes rest
bytes_of_rest [] rest fits = fits
bytes_of_rest (x ∷ h) rest fits = bytes_of_rest h rest (λ i. fits (suc i))

-- the opcode is one of the bytes
pub opcode_is_byte : (p : Prefix) (escaped : Bool) (o : ℕ) (rest : List ℕ) → IsBytes (header p escaped o ++ rest) → o < 256
opcode_is_byte Unprefixed true o rest fits = fits 1
opcode_is_byte Unprefixed false o rest fits = fits 0
opcode_is_byte Word true o rest fits = fits 2
opcode_is_byte Word false o rest fits = fits 1
opcode_is_byte Repeat true o rest fits = fits 2
opcode_is_byte Repeat false o rest fits = fits 1
opcode_is_byte RepeatNot true o rest fits = fits 2
opcode_is_byte RepeatNot false o rest fits = fits 1
opcode_is_byte Lock true o rest fits = fits 2
opcode_is_byte Lock false o rest fits = fits 1

-- what the first bytes fix is spelled there, if the bytes are there
pub shape_spells : (bytes : List ℕ) (s : Shape) → IsBytes bytes → shape_of bytes ≡ Ok s → s.head + s.number_len ≤ length bytes
    → Spells (take (s.head + s.number_len) bytes) (instr_at bytes s)
shape_spells bytes s fits h long =
    let b = begins bytes s h in
    let fits2 : IsBytes (header b.prefix b.escaped b.opcode ++ b.rest) = subst IsBytes b.parts fits in
    let o-lt = opcode_is_byte b.prefix b.escaped b.opcode b.rest fits2 in
    let e = entry_read b.prefix (length (header b.prefix b.escaped b.opcode)) (opcode_entry b.escaped b.opcode) b.rest s b.reads in
    let P : List ℕ → Shape → Type 0 = λ xs t. t.head + t.number_len ≤ length xs
    → Spells (take (t.head + t.number_len) xs) (instr_at xs t) in
    let done : P (header b.prefix b.escaped b.opcode ++ b.rest) s =
    elim e.1 [
      | inl bare ↦ subst (P (header b.prefix b.escaped b.opcode ++ b.rest)) (sym bare.1)
          (bare_spells b.prefix b.escaped b.opcode b.rest o-lt fits2 bare.0 e.0)
      | inr w ↦
          subst (P (header b.prefix b.escaped b.opcode ++ b.rest)) (sym w.1.is)
          (subst (λ xs. P (header b.prefix b.escaped b.opcode ++ xs)
          (formed_shape b.prefix (length (header b.prefix b.escaped b.opcode)) (opcode_entry b.escaped b.opcode) w.1.modrm w.1.k))
          (sym w.1.parts)
          (formed_spells b.prefix b.escaped b.opcode w.1.modrm w.1.tail w.1.k o-lt
          (bytes_of_rest (header b.prefix b.escaped b.opcode) (w.1.modrm ∷ w.1.tail)
          (subst (λ xs. IsBytes (header b.prefix b.escaped b.opcode ++ xs)) w.1.parts fits2) 0)
          (subst (λ xs. IsBytes (header b.prefix b.escaped b.opcode ++ xs)) w.1.parts fits2)
          w.0 w.1.permitted w.1.sized))
    ] in
    subst (λ xs. P xs s) (sym b.parts) done long
