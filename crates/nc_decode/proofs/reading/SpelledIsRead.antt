-- A spelling with anything after it is read.
use Rattle.std.proofs.Common.{◌≡◌, ℕ, ◌+◌, ◌<◌, true, false, List, [], ◌∷◌, ◌++◌, length, take, drop, Option, Ok, ◌==◌, refl, sym, subst}
use Rattle.std.proofs.Common.{◌∙◌, ap, arith, inl, inr, All, add-one, append-nil}
use Rattle.std.proofs.Math.Seq.{drop-append_seam, drop-append-add}
use Rattle.std.specs.Prelude.{slice_index, IfSome}
use Rattle.std.proofs.lemmas.Bool.{cases_lt}
use Rattle.std.proofs.lemmas.List.{get_or_past, take_at}
use Rattle.std.proofs.lemmas.Option.{IfSome_then}
use Rattle.nc_decode.specs.declared.entry.Entry.{Entry}
use Rattle.nc_decode.specs.declared.entry.Shape.{Shape}
use Rattle.nc_decode.specs.declared.entry.Prefix.{Prefix}
use Rattle.nc_decode.specs.machinery.Entries.{opcode_entry}
use Rattle.nc_decode.specs.Rows.{Row, within, is_at, mod_of, reg_of}
use Rattle.nc_decode.specs.machinery.Shapes.{forms_of, coded_len, permits, shape_of}
use Rattle.nc_decode.specs.Spelling.{number_len, register_of, masks_of, Parts, spelled, IsOperand, AreParts, instr_of}
use Rattle.nc_decode.specs.machinery.Reading.{rel_of}
use Rattle.nc_decode.proofs.opcodes.EntriesMatchRows.{prefix_byte, place_at}
use Rattle.nc_decode.proofs.reading.PrefixAndOpcode.{header, header_read}
use Rattle.nc_decode.proofs.opcodes.PermittedIsListed.{IsLine, AllowsForm, AllowsBare, place_is, permits_is, permitted_form, permitted_bare}
use Rattle.nc_decode.proofs.opcodes.PermittedIsListed.{operand_is}
use Rattle.nc_decode.proofs.opcodes.RowAndEntry.{agreed_is, same_rel, same_reg}
use Rattle.nc_decode.proofs.reading.EntryReads.{IsBytes, shape_alone, formed_shape}
use Rattle.nc_decode.proofs.reading.ReadIsSpelled.{instr_at, instr_same, bytes_of_rest, opcode_is_byte, flow_bare, no_register}
use Rattle.nc_decode.proofs.reading.SpellingParts.{Allowed, prefix_at, stands, header_spelled, spelled_len, entry_formed, entry_alone, sized_front}

-- numbers that are all below 256 are bytes
pub bytes_from_all : (xs : List ℕ) → All (λ b. b < 256) xs → IsBytes xs
bytes_from_all xs h i =
    elim (cases_lt i (length xs)) [
      | inl lt ↦ h i 0 lt
      | inr past ↦ rw (get_or_past xs i 0 past) (omega arith)
    ]

-- the bytes of a spelling, with its parts in a row
pub header_bytes : (q : Parts) (p : Prefix) → AreParts q → prefix_byte p ≡ q.prefix
    → IsBytes (header p q.row.escaped q.opcode ++ (q.operand ++ (q.number ++ [])))
header_bytes q p fit is = subst IsBytes (sym (append-nil (spelled q)) ∙ header_spelled q p [] is) (bytes_from_all (spelled q) fit.bytes)

-- the opcode of a spelling is a byte
pub opcode-lt : (q : Parts) (p : Prefix) → AreParts q → prefix_byte p ≡ q.prefix → q.opcode < 256
opcode-lt q p fit is = opcode_is_byte p q.row.escaped q.opcode _ (header_bytes q p fit is)

-- the ModRM of a spelling is a byte
modrm-lt : (q : Parts) (p : Prefix) (modrm : ℕ) (tail : List ℕ) → AreParts q → prefix_byte p ≡ q.prefix → q.operand ≡ modrm ∷ tail
    → modrm < 256
modrm-lt q p modrm tail fit is operand =
    let fits : IsBytes (header p q.row.escaped q.opcode ++ ((modrm ∷ tail) ++ (q.number ++ []))) = subst
    (λ xs. IsBytes (header p q.row.escaped q.opcode ++ (xs ++ (q.number ++ [])))) operand (header_bytes q p fit is) in
    bytes_of_rest (header p q.row.escaped q.opcode) ((modrm ∷ tail) ++ (q.number ++ [])) fits 0

-- the spelling as it is read
pub record IsRead (q : Parts) (r : List ℕ) : Type 0 where
  pub shape : Shape
  pub fixed : shape_of (spelled q ++ r) ≡ Ok shape
  pub len : shape.head + shape.number_len ≡ length (spelled q)
  pub says : instr_at (spelled q ++ r) shape ≡ instr_of q

-- the line that allows the prefix of a spelling
line_from : (q : Parts) (b : ℕ) (v : Allowed q b) → IsLine b q.row.escaped q.opcode v.0
line_from q b v = record { listed = v.1; byte_is = v.2.same; escaped_is = v.2.escaped; opcode = v.2.opcode }

-- the line that allows the prefix of a spelling has the form of its operand
form_from : (q : Parts) (modrm b : ℕ) (v : Allowed q b) → q.row.operand ≡ true → slice_index q.operand 0 ≡ modrm → modrm < 256
    → (within (reg_of modrm) v.0.regs ≡ true) × (place_at v.0.place (mod_of modrm == 3) ≡ true)
form_from q modrm b v operand is lt =
    let w = v.2.operand operand in (
      subst (λ (m : ℕ). within (reg_of m) v.0.regs ≡ true) is w.0,
      sym (place_is v.0.place (mod_of modrm) (omega arith)) ∙ subst (λ (m : ℕ). is_at v.0.place (mod_of m) ≡ true) is w.1,
    )

-- the operand is one of the row's
abbrev FormParts : Row → ℕ → List ℕ → Type 0
FormParts row modrm tail = IsOperand row (modrm ∷ tail)

-- a spelling with an operand is read
read_formed : (q : Parts) (p : Prefix) (modrm : ℕ) (tail r : List ℕ) → AreParts q → prefix_byte p ≡ q.prefix → q.operand ≡ modrm ∷ tail
    → IsRead q r
read_formed q p modrm tail r fit is operand =
    let o-lt = opcode-lt q p fit is in
    let m-lt = modrm-lt q p modrm tail fit is operand in
    let mod-lt : mod_of modrm < 4 = omega arith in
    let reg-lt : reg_of modrm < 8 = omega arith in
    let form : FormParts q.row modrm tail = subst (λ xs. IsOperand q.row xs) operand fit.operand in
    let first : slice_index q.operand 0 ≡ modrm = ap (λ (xs : List ℕ). slice_index xs 0) operand in
    let e : Entry = opcode_entry q.row.escaped q.opcode in
    let n : ℕ = length (header p q.row.escaped q.opcode) in
    let allowed : AllowsForm p q.row.escaped q.opcode (reg_of modrm) (mod_of modrm == 3) =
    IfSome_then (prefix_byte p) {P = (Allowed q)} (subst (λ (x : Option ℕ). IfSome x (Allowed q)) (sym is) fit.prefix) (λ b v. (
      v.0,
      line_from q b v,
      (form_from q modrm b v form.0 first m-lt).0,
      (form_from q modrm b v form.0 first m-lt).1,
    )) in
    let f = permitted_form p q.row q.opcode (reg_of modrm) (mod_of modrm == 3) fit.listed o-lt reg-lt fit.opcode form.0 form.2
    (sym (place_is q.row.place (mod_of modrm) mod-lt) ∙ form.3) allowed in
    let a = agreed_is p (opcode_entry q.row.escaped q.opcode) (reg_of modrm) q.row f.1.agreed in
    let permitted : permits (forms_of p (opcode_entry q.row.escaped q.opcode)) modrm ≡ true = permits_is
    (forms_of p (opcode_entry q.row.escaped q.opcode)) modrm ∙ f.0 in
    let has : (opcode_entry q.row.escaped q.opcode).operand ≡ true = operand_is q.row q.opcode fit.listed o-lt fit.opcode ∙ form.0 in
    let st = stands q p fit o-lt f.1.escape in
    let bytes-is : spelled q ++ r ≡ header p q.row.escaped q.opcode ++ (modrm ∷ (tail ++ (q.number ++ r)))
    = header_spelled q p r is ∙ ap (λ (xs : List ℕ). header p q.row.escaped q.opcode ++ (xs ++ (q.number ++ r))) operand in
    let s : Shape = formed_shape p (length (header p q.row.escaped q.opcode)) (opcode_entry q.row.escaped q.opcode) modrm (length tail + 1) in
    let len : length (header p q.row.escaped q.opcode) + (length tail + 1) + coded_len p (opcode_entry q.row.escaped q.opcode).number
    (reg_of modrm) ≡ length (spelled q)
    = (let l = spelled_len q p is in let k = ap
    (λ (xs : List ℕ). length xs) operand in let j : number_len q.prefix q.row.number ≡ coded_len p
    (opcode_entry q.row.escaped q.opcode).number (reg_of modrm) = ap (λ (x : Option ℕ). number_len x q.row.number) (sym is)
    ∙ a.number in omega (arith, l, k, j, fit.number)) in
    let front : take (length (header p q.row.escaped q.opcode) + (length tail + 1) + coded_len p
    (opcode_entry q.row.escaped q.opcode).number (reg_of modrm)) (spelled q ++ r) ≡ spelled q
    = take_at (spelled q) r _ (sym len) in
    record {
      shape = s;
      fixed = ap shape_of bytes-is ∙ header_read p q.row.escaped q.opcode (modrm ∷ (tail ++ (q.number ++ r))) st
          ∙ entry_formed p (length (header p q.row.escaped q.opcode)) (opcode_entry q.row.escaped q.opcode) modrm (tail ++ (q.number ++ r))
          (length tail + 1) f.1.some_form has permitted
          (sized_front modrm tail (q.number ++ r) m-lt form.1);
      len = len;
      says = instr_same _ _ _ _ _ _ _ _ _ _
          len
          (sym a.flow)
          (ap (λ (xs : List ℕ). rel_of (opcode_entry q.row.escaped q.opcode).number xs)
          (ap (λ (xs : List ℕ). drop (length (header p q.row.escaped q.opcode) + (length tail + 1)) xs) bytes-is
          ∙ drop-append-add (header p q.row.escaped q.opcode) (modrm ∷ (tail ++ (q.number ++ r))) (length tail + 1)
          ∙ drop_tail modrm tail (q.number ++ r))
          ∙ sym (same_rel q.prefix q.row.number (opcode_entry q.row.escaped q.opcode).number q.number r a.kind fit.number))
          (sym (ap (λ (xs : List ℕ). register_of q.row.flow xs) operand
          ∙ same_reg q.row.flow (opcode_entry q.row.escaped q.opcode) modrm tail a.indirect))
          (ap (λ (xs : List ℕ). masks_of xs) front);
    }
  where
    drop_tail : (m : ℕ) (tail more : List ℕ) → drop (length tail + 1) (m ∷ (tail ++ more)) ≡ more
    drop_tail m tail more = rw add-one (drop-append_seam tail more)

-- a spelling without operand is read
read_bare : (q : Parts) (p : Prefix) (r : List ℕ) → AreParts q → prefix_byte p ≡ q.prefix → q.operand ≡ [] → IsRead q r
read_bare q p r fit is operand =
    let o-lt = opcode-lt q p fit is in
    let none : q.row.operand ≡ false = subst (λ xs. IsOperand q.row xs) operand fit.operand in
    let allowed : AllowsBare p q.row.escaped q.opcode =
    IfSome_then (prefix_byte p) {P = (Allowed q)} (subst (λ (x : Option ℕ). IfSome x (Allowed q)) (sym is) fit.prefix) (λ b v. (v.0, line_from q b v)) in
    let f = permitted_bare p q.row q.opcode fit.listed o-lt fit.opcode none allowed in
    let a = agreed_is p (opcode_entry q.row.escaped q.opcode) 0 q.row f.0.agreed in
    let has : (opcode_entry q.row.escaped q.opcode).operand ≡ false = operand_is q.row q.opcode fit.listed o-lt fit.opcode ∙ none in
    let st = stands q p fit o-lt f.0.escape in
    let bytes-is : spelled q ++ r ≡ header p q.row.escaped q.opcode ++ (q.number ++ r)
    = header_spelled q p r is ∙ ap (λ (xs : List ℕ). header p q.row.escaped q.opcode ++ (xs ++ (q.number ++ r))) operand in
    let s : Shape = shape_alone p (length (header p q.row.escaped q.opcode)) (opcode_entry q.row.escaped q.opcode) in
    let len : length (header p q.row.escaped q.opcode) + coded_len p (opcode_entry q.row.escaped q.opcode).number 0 ≡ length (spelled q)
    = (let l = spelled_len q p is in let k = ap
    (λ (xs : List ℕ). length xs) operand in let j : number_len q.prefix q.row.number ≡ coded_len p
    (opcode_entry q.row.escaped q.opcode).number 0 = ap (λ (x : Option ℕ). number_len x q.row.number) (sym is)
    ∙ a.number in omega (arith, l, k, j, fit.number)) in
    let front : take (length (header p q.row.escaped q.opcode) + coded_len p (opcode_entry q.row.escaped q.opcode).number 0)
    (spelled q ++ r) ≡ spelled q
    = take_at (spelled q) r _ (sym len) in
    record {
      shape = s;
      fixed = ap shape_of bytes-is ∙ header_read p q.row.escaped q.opcode (q.number ++ r) st
          ∙ entry_alone p (length (header p q.row.escaped q.opcode)) (opcode_entry q.row.escaped q.opcode) (q.number ++ r) f.0.some_form has;
      len = len;
      says = instr_same _ _ _ _ _ _ _ _ _ _
          len
          (sym (a.flow ∙ flow_bare (opcode_entry q.row.escaped q.opcode) f.1))
          (ap (λ (xs : List ℕ). rel_of (opcode_entry q.row.escaped q.opcode).number xs)
          (ap (λ (xs : List ℕ). drop (length (header p q.row.escaped q.opcode)) xs) bytes-is
          ∙ drop-append_seam (header p q.row.escaped q.opcode) (q.number ++ r))
          ∙ sym (same_rel q.prefix q.row.number (opcode_entry q.row.escaped q.opcode).number q.number r a.kind fit.number))
          (sym (ap (λ (xs : List ℕ). register_of q.row.flow xs) operand
          ∙ no_register q.row.flow (opcode_entry q.row.escaped q.opcode).indirect a.indirect))
          (ap (λ (xs : List ℕ). masks_of xs) front);
    }

-- a spelling with an operand, or without one, is read
by_operand : (q : Parts) (p : Prefix) (r xs : List ℕ) → AreParts q → prefix_byte p ≡ q.prefix → q.operand ≡ xs → IsRead q r
by_operand q p r [] fit is operand = read_bare q p r fit is operand
by_operand q p r (modrm ∷ tail) fit is operand = read_formed q p modrm tail r fit is operand

-- what fits the tables is read, whatever follows
pub parts_read : (q : Parts) (r : List ℕ) → AreParts q → IsRead q r
parts_read q r fit = let w = prefix_at q q.prefix fit.prefix in by_operand q w.0 r q.operand fit w.1 refl
