-- An instruction with a prefix, and one that masks a register, goes on to the next.
use Rattle.std.proofs.Common.{◌≡◌, ◌≢◌, ℕ, ◌<◌, Bool, true, false, List, [], ◌∷◌, ◌++◌, get_or, Option, Some, None, ◌==◌, ◌&&◌, cond, refl}
use Rattle.std.proofs.Common.{sym, subst, ◌∙◌, ap, arith, inl, inr, Contains, append_assoc, not}
use Rattle.std.specs.Prelude.{option_to_list, slice_index, IfSome}
use Rattle.nc_decode.specs.declared.instruction.Flow.{Flow}
use Rattle.nc_decode.specs.declared.instruction.Flow.TheVariants.{Next, Branch, Jump, Call, IndirectJump, IndirectCall, Stop}
use Rattle.nc_decode.specs.Rows.{Row, PrefixRow, rows, prefix_rows, within, reg_of}
use Rattle.nc_decode.specs.Rows.{first_rows, later_rows, first_prefix_rows, later_prefix_rows}
use Rattle.nc_decode.specs.Spelling.{Parts, spelled, IsOperand, AreParts, Allows, masks_of}
use Rattle.nc_base.proofs.Offered.{each_below, each, same}
use Rattle.nc_base.proofs.Offered.{both, both_made, not_is, same_made, true_or_false, each_below-at, each-Contains, chosen_true}
use Rattle.nc_base.proofs.Offered.{chosen_false}
use Rattle.nc_decode.proofs.fronts.Masks.{masks_begin}

-- the flow is Next
abbrev goes_on : Flow → Bool
goes_on Next = true
goes_on _ = false

-- a flow that goes on is Next
is_next : (f : Flow) → goes_on f ≡ true → f ≡ Next
is_next Next h = refl
is_next Branch h = absurd cc
is_next Jump h = absurd cc
is_next Call h = absurd cc
is_next IndirectJump h = absurd cc
is_next IndirectCall h = absurd cc
is_next Stop h = absurd cc

-- ---- after a prefix

-- a line of the prefix table and a row share this opcode
abbrev shares : PrefixRow → Row → ℕ → Bool
shares line row o = same line.escaped row.escaped && (within o line.opcodes && within o row.opcodes)

-- a line of the prefix table and a row both have this reg field
abbrev shares_reg : PrefixRow → Row → ℕ → Bool
shares_reg line row reg = within reg line.regs && within reg row.regs

-- where a line of the prefix table and a row share this opcode, the row has an operand, and they share no reg field
abbrev apart_at : PrefixRow → Row → ℕ → Bool
apart_at line row o = elim (shares line row o) [ true ↦ row.operand && each_below (λ reg. not (shares_reg line row reg)) 8 | false ↦ true ]

-- the row goes on, or the line of the prefix table stands before none of its instructions
abbrev apart : PrefixRow → Row → Bool
apart line row = elim (goes_on row.flow) [ true ↦ true | false ↦ each_below (apart_at line row) 256 ]

-- each row goes on, or no line of the prefix table stands before its instructions
lines_go_on : each (λ line. each (apart line) rows) prefix_rows ≡ true
unfolding rows first_rows later_rows prefix_rows first_prefix_rows later_prefix_rows
lines_go_on = refl

-- the reg field of an operand is one of its row's
operand_reg : (row : Row) (operand : List ℕ) → row.operand ≡ true → IsOperand row operand
    → within (reg_of (slice_index operand 0)) row.regs ≡ true
operand_reg row [] is o = absurd (let f : true ≡ false = sym is ∙ o in cc)
operand_reg row (modrm ∷ tail) is o = o.2

-- a row after a line of the prefix table goes on
line_goes_on : (p : Parts) (b : ℕ) (line : PrefixRow) → AreParts p → p.opcode < 256 → Contains prefix_rows line → Allows line b p
    → p.row.flow ≡ Next
line_goes_on p b line fit lt listed allows =
    let test : apart line p.row ≡ true = each-Contains (apart line) rows p.row
    (each-Contains (λ l. each (apart l) rows) prefix_rows line lines_go_on listed) fit.listed in
    elim (true_or_false (goes_on p.row.flow)) [
      | inl goes ↦ is_next p.row.flow goes
      | inr stays ↦ absurd (
          let below : each_below (apart_at line p.row) 256 ≡ true = chosen_false (goes_on p.row.flow) true _ true stays test in
          let at : apart_at line p.row p.opcode ≡ true = each_below-at (apart_at line p.row) 256 p.opcode below lt in
          let shared : shares line p.row p.opcode ≡ true
          = both_made (same line.escaped p.row.escaped) _ (same_made _ _ allows.escaped)
          (both_made (within p.opcode line.opcodes) (within p.opcode p.row.opcodes) allows.opcode fit.opcode) in
          let forms = both p.row.operand _ (chosen_true (shares line p.row p.opcode) _ true true shared at) in
          let reg : ℕ = reg_of (slice_index p.operand 0) in
          let none : not (shares_reg line p.row (reg_of (slice_index p.operand 0))) ≡ true = each_below-at
          (λ r. not (shares_reg line p.row r)) 8 (reg_of (slice_index p.operand 0)) forms.1 (omega arith) in
          let some : shares_reg line p.row (reg_of (slice_index p.operand 0)) ≡ true
          = both_made (within (reg_of (slice_index p.operand 0)) line.regs) _ (allows.operand forms.0).0
          (operand_reg p.row p.operand forms.0 fit.operand) in
          let f : true ≡ false = sym some ∙ not_is _ none in cc)
    ]

-- an instruction with a prefix goes on
pub prefixed_goes_on : (p : Parts) (o : Option ℕ) → AreParts p → p.opcode < 256
    → IfSome o (λ b. (line : PrefixRow) × Contains prefix_rows line × Allows line b p) → o ≢ None → p.row.flow ≡ Next
prefixed_goes_on p None fit lt allows some = absurd (some refl)
prefixed_goes_on p (Some b) fit lt allows some = line_goes_on p b allows.0 fit lt allows.1 allows.2

-- ---- what masks

-- the row goes on, if it lists 83 as an opcode of one byte
abbrev row_goes_on : Row → Bool
row_goes_on row = elim row.escaped [ true ↦ true | false ↦ elim (within 0x83 row.opcodes) [ true ↦ goes_on row.flow | false ↦ true ] ]

-- each row that lists 83 as an opcode of one byte goes on
rows_go_on : each row_goes_on rows ≡ true
unfolding rows first_rows later_rows
rows_go_on = refl

-- the prefix of the line isn't the byte 83
abbrev is_other : PrefixRow → Bool
is_other line = elim (line.prefix == 0x83) [ true ↦ false | false ↦ true ]

-- no line of the prefix table has the byte 83 as its prefix
lines_are_other : each is_other prefix_rows ≡ true
unfolding prefix_rows first_prefix_rows later_prefix_rows
lines_are_other = refl

-- the prefix of a line of the prefix table isn't 83
other_byte : (line : PrefixRow) (b : ℕ) → Contains prefix_rows line → line.prefix ≡ b → b ≢ 0x83
other_byte line b c same is =
    chosen (line.prefix == 0x83) (ap (λ (n : ℕ). n == 0x83) (same ∙ is)) (each-Contains is_other prefix_rows line lines_are_other c)
  where
    chosen : (t : Bool) → t ≡ true → (elim t [ true ↦ false | false ↦ true ]) ≡ true → ⊥
    chosen true e h = absurd cc
    chosen false e h = absurd cc

-- a prefix that some line of the prefix table allows before a spelling isn't 83
prefix_other : (p : Parts) (o : Option ℕ) → IfSome o (λ b. (line : PrefixRow) × Contains prefix_rows line × Allows line b p)
    → IfSome o (λ b. b ≢ 0x83)
prefix_other p None h = tt
prefix_other p (Some b) h = other_byte h.0 b h.1 h.2.same

-- bytes that begin with 83 have no prefix, and 83 is their opcode
pub record Begins83 (o : Option ℕ) (escaped : Bool) (opcode : ℕ) : Type 0 where
  pub bare : o ≡ None
  pub one : escaped ≡ false
  pub opcode_is : opcode ≡ 0x83

-- bytes whose first one is 83 have no prefix, and 83 is their opcode, if 83 isn't their prefix
begins_83 : (o : Option ℕ) (escaped : Bool) (opcode : ℕ) (rest : List ℕ) → IfSome o (λ b. b ≢ 0x83)
    → get_or ((option_to_list o ++ cond escaped (0x0F ∷ opcode ∷ []) (opcode ∷ [])) ++ rest) 0 0 ≡ 0x83 → Begins83 o escaped opcode
begins_83 (Some b) escaped opcode rest other e = absurd (other e)
begins_83 None true opcode rest other e = absurd (omega (arith, e))
begins_83 None false opcode rest other e = record { bare = refl; one = refl; opcode_is = e }

-- a row that lists 83 goes on
next_by : (row : Row) → row.escaped ≡ false → within 0x83 row.opcodes ≡ true → row_goes_on row ≡ true → row.flow ≡ Next
next_by row one opcode h = is_next row.flow (by row.escaped (within 0x83 row.opcodes) (goes_on row.flow) one opcode h)
  where
    by : (e w g : Bool) → e ≡ false → w ≡ true → (elim e [ true ↦ true | false ↦ elim w [ true ↦ g | false ↦ true ] ]) ≡ true → g ≡ true
    by true w g e f h = absurd cc
    by false false g e f h = absurd cc
    by false true g e f h = h

-- what masks has the opcode 83 and no prefix
masking_begins : (p : Parts) → AreParts p → masks_of (spelled p) ≢ None → Begins83 p.prefix p.row.escaped p.opcode
masking_begins p fit masks =
    let assoc : spelled p ≡ (option_to_list p.prefix ++ cond p.row.escaped (0x0F ∷ p.opcode ∷ []) (p.opcode ∷ [])) ++
    (p.operand ++ p.number)
    = append_assoc (option_to_list p.prefix ++ cond p.row.escaped (0x0F ∷ p.opcode ∷ []) (p.opcode ∷ [])) p.operand p.number in
    let first = ap (λ (xs : List ℕ). get_or xs 0 0) (sym assoc) ∙ masks_begin (spelled p) masks in
    begins_83 p.prefix p.row.escaped p.opcode (p.operand ++ p.number) (prefix_other p p.prefix fit.prefix) first

-- what masks goes on to the next
pub masking_goes_on : (p : Parts) → AreParts p → masks_of (spelled p) ≢ None → p.row.flow ≡ Next
masking_goes_on p fit masks =
    let is = masking_begins p fit masks in
    next_by p.row is.one (subst (λ (n : ℕ). within n p.row.opcodes ≡ true) is.opcode_is fit.opcode)
    (each-Contains row_goes_on rows p.row rows_go_on fit.listed)

-- what masks has no prefix
pub masking_has_no_prefix : (p : Parts) → AreParts p → masks_of (spelled p) ≢ None → p.prefix ≡ None
masking_has_no_prefix p fit masks = (masking_begins p fit masks).bare
