-- What an entry permits is listed, and what is listed an entry permits.
use Rattle.std.proofs.Common.{◌≡◌, ℕ, zero, suc, ◌<◌, Bool, true, false, List, [], ◌∷◌, Some, ◌==◌, ◌&&◌, refl, arith, filter, Contains}
use Rattle.std.proofs.Common.{eqb-true, eq-eqb, not}
use Rattle.std.specs.Prelude.{IfSome}
use Rattle.nc_decode.specs.declared.entry.Entry.{Entry}
use Rattle.nc_decode.specs.declared.entry.Prefix.{Prefix}
use Rattle.nc_decode.specs.declared.entry.Prefix.TheVariants.{Absent as Unprefixed, Word, Repeat, RepeatNot, Lock}
use Rattle.nc_decode.specs.machinery.Entries.{opcode_entry}
use Rattle.nc_decode.specs.Rows.{Place, anywhere, register, memory, Row, PrefixRow, rows, prefix_rows, within, is_at, reg_of, mod_of}
use Rattle.nc_decode.specs.machinery.Shapes.{forms_of, escapes, permits, prefix_of}
use Rattle.nc_decode.proofs.opcodes.EntriesMatchRows.{each_prefix, each_form, lists, lines_of, line_lists}
use Rattle.nc_base.proofs.Offered.{each_below, some, same, implies}
use Rattle.nc_decode.proofs.opcodes.EntriesMatchRows.{line_form, prefix_byte, allowed_form, allowed_bare, place_at, permits_at, fits_form}
use Rattle.nc_decode.proofs.opcodes.EntriesMatchRows.{fits_bare, agrees, sound_form, sound_prefix, sound_at, sound_escaped, sound_bare, rows_of}
use Rattle.nc_decode.proofs.opcodes.EntriesMatchRows.{permits_form, permits_prefix, complete_at, complete, coded_plain}
use Rattle.nc_base.proofs.Offered.{both, same_is, not_is, implied, each_below-at, each-Contains, found, finds-Contains, both_made}
use Rattle.nc_base.proofs.Offered.{same_made, chosen_true, chosen_false}

-- what an entry permits is listed, by the computed test
pub sound_at-true : (escaped : Bool) (o : ℕ) → o < 256 → sound_at escaped o ≡ true
sound_at-true true o lt = each_below-at (sound_at true) 256 o sound_escaped lt
sound_at-true false o lt = each_below-at (sound_at false) 256 o sound_bare lt

-- the five prefixes
abbrev prefixes : List Prefix
prefixes = Unprefixed ∷ Word ∷ Repeat ∷ RepeatNot ∷ Lock ∷ []

-- a test of each prefix, at one of them
pub each_prefix-at : (t : Prefix → Bool) (p : Prefix) → each_prefix t ≡ true → t p ≡ true
each_prefix-at t Unprefixed e = each-Contains t prefixes Unprefixed e (0, omega arith, refl)
each_prefix-at t Word e = each-Contains t prefixes Word e (1, omega arith, refl)
each_prefix-at t Repeat e = each-Contains t prefixes Repeat e (2, omega arith, refl)
each_prefix-at t RepeatNot e = each-Contains t prefixes RepeatNot e (3, omega arith, refl)
each_prefix-at t Lock e = each-Contains t prefixes Lock e (4, omega arith, refl)

-- both parts of a choice that holds
two_tests : (x y : Bool) → (elim x [ true ↦ y | false ↦ false ]) ≡ true → (x ≡ true) × (y ≡ true)
two_tests true y e = (refl, e)
two_tests false y e = absurd cc

-- a test of each form, at one of them
pub each_form-at : (t : ℕ → Bool → Bool) (reg : ℕ) (b : Bool) → reg < 8 → each_form t ≡ true → t reg b ≡ true
each_form-at t reg true lt e = (two_tests (t reg true) (t reg false)
    (each_below-at (λ x. elim (t x true) [ true ↦ t x false | false ↦ false ]) 8 reg e lt)).0
each_form-at t reg false lt e = (two_tests (t reg true) (t reg false)
    (each_below-at (λ x. elim (t x true) [ true ↦ t x false | false ↦ false ]) 8 reg e lt)).1

-- a place by ModRM's mod field, and by register or memory
pub place_is : (place : Place) (k : ℕ) → k < 4 → is_at place k ≡ place_at place (k == 3)
place_is anywhere k lt = refl
place_is register k lt = refl
place_is memory zero lt = refl
place_is memory (suc zero) lt = refl
place_is memory (suc (suc zero)) lt = refl
place_is memory (suc (suc (suc zero))) lt = refl
place_is memory (suc (suc (suc (suc k)))) lt = absurd (omega arith)

-- a permitted ModRM byte, by its fields
pub permits_is : (forms modrm : ℕ) → permits forms modrm ≡ permits_at forms (reg_of modrm) (mod_of modrm == 3)
unfolding permits
permits_is forms modrm = refl

-- a row of the table for an entry, with what it says
pub record IsRow (p : Prefix) (e : Entry) (escaped : Bool) (o reg : ℕ) (row : Row) : Type 0 where
  pub listed : Contains rows row
  pub escaped_is : row.escaped ≡ escaped
  pub opcode : within o row.opcodes ≡ true
  pub agreed : agrees p e reg row ≡ true

-- a line of the prefix table for a prefix
pub record IsLine (byte : ℕ) (escaped : Bool) (o : ℕ) (line : PrefixRow) : Type 0 where
  pub listed : Contains prefix_rows line
  pub byte_is : line.prefix ≡ byte
  pub escaped_is : line.escaped ≡ escaped
  pub opcode : within o line.opcodes ≡ true

-- a line that passes the test is a line for the prefix
line_is : (byte : ℕ) (escaped : Bool) (o : ℕ) (line : PrefixRow) → Contains prefix_rows line
    → line_lists (Some byte) escaped o line ≡ true → IsLine byte escaped o line
line_is byte escaped o line c e =
    let a = both ((line.prefix == byte) && same line.escaped escaped) (within o line.opcodes) e in
    let b = both (line.prefix == byte) (same line.escaped escaped) a.0 in
    record { listed = c; byte_is = eqb-true _ _ b.0; escaped_is = same_is _ _ b.1; opcode = a.1 }

-- a prefix that the lines allow before the form
abbrev pub AllowsForm : Prefix → Bool → ℕ → ℕ → Bool → Type 0
AllowsForm p escaped o reg b = IfSome (prefix_byte p) (λ byte. (line : PrefixRow) × IsLine byte escaped o line
    × (within reg line.regs ≡ true) × (place_at line.place b ≡ true))

-- a prefix that the lines allow before an opcode without operand
abbrev pub AllowsBare : Prefix → Bool → ℕ → Type 0
AllowsBare p escaped o = IfSome (prefix_byte p) (λ byte. (line : PrefixRow) × IsLine byte escaped o line)

-- a line is found for a form
line_of_form : (byte : ℕ) (escaped : Bool) (o reg : ℕ) (b : Bool)
    → some (line_form reg b) (filter (line_lists (Some byte) escaped o) prefix_rows) ≡ true → (line : PrefixRow)
    × IsLine byte escaped o line × (within reg line.regs ≡ true) × (place_at line.place b ≡ true)
line_of_form byte escaped o reg b e =
    let r = found (line_form reg b) (line_lists (Some byte) escaped o) prefix_rows e in
    let f = both (within reg r.0.regs) (place_at r.0.place b) r.3 in
    (r.0, line_is byte escaped o r.0 r.1 r.2, f.0, f.1)

-- the lines allow the prefix before the form
pub allows_form : (p : Prefix) (escaped : Bool) (o reg : ℕ) (b : Bool) → allowed_form p (lines_of p escaped o) reg b ≡ true
    → AllowsForm p escaped o reg b
allows_form Unprefixed escaped o reg b e = tt
allows_form Word escaped o reg b e = line_of_form 0x66 escaped o reg b e
allows_form Repeat escaped o reg b e = line_of_form 0xF3 escaped o reg b e
allows_form RepeatNot escaped o reg b e = line_of_form 0xF2 escaped o reg b e
allows_form Lock escaped o reg b e = line_of_form 0xF0 escaped o reg b e

-- a line is found where there is no operand
line_of_bare : (byte : ℕ) (escaped : Bool) (o : ℕ) → some (λ (line : PrefixRow). true)
    (filter (line_lists (Some byte) escaped o) prefix_rows) ≡ true → (line : PrefixRow) × IsLine byte escaped o line
line_of_bare byte escaped o e =
    let r = found (λ (line : PrefixRow). true) (line_lists (Some byte) escaped o) prefix_rows e in
    (r.0, line_is byte escaped o r.0 r.1 r.2)

-- the lines allow the prefix where there is no operand
pub allows_bare : (p : Prefix) (escaped : Bool) (o : ℕ) → allowed_bare p (lines_of p escaped o) ≡ true → AllowsBare p escaped o
allows_bare Unprefixed escaped o e = tt
allows_bare Word escaped o e = line_of_bare 0x66 escaped o e
allows_bare Repeat escaped o e = line_of_bare 0xF3 escaped o e
allows_bare RepeatNot escaped o e = line_of_bare 0xF2 escaped o e
allows_bare Lock escaped o e = line_of_bare 0xF0 escaped o e

-- a row that passes the tests is a row for the entry
row_is : (p : Prefix) (e : Entry) (escaped : Bool) (o reg : ℕ) (row : Row) → Contains rows row → lists escaped o row ≡ true
    → agrees p e reg row ≡ true → IsRow p e escaped o reg row
row_is p e escaped o reg row c l a =
    let b = both (same row.escaped escaped) (within o row.opcodes) l in
    record { listed = c; escaped_is = same_is _ _ b.0; opcode = b.1; agreed = a }

-- where an entry with an operand passes the test of what it permits, each of its forms does
sound_prefix-operand : (p : Prefix) (e : Entry) (forms : ℕ) (rs : List Row) (lines : List PrefixRow) → e.operand ≡ true
    → sound_prefix p e forms rs lines ≡ true → each_form (sound_form p e forms rs lines) ≡ true
sound_prefix-operand p e forms rs lines operand h = chosen_true e.operand _ _ true operand h

-- where a permitted form passes the test, a row fits it and the lines allow it
sound_form-permitted : (p : Prefix) (e : Entry) (forms : ℕ) (rs : List Row) (lines : List PrefixRow) (reg : ℕ) (b : Bool)
    → permits_at forms reg b ≡ true → sound_form p e forms rs lines reg b ≡ true → some (fits_form p e reg b) rs
    && allowed_form p lines reg b ≡ true
sound_form-permitted p e forms rs lines reg b permitted h = chosen_true (permits_at forms reg b) _ _ true permitted h

-- where an entry without operand passes the test of what it permits, a row fits it and the lines allow its prefix
sound_prefix-bare : (p : Prefix) (e : Entry) (forms : ℕ) (rs : List Row) (lines : List PrefixRow) → e.operand ≡ false
    → (forms == 0) ≡ false → sound_prefix p e forms rs lines ≡ true → some (fits_bare p e) rs && allowed_bare p lines ≡ true
sound_prefix-bare p e forms rs lines operand some_form h = chosen_false (forms == 0) _ _ true some_form
    (chosen_false e.operand _ _ true operand h)

-- what the code permits with an operand is listed
pub listed_form : (p : Prefix) (escaped : Bool) (o reg : ℕ) (b : Bool) → o < 256 → reg < 8 → (opcode_entry escaped o).operand ≡ true
    → permits_at (forms_of p (opcode_entry escaped o)) reg b ≡ true
    → ((row : Row) × IsRow p (opcode_entry escaped o) escaped o reg row × (row.operand ≡ true) × (within reg row.regs ≡ true)
    × (place_at row.place b ≡ true)) × AllowsForm p escaped o reg b
unfolding sound_at
listed_form p escaped o reg b o-lt reg-lt operand permitted =
    let at : sound_prefix p (opcode_entry escaped o) (forms_of p (opcode_entry escaped o)) (rows_of escaped o) (lines_of p escaped o) ≡ true
    = each_prefix-at (λ q. sound_prefix q (opcode_entry escaped o) (forms_of q (opcode_entry escaped o)) (rows_of escaped o)
    (lines_of q escaped o)) p (sound_at-true escaped o o-lt) in
    let forms : each_form (sound_form p (opcode_entry escaped o) (forms_of p (opcode_entry escaped o)) (rows_of escaped o)
    (lines_of p escaped o)) ≡ true = sound_prefix-operand p (opcode_entry escaped o) (forms_of p (opcode_entry escaped o))
    (rows_of escaped o) (lines_of p escaped o) operand at in
    let form = each_form-at (sound_form p (opcode_entry escaped o) (forms_of p (opcode_entry escaped o)) (rows_of escaped o)
    (lines_of p escaped o)) reg b reg-lt forms in
    let parts : some (fits_form p (opcode_entry escaped o) reg b) (rows_of escaped o)
    && allowed_form p (lines_of p escaped o) reg b ≡ true = sound_form-permitted p (opcode_entry escaped o)
    (forms_of p (opcode_entry escaped o)) (rows_of escaped o) (lines_of p escaped o) reg b permitted form in
    let two = both _ _ parts in
    let r = found (fits_form p (opcode_entry escaped o) reg b) (lists escaped o) rows two.0 in
    let f = both ((r.0.operand && within reg r.0.regs) && place_at r.0.place b) (agrees p (opcode_entry escaped o) reg r.0) r.3 in
    let g = both (r.0.operand && within reg r.0.regs) (place_at r.0.place b) f.0 in
    let h = both r.0.operand (within reg r.0.regs) g.0 in
    ((r.0, row_is _ _ _ _ _ r.0 r.1 r.2 f.1, h.0, h.1, g.1), allows_form p escaped o reg b two.1)

-- what the code permits without operand is listed
pub listed_bare : (p : Prefix) (escaped : Bool) (o : ℕ) → o < 256 → (opcode_entry escaped o).operand ≡ false
    → (forms_of p (opcode_entry escaped o) == 0) ≡ false
    → ((row : Row) × IsRow p (opcode_entry escaped o) escaped o 0 row × (row.operand ≡ false) × ((opcode_entry escaped o).indirect ≡ false))
    × AllowsBare p escaped o
unfolding sound_at
listed_bare p escaped o o-lt operand permitted =
    let at : sound_prefix p (opcode_entry escaped o) (forms_of p (opcode_entry escaped o)) (rows_of escaped o) (lines_of p escaped o) ≡ true
    = each_prefix-at (λ q. sound_prefix q (opcode_entry escaped o) (forms_of q (opcode_entry escaped o)) (rows_of escaped o)
    (lines_of q escaped o)) p (sound_at-true escaped o o-lt) in
    let parts : some (fits_bare p (opcode_entry escaped o)) (rows_of escaped o)
    && allowed_bare p (lines_of p escaped o) ≡ true = sound_prefix-bare p (opcode_entry escaped o) (forms_of p (opcode_entry escaped o))
    (rows_of escaped o) (lines_of p escaped o) operand permitted at in
    let two = both _ _ parts in
    let r = found (fits_bare p (opcode_entry escaped o)) (lists escaped o) rows two.0 in
    let f = both (not r.0.operand && not (opcode_entry escaped o).indirect) (agrees p (opcode_entry escaped o) 0 r.0) r.3 in
    let g = both (not r.0.operand) (not (opcode_entry escaped o).indirect) f.0 in
    ((r.0, row_is _ _ _ _ _ r.0 r.1 r.2 f.1, not_is _ g.0, not_is _ g.1), allows_bare p escaped o two.1)

-- ---- what is listed an entry permits

-- a line for the prefix passes the test
line_listed : (byte : ℕ) (escaped : Bool) (o : ℕ) (line : PrefixRow) → IsLine byte escaped o line
    → line_lists (Some byte) escaped o line ≡ true
line_listed byte escaped o line is =
    both_made ((line.prefix == byte) && same line.escaped escaped) (within o line.opcodes)
    (both_made (line.prefix == byte) (same line.escaped escaped) (eq-eqb _ _ is.byte_is) (same_made _ _ is.escaped_is)) is.opcode

-- a line that allows a form passes the test
form_allowed : (byte : ℕ) (escaped : Bool) (o reg : ℕ) (b : Bool)
    → ((line : PrefixRow) × IsLine byte escaped o line × (within reg line.regs ≡ true) × (place_at line.place b ≡ true))
    → some (line_form reg b) (filter (line_lists (Some byte) escaped o) prefix_rows) ≡ true
form_allowed byte escaped o reg b w = finds-Contains (line_form reg b) (line_lists (Some byte) escaped o) prefix_rows w.0 w.1.listed
    (line_listed byte escaped o w.0 w.1) (both_made (within reg w.0.regs) (place_at w.0.place b) w.2 w.3)

-- where the lines allow a form after a prefix, the test of it (`allowed_form`) holds
pub form_is_allowed : (p : Prefix) (escaped : Bool) (o reg : ℕ) (b : Bool) → AllowsForm p escaped o reg b
    → allowed_form p (lines_of p escaped o) reg b ≡ true
form_is_allowed Unprefixed escaped o reg b w = refl
form_is_allowed Word escaped o reg b w = form_allowed 0x66 escaped o reg b w
form_is_allowed Repeat escaped o reg b w = form_allowed 0xF3 escaped o reg b w
form_is_allowed RepeatNot escaped o reg b w = form_allowed 0xF2 escaped o reg b w
form_is_allowed Lock escaped o reg b w = form_allowed 0xF0 escaped o reg b w

-- a line for an opcode without operand passes the test
bare_allowed : (byte : ℕ) (escaped : Bool) (o : ℕ) → ((line : PrefixRow) × IsLine byte escaped o line)
    → some (λ (line : PrefixRow). true) (filter (line_lists (Some byte) escaped o) prefix_rows) ≡ true
bare_allowed byte escaped o w = finds-Contains (λ (line : PrefixRow). true)
    (line_lists (Some byte) escaped o) prefix_rows w.0 w.1.listed (line_listed byte escaped o w.0 w.1) refl

-- where the lines allow a prefix before an opcode without operand, the test of it (`allowed_bare`) holds
pub bare_is_allowed : (p : Prefix) (escaped : Bool) (o : ℕ) → AllowsBare p escaped o → allowed_bare p (lines_of p escaped o) ≡ true
bare_is_allowed Unprefixed escaped o w = refl
bare_is_allowed Word escaped o w = bare_allowed 0x66 escaped o w
bare_is_allowed Repeat escaped o w = bare_allowed 0xF3 escaped o w
bare_is_allowed RepeatNot escaped o w = bare_allowed 0xF2 escaped o w
bare_is_allowed Lock escaped o w = bare_allowed 0xF0 escaped o w

-- what the test says of a row and an opcode that it lists
abbrev complete_parts : Row → ℕ → Bool
complete_parts row o =
    (same (opcode_entry row.escaped o).operand row.operand
    && implies (not row.escaped) (not (o == 0x0F) && coded_plain (prefix_of o)))
    && each_prefix (λ p. permits_prefix p (opcode_entry row.escaped o) (forms_of p (opcode_entry row.escaped o)) row (lines_of p row.escaped o))

-- where a row and an opcode that it lists pass the test, they pass its parts (`complete_parts`)
complete_at-within : (row : Row) (o : ℕ) → within o row.opcodes ≡ true → complete_at row o ≡ true → complete_parts row o ≡ true
unfolding complete_at
complete_at-within row o listed h = chosen_true (within o row.opcodes) _ _ true listed h

-- each row passes the parts of the test at each opcode that it lists
complete_row : (row : Row) (o : ℕ) → Contains rows row → o < 256 → within o row.opcodes ≡ true → complete_parts row o ≡ true
complete_row row o c lt listed =
    complete_at-within row o listed (each_below-at (complete_at row) 256 o
    (each-Contains (λ r. each_below (complete_at r) 256) rows row complete c) lt)

-- the entry of a listed opcode has an operand where the row has one
pub operand_is : (row : Row) (o : ℕ) → Contains rows row → o < 256 → within o row.opcodes ≡ true
    → (opcode_entry row.escaped o).operand ≡ row.operand
operand_is row o c lt listed =
    same_is _ _ (both _ _ (both _ _ (complete_row row o c lt listed)).0).0

-- a listed opcode of one byte is no prefix and no escape
pub opcode_stands : (row : Row) (o : ℕ) → Contains rows row → o < 256 → within o row.opcodes ≡ true → row.escaped ≡ false
    → ((o == 0x0F) ≡ false) × (coded_plain (prefix_of o) ≡ true)
opcode_stands row o c lt listed one =
    let a = implied (not row.escaped) _ (both _ _ (both _ _ (complete_row row o c lt listed)).0).1 (rw one refl) in
    let b = both (not (o == 0x0F)) (coded_plain (prefix_of o)) a in
    (not_is _ b.0, b.1)

-- where a row with an operand passes the test of what it lists, each of its forms does
permits_prefix-operand : (p : Prefix) (e : Entry) (forms : ℕ) (row : Row) (lines : List PrefixRow) → row.operand ≡ true
    → permits_prefix p e forms row lines ≡ true → each_form (permits_form p e forms row lines) ≡ true
permits_prefix-operand p e forms row lines operand h = chosen_true row.operand _ _ true operand h

-- where a form that is listed passes the test, the entry permits it and agrees with the row
permits_form-allowed : (p : Prefix) (e : Entry) (forms : ℕ) (row : Row) (lines : List PrefixRow) (reg : ℕ) (b : Bool)
    → ((within reg row.regs && place_at row.place b) && allowed_form p lines reg b) ≡ true → permits_form p e forms row lines reg b ≡ true
    → (permits_at forms reg b && not (forms == 0)) && (agrees p e reg row && implies row.escaped (escapes p)) ≡ true
permits_form-allowed p e forms row lines reg b allowed h = chosen_true
    ((within reg row.regs && place_at row.place b) && allowed_form p lines reg b) _ _ true allowed h

-- where a row without operand that is listed passes the test, the entry permits it and agrees with the row
permits_prefix-bare : (p : Prefix) (e : Entry) (forms : ℕ) (row : Row) (lines : List PrefixRow) → row.operand ≡ false
    → allowed_bare p lines ≡ true → permits_prefix p e forms row lines ≡ true
    → (not (forms == 0) && not e.indirect) && (agrees p e 0 row && implies row.escaped (escapes p)) ≡ true
permits_prefix-bare p e forms row lines operand allowed h = chosen_true (allowed_bare p lines) _ _ true allowed
    (chosen_false row.operand _ _ true operand h)

-- what an entry says under a prefix of a row that lists it
pub record Permits (p : Prefix) (e : Entry) (reg : ℕ) (row : Row) : Type 0 where
  pub some_form : (forms_of p e == 0) ≡ false
  pub agreed : agrees p e reg row ≡ true
  pub escape : row.escaped ≡ true → escapes p ≡ true

-- what is listed with an operand the code permits
pub permitted_form : (p : Prefix) (row : Row) (o reg : ℕ) (b : Bool) → Contains rows row → o < 256 → reg < 8
    → within o row.opcodes ≡ true → row.operand ≡ true → within reg row.regs ≡ true → place_at row.place b ≡ true
    → AllowsForm p row.escaped o reg b
    → (permits_at (forms_of p (opcode_entry row.escaped o)) reg b ≡ true) × Permits p (opcode_entry row.escaped o) reg row
permitted_form p row o reg b c o-lt reg-lt listed operand reg-in place-in allowed =
    let e : Entry = opcode_entry row.escaped o in
    let forms : ℕ = forms_of p (opcode_entry row.escaped o) in
    let lines : List PrefixRow = lines_of p row.escaped o in
    let at : permits_prefix p (opcode_entry row.escaped o) (forms_of p (opcode_entry row.escaped o)) row (lines_of p row.escaped o) ≡ true
    = each_prefix-at (λ q. permits_prefix q (opcode_entry row.escaped o) (forms_of q (opcode_entry row.escaped o)) row
    (lines_of q row.escaped o)) p (both _ _ (complete_row row o c o-lt listed)).1 in
    let form = each_form-at (permits_form p (opcode_entry row.escaped o) (forms_of p (opcode_entry row.escaped o)) row
    (lines_of p row.escaped o)) reg b reg-lt (permits_prefix-operand p (opcode_entry row.escaped o)
    (forms_of p (opcode_entry row.escaped o)) row (lines_of p row.escaped o) operand at) in
    let test = both_made (within reg row.regs && place_at row.place b) (allowed_form p (lines_of p row.escaped o) reg b)
    (both_made (within reg row.regs) (place_at row.place b) reg-in place-in) (form_is_allowed p row.escaped o reg b allowed) in
    let parts = permits_form-allowed p (opcode_entry row.escaped o) (forms_of p (opcode_entry row.escaped o)) row
    (lines_of p row.escaped o) reg b test form in
    let two = both (permits_at (forms_of p (opcode_entry row.escaped o)) reg b && not (forms_of p (opcode_entry row.escaped o) == 0))
    (agrees p (opcode_entry row.escaped o) reg row && implies row.escaped (escapes p)) parts in
    let l = both (permits_at (forms_of p (opcode_entry row.escaped o)) reg b) (not (forms_of p (opcode_entry row.escaped o) == 0)) two.0 in
    let r = both (agrees p (opcode_entry row.escaped o) reg row) (implies row.escaped (escapes p)) two.1 in
    (l.0, record { some_form = not_is _ l.1; agreed = r.0; escape = implied _ _ r.1 })

-- what is listed without operand the code permits
pub permitted_bare : (p : Prefix) (row : Row) (o : ℕ) → Contains rows row → o < 256 → within o row.opcodes ≡ true → row.operand ≡ false
    → AllowsBare p row.escaped o → Permits p (opcode_entry row.escaped o) 0 row × ((opcode_entry row.escaped o).indirect ≡ false)
permitted_bare p row o c o-lt listed operand allowed =
    let at : permits_prefix p (opcode_entry row.escaped o) (forms_of p (opcode_entry row.escaped o)) row (lines_of p row.escaped o) ≡ true
    = each_prefix-at (λ q. permits_prefix q (opcode_entry row.escaped o) (forms_of q (opcode_entry row.escaped o)) row
    (lines_of q row.escaped o)) p (both _ _ (complete_row row o c o-lt listed)).1 in
    let parts = permits_prefix-bare p (opcode_entry row.escaped o) (forms_of p (opcode_entry row.escaped o)) row
    (lines_of p row.escaped o) operand (bare_is_allowed p row.escaped o allowed) at in
    let two = both (not (forms_of p (opcode_entry row.escaped o) == 0) && not (opcode_entry row.escaped o).indirect)
    (agrees p (opcode_entry row.escaped o) 0 row && implies row.escaped (escapes p)) parts in
    let l = both (not (forms_of p (opcode_entry row.escaped o) == 0)) (not (opcode_entry row.escaped o).indirect) two.0 in
    let r = both (agrees p (opcode_entry row.escaped o) 0 row) (implies row.escaped (escapes p)) two.1 in
    (record { some_form = not_is _ l.0; agreed = r.0; escape = implied _ _ r.1 }, not_is _ l.1)
