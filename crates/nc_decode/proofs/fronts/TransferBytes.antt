-- The first bytes of direct transfers.
use Rattle.std.proofs.Common.{◌≡◌, ℕ, Bool, true, false, List, [], ◌∷◌, ◌++◌, get_or, Option, Some, None, cond, refl, sym, subst, ◌∙◌, ap}
use Rattle.std.proofs.Common.{append_assoc}
use Rattle.std.specs.Prelude.{option_to_list}
use Rattle.nc_decode.specs.declared.instruction.Instr.{Instr}
use Rattle.nc_decode.specs.Rows.{Row, rows, within}
use Rattle.nc_decode.specs.Rows.{first_rows, later_rows}
use Rattle.nc_decode.specs.Spelling.{spelled, Spells}
use Rattle.nc_decode.specs.Front.{BeginsAsTransfer}
use Rattle.nc_decode.specs.Transfers.{is_direct, may_transfer}
use Rattle.nc_base.proofs.Offered.{each_below, each, implies}
use Rattle.nc_base.proofs.Offered.{implied, each_below-at, each-Contains}
use Rattle.nc_decode.proofs.reading.SpelledIsRead.{opcode-lt}
use Rattle.nc_decode.proofs.reading.SpellingParts.{prefix_at}
use Rattle.nc_decode.proofs.fronts.FrontLaws.{goes_on_after_prefix}

-- if the row is of direct transfers, each of its opcodes is a byte with which one may begin, or the escape stands before it
abbrev row_begins : Row → Bool
row_begins row = elim (is_direct row.flow) [
  | true ↦ elim row.escaped [
    | true ↦ true
    | false ↦ each_below
        (λ o. implies (within o row.opcodes) (may_transfer o)) 256
  ]
  | false ↦ true
]

-- each opcode of each row of direct transfers is a byte with which one may begin, or the escape stands before it
rows_begin : each row_begins rows ≡ true
unfolding rows first_rows later_rows
rows_begin = refl

-- the first byte after no prefix
first_byte : (o : Option ℕ) (escaped : Bool) (opcode : ℕ) (more : List ℕ) → o ≡ None
    → get_or ((option_to_list o ++ cond escaped (0x0F ∷ opcode ∷ []) (opcode ∷ [])) ++ more) 0 0 ≡ cond escaped 0x0F opcode
first_byte (Some b) escaped opcode more e = absurd cc
first_byte None true opcode more e = refl
first_byte None false opcode more e = refl

-- a direct transfer has no prefix
no_prefix : (bytes : List ℕ) (i : Instr) (s : Spells bytes i) → is_direct i.flow ≡ true → s.parts.prefix ≡ None
no_prefix bytes i s direct = go s.parts.prefix refl
  where
    go : (o : Option ℕ) → s.parts.prefix ≡ o → o ≡ None
    go None e = refl
    go (Some b) e = absurd (
        let next = (goes_on_after_prefix bytes i s (λ none. (let f : s.parts.prefix ≡ Some b = e in cc))).0 in
        let f : true ≡ false = sym direct ∙ ap is_direct next in cc)

-- the first byte of an opcode of a row of direct transfers is one with which a direct transfer may begin
opcode_begins : (d e : Bool) (w : Bool) (test : Bool) (opcode : ℕ) → d ≡ true → w ≡ true
    → (e ≡ false → test ≡ true → w ≡ true → may_transfer opcode ≡ true)
    → (elim d [ true ↦ elim e [ true ↦ true | false ↦ test ] | false ↦ true ]) ≡ true → may_transfer (cond e 0x0F opcode) ≡ true
opcode_begins true true w test opcode p q f h = refl
opcode_begins true false w test opcode p q f h = f refl h q
opcode_begins false e w test opcode p q f h = absurd cc

-- the first byte of a direct transfer is one with which it may begin (`may_transfer`)
pub direct_begins : BeginsAsTransfer
direct_begins byte rest i s direct =
    let p = prefix_at s.parts s.parts.prefix s.fit.prefix in
    let assoc : spelled s.parts ≡ (option_to_list s.parts.prefix ++ cond s.parts.row.escaped (0x0F ∷ s.parts.opcode ∷ [])
    (s.parts.opcode ∷ [])) ++ (s.parts.operand ++ s.parts.number)
    = append_assoc (option_to_list s.parts.prefix ++ cond s.parts.row.escaped (0x0F ∷ s.parts.opcode ∷ [])
    (s.parts.opcode ∷ [])) s.parts.operand s.parts.number in
    let first : byte ≡ cond s.parts.row.escaped 0x0F s.parts.opcode
    = ap (λ (xs : List ℕ). get_or xs 0 0) (s.whole ∙ assoc) ∙ first_byte s.parts.prefix s.parts.row.escaped s.parts.opcode
    (s.parts.operand ++ s.parts.number) (no_prefix (byte ∷ rest) i s direct) in
    let flow : is_direct s.parts.row.flow ≡ true = ap (λ (k : Instr). is_direct k.flow) (sym s.says) ∙ direct in
    subst (λ (b : ℕ). may_transfer b ≡ true) (sym first)
    (opcode_begins (is_direct s.parts.row.flow) s.parts.row.escaped (within s.parts.opcode s.parts.row.opcodes)
    (each_below (λ o. implies (within o s.parts.row.opcodes) (may_transfer o)) 256) s.parts.opcode flow s.fit.opcode
    (λ one test within_is. implied (within s.parts.opcode s.parts.row.opcodes) (may_transfer s.parts.opcode)
    (each_below-at (λ o. implies (within o s.parts.row.opcodes) (may_transfer o)) 256 s.parts.opcode test
    (opcode-lt s.parts p.0 s.fit p.1)) within_is)
    (each-Contains row_begins rows s.parts.row rows_begin s.fit.listed))
