-- Direct transfers of the usual forms are the instructions that their bytes spell.
use Rattle.std.proofs.Common.{◌≡◌, ℕ, ℤ, ◌+◌, ◌<◌, ◌≤◌, ◌^◌, to_z, of_z, true, false, List, [], ◌∷◌, ◌++◌, length, Some, None, refl, sym, subst, ap, ◌∙◌, arith, slice_index, ◌&&◌, ◌||◌}
use Rattle.std.specs.Prelude.{All, Contains, nat_le}
use Rattle.std.specs.Int.{w8, w32, cast_signed, from_le_bytes}
use Rattle.std.specs.Int.Signed.{mag}
use Rattle.std.proofs.lemmas.Int.{to_z-of_z}
use Rattle.std.proofs.lemmas.Bool.{le-leb}
use Rattle.std.proofs.lemmas.List.Elements.{All-cons}
use Rattle.nc_decode.specs.declared.instruction.Flow.{Flow}
use Rattle.nc_decode.specs.declared.instruction.Flow.TheVariants.{Branch, Jump, Call}
use Rattle.nc_decode.specs.Rows.{Number, Span, rel8, rel32, from_to, at, within, without_operand, escaped_without_operand, rows, first_rows, later_rows}
use Rattle.nc_decode.specs.Spelling.{number_len, register_of, instr_of}
use Rattle.nc_decode.specs.Front.{first_instruction}
use Rattle.nc_decode.proofs.Offered.{exact}
use Rattle.nc_report.specs.machinery.Transfers.{transfer}

-- an opcode of a row without an operand, and its number, are at the front of the bytes that they begin
one_found : (opcodes : List Span) (number : Number) (flow : Flow) → Contains rows (without_operand opcodes number flow)
    → (o : ℕ) (digits rest : List ℕ) → within o opcodes ≡ true → length digits ≡ number_len None number → All (λ b. b < 256) (o ∷ digits)
    → first_instruction (o ∷ (digits ++ rest)) ≡ Some (instr_of (record {
      prefix = None;
      row = without_operand opcodes number flow;
      opcode = o;
      operand = [];
      number = digits;
    }))
one_found opcodes number flow listed o digits rest inside long small =
    (exact (o ∷ (digits ++ rest)) _).1 (record {
      front = o ∷ digits;
      rest = rest;
      parts = refl;
      spells = record {
        parts = record { prefix = None; row = without_operand opcodes number flow; opcode = o; operand = []; number = digits };
        fit = record { listed = listed; opcode = inside; operand = refl; number = long; prefix = tt; bytes = small };
        whole = refl;
        says = refl;
      };
    })

-- the same after 0F
escaped_found : (opcodes : List Span) (number : Number) (flow : Flow) → Contains rows (escaped_without_operand opcodes number flow)
    → (o : ℕ) (digits rest : List ℕ) → within o opcodes ≡ true → length digits ≡ number_len None number → All (λ b. b < 256) (0x0F ∷ o ∷ digits)
    → first_instruction (0x0F ∷ o ∷ (digits ++ rest)) ≡ Some (instr_of (record {
      prefix = None;
      row = escaped_without_operand opcodes number flow;
      opcode = o;
      operand = [];
      number = digits;
    }))
escaped_found opcodes number flow listed o digits rest inside long small =
    (exact (0x0F ∷ o ∷ (digits ++ rest)) _).1 (record {
      front = 0x0F ∷ o ∷ digits;
      rest = rest;
      parts = refl;
      spells = record {
        parts = record { prefix = None; row = escaped_without_operand opcodes number flow; opcode = o; operand = []; number = digits };
        fit = record { listed = listed; opcode = inside; operand = refl; number = long; prefix = tt; bytes = small };
        whole = refl;
        says = refl;
      };
    })

-- a number from the first to the last of a span is in it
inside_span : (a b n : ℕ) → a ≤ n → n ≤ b → within n (from_to a b ∷ []) ≡ true
inside_span a b n low high =
    subst (λ t. ((t && nat_le n b) || false) ≡ true) (sym (le-leb a n low))
    (subst (λ t. ((true && t) || false) ≡ true) (sym (le-leb n b high)) refl)

-- the rows of direct transfers
branch_short_row : Contains rows (without_operand (from_to 0x70 0x7F ∷ []) rel8 Branch)
unfolding rows first_rows later_rows
branch_short_row = (8, omega arith, refl)

call_row : Contains rows (without_operand (at 0xE8 ∷ []) rel32 Call)
unfolding rows first_rows later_rows
call_row = (27, omega arith, refl)

jump_row : Contains rows (without_operand (at 0xE9 ∷ []) rel32 Jump)
unfolding rows first_rows later_rows
jump_row = (28, omega arith, refl)

jump_short_row : Contains rows (without_operand (at 0xEB ∷ []) rel8 Jump)
unfolding rows first_rows later_rows
jump_short_row = (29, omega arith, refl)

branch_row : Contains rows (escaped_without_operand (from_to 0x80 0x8F ∷ []) rel32 Branch)
unfolding rows first_rows later_rows
branch_row = (42, omega arith, refl)

-- no number is too large
all_none : All (λ b. b < 256) []
all_none k d lt = absurd (omega (arith, lt))

-- a number that is small, before others that are
small_more : (b : ℕ) (more : List ℕ) → b < 256 → All (λ b. b < 256) more → All (λ b. b < 256) (b ∷ more)
small_more b more small all = All-cons (λ b. b < 256) b more small all

-- two small numbers
small_two : (a b : ℕ) → a < 256 → b < 256 → All (λ b. b < 256) (a ∷ b ∷ [])
small_two a b s t = small_more a (b ∷ []) s (small_more b [] t all_none)

-- four small numbers
small_four : (a b c d : ℕ) → a < 256 → b < 256 → c < 256 → d < 256 → All (λ b. b < 256) (a ∷ b ∷ c ∷ d ∷ [])
small_four a b c d s t u v = small_more a (b ∷ c ∷ d ∷ []) s (small_more b (c ∷ d ∷ []) t (small_two c d u v))

-- an integer of 32 bits is what its bits say
pub same_number : (z : ℤ) → mag z < 2 ^ 31 → z ≡ to_z w32 (of_z w32 z)
same_number z small = sym (to_z-of_z w32 z (record { sfits = small }))

-- 70 to 7F
pub branch_short_found : (bytes : List ℕ) → ((k : ℕ) → slice_index bytes k < 256) → 2 ≤ length bytes → 0x70 ≤ slice_index bytes 0
    → slice_index bytes 0 ≤ 0x7F → first_instruction bytes ≡ Some (transfer 2 Branch (cast_signed w8 (slice_index bytes 1)))
branch_short_found [] small long low high = absurd (omega (arith, long))
branch_short_found (o ∷ []) small long low high = absurd (omega (arith, long))
branch_short_found (o ∷ d ∷ rest) small long low high =
    one_found (from_to 0x70 0x7F ∷ []) rel8 Branch branch_short_row o (d ∷ []) rest (inside_span 0x70 0x7F o low high) refl
    (small_two o d (small 0) (small 1))

-- EB
pub jump_short_found : (bytes : List ℕ) → ((k : ℕ) → slice_index bytes k < 256) → 2 ≤ length bytes → slice_index bytes 0 ≡ 0xEB
    → first_instruction bytes ≡ Some (transfer 2 Jump (cast_signed w8 (slice_index bytes 1)))
jump_short_found [] small long is = absurd (omega (arith, long))
jump_short_found (o ∷ []) small long is = absurd (omega (arith, long))
jump_short_found (o ∷ d ∷ rest) small long is =
    one_found (at 0xEB ∷ []) rel8 Jump jump_short_row o (d ∷ []) rest (inside_span 0xEB 0xEB o (omega (arith, is)) (omega (arith, is))) refl
    (small_two o d (small 0) (small 1))

-- the number of four bytes from a place on
abbrev pub four_at : List ℕ → ℕ → ℤ
four_at bytes k =
    cast_signed w32
    (from_le_bytes w32 (slice_index bytes k ∷ slice_index bytes (k + 1) ∷ slice_index bytes (k + 2) ∷ slice_index bytes (k + 3) ∷ []))

-- five bytes, of which the last four are a number
near_found : (flow : Flow) (o : ℕ) → Contains rows (without_operand (at o ∷ []) rel32 flow) → register_of flow [] ≡ 0 → (bytes : List ℕ)
    → ((k : ℕ) → slice_index bytes k < 256) → 5 ≤ length bytes → slice_index bytes 0 ≡ o
    → first_instruction bytes ≡ Some (transfer 5 flow (four_at bytes 1))
near_found flow o listed plain [] small long is = absurd (omega (arith, long))
near_found flow o listed plain (x ∷ []) small long is = absurd (omega (arith, long))
near_found flow o listed plain (x ∷ a ∷ []) small long is = absurd (omega (arith, long))
near_found flow o listed plain (x ∷ a ∷ b ∷ []) small long is = absurd (omega (arith, long))
near_found flow o listed plain (x ∷ a ∷ b ∷ c ∷ []) small long is = absurd (omega (arith, long))
near_found flow o listed plain (x ∷ a ∷ b ∷ c ∷ d ∷ rest) small long is =
    one_found (at o ∷ []) rel32 flow listed x (a ∷ b ∷ c ∷ d ∷ []) rest (inside_span o o x (omega (arith, is)) (omega (arith, is))) refl
    (small_more x (a ∷ b ∷ c ∷ d ∷ []) (small 0) (small_four a b c d (small 1) (small 2) (small 3) (small 4)))
    ∙ ap (λ reg. Some (record {
      len = 5;
      flow = flow;
      rel = four_at (x ∷ a ∷ b ∷ c ∷ d ∷ rest) 1;
      reg = reg;
      masks = None;
    })) plain

-- E8
pub call_found : (bytes : List ℕ) → ((k : ℕ) → slice_index bytes k < 256) → 5 ≤ length bytes → slice_index bytes 0 ≡ 0xE8
    → first_instruction bytes ≡ Some (transfer 5 Call (four_at bytes 1))
call_found bytes small long is = near_found Call 0xE8 call_row refl bytes small long is

-- E9
pub jump_found : (bytes : List ℕ) → ((k : ℕ) → slice_index bytes k < 256) → 5 ≤ length bytes → slice_index bytes 0 ≡ 0xE9
    → first_instruction bytes ≡ Some (transfer 5 Jump (four_at bytes 1))
jump_found bytes small long is = near_found Jump 0xE9 jump_row refl bytes small long is

-- 0F, and then 80 to 8F
pub branch_found : (bytes : List ℕ) → ((k : ℕ) → slice_index bytes k < 256) → 6 ≤ length bytes → slice_index bytes 0 ≡ 0x0F
    → 0x80 ≤ slice_index bytes 1 → slice_index bytes 1 ≤ 0x8F → first_instruction bytes ≡ Some (transfer 6 Branch (four_at bytes 2))
branch_found [] small long is low high = absurd (omega (arith, long))
branch_found (x ∷ []) small long is low high = absurd (omega (arith, long))
branch_found (x ∷ o ∷ []) small long is low high = absurd (omega (arith, long))
branch_found (x ∷ o ∷ a ∷ []) small long is low high = absurd (omega (arith, long))
branch_found (x ∷ o ∷ a ∷ b ∷ []) small long is low high = absurd (omega (arith, long))
branch_found (x ∷ o ∷ a ∷ b ∷ c ∷ []) small long is low high = absurd (omega (arith, long))
branch_found (x ∷ o ∷ a ∷ b ∷ c ∷ d ∷ rest) small long is low high =
    ap (λ n. first_instruction (n ∷ o ∷ a ∷ b ∷ c ∷ d ∷ rest)) is
    ∙ escaped_found (from_to 0x80 0x8F ∷ []) rel32 Branch branch_row o (a ∷ b ∷ c ∷ d ∷ []) rest (inside_span 0x80 0x8F o low high) refl
    (small_more 0x0F (o ∷ a ∷ b ∷ c ∷ d ∷ []) (omega arith) (small_more o (a ∷ b ∷ c ∷ d ∷ []) (small 1)
    (small_four a b c d (small 2) (small 3) (small 4) (small 5))))
