-- The length of an instruction, whether or not it is permitted (Intel SDM volume 2, chapter 2 and appendix A).
use Rattle.std.specs.Prelude.{ℕ, ◌+◌, ◌%◌, Bool, List, [], ◌∷◌, length, take, drop, get_or, slice_index, Option, Some, None}
use Rattle.std.specs.Prelude.{◌==◌, ◌&&◌, ◌||◌, nat_le, nat_lt, if◌then◌else◌}
use Rattle.std.specs.List.{list_any, prefix_len}
use Rattle.nc_decode.specs.Rows.{mod_of, reg_of, rm_of}
use Rattle.nc_decode.specs.Barred.{leading, among}
use Rattle.nc_decode.specs.Spelling.{operand_len}
use Rattle.nc_reading.specs.declared.lengths.Number.{Number}
use Rattle.nc_reading.specs.declared.lengths.Number.TheVariants.{Absent, Byte, Word, Frame, Sized, Far, Offset, TestByte, TestSized, Field}
use Rattle.nc_reading.specs.declared.lengths.Form.{Form}
use Rattle.nc_reading.specs.declared.lengths.Form.TheVariants.{Unknown, Alone, Operand, Registers}
use Rattle.nc_reading.specs.declared.lengths.Head.{Head}
use Rattle.nc_reading.specs.declared.lengths.TheConstants.{ONE_BYTE, TWO_BYTE}

-- the greatest length of an instruction, in bytes
abbrev pub longest : ℕ
longest = 15

-- the byte is one of these prefixes
abbrev pub has : ℕ → List ℕ → Bool
has byte before = list_any (λ b. b == byte) before

-- the length of a number whose size depends on the prefix 66
abbrev pub sized : List ℕ → ℕ
sized before = if has 0x66 before then 2 else 4

-- the length of a number after these prefixes, and after this ModRM if there is one
abbrev pub number_size : Number → List ℕ → ℕ → ℕ
number_size Absent before modrm = 0
number_size Byte before modrm = 1
number_size Word before modrm = 2
number_size Frame before modrm = 3
number_size Sized before modrm = sized before
number_size Far before modrm = sized before + 2
number_size Offset before modrm = if has 0x67 before then 2 else 4
number_size TestByte before modrm = if nat_lt (reg_of modrm) 2 then 1 else 0
number_size TestSized before modrm = if nat_lt (reg_of modrm) 2 then sized before else 0
number_size Field before modrm = if has 0x66 before || has 0xF2 before then 2 else 0

-- the length of ModRM and its displacement with 16-bit addresses
abbrev pub short_operand_len : ℕ → ℕ
short_operand_len modrm =
    if mod_of modrm == 1 then 2
    else (if mod_of modrm == 2 then 3
    else (if mod_of modrm == 0 && rm_of modrm == 6 then 3 else 1))

-- the length of ModRM, SIB and displacement after these prefixes
abbrev pub operand_size : List ℕ → ℕ → ℕ → ℕ
operand_size before modrm sib = if has 0x67 before then short_operand_len modrm else operand_len modrm sib

-- the number of bytes after an opcode of this form, if it is known; the first two of them are `modrm` and `sib`
abbrev pub tail_len : Form → List ℕ → ℕ → ℕ → Option ℕ
tail_len Unknown before modrm sib = None
tail_len (Alone number) before modrm sib = Some (number_size number before modrm)
tail_len (Operand number) before modrm sib = Some (operand_size before modrm sib + number_size number before modrm)
tail_len Registers before modrm sib = Some 1

-- the opcodes of map 1 that have an immediate byte after VEX and EVEX
abbrev pub vector_with_byte : List ℕ
vector_with_byte = 0x70 ∷ 0x71 ∷ 0x72 ∷ 0x73 ∷ 0xC2 ∷ 0xC4 ∷ 0xC5 ∷ 0xC6 ∷ []

-- the form of an opcode after VEX, by its map: 1 is 0F, 2 is 0F 38, 3 is 0F 3A
abbrev pub vector_form : ℕ → ℕ → Form
vector_form map opcode =
    if map == 1 then (if opcode == 0x77 then Alone Absent else (if among vector_with_byte opcode then Operand Byte else Operand Absent))
    else (if map == 2 then Operand Absent
    else (if map == 3 then Operand Byte else Unknown))

-- the form of an opcode after EVEX, which also has maps 5 and 6
abbrev pub evex_form : ℕ → ℕ → Form
evex_form map opcode = if map == 5 || map == 6 then Operand Absent else vector_form map opcode

-- the form of an XOP opcode, by its map
abbrev pub xop_form : ℕ → Form
xop_form map =
    if map == 8 then Operand Byte
    else (if map == 9 then Operand Absent
    else (if map == 10 then Operand Sized else Unknown))

-- the number of bytes up to the last one of the opcode, and the opcode's form
abbrev pub to_opcode : ℕ → Form → Head
to_opcode len form = record { len = len; form = form }

-- the head of an instruction that begins with 0F and this byte
abbrev pub escaped_head : ℕ → Head
escaped_head second =
    if second == 0x38 then to_opcode 3 (Operand Absent)
    else (if second == 0x3A then to_opcode 3 (Operand Byte)
    else to_opcode 2 (get_or TWO_BYTE second Unknown))

-- The head of an instruction without prefixes. C4, C5 and 62 are VEX and EVEX if the two highest bits of the next byte are
-- set, and 8F is XOP if the map after it is at least 8. A missing byte counts as 0.
abbrev pub head_of : List ℕ → Head
head_of bytes =
    let first = slice_index bytes 0 in
    let second = slice_index bytes 1 in
    if first == 0x0F then escaped_head second
    else (if first == 0xC5 && nat_le 0xC0 second then to_opcode 3 (vector_form 1 (slice_index bytes 2))
    else (if first == 0xC4 && nat_le 0xC0 second then to_opcode 4 (vector_form (second % 32) (slice_index bytes 3))
    else (if first == 0x62 && nat_le 0xC0 second then to_opcode 5 (evex_form (second % 16) (slice_index bytes 4))
    else (if first == 0x8F && nat_le 8 (second % 32) then to_opcode 4 (xop_form (second % 32))
    else to_opcode 1 (get_or ONE_BYTE first Unknown)))))

-- a length, if it is at most `room`
abbrev pub at_most : ℕ → ℕ → Option ℕ
at_most room whole = if nat_le whole room then Some whole else None

-- the length of `head` bytes and a tail, if there is a tail and the length is at most `room`
abbrev pub with_tail : ℕ → ℕ → Option ℕ → Option ℕ
with_tail room head None = None
with_tail room head (Some tail) = at_most room (head + tail)

-- the length of an instruction, counting these prefixes before it, if it is at most `room`
abbrev pub length_after : ℕ → List ℕ → List ℕ → Option ℕ
length_after room before rest =
    let h = head_of rest in
    with_tail room (length before + h.len) (tail_len h.form before (slice_index rest h.len) (slice_index rest (h.len + 1)))

-- the length of the instruction at the front of these bytes, if it is known and ends within them
abbrev pub length_in : List ℕ → Option ℕ
length_in room =
    let prefixes = prefix_len (among leading) room in
    length_after (length room) (take prefixes room) (drop prefixes room)

-- the length of the instruction at the front, permitted or not: none if the bytes end before it does, if it would be
-- longer than `longest`, or if its opcode isn't known
abbrev pub known_length : List ℕ → Option ℕ
known_length bytes = length_in (take longest bytes)
