-- Strings of JSON (RFC 8259).
use Rattle.std.specs.Prelude.{ℕ, List, ◌∷◌, [], ◌++◌, ◌==◌, ◌||◌, if◌then◌else◌, nat_lt, codes}
use Rattle.std.specs.List.{flat_map}
use Rattle.hex.specs.Hex.{encode_lower}

-- a byte in a string: after a backslash if it is a quotation mark or a backslash; as `\u00` and two digits if it is a control
-- byte, below 20 or 7F; otherwise as it is
abbrev pub escaped : ℕ → List ℕ
escaped byte =
    if byte == 0x22 || byte == 0x5C then 0x5C ∷ byte ∷ []
    else (if nat_lt byte 0x20 || byte == 0x7F then codes "\\u00" ++ encode_lower (byte ∷ []) else byte ∷ [])

-- bytes as a JSON string
abbrev pub string_of : List ℕ → List ℕ
string_of bytes = 0x22 ∷ (flat_map escaped bytes ++ 0x22 ∷ [])
