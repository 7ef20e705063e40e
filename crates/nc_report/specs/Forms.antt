-- Files that aren't raw code, known by their bytes.
use Rattle.std.specs.Prelude.{ℕ, Bool, not, ◌==◌, ◌&&◌, ◌||◌, List, length}
use Rattle.std.specs.Char.{is_ascii_hexdigit}
use Rattle.std.specs.List.{list_all}

-- a space, a tab, or the end of a line
abbrev pub is_blank : ℕ → Bool
is_blank byte = byte == 0x20 || byte == 0x09 || byte == 0x0A || byte == 0x0D

-- a byte of hexadecimal text: a digit, or a blank
abbrev pub is_of_digits : ℕ → Bool
is_of_digits byte = is_ascii_hexdigit byte || is_blank byte

-- there is text, and all of it is hexadecimal
abbrev pub is_hexadecimal : List ℕ → Bool
is_hexadecimal text = not (length text == 0) && list_all is_of_digits text
