-- The words of a line: addresses and bytes in hexadecimal.
use Rattle.std.specs.Prelude.{ℕ, ◌==◌, ◌&&◌, List, [], ◌∷◌, Option, Some, None, if◌then◌else◌, length, slice_index}
use Rattle.std.specs.Option.{option_map, option_and_then}
use Rattle.std.specs.Result.{result_ok}
use Rattle.std.specs.Global.{Vec}
use Rattle.std.specs.Int.{w32, from_be_bytes}
use Rattle.hex.specs.Hex.{decode_of, decode_sized}
use Rattle.nc_lines.specs.Lines.{words_in, is_long}

-- the address that a word denotes: exactly eight hexadecimal digits, in either case
abbrev pub address_in : List ℕ → Option ℕ
address_in word = option_map (from_be_bytes w32) (result_ok (decode_sized word 4))

-- the bytes that a word denotes: one or more pairs of hexadecimal digits, or `-` for no bytes
abbrev pub bytes_in : List ℕ → Option (List ℕ)
bytes_in word =
    if length word == 0 then None
    else if (length word == 1) && (slice_index word 0 == 45) then Some []
    else result_ok (decode_of word)

-- the address and the bytes that two words denote; bytes are pairs of hexadecimal digits, or `-` for no bytes
abbrev pub placed_in : List (List ℕ) → Option (ℕ × List ℕ)
placed_in (at ∷ bytes ∷ []) = option_and_then (λ a. option_map (λ found. (a, found)) (bytes_in bytes)) (address_in at)
placed_in _ = None

-- the address that the first of these words denotes, and the words after it
abbrev pub first_address_in : List (List ℕ) → Option (ℕ × List (List ℕ))
first_address_in [] = None
first_address_in (word ∷ words) = option_map (λ a. (a, words)) (address_in word)

-- the words of a text, if there is one
abbrev pub words_after : Option (List ℕ) → List (List ℕ)
words_after None = []
words_after (Some text) = words_in text

-- the chunk that a line names to be vetted only: an address and bytes; any other line is a bad line
abbrev pub chunk_in : List ℕ → Option (ℕ × List ℕ)
chunk_in line = if is_long line then None else placed_in (words_in line)

-- an address and bytes, without the location of the bytes in memory
abbrev pub address_and_bytes : (ℕ × Vec ℕ) → ℕ × List ℕ
address_and_bytes placed = (placed.0, placed.1.items)
