-- Valid requests of a command line of `nc_check`.
use Rattle.std.specs.Prelude.{◌≡◌, ◌≤◌, ◌⊎◌, ℕ, List, ◌∷◌, length}
use Rattle.std.specs.Str.Parse.{IsNumeral, digits_value}
use Rattle.nc_decode.specs.Bundles.{IsRegionSize}
use Rattle.nc_work.specs.Verdicts.{AreWorkers}
use Rattle.nc_files.specs.declared.request.Request.{Request}

-- the text is these digits, by themselves or after `0x` or `0X`
abbrev pub EndsInDigits : List ℕ → List ℕ → Type 0
EndsInDigits text digits = (text ≡ digits) ⊎ ((text ≡ 48 ∷ 120 ∷ digits) ⊎ (text ≡ 48 ∷ 88 ∷ digits))

-- a text denotes an address: 1 to 8 hexadecimal digits, by themselves or after `0x` or `0X`
abbrev pub SpellsBase : List ℕ → ℕ → Type 0
SpellsBase text base = (digits : List ℕ) × EndsInDigits text digits
    × IsNumeral 16 digits × length digits ≤ 8 × digits_value 16 digits ≡ base

-- the numbers that a command line of `nc_check` asks for are in the ranges of bundles and of workers, and it names a file
abbrev pub IsCheckInRange : Request → Type 0
IsCheckInRange request = IsRegionSize request.bundles × AreWorkers request.workers × 1 ≤ length request.files.items
