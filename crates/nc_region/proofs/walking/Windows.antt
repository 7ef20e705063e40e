-- An instruction that lies in one bundle is found by the bytes to the bundle's end.
use Rattle.std.proofs.Common.{◌≡◌, ℕ, ◌+◌, ◌-◌, ◌<◌, ◌≤◌, List, length, get_or, take, drop, Option, Some, None, arith, refl, sym, ap, ◌∙◌}
use Rattle.std.specs.Prelude.{IsSomeAnd}
use Rattle.std.proofs.lemmas.List.{length-take, length-drop, get_or-take, get_or-drop, ext_get_or}
use Rattle.nc_decode.specs.declared.instruction.Instr.{Instr}
use Rattle.nc_decode.specs.Bundles.{IsInOneBundle}
use Rattle.nc_decode.specs.Front.{first_instruction}
use Rattle.nc_decode.proofs.Offered.{depends_on_its_bytes, has_its_length}
use Rattle.nc_text.specs.Places.{InRegion, byte_at, instruction_at}
use Rattle.nc_text.proofs.Offered.{length_at}

-- the bytes at the front of the window are those of the text from the place on
abbrev pub Shows : List ℕ → List ℕ → ℕ → ℕ → Type 0
Shows window text at n = (k : ℕ) → k < n → get_or window k 0 ≡ byte_at text (at + k)

-- an instruction of the text no longer than the window's front is found there
pub found_in_window : (text window : List ℕ) (at n : ℕ) (i : Instr) → InRegion text at → instruction_at text at ≡ Some i → i.len ≤ n
    → n ≤ length window → Shows window text at n → first_instruction (take n window) ≡ Some i
found_in_window text window at n i inside is short long shows =
    let low : 65536 ≤ at = inside.0 in
    let fits = (length_at text at i inside is).1 in
    depends_on_its_bytes (drop (at - 65536) text) (take n window) i is
    (ext_get_or 0 (take i.len (take n window)) (take i.len (drop (at - 65536) text))
    (omega (
      arith,
      fits,
      length-take i.len (take n window),
      length-take n window,
      length-take i.len (drop (at - 65536) text),
      length-drop (at - 65536) text,
    ))
    (λ k lt.
    let small : k < i.len = omega (arith, lt, length-take i.len (take n window)) in
    let moved : at + k - 65536 ≡ at - 65536 + k = omega arith in
    let there = shows k (omega arith) ∙ ap (λ (m : ℕ). get_or text m 0) moved in
    get_or-take i.len (take n window) k 0 small
    ∙ (get_or-take n window k 0 (omega arith)
    ∙ (there ∙ (sym (get_or-drop (at - 65536) text k 0) ∙ sym (get_or-take i.len (drop (at - 65536) text) k 0 small))))))

-- an instruction at the front of the window is one of the text
pub shown_in_window : (text window : List ℕ) (at n : ℕ) (i : Instr) → InRegion text at → first_instruction (take n window) ≡ Some i
    → at + n ≤ 65536 + length text → n ≤ length window → Shows window text at n → instruction_at text at ≡ Some i
shown_in_window text window at n i inside is fits long shows =
    let low : 65536 ≤ at = inside.0 in
    let short = (has_its_length (take n window) i is).1 in
    depends_on_its_bytes (take n window) (drop (at - 65536) text) i is
    (ext_get_or 0 (take i.len (drop (at - 65536) text)) (take i.len (take n window))
    (omega (
      arith,
      fits,
      short,
      low,
      length-take i.len (take n window),
      length-take n window,
      length-take i.len (drop (at - 65536) text),
      length-drop (at - 65536) text,
    ))
    (λ k lt.
    let small : k < i.len = omega (arith, lt, length-take i.len (drop (at - 65536) text)) in
    let smaller : k < n = omega (arith, small, short, length-take n window) in
    let moved : at + k - 65536 ≡ at - 65536 + k = omega (arith, low) in
    let there = shows k smaller ∙ ap (λ (m : ℕ). get_or text m 0) moved in
    get_or-take i.len (drop (at - 65536) text) k 0 small
    ∙ (get_or-drop (at - 65536) text k 0
    ∙ (sym there ∙ (sym (get_or-take n window k 0 smaller) ∙ sym (get_or-take i.len (take n window) k 0 small))))))

-- what an instruction that is there is known for
from_some : (o : Option Instr) (at : ℕ) → IsSomeAnd o (λ i. IsInOneBundle at i.len) → (i : Instr) × (o ≡ Some i) × IsInOneBundle at i.len
from_some None at h = absurd h
from_some (Some i) at h = (i, refl, h)

-- the instruction of a place where one stands in one bundle
pub standing : (text : List ℕ) (at : ℕ) → IsSomeAnd (instruction_at text at) (λ i. IsInOneBundle at i.len)
    → (i : Instr) × (instruction_at text at ≡ Some i) × IsInOneBundle at i.len
standing text at stands = from_some (instruction_at text at) at stands

-- where there is an instruction, there isn't none
pub not_none : (o : Option Instr) (i : Instr) → o ≡ Some i → o ≡ None → ⊥
not_none o i some none = cc
