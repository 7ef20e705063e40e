use Rattle.std.proofs.Common.{◌≡◌, ℕ, ◌+◌, ◌-◌, ◌≤◌, ℤ, List, length, take, drop, Option, Result, Ok, ap, ◌∙◌, arith, rules}
use Rattle.std.proofs.lemmas.List.{take_all, length-drop}
use Rattle.nc_decode.specs.declared.entry.Shape.{Shape}
use Rattle.nc_decode.specs.declared.instruction.Instr.{Instr}
use Rattle.nc_decode.specs.declared.instruction.DecodeFault.{DecodeFault}
use Rattle.nc_decode.specs.machinery.Reading.{rel_of, whole_of}
use Rattle.nc_decode.specs.Spelling.{masks_of}
use Rattle.nc_decode.proofs.decoding.whole.Goals as goal

-- what is there, put together
made : (bytes : List ℕ) (s : Shape) (rel : ℤ) (masks : Option ℕ) → s.head + s.number_len ≤ length bytes
    → rel ≡ rel_of s.number (drop s.head bytes) → masks ≡ masks_of (take (s.head + s.number_len) bytes)
    → ◌≡◌ {A = Result Instr DecodeFault}
    (Ok (record { len = s.head + s.number_len; flow = s.flow; rel = rel; reg = s.reg; masks = masks })) (whole_of bytes s)
unfolding whole_of
made bytes s rel masks l r m = search rules

pub returns : goal.returns
returns c =
    let bytes = c.args.bytes.now in
    let s = c.args.shape in
    let rest : take (length bytes - s.head) (drop s.head bytes) ≡ drop s.head bytes =
    take_all _ _ (omega (arith, length-drop s.head bytes)) in
    let read : c.rel.result ≡ rel_of s.number (drop s.head bytes) = c.rel.ensures ∙ ap (λ (xs : List ℕ). rel_of s.number xs) rest in
    made bytes s _ _ c.if-bytes-len.false (search rules) c.masks.ensures
