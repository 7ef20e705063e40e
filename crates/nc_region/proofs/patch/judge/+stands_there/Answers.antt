use Rattle.std.proofs.Common.{◌≡◌, ◌≢◌, ℕ, ◌+◌, ◌-◌, ◌<◌, Bool, true, false, List, [], ◌∷◌, length, get_or, take, drop, eqb-true, sym, ap, ◌∙◌, refl, arith}
use Rattle.std.specs.Prelude.{◌&&◌}
use Rattle.std.proofs.lemmas.Bool.{eqb-false, ne_eqb}
use Rattle.std.proofs.lemmas.List.{take_all}
use Rattle.nc_text.specs.Places.{byte_at}
use Rattle.nc_region.specs.Patch.{stands_there}
use Rattle.nc_region.proofs.patching.Turns.{stands_first}
use Rattle.nc_region.proofs.patch.judge.+stands_there.Goals as goal

-- an empty list of bytes stands anywhere
stands_none : (text : List ℕ) (at : ℕ) (bytes : List ℕ) → length bytes ≡ 0 → true ≡ stands_there text at bytes
stands_none text at [] none = refl
stands_none text at (byte ∷ rest) none = absurd (omega arith)

-- where the first byte stands in the text, bytes do if those behind it do
stands_behind : (text : List ℕ) (at : ℕ) (bytes : List ℕ) → 0 < length bytes → byte_at text at ≡ get_or bytes 0 0
    → stands_there text (at + 1) (take (length bytes - 1) (drop 1 bytes)) ≡ stands_there text at bytes
stands_behind text at [] some first = absurd (omega arith)
stands_behind text at (byte ∷ rest) some first =
    ap (λ (z : List ℕ). stands_there text (at + 1) z) (take_all (length (byte ∷ rest) - 1) rest (omega arith))
    ∙ sym (stands_first text at (byte ∷ rest) some first)

-- where the first byte doesn't stand in the text, bytes don't
stands_not : (text : List ℕ) (at : ℕ) (bytes : List ℕ) → 0 < length bytes → byte_at text at ≢ get_or bytes 0 0
    → false ≡ stands_there text at bytes
stands_not text at [] some first = absurd (omega arith)
stands_not text at (byte ∷ rest) some first =
    ap (λ (z : Bool). z && stands_there text (at + 1) rest) (sym (ne_eqb (byte_at text at) byte first))

pub returns-then-is_empty : goal.returns-then-is_empty
returns-then-is_empty g t c =
    stands_none _ c.args.at c.args.bytes.now (eqb-true _ _ (sym c.is_empty.ensures ∙ c.if-is_empty.true))

pub returns-then-byte-bytes : goal.returns-then-byte-bytes
returns-then-byte-bytes g t c =
    let some = eqb-false _ _ (sym c.is_empty.ensures ∙ c.if-is_empty.false) in
    c.stands_there.ensures
    ∙ stands_behind _ c.args.at c.args.bytes.now (omega (arith, some)) (sym c.byte.ensures ∙ c.if-byte-bytes.true)

pub returns-else-byte-bytes : goal.returns-else-byte-bytes
returns-else-byte-bytes g t c =
    let some = eqb-false _ _ (sym c.is_empty.ensures ∙ c.if-is_empty.false) in
    ne_eqb _ _ c.if-byte-bytes.false
    ∙ stands_not _ c.args.at c.args.bytes.now (omega (arith, some)) (λ same. c.if-byte-bytes.false (c.byte.ensures ∙ same))
