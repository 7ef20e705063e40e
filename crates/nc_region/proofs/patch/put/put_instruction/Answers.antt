use Rattle.std.proofs.Common.{◌≡◌, ℕ, ◌+◌, ◌-◌, ◌<◌, List, [], ◌∷◌, ◌++◌, length, get_or, take, drop, eqb-true, sym, ap, ◌∙◌, subst, refl, arith}
use Rattle.std.proofs.lemmas.Bool.{eqb-false}
use Rattle.std.proofs.lemmas.List.{length-take, length-drop, take_all}
use Rattle.nc_text.specs.Marks.{IsClosed}
use Rattle.nc_text.specs.MarkedText.{MarkedText}
use Rattle.nc_acts.specs.declared.acts.Act.TheVariants.{Put}
use Rattle.nc_acts.specs.declared.acts.Entry.TheVariants.{Did, Serialized}
use Rattle.nc_acts.specs.Acts.{puts_where}
use Rattle.nc_acts.specs.Log.{only_acts}
use Rattle.nc_region.specs.Patch.{any_place, acts_of_instruction, log_of_instruction}
use Rattle.nc_region.specs.machinery.PatchSteps.{IsReplacing}
use Rattle.nc_region.proofs.chunks.ReadyPlaces.{ready_part, ready_place}
use Rattle.nc_region.proofs.patching.Replacing.{single_span}
use Rattle.nc_region.proofs.patching.OneInstruction.{log_of_one}
use Rattle.nc_region.proofs.patch.put.put_instruction.Goals as goal

-- the first byte and those behind it
parted : (bytes : List ℕ) → 0 < length bytes → bytes ≡ get_or bytes 0 0 ∷ take (length bytes - 1) (drop 1 bytes)
parted [] some = absurd (omega arith)
parted (byte ∷ rest) some = ap (λ (z : List ℕ). byte ∷ z) (sym (take_all (length (byte ∷ rest) - 1) rest (omega arith)))

-- what a single byte takes
acts_of_one : (at : ℕ) (bytes : List ℕ) → length bytes ≡ 1 → Put at (get_or bytes 0 0) ∷ [] ≡ acts_of_instruction at bytes
acts_of_one at [] one = absurd (omega arith)
acts_of_one at (byte ∷ []) one = refl
acts_of_one at (byte ∷ next ∷ rest) one = absurd (omega arith)

-- the acts on an instruction of several bytes: a stop, the bytes behind the first, the first
acts_of_more : (at first : ℕ) (rest : List ℕ) → 0 < length rest
    → Put at 244 ∷ (puts_where any_place (at + 1) rest ++ (Put at first ∷ [])) ≡ acts_of_instruction at (first ∷ rest)
acts_of_more at first [] some = absurd (omega arith)
acts_of_more at first (next ∷ rest) some = refl

log_of_more : (at first : ℕ) (rest : List ℕ) → 0 < length rest
    → Did (Put at 244) ∷ Serialized ∷ (only_acts (puts_where any_place (at + 1) rest) ++ (Serialized ∷ Did (Put at first) ∷ []))
    ≡ log_of_instruction at (first ∷ rest)
log_of_more at first [] some = absurd (omega arith)
log_of_more at first (next ∷ rest) some = refl

pub put-requires-clause-inside : goal.put-requires-clause-inside
put-requires-clause-inside g c =
    let r = c.requires.replacing in
    (r.low, omega (arith, r.some, r.high))

pub put-requires-clause-ready : goal.put-requires-clause-ready
put-requires-clause-ready g c =
    ready_place _ c.args.at (length c.args.bytes.now) c.args.at c.requires.ready (omega arith) (omega (arith, c.requires.replacing.some))

pub put_longer-requires-clause-ready : goal.put_longer-requires-clause-ready
put_longer-requires-clause-ready g c =
    ready_part _ c.args.at (length c.args.bytes.now) c.args.at _ c.requires.ready (omega arith)
    (omega (arith, c.requires.replacing.some, length-take {A = ℕ}, length-drop {A = ℕ}))

pub put-requires-clause-closed : goal.put-requires-clause-closed
put-requires-clause-closed g c =
    let r = c.requires.replacing in
    let none = eqb-true _ _ (sym c.is_empty.ensures ∙ c.if-is_empty.true) in
    let one : length c.args.bytes.now ≡ 1 = omega (arith, none, r.some, length-take {A = ℕ}, length-drop {A = ℕ}) in
    subst (λ (text : List ℕ). IsClosed text (g.A.Acts.marked c.args.acts.now).marks)
    (sym (single_span (g.A.Acts.marked c.args.acts.now).bytes c.args.at c.args.bytes.now r.low r.high one)) r.closed

pub returns-then-is_empty-clause-bytes : goal.returns-then-is_empty-clause-bytes
returns-then-is_empty-clause-bytes g c =
    let r = c.requires.replacing in
    let none = eqb-true _ _ (sym c.is_empty.ensures ∙ c.if-is_empty.true) in
    let one : length c.args.bytes.now ≡ 1 = omega (arith, none, r.some, length-take {A = ℕ}, length-drop {A = ℕ}) in
    rw c.put.ensures.marked (single_span (g.A.Acts.marked c.args.acts.now).bytes c.args.at c.args.bytes.now r.low r.high one)

pub returns-then-is_empty-clause-marks : goal.returns-then-is_empty-clause-marks
returns-then-is_empty-clause-marks g c = ap (λ (m : MarkedText). m.marks) c.put.ensures.marked

pub returns-then-is_empty-clause-log : goal.returns-then-is_empty-clause-log
returns-then-is_empty-clause-log g c =
    let r = c.requires.replacing in
    let none = eqb-true _ _ (sym c.is_empty.ensures ∙ c.if-is_empty.true) in
    let one : length c.args.bytes.now ≡ 1 = omega (arith, none, r.some, length-take {A = ℕ}, length-drop {A = ℕ}) in
    rw (log_of_one c.args.at c.args.bytes.now one) c.put.ensures.logged

pub put_longer-requires-clause-some : goal.put_longer-requires-clause-some
put_longer-requires-clause-some g c =
    let some = eqb-false _ _ (sym c.is_empty.ensures ∙ c.if-is_empty.false) in
    omega (arith, some)

pub put_longer-requires-clause-replacing : goal.put_longer-requires-clause-replacing
put_longer-requires-clause-replacing g c =
    subst (λ (z : List ℕ). IsReplacing (g.A.Acts.marked c.args.acts.now) c.args.at z)
    (parted c.args.bytes.now c.requires.replacing.some) c.requires.replacing

pub returns-clause-bytes : goal.returns-clause-bytes
returns-clause-bytes g c =
    rw (parted c.args.bytes.now c.requires.replacing.some) c.put_longer.ensures.bytes

pub returns-clause-log : goal.returns-clause-log
returns-clause-log g c =
    let some = eqb-false _ _ (sym c.is_empty.ensures ∙ c.if-is_empty.false) in
    let bytes = c.args.bytes.now in
    rw (
      parted bytes c.requires.replacing.some,
      ← log_of_more c.args.at (get_or bytes 0 0) (take (length bytes - 1) (drop 1 bytes)) (omega (arith, some)),
    ) c.put_longer.ensures.log
