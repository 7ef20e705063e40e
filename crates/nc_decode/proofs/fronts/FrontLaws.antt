-- The laws of the function that finds the instruction at the front.
use Rattle.std.proofs.Common.{◌≡◌, ◌≢◌, ℕ, ◌<◌, List, [], ◌∷◌, ◌++◌, length, take, drop, Some, Result, Ok, Err, refl, sym, subst, ◌∙◌, ap}
use Rattle.std.proofs.Common.{arith, append_assoc, append-nil, zero, suc}
use Rattle.std.specs.Prelude.{IfSome}
use Rattle.std.specs.Result.{result_ok}
use Rattle.std.proofs.lemmas.List.{length-append, take_at, take-append-drop}
use Rattle.nc_decode.specs.declared.instruction.DecodeFault.{DecodeFault}
use Rattle.nc_decode.specs.declared.instruction.Instr.{Instr}
use Rattle.nc_decode.specs.declared.instruction.Flow.TheVariants.{Stop}
use Rattle.nc_decode.specs.machinery.Entries.{opcode_entry}
use Rattle.nc_decode.specs.machinery.Shapes.{shape_of, prefixed_shape, prefix_of, opcode_shape, entry_shape, forms_of, coded_len}
use Rattle.nc_decode.specs.machinery.Reading.{reading, whole_of}
use Rattle.nc_decode.specs.Spelling.{spelled, masks_of, Spells, IsAtFront}
use Rattle.nc_decode.specs.Front.{leading_bytes, first_instruction, IsExact, IsPrefixFree, IsStopFirst, HasItsLength, DependsOnItsBytes}
use Rattle.nc_decode.specs.Front.{MasksOnlyBeforeNext, NamesRegisters, plain, MasksExactly, GoesOnAfterPrefix, NeverBarred}
use Rattle.nc_decode.specs.Front.{NeverBarredAtFront}
use Rattle.nc_decode.proofs.reading.EntryReads.{IsBytes}
use Rattle.nc_decode.proofs.reading.SpelledIsRead.{bytes_from_all, opcode-lt}
use Rattle.nc_decode.proofs.reading.Readings.{found_from, found_by, spells_read, spells_some}
use Rattle.nc_decode.proofs.fronts.LeadingBytes.{leading_fit, leading_front, leading_all, leading_whole}
use Rattle.nc_decode.proofs.fronts.Masks.{masks_only, mask_masks, mask_register, transfer_register, none_by}
use Rattle.nc_decode.proofs.fronts.GoingOn.{masking_goes_on, masking_has_no_prefix, prefixed_goes_on}
use Rattle.nc_decode.proofs.reading.SpellingParts.{prefix_at}
use Rattle.nc_decode.proofs.fronts.NeverBarred.{spelling_is_allowed}
use Rattle.nc_decode.specs.Barred.{IsBarred}

-- what the reading answers with an instruction, it answers with only that
answered : (x : Result Instr DecodeFault) (i : Instr) → result_ok x ≡ Some i → x ≡ Ok i
answered (Ok j) i e = let same : j ≡ i = cc in ap (λ (k : Instr). Ok k) same
answered (Err f) i e = absurd cc

-- the bytes of a spelling are bytes
spelled_fit : (front : List ℕ) (i : Instr) → Spells front i → IsBytes front
spelled_fit front i s = subst IsBytes (sym s.whole) (bytes_from_all (spelled s.parts) s.fit.bytes)

-- what the function finds is at the front
found_at_front : (bytes : List ℕ) (i : Instr) → first_instruction bytes ≡ Some i → IsAtFront bytes i
unfolding first_instruction
found_at_front bytes i e =
    let f = found_from (leading_bytes bytes) i (leading_fit bytes) (answered (reading (leading_bytes bytes)) i e) in
    let led = leading_front bytes in
    record {
      front = f.front;
      rest = f.rest ++ led.more;
      parts = led.parts ∙ (ap (λ (xs : List ℕ). xs ++ led.more) f.parts ∙ append_assoc f.front f.rest led.more);
      spells = f.spells;
    }

-- what is at the front the function finds
at_front_found : (bytes : List ℕ) (i : Instr) → IsAtFront bytes i → first_instruction bytes ≡ Some i
unfolding first_instruction
at_front_found bytes i f =
    let led : leading_bytes bytes ≡ f.front ++ leading_bytes f.rest = ap leading_bytes f.parts
    ∙ leading_all f.front f.rest (spelled_fit f.front i f.spells) in
    ap (λ (x : Result Instr DecodeFault). result_ok x) (found_by (leading_bytes bytes) i
    (record { front = f.front; rest = leading_bytes f.rest; parts = led; spells = f.spells }))

-- the function finds exactly what is at the front
pub exact : IsExact
exact bytes i = (found_at_front bytes i, at_front_found bytes i)

-- what is read from bytes is what the function finds
pub first_read : (bytes : List ℕ) → IsBytes bytes → result_ok (reading bytes) ≡ first_instruction bytes
unfolding first_instruction
first_read bytes fits = ap (λ (xs : List ℕ). result_ok (reading xs)) (sym (leading_whole bytes fits))

-- no instruction is a proper front of another
pub prefix_free : IsPrefixFree
prefix_free one more i j s t =
    let short = spells_read one more i s in
    let long = spells_read (one ++ more) [] j t in
    let read : reading (one ++ more) ≡ Ok j = ap reading (sym (append-nil (one ++ more))) ∙ long.0 in
    let same : i ≡ j = only i j (sym short.0 ∙ read) in
    none more (omega (arith, short.1, long.1, ap (λ (k : Instr). k.len) same, length-append one more))
  where
    ok : Instr → Result Instr DecodeFault
    ok k = Ok k

    only : (a b : Instr) → ok a ≡ ok b → a ≡ b
    only a b e = cc

    none : (xs : List ℕ) → length xs ≡ 0 → xs ≡ []
    none [] e = refl
    none (x ∷ xs) e = absurd (omega arith)

-- F4 is a byte
stop_fits : IsBytes (0xF4 ∷ [])
stop_fits zero = omega arith
stop_fits (suc k) = omega arith

-- F4 is read as Stop
stop_read : reading (0xF4 ∷ []) ≡ Ok (plain 1 Stop)
unfolding reading whole_of shape_of prefixed_shape prefix_of opcode_shape entry_shape opcode_entry forms_of coded_len
stop_read = refl

-- the function finds F4, whatever follows
pub stop_first : IsStopFirst
stop_first rest =
    let f = found_from (0xF4 ∷ []) (plain 1 Stop) stop_fits stop_read in
    at_front_found (0xF4 ∷ rest) (plain 1 Stop) (record {
      front = f.front;
      rest = f.rest ++ rest;
      parts = ap (λ (xs : List ℕ). xs ++ rest) f.parts ∙ append_assoc f.front f.rest rest;
      spells = f.spells;
    })

-- an instruction has a byte, and no more than there are
pub has_its_length : HasItsLength
has_its_length bytes i e =
    let f = found_at_front bytes i e in
    let n = spells_some f.front i f.spells in
    let l : length bytes ≡ length (f.front ++ f.rest) = ap (λ (xs : List ℕ). length xs) f.parts in
    (omega (arith, n.1), omega (arith, n.0, l, length-append f.front f.rest))

-- nothing after an instruction matters
pub depends_on_its_bytes : DependsOnItsBytes
depends_on_its_bytes bytes others i e same =
    let f = found_at_front bytes i e in
    let n = spells_some f.front i f.spells in
    let front : take i.len bytes ≡ f.front = ap (λ (xs : List ℕ). take i.len xs) f.parts ∙ take_at f.front f.rest i.len (sym n.0) in
    at_front_found others i (record {
      front = f.front;
      rest = drop i.len others;
      parts = sym (take-append-drop i.len others) ∙ ap (λ (xs : List ℕ). xs ++ drop i.len others) (same ∙ front);
      spells = f.spells;
    })

-- ---- masks and registers

-- only an instruction that goes on masks a register
pub masks_only_before_next : MasksOnlyBeforeNext
masks_only_before_next bytes i e other =
    let f = found_at_front bytes i e in
    ap (λ (k : Instr). k.masks) f.spells.says
    ∙ none_by _ (masks_of (spelled f.spells.parts)) refl (λ masks. other
    (ap (λ (k : Instr). k.flow) f.spells.says ∙ masking_goes_on f.spells.parts f.spells.fit masks))

-- registers are numbered from 0 to 7, and 4 is never masked
pub names_registers : NamesRegisters
names_registers bytes i e =
    let f = found_at_front bytes i e in
    subst (λ (k : Instr). (k.reg < 8) × IfSome k.masks (λ r. (r < 8) × (r ≢ 4))) (sym f.spells.says)
    (transfer_register f.spells.parts.row.flow f.spells.parts.operand, mask_register (spelled f.spells.parts))

-- an instruction masks a register exactly where its bytes are that register's mask
pub masks_exactly : MasksExactly
masks_exactly bytes i r e =
    let f = found_at_front bytes i e in
    let n = spells_some f.front i f.spells in
    let says : i.masks ≡ masks_of (spelled f.spells.parts) = ap (λ (k : Instr). k.masks) f.spells.says in
    let front : take i.len bytes ≡ spelled f.spells.parts = ap (λ (xs : List ℕ). take i.len xs) f.parts
    ∙ take_at f.front f.rest i.len (sym n.0) ∙ f.spells.whole in (
      λ h. (let m = masks_only (spelled f.spells.parts) r (sym says ∙ h) in (front ∙ m.0, m.1, m.2)),
      λ h. says ∙ ap masks_of (sym front ∙ h.0) ∙ mask_masks r h.1 h.2,
    )

-- after a prefix an instruction goes on to the next and masks nothing
pub goes_on_after_prefix : GoesOnAfterPrefix
goes_on_after_prefix bytes i s some =
    let p = prefix_at s.parts s.parts.prefix s.fit.prefix in (
      ap (λ (k : Instr). k.flow) s.says ∙ prefixed_goes_on s.parts s.parts.prefix s.fit
          (opcode-lt s.parts p.0 s.fit p.1) s.fit.prefix some,
      ap (λ (k : Instr). k.masks) s.says ∙ none_by _ (masks_of (spelled s.parts)) refl
          (λ masks. some (masking_has_no_prefix s.parts s.fit masks)),
    )

-- no permitted instruction is barred
pub never_barred : NeverBarred
never_barred = spelling_is_allowed

-- what the function finds at the front isn't barred
pub never_barred_at_front : NeverBarredAtFront
never_barred_at_front bytes i e b =
    let f = found_at_front bytes i e in
    let n = spells_some f.front i f.spells in
    let front : take i.len bytes ≡ f.front = ap (λ (xs : List ℕ). take i.len xs) f.parts ∙ take_at f.front f.rest i.len (sym n.0) in
    spelling_is_allowed f.front i f.spells (subst IsBarred front b)
