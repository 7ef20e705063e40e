-- One byte put over a good text.
use Rattle.std.proofs.Common.{◌≡◌, ◌≢◌, ℕ, ◌+◌, ◌-◌, ◌<◌, ◌≤◌, ◌⊎◌, List, set, Some, inl, inr, arith, ◌∙◌, sym, ap, subst}
use Rattle.std.proofs.Common.{⊎_elim}
use Rattle.std.proofs.lemmas.Bool.{cases_lt}
use Rattle.std.proofs.lemmas.Bool.Decides.{eqb_tells}
use Rattle.std.proofs.lemmas.List.{length-set, get_or-set_same}
use Rattle.nc_decode.specs.declared.instruction.Instr.{Instr}
use Rattle.nc_decode.specs.declared.instruction.Mark.{Mark}
use Rattle.nc_text.specs.Places.{InRegion, byte_at, instruction_at}
use Rattle.nc_text.specs.Machine.{State}
use Rattle.nc_text.specs.Marks.{IsMarked, Admits, mark_at}
use Rattle.nc_text.proofs.Offered.{byte_at_other}
use Rattle.nc_region.specs.schedules.Spans.{RetiredSpan}
use Rattle.nc_histories.proofs.Good.{Good, KeepsInstruction, Borrowed, good_by_places}

-- a byte that is put stands at its place
pub byte_there : (text : List ℕ) (at byte : ℕ) → InRegion text at → byte_at (set text (at - 65536) byte) at ≡ byte
byte_there text at byte inside = get_or-set_same text (at - 65536) byte 0 (omega (arith, inside.0, inside.1))

-- an instruction that doesn't have the place where a byte is put stays
keeps_beside : (text : List ℕ) (at byte : ℕ) (now : State) → 65536 ≤ at → 65536 ≤ now.place
    → ((i : Instr) (k : ℕ) → instruction_at text now.place ≡ Some i → k < i.len → now.place + k ≢ at)
    → KeepsInstruction text (set text (at - 65536) byte) now.place
keeps_beside text at byte now low from clear = λ i is fits k lt.
    byte_at_other text at (now.place + k) byte low (omega (arith, from)) (clear i k is lt)

-- a marked place isn't unmarked
pub not_unmarked : (marks : List Mark) (now : State) → IsMarked marks now → mark_at marks now.place ≢ Mark.Unmarked
not_unmarked marks now m e = subst (λ (x : Mark). Admits x now.masked) e m.1

-- in a good text no other marked place's instruction has a marked place
pub other_clear : (text : List ℕ) (marks : List Mark) (spans : List RetiredSpan) (there now : State) → Good text marks spans → IsMarked marks there
    → IsMarked marks now → now.place ≢ there.place → (i : Instr) (k : ℕ) → instruction_at text now.place ≡ Some i → k < i.len
    → now.place + k ≢ there.place
other_clear text marks spans there now good marked m other i k is lt same =
    not_unmarked marks there marked
    (subst (λ (p : ℕ). mark_at marks p ≡ Mark.Unmarked) same
    (good.parted now i k m is (⊎_elim (λ (none : k < 1). absurd (other (omega (arith, none, same)))) (λ (some : 1 ≤ k). some) (cases_lt k 1)) lt))

-- What is put at a marked place is a stop, or begins the instruction that stands there in a good text, of which the rest stands
-- there already.
pub good_put_marked : (text : List ℕ) (marks : List Mark) (spans : List RetiredSpan) (there : State) (byte : ℕ) → Good text marks spans
    → InRegion text there.place → IsMarked marks there
    → (byte ≡ 244) ⊎ Borrowed (set text (there.place - 65536) byte) marks spans there
    → Good (set text (there.place - 65536) byte) marks spans
good_put_marked text marks spans there byte good inside marked fits =
    let long = length-set text (there.place - 65536) byte in
    good_by_places text (set text (there.place - 65536) byte) marks spans good long (λ now m.
    elim (eqb_tells now.place there.place) [
      | inl same ↦
          elim fits [
            | inl stop ↦ inl (ap (λ (p : ℕ). byte_at (set text (there.place - 65536) byte) p) same.1
                ∙ (byte_there text there.place byte inside ∙ stop))
            | inr b ↦ inr (record {
              old = b.old;
              good = b.good;
              as_long = b.as_long;
              kept = subst (λ (p : ℕ). KeepsInstruction b.old (set text (there.place - 65536) byte) p) (sym same.1) b.kept;
            })
          ]
      | inr other ↦ inr (record {
        old = text;
        good = good;
        as_long = long;
        kept = keeps_beside text there.place byte now inside.0 m.0
            (other_clear text marks spans there now good marked m other.1);
      })
    ])

-- a byte is put that no marked place's instruction has
pub good_put_unread : (text : List ℕ) (marks : List Mark) (spans : List RetiredSpan) (at byte : ℕ) → Good text marks spans → 65536 ≤ at
    → ((now : State) (i : Instr) (k : ℕ) → IsMarked marks now → instruction_at text now.place ≡ Some i → k < i.len → now.place + k ≢ at)
    → Good (set text (at - 65536) byte) marks spans
good_put_unread text marks spans at byte good low clear =
    let long = length-set text (at - 65536) byte in
    good_by_places text (set text (at - 65536) byte) marks spans good long (λ now m.
    inr (record {
      old = text;
      good = good;
      as_long = long;
      kept = keeps_beside text at byte now low m.0 (λ i k is lt. clear now i k m is lt);
    }))
