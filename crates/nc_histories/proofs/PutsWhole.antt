-- Puts through which what views have at marked places stays what stood there whole.
use Rattle.std.proofs.Common.{◌≡◌, ◌≢◌, ℕ, ◌+◌, ◌-◌, ◌<◌, ◌≤◌, List, set, Some, inl, inr, arith, ◌∙◌, sym, ap, subst, ⊎_elim}
use Rattle.std.proofs.lemmas.Bool.{cases_lt}
use Rattle.std.proofs.lemmas.Bool.Decides.{eqb_tells}
use Rattle.std.proofs.lemmas.List.{length-set, set-get_or}
use Rattle.nc_decode.specs.declared.instruction.Instr.{Instr}
use Rattle.nc_decode.specs.declared.instruction.Mark.{Mark}
use Rattle.nc_text.specs.Places.{InRegion, byte_at, instruction_at}
use Rattle.nc_text.specs.Machine.{State}
use Rattle.nc_text.specs.Marks.{IsMarked}
use Rattle.nc_text.proofs.Offered.{executes, KeepsBytes, same_instruction}
use Rattle.nc_text.proofs.Offered.{byte_at_other}
use Rattle.nc_region.specs.schedules.Spans.{RetiredSpan}
use Rattle.nc_base.proofs.Offered.{some_same}
use Rattle.nc_histories.proofs.Good.{Good, stop_ends}
use Rattle.nc_histories.proofs.OnePut.{byte_there, other_clear}
use Rattle.nc_histories.proofs.StaysWhole.{PutsWhole}

-- an instruction of a good text that doesn't have the place was there before the put
was_there : (marks : List Mark) (spans : List RetiredSpan) (view : List ℕ) (at byte : ℕ) (now : State) (i : Instr)
    → Good view marks spans → 65536 ≤ at → IsMarked marks now
    → ((j : Instr) (k : ℕ) → instruction_at view now.place ≡ Some j → k < j.len → now.place + k ≢ at)
    → instruction_at (set view (at - 65536) byte) now.place ≡ Some i
    → (instruction_at view now.place ≡ Some i) × KeepsBytes view (set view (at - 65536) byte) now.place i.len
was_there marks spans view at byte now i good low m clear is =
    let e = executes view now m.0 (good.closed.safe now m) in
    let kept : KeepsBytes view (set view (at - 65536) byte) now.place e.i.len =
    λ k lt. byte_at_other view at (now.place + k) byte low (omega (arith, m.0)) (clear e.i k e.is lt) in
    let same : e.i ≡ i = some_same (instruction_at (set view (at - 65536) byte) now.place) e.i i
    (same_instruction view (set view (at - 65536) byte) now.place e.i (length-set view (at - 65536) byte) e.inside e.is kept) is in
    subst (λ (j : Instr). (instruction_at view now.place ≡ Some j) × KeepsBytes view (set view (at - 65536) byte) now.place j.len) same
    (e.is, kept)

-- a byte is put that no marked place's instruction has
pub whole_put_unread : (marks : List Mark) (spans : List RetiredSpan) (view text : List ℕ) (at byte : ℕ) → Good view marks spans
    → 65536 ≤ at
    → ((now : State) (i : Instr) (k : ℕ) → IsMarked marks now → instruction_at view now.place ≡ Some i → k < i.len → now.place + k ≢ at)
    → PutsWhole marks view text at byte
whole_put_unread marks spans view text at byte good low clear = λ now i m is.
    inl (was_there marks spans view at byte now i good low m (λ j k there lt. clear now j k m there lt) is)

-- a byte is put that is there already
pub whole_put_same : (marks : List Mark) (view text : List ℕ) (at byte : ℕ) → byte_at view at ≡ byte → PutsWhole marks view text at byte
whole_put_same marks view text at byte there = λ now i m is.
    let same : set view (at - 65536) byte ≡ view =
    ap (λ (b : ℕ). set view (at - 65536) b) (sym there) ∙ set-get_or view (at - 65536) 0 in
    inl (
      subst (λ (z : List ℕ). instruction_at z now.place ≡ Some i) same is,
      λ k lt. ap (λ (z : List ℕ). byte_at z (now.place + k)) same,
    )

-- a byte is put at a marked place, and the rest of the instruction that it begins is in the text as in the view
pub whole_put_marked : (marks : List Mark) (spans : List RetiredSpan) (view text : List ℕ) (there : State) (byte : ℕ)
    → Good view marks spans → 65536 ≤ there.place → IsMarked marks there
    → ((i : Instr) → instruction_at (set view (there.place - 65536) byte) there.place ≡ Some i
    → KeepsBytes (set view (there.place - 65536) byte) (set text (there.place - 65536) byte) there.place i.len)
    → PutsWhole marks view text there.place byte
whole_put_marked marks spans view text there byte good low marked rest = λ now i m is.
    elim (eqb_tells now.place there.place) [
      | inl same ↦
          let here : instruction_at (set view (there.place - 65536) byte) there.place ≡ Some i =
          subst (λ (p : ℕ). instruction_at (set view (there.place - 65536) byte) p ≡ Some i) same.1 is in
          inr (
            same.1,
            subst (λ (p : ℕ). KeepsBytes (set view (there.place - 65536) byte) (set text (there.place - 65536) byte) p i.len) (sym same.1)
                (rest i here),
          )
      | inr other ↦
          inl (was_there marks spans view there.place byte now i good low m (other_clear view marks spans there now good marked m other.1)
          is)
    ]

-- a byte put at a place of a view and of a text stands there in both
pub put_in_both : (view text : List ℕ) (at byte k : ℕ) → InRegion view at → InRegion text at → k < 1
    → byte_at (set text (at - 65536) byte) (at + k) ≡ byte_at (set view (at - 65536) byte) (at + k)
put_in_both view text at byte k inside within none =
    let first : at ≡ at + k = omega (arith, none) in
    subst (λ (p : ℕ). byte_at (set text (at - 65536) byte) p ≡ byte_at (set view (at - 65536) byte) p) first
    (byte_there text at byte within ∙ sym (byte_there view at byte inside))

-- an instruction of one byte is put at a marked place
pub whole_put_single : (marks : List Mark) (spans : List RetiredSpan) (view text : List ℕ) (there : State) (byte : ℕ)
    → Good view marks spans → InRegion view there.place → InRegion text there.place → IsMarked marks there
    → ((i : Instr) → instruction_at (set view (there.place - 65536) byte) there.place ≡ Some i → i.len ≤ 1)
    → PutsWhole marks view text there.place byte
whole_put_single marks spans view text there byte good inside within marked short =
    whole_put_marked marks spans view text there byte good inside.0 marked (λ i is k lt.
    put_in_both view text there.place byte k inside within (omega (arith, lt, short i is)))

-- a stop put at a marked place puts a whole instruction
pub whole_put_stop : (marks : List Mark) (spans : List RetiredSpan) (view text : List ℕ) (there : State) (byte : ℕ)
    → Good view marks spans → InRegion view there.place → InRegion text there.place → IsMarked marks there → byte ≡ 244
    → PutsWhole marks view text there.place byte
whole_put_stop marks spans view text there byte good inside within marked stop =
    whole_put_single marks spans view text there byte good inside within marked (λ i is.
    ⊎_elim
    (λ (more : 1 < i.len).
    absurd (stop_ends (set view (there.place - 65536) byte) there.place 1 i
    (inside.0, omega (arith, inside.1, length-set view (there.place - 65536) byte))
    (byte_there view there.place byte inside ∙ stop) is (omega arith) more))
    (λ (one : i.len ≤ 1). one)
    (cases_lt 1 i.len))
