-- Good texts: closed, with every retired span shut, and no instruction at a marked place reaching another. A text is good if at
-- each marked place stands a stop, or an instruction as it stands in some good text.
use Rattle.std.proofs.Common.{◌≡◌, ℕ, ◌+◌, ◌<◌, ◌⊎◌, All, List, length, Some, inl, inr, arith, ◌∙◌, ap, subst}
use Rattle.nc_decode.specs.declared.instruction.Instr.{Instr}
use Rattle.nc_decode.specs.declared.instruction.Mark.{Mark}
use Rattle.nc_decode.specs.declared.instruction.Flow.TheVariants.{Stop}
use Rattle.nc_decode.specs.Front.{plain}
use Rattle.nc_decode.specs.Bundles.{IsInOneBundle}
use Rattle.nc_text.specs.Places.{InRegion, byte_at, instruction_at}
use Rattle.nc_text.specs.Machine.{State, Step, Leads}
use Rattle.nc_text.specs.Marks.{IsMarked, IsClosed}
use Rattle.nc_text.specs.MarkedText.{MarkedText}
use Rattle.nc_text.proofs.Offered.{executes, leads_of, step_of, no_step_from_stop, closed_by_parts, KeepsBytes, same_instruction, stop_at}
use Rattle.nc_text.proofs.Offered.{length_at}
use Rattle.nc_region.specs.schedules.Spans.{RetiredSpan, IsShut}
use Rattle.nc_base.proofs.Offered.{some_same}
use Rattle.nc_histories.specs.Views.{NoneOverlaps}

-- bytes and marks, as a text
abbrev pub text_of : List ℕ → List Mark → MarkedText
text_of bytes marks = record { bytes = bytes; marks = marks }

-- what holds of each view while a region is changed
pub record Good (text : List ℕ) (marks : List Mark) (spans : List RetiredSpan) : Type 0 where
  pub closed : IsClosed text marks
  pub shut : All (IsShut text marks) spans
  pub parted : NoneOverlaps text marks

-- the instruction at a place, if it lies in one bundle, has its bytes in both texts
abbrev pub KeepsInstruction : List ℕ → List ℕ → ℕ → Type 0
KeepsInstruction old text at = (i : Instr) → instruction_at old at ≡ Some i → IsInOneBundle at i.len → KeepsBytes old text at i.len

-- at the state's place stands the instruction of some good text
pub record Borrowed (text : List ℕ) (marks : List Mark) (spans : List RetiredSpan) (now : State) : Type 0 where
  pub old : List ℕ
  pub good : Good old marks spans
  pub as_long : length text ≡ length old
  pub kept : KeepsInstruction old text now.place

-- a marked place of a good text lies in the region
pub marked_inside : (old text : List ℕ) (marks : List Mark) (now : State) → IsClosed old marks → length text ≡ length old
    → IsMarked marks now → InRegion text now.place
marked_inside old text marks now closed long m =
    let e = executes old now m.0 (closed.safe now m) in
    (e.inside.0, omega (arith, e.inside.1, long))

-- a step of an instruction that stayed is one of the old text
pub step_back : (old text : List ℕ) (marks : List Mark) (now next : State) → IsClosed old marks → length text ≡ length old
    → IsMarked marks now → KeepsInstruction old text now.place → Step text now next → Step old now next
step_back old text marks now next closed long m kept step =
    let e = executes old now m.0 (closed.safe now m) in
    let leads = leads_of text now next e.i
    (same_instruction old text now.place e.i long e.inside e.is (kept e.i e.is e.permitted.0)) step in
    step_of old now next e.i e.inside e.is (subst (λ (limit : ℕ). Leads limit e.i now next) (ap (λ (n : ℕ). 65536 + n) long) leads)

-- a stop that stayed is one still
pub stop_stays : (old text : List ℕ) (marks : List Mark) (now : State) → IsClosed old marks → IsMarked marks now
    → KeepsInstruction old text now.place → byte_at old now.place ≡ 244 → byte_at text now.place ≡ 244
stop_stays old text marks now closed m kept stop =
    let e = executes old now m.0 (closed.safe now m) in
    let some = (length_at old now.place e.i e.inside e.is).0 in
    let here : now.place + 0 ≡ now.place = omega arith in
    subst (λ (p : ℕ). byte_at text p ≡ byte_at old p) here (kept e.i e.is e.permitted.0 0 (omega (arith, some))) ∙ stop

-- a stop reaches no other place
pub stop_ends : (text : List ℕ) (at k : ℕ) (i : Instr) → InRegion text at → byte_at text at ≡ 244 → instruction_at text at ≡ Some i
    → 0 < k → k < i.len → ⊥
stop_ends text at k i inside stop is some less =
    let same : plain 1 Stop ≡ i = some_same (instruction_at text at) (plain 1 Stop) i (stop_at text at inside stop) is in
    let one : 1 ≡ i.len = ap (λ (j : Instr). j.len) same in
    omega (arith, one, some, less)

-- a text has each span shut if each marked place is a stop or borrows its instruction from a good text
shut_by_places : (old text : List ℕ) (marks : List Mark) (spans : List RetiredSpan) → Good old marks spans → length text ≡ length old
    → ((now : State) → IsMarked marks now → (byte_at text now.place ≡ 244) ⊎ Borrowed text marks spans now)
    → All (IsShut text marks) spans
shut_by_places old text marks spans good long each = λ n d lt.
    record {
      stops = λ now m inside.
          elim (each now m) [
            | inl stop ↦ stop
            | inr b ↦ stop_stays b.old text marks now b.good.closed m b.kept ((b.good.shut n d lt).stops now m inside)
          ];
      unreached = λ now next m out step within.
          elim (each now m) [
            | inl stop ↦ no_step_from_stop text now next stop step
            | inr b ↦ (b.good.shut n d lt).unreached now next m out
                (step_back b.old text marks now next b.good.closed b.as_long m b.kept step) within
          ];
    }

-- no instruction reaches another marked place
parted_by_places : (old text : List ℕ) (marks : List Mark) (spans : List RetiredSpan) → Good old marks spans → length text ≡ length old
    → ((now : State) → IsMarked marks now → (byte_at text now.place ≡ 244) ⊎ Borrowed text marks spans now) → NoneOverlaps text marks
parted_by_places old text marks spans good long each = λ now i k m is some less.
    elim (each now m) [
      | inl stop ↦ absurd
          (stop_ends text now.place k i (marked_inside old text marks now good.closed long m) stop is some less)
      | inr b ↦
          let e = executes b.old now m.0 (b.good.closed.safe now m) in
          let same : e.i ≡ i = some_same (instruction_at text now.place) e.i i
          (same_instruction b.old text now.place e.i b.as_long e.inside e.is (b.kept e.i e.is e.permitted.0)) is in
          b.good.parted now e.i k m e.is some (omega (arith, less, ap (λ (j : Instr). j.len) same))
    ]

-- a text is good if each marked place is a stop or borrows its instruction from a good text
pub good_by_places : (old text : List ℕ) (marks : List Mark) (spans : List RetiredSpan) → Good old marks spans → length text ≡ length old
    → ((now : State) → IsMarked marks now → (byte_at text now.place ≡ 244) ⊎ Borrowed text marks spans now) → Good text marks spans
good_by_places old text marks spans good long each =
    record {
      closed = closed_by_parts text marks (λ at inside start. good.closed.starts at (inside.0, omega (arith, inside.1, long)) start)
          (λ now m.
          elim (each now m) [
            | inl stop ↦ inl (marked_inside old text marks now good.closed long m, stop)
            | inr b ↦ inr (record {
              old = b.old;
              old_marks = marks;
              closed = b.good.closed;
              as_long = b.as_long;
              was_marked = m;
              kept = b.kept;
              more = λ next n. n;
            })
          ]);
      shut = shut_by_places old text marks spans good long each;
      parted = parted_by_places old text marks spans good long each;
    }
