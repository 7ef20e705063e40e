-- A shut span may be unmarked.
use Rattle.std.proofs.Common.{◌≡◌, ℕ, ◌+◌, ◌-◌, ◌%◌, ◌<◌, ◌≤◌, List, length, inl, inr, arith, ◌∙◌, sym, subst}
use Rattle.std.proofs.lemmas.Bool.Decides.{eqb_tells}
use Rattle.std.proofs.lemmas.List.FromFn.{length-map-range_with_len, get_or-map-range_with_len}
use Rattle.nc_decode.specs.declared.instruction.Mark.{Mark}
use Rattle.nc_decode.specs.declared.instruction.Mark.TheVariants.{Unmarked}
use Rattle.nc_text.specs.Machine.{State, Step}
use Rattle.nc_text.specs.Marks.{IsMarked, IsClosed, mark_at, Admits}
use Rattle.nc_text.specs.MarkedText.{MarkedText, without_marks, unused_mark, unused_marks}
use Rattle.nc_text.proofs.Offered.{no_step_from_stop, plain_is_marked, length-with_span}
use Rattle.nc_region.specs.schedules.Spans.{RetiredSpan, IsWithin, IsQuiet, IsShut}
use Rattle.nc_region.specs.schedules.World.{IsWhole}
use Rattle.nc_text.proofs.Offered.{place_of, Before, Within, Behind, span_before, span_within, span_behind}
use Rattle.nc_acts.proofs.Offered.{unused_is_start}
use Rattle.nc_acts.proofs.Offered.{unused_at_start}

-- a quiet span is shut
pub shut_if_quiet : (text : List ℕ) (marks : List Mark) (span : RetiredSpan) → IsQuiet text marks span → IsShut text marks span
shut_if_quiet text marks span quiet = record { stops = λ now m inside. quiet.stops now.place inside; unreached = quiet.unreached }

-- no step leads into a shut span but to a bundle start
pub none_steps_in : (text : List ℕ) (marks : List Mark) (span : RetiredSpan) → IsShut text marks span → (now next : State) → IsMarked marks now
    → Step text now next → IsWithin span next.place → ⊥
none_steps_in text marks span shut now next m step within =
    elim (place_of span.base span.length now.place) [
      | Before l ↦ shut.unreached now next m (λ inside. omega (arith, inside.0, l)) step within
      | Within a b ↦ no_step_from_stop text now next (shut.stops now m (a, b)) step
      | Behind p ↦ shut.unreached now next m (λ inside. omega (arith, inside.1, p)) step within
    ]

-- what holds where a span is freed
pub record MayFree (marked : MarkedText) (span : RetiredSpan) : Type 0 where
  pub as_long : length marked.marks ≡ length marked.bytes
  pub closed : IsClosed marked.bytes marked.marks
  pub whole : IsWhole marked.bytes span
  pub shut : IsShut marked.bytes marked.marks span

-- the marks with a span freed
abbrev pub freed_marks : MarkedText → RetiredSpan → List Mark
freed_marks marked span = (without_marks marked span.base span.length).marks

-- how long the marks of a span are
unused_long : (span : RetiredSpan) → length (unused_marks span.base span.length) ≡ span.length
unused_long span = length-map-range_with_len unused_mark span.base span.length

-- the unused marks of a span fit into the text's marks
fits : (marked : MarkedText) (span : RetiredSpan) → MayFree marked span
    → span.base + length (unused_marks span.base span.length) ≤ 65536 + length marked.marks
fits marked span f = omega (arith, unused_long span, f.whole.high, f.as_long)

-- in the span only bundle starts are marked
pub freed_within : (marked : MarkedText) (span : RetiredSpan) (at : ℕ) → MayFree marked span → span.base ≤ at → at < span.base + span.length
    → mark_at (freed_marks marked span) at ≡ unused_mark at
freed_within marked span at f a b =
    span_within marked.marks span.base (unused_marks span.base span.length) at Unmarked f.whole.low (fits marked span f) a
    (omega (arith, unused_long span))
    ∙ get_or-map-range_with_len unused_mark span.base span.length (at - span.base) at Unmarked (omega arith) (omega arith)

-- before a span that is freed the marks stay
pub freed_before : (marked : MarkedText) (span : RetiredSpan) (at : ℕ) → MayFree marked span → 65536 ≤ at → at < span.base
    → mark_at (freed_marks marked span) at ≡ mark_at marked.marks at
freed_before marked span at f low l =
    span_before marked.marks span.base (unused_marks span.base span.length) at Unmarked f.whole.low (fits marked span f) low l

-- behind a span that is freed the marks stay
pub freed_behind : (marked : MarkedText) (span : RetiredSpan) (at : ℕ) → MayFree marked span → span.base + span.length ≤ at
    → mark_at (freed_marks marked span) at ≡ mark_at marked.marks at
freed_behind marked span at f p =
    span_behind marked.marks span.base (unused_marks span.base span.length) at Unmarked f.whole.low (fits marked span f)
    (omega (arith, unused_long span))

-- with a span freed there are as many marks as before
pub freed_long : (marked : MarkedText) (span : RetiredSpan) → MayFree marked span → length (freed_marks marked span) ≡ length marked.marks
freed_long marked span f =
    length-with_span marked.marks (span.base - 65536) (unused_marks span.base span.length) (omega (arith, fits marked span f, f.whole.low))

-- what is marked afterwards was marked before
pub freed_was : (marked : MarkedText) (span : RetiredSpan) → MayFree marked span → (now : State) → IsMarked (freed_marks marked span) now
    → IsMarked marked.marks now
freed_was marked span f now m =
    elim (place_of span.base span.length now.place) [
      | Before l ↦ (m.0, subst (λ (mark : Mark). Admits mark now.masked) (freed_before marked span now.place f m.0 l) m.1)
      | Within a b ↦
          plain_is_marked marked.marks now m.0
          (f.closed.starts now.place (m.0, omega (arith, b, f.whole.high))
          (unused_is_start now.place now.masked
          (subst (λ (mark : Mark). Admits mark now.masked) (freed_within marked span now.place f a b) m.1)))
      | Behind p ↦ (m.0, subst (λ (mark : Mark). Admits mark now.masked) (freed_behind marked span now.place f p) m.1)
    ]

-- what was marked and isn't within the span stays marked
pub freed_stays : (marked : MarkedText) (span : RetiredSpan) → MayFree marked span → (now : State) → IsMarked marked.marks now
    → (IsWithin span now.place → ⊥) → IsMarked (freed_marks marked span) now
freed_stays marked span f now m out =
    elim (place_of span.base span.length now.place) [
      | Before l ↦ (m.0, subst (λ (mark : Mark). Admits mark now.masked) (sym (freed_before marked span now.place f m.0 l)) m.1)
      | Within a b ↦
          elim (eqb_tells (now.place % 32) 0) [
            | inl start ↦
                plain_is_marked (freed_marks marked span) now m.0
                (freed_within marked span now.place f a b ∙ unused_at_start now.place start.1)
            | inr inside ↦ absurd (out ((a, b), inside.1))
          ]
      | Behind p ↦ (m.0, subst (λ (mark : Mark). Admits mark now.masked) (sym (freed_behind marked span now.place f p)) m.1)
    ]

-- the text is closed under the marks with a span freed
pub freed_closed : (marked : MarkedText) (span : RetiredSpan) → MayFree marked span → IsClosed marked.bytes (freed_marks marked span)
freed_closed marked span f =
    record {
      starts = λ at inside start.
          elim (place_of span.base span.length at) [
            | Before l ↦ freed_before marked span at f inside.0 l ∙ f.closed.starts at inside start
            | Within a b ↦ freed_within marked span at f a b ∙ unused_at_start at start
            | Behind p ↦ freed_behind marked span at f p ∙ f.closed.starts at inside start
          ];
      safe = λ now m. f.closed.safe now (freed_was marked span f now m);
      steps = λ now next m step.
          let was = freed_was marked span f now m in
          elim (f.closed.steps now next was step) [
            | inl there ↦
                inl (freed_stays marked span f next there (none_steps_in marked.bytes marked.marks span f.shut now next was step))
            | inr zone ↦ inr zone
          ];
    }

-- a shut span stays shut when another one is freed
pub freed_shut : (marked : MarkedText) (span other : RetiredSpan) → MayFree marked span → IsShut marked.bytes marked.marks other
    → IsShut marked.bytes (freed_marks marked span) other
freed_shut marked span other f shut =
    record {
      stops = λ now m inside. shut.stops now (freed_was marked span f now m) inside;
      unreached = λ now next m out step. shut.unreached now next (freed_was marked span f now m) out step;
    }
