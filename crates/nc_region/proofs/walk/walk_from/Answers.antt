use Rattle.std.proofs.Common.{◌<◌, List, ℕ, [], length, get_or, take, arith, refl}
use Rattle.std.proofs.lemmas.List.{take_more}
use Rattle.std.proofs.lemmas.Result.{IfOk-from_err}
use Rattle.nc_text.specs.Machine.{state}
use Rattle.nc_region.specs.declared.trace.End.{End}
use Rattle.nc_region.specs.declared.trace.End.TheVariants.{More}
use Rattle.nc_decode.specs.declared.instruction.Mark.{Mark}
use Rattle.nc_text.specs.Marks.{IsClosed}
use Rattle.nc_region.specs.Trace.{IsTrace, IsOnlyTrace, IsSafeWalk, IsWalkStart}
use Rattle.nc_region.proofs.walking.OneWalk.{one_trace}
use Rattle.nc_region.proofs.walking.Walking.{way_is_safe, way_goes_on, way_ends_at, way_ends_last, walk_is_safe}
use Rattle.nc_region.proofs.walk.walk_from.Goals as goal
use Rattle.nc_region.proofs.walk.walk_from.Goals.{in-Ok-instruction_or_end, in-Err-instruction_or_end}

-- what is promised of a trace
meets : (text : List ℕ) (marks : List Mark) (start : ℕ) (choices places : List ℕ) (end : End) → IsClosed text marks
    → IsWalkStart text start → IsTrace text start choices places end
    → record {
      trace : IsTrace text start choices places end;
      only : IsOnlyTrace text start choices places end;
      safe : IsSafeWalk text start choices end;
    }
meets text marks start choices places end closed begins trace =
    record {
      trace = trace;
      only = λ others last other. one_trace text marks start choices places others end last closed begins trace other;
      safe = walk_is_safe text marks start choices end closed begins;
    }

pub step-requires-clause-safe : goal.step-requires-clause-safe
step-requires-clause-safe g c =
    let marked = g.A.Acts.marked c.args.acts.now in
    way_is_safe marked.bytes marked.marks c.args.start _ _
    (state c.loop-choice.now.place c.loop-choice.now.masked) c.requires.whole.closed c.loop-choice.invariant

pub returns-in_err-push-in-Ok-clause-trace : goal.returns-in_err-push-in-Ok-clause-trace
returns-in_err-push-in-Ok-clause-trace g c = IfOk-from_err _ _ c.from_residual-in_err-push-in-Ok.ensures.0

pub returns-in_err-push-in-Ok-clause-only : goal.returns-in_err-push-in-Ok-clause-only
returns-in_err-push-in-Ok-clause-only g c = IfOk-from_err _ _ c.from_residual-in_err-push-in-Ok.ensures.0

pub returns-in_err-push-in-Ok-clause-safe : goal.returns-in_err-push-in-Ok-clause-safe
returns-in_err-push-in-Ok-clause-safe g c = IfOk-from_err _ _ c.from_residual-in_err-push-in-Ok.ensures.0

pub instruction_or_end-requires-clause-safe : goal.instruction_or_end-requires-clause-safe
instruction_or_end-requires-clause-safe g c =
    let marked = g.A.Acts.marked c.args.acts.now in
    way_is_safe marked.bytes marked.marks c.args.start _ _
    (state c.loop-choice.now.place c.loop-choice.now.masked) c.requires.whole.closed c.loop-choice.invariant

pub loop-choice-preserved : goal.loop-choice-preserved
loop-choice-preserved g c =
    let marked = g.A.Acts.marked c.args.acts.now in
    let choices = c.args.choices.now in
    let k = c.loop-choice.choice-index in
    let choice = get_or choices k 0 in
    let places = c.loop-choice.places.items in
    let now = state c.loop-choice.now.place c.loop-choice.now.masked in
    let next = state c.in-Ok.next.place c.in-Ok.next.masked in
    let short : k < length choices = omega arith in
    rw (take_more choices k 0 short, c.in_ok-push-in-Ok.ensures.items)
    (way_goes_on marked.bytes marked.marks c.args.start
    (take k choices) places now next choice c.requires.whole.closed c.loop-choice.invariant c.in-Ok.ensures.moves.0
    c.in-Ok.ensures.moves.1)

pub returns-in-Err : goal.returns-in-Err
returns-in-Err g c =
    let marked = g.A.Acts.marked c.args.acts.now in
    let trace = way_ends_at marked.bytes marked.marks c.args.start c.args.choices.now c.loop-choice.places.items c.loop-choice.choice-index
    (state c.loop-choice.now.place c.loop-choice.now.masked) c.in-Err.end (omega arith) c.loop-choice.invariant c.in-Err.ensures.ends in
    meets marked.bytes marked.marks c.args.start c.args.choices.now c.loop-choice.places.items c.in-Err.end
    c.requires.whole.closed c.requires.begins trace

pub returns : goal.returns
returns g c =
    let marked = g.A.Acts.marked c.args.acts.now in
    let trace = way_ends_last marked.bytes marked.marks c.args.start c.args.choices.now c.loop-choice.places.items
    c.loop-choice.choice-index (state c.loop-choice.now.place c.loop-choice.now.masked) in
    let meet = λ (end : End). meets marked.bytes marked.marks c.args.start c.args.choices.now c.loop-choice.places.items end
    c.requires.whole.closed c.requires.begins in
    elim c.match-instruction_or_end.branch [
      | in-Ok-instruction_or_end w ↦ rw w.end-is
          (meet More (trace More (omega arith) c.loop-choice.invariant (w.in-Ok-instruction_or_end.ensures.goes.0, refl)))
      | in-Err-instruction_or_end w ↦ rw w.end-is
          (meet w.in-Err-instruction_or_end.end
          (trace w.in-Err-instruction_or_end.end (omega arith) c.loop-choice.invariant (w.in-Err-instruction_or_end.ensures.ends [])))
    ]
