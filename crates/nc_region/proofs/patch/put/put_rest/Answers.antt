use Rattle.std.proofs.Common.{◌≡◌, Bool, ℕ, ◌+◌, ◌-◌, List, [], ◌∷◌, length, get_or, set, arith, rules, sym, subst, ◌∙◌, refl}
use Rattle.std.proofs.lemmas.List.{take_all}
use Rattle.nc_decode.specs.declared.instruction.Mark.{Mark}
use Rattle.nc_text.specs.Marks.{IsClosed}
use Rattle.nc_text.specs.Ready.{IsReady}
use Rattle.nc_acts.specs.declared.acts.Entry.TheVariants.{Serialized}
use Rattle.nc_acts.specs.Acts.{puts_where}
use Rattle.nc_acts.specs.Log.{Logs, only_acts}
use Rattle.nc_region.specs.Patch.{any_place}
use Rattle.nc_text.specs.Puts.{HasPut}
use Rattle.nc_text.proofs.Offered.{put_more}
use Rattle.nc_region.proofs.chunks.ReadyPlaces.{ready_place}
use Rattle.nc_acts.proofs.Offered.{log_put, ends_serialized}
use Rattle.nc_region.proofs.patching.Replacing.{patching_from_put}
use Rattle.nc_region.proofs.patch.put.put_rest.Goals as goal

pub loop-i-init : goal.loop-i-init
loop-i-init g c =
    record {
      bytes = search rules;
      marks = search rules;
      whole = search rules;
      made = search rules;
      keeper = search rules;
      log = search rules;
    }

pub put-requires-clause-ready : goal.put-requires-clause-ready
put-requires-clause-ready g c =
    subst (λ (made : List Bool). IsReady made (c.args.at + 1 + c.loop-i.i)) (sym c.loop-i.invariant.made)
    (ready_place _ c.args.at (1 + length c.args.rest.now) (c.args.at + 1 + c.loop-i.i) c.requires.ready (omega arith) (omega arith))

pub put-requires-clause-closed : goal.put-requires-clause-closed
put-requires-clause-closed g c =
    let at = c.args.at in
    let i = c.loop-i.i in
    let old = g.A.Acts.marked c.args.acts.now in
    let now = g.A.Acts.marked c.loop-i.acts in
    let next = put_more any_place (at + 1) c.args.rest.now i old.bytes now.bytes c.loop-i.invariant.bytes (omega arith)
    (omega (arith, c.requires.high)) refl in
    subst (λ (marks : List Mark). IsClosed (set now.bytes (at + 1 + i - 65536) (get_or c.args.rest.now i 0)) marks)
    (sym c.loop-i.invariant.marks)
    (c.requires.closed (set now.bytes (at + 1 + i - 65536) (get_or c.args.rest.now i 0))
    (patching_from_put old.bytes (set now.bytes (at + 1 + i - 65536) (get_or c.args.rest.now i 0)) at c.args.rest.now (i + 1)
    (length c.args.rest.now) c.requires.low (omega arith) c.requires.stopped next))

pub loop-i-preserved : goal.loop-i-preserved
loop-i-preserved g c =
    let at = c.args.at in
    let i = c.loop-i.i in
    let old = g.A.Acts.marked c.args.acts.now in
    let now = g.A.Acts.marked c.loop-i.acts in
    let e = c.put.ensures.marked in
    record {
      bytes = rw e (put_more any_place (at + 1) c.args.rest.now i old.bytes now.bytes c.loop-i.invariant.bytes (omega arith)
          (omega (arith, c.requires.high)) refl);
      marks = rw e c.loop-i.invariant.marks;
      whole = c.put.ensures.whole;
      made = c.put.ensures.made ∙ c.loop-i.invariant.made;
      keeper = c.put.ensures.keeper ∙ c.loop-i.invariant.keeper;
      log = log_put (Serialized ∷ []) any_place (at + 1) c.args.rest.now i _ _ _ (omega arith) refl c.loop-i.invariant.log c.put.ensures.logged;
    }

-- names no step behind the loop, so that a serialization left out there leaves the goal open
pub returns-clause-log : goal.returns-clause-log
returns-clause-log g c =
    let log : Logs (g.A.Acts.logged c.args.acts.now) (g.A.Acts.logged c.loop-i.acts)
    (Serialized ∷ only_acts (puts_where any_place (c.args.at + 1) c.args.rest.now)) =
    subst (λ (z : List ℕ). Logs (g.A.Acts.logged c.args.acts.now) (g.A.Acts.logged c.loop-i.acts)
    (Serialized ∷ only_acts (puts_where any_place (c.args.at + 1) z))) (take_all c.loop-i.i c.args.rest.now (omega arith))
    c.loop-i.invariant.log in
    search (ends_serialized (g.A.Acts.logged c.args.acts.now) (g.A.Acts.logged c.loop-i.acts)
    (Serialized ∷ only_acts (puts_where any_place (c.args.at + 1) c.args.rest.now)) log)

pub returns-clause-bytes : goal.returns-clause-bytes
returns-clause-bytes g c =
    let end : c.loop-i.i ≡ length c.args.rest.now = omega arith in
    rw c.serialize-2.ensures.marked (subst (λ (n : ℕ). HasPut any_place (c.args.at + 1) c.args.rest.now n
    (g.A.Acts.marked c.args.acts.now).bytes (g.A.Acts.marked c.loop-i.acts).bytes) end c.loop-i.invariant.bytes)

pub returns-clause-marks : goal.returns-clause-marks
returns-clause-marks g c = rw c.serialize-2.ensures.marked c.loop-i.invariant.marks

pub returns-clause-made : goal.returns-clause-made
returns-clause-made g c = c.serialize-2.ensures.made ∙ c.loop-i.invariant.made

pub returns-clause-keeper : goal.returns-clause-keeper
returns-clause-keeper g c = c.serialize-2.ensures.keeper ∙ c.loop-i.invariant.keeper
