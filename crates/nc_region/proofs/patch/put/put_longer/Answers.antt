use Rattle.std.proofs.Common.{◌+◌, ◌-◌, [], ◌∷◌, length, set, arith, ap, ◌∙◌}
use Rattle.std.proofs.lemmas.List.{length-set}
use Rattle.nc_text.specs.MarkedText.{MarkedText}
use Rattle.nc_acts.specs.declared.acts.Act.TheVariants.{Put}
use Rattle.nc_acts.specs.declared.acts.Entry.TheVariants.{Did, Serialized}
use Rattle.nc_region.proofs.chunks.ReadyPlaces.{ready_place}
use Rattle.nc_acts.proofs.Offered.{logs_more, logs_after}
use Rattle.nc_region.proofs.patching.Replacing.{patching_closed, patch_started, patching_over, patch_final}
use Rattle.nc_region.proofs.patch.put.put_longer.Goals as goal

pub put-requires-clause-ready : goal.put-requires-clause-ready
put-requires-clause-ready g c = ready_place _ c.args.at (1 + length c.args.rest.now) c.args.at c.requires.ready (omega arith) (omega arith)

pub put_rest-requires-clause-ready : goal.put_rest-requires-clause-ready
put_rest-requires-clause-ready g c = rw c.put.ensures.made c.requires.ready

pub put-requires-2-clause-ready : goal.put-requires-2-clause-ready
put-requires-2-clause-ready g c =
    rw (c.put_rest.ensures.made, c.put.ensures.made)
    (ready_place _ c.args.at (1 + length c.args.rest.now) c.args.at c.requires.ready (omega arith) (omega arith))

pub put-requires-clause-closed : goal.put-requires-clause-closed
put-requires-clause-closed g c =
    let old = g.A.Acts.marked c.args.acts.now in
    patching_closed old c.args.at (c.args.first ∷ c.args.rest.now) (set old.bytes (c.args.at - 65536) 244) c.requires.replacing
    (patch_started old c.args.at (c.args.first ∷ c.args.rest.now) c.requires.replacing)

pub put_rest-requires-clause-stopped : goal.put_rest-requires-clause-stopped
put_rest-requires-clause-stopped g c =
    rw c.put.ensures.marked (patch_started (g.A.Acts.marked c.args.acts.now) c.args.at
    (c.args.first ∷ c.args.rest.now) c.requires.replacing).stop

pub put_rest-requires-clause-closed : goal.put_rest-requires-clause-closed
put_rest-requires-clause-closed g c =
    let old = g.A.Acts.marked c.args.acts.now in
    rw c.put.ensures.marked (λ now p. patching_closed old c.args.at (c.args.first ∷ c.args.rest.now) now c.requires.replacing
    (patching_over old c.args.at (c.args.first ∷ c.args.rest.now) now (1 + length c.args.rest.now)
    (omega arith) c.requires.replacing p))

pub put-requires-2-clause-closed : goal.put-requires-2-clause-closed
put-requires-2-clause-closed g c =
    let old = g.A.Acts.marked c.args.acts.now in
    let mid = g.A.Acts.marked c.put_rest.new.acts in
    let puts = rw c.put.ensures.marked at c.put_rest.ensures.bytes in
    rw (
      c.put_rest.ensures.marks,
      c.put.ensures.marked,
      patch_final old c.args.at c.args.first c.args.rest.now mid.bytes c.requires.replacing puts,
    ) c.requires.replacing.closed

pub returns-clause-bytes : goal.returns-clause-bytes
returns-clause-bytes g c =
    let old = g.A.Acts.marked c.args.acts.now in
    let mid = g.A.Acts.marked c.put_rest.new.acts in
    let puts = rw c.put.ensures.marked at c.put_rest.ensures.bytes in
    rw c.put-2.ensures.marked (patch_final old c.args.at c.args.first c.args.rest.now mid.bytes c.requires.replacing puts)

pub returns-clause-log : goal.returns-clause-log
returns-clause-log g c =
    logs_more _ _ _ (Did (Put c.args.at 244) ∷ []) _ c.put.ensures.logged
    (logs_after _ _ _ (Serialized ∷ _) (Did (Put c.args.at c.args.first) ∷ []) c.put_rest.ensures.log c.put-2.ensures.logged)

pub put-requires-clause-inside : goal.put-requires-clause-inside
put-requires-clause-inside g c =
    let r = c.requires.replacing in
    (r.low, omega (arith, r.high))

pub put_rest-requires-clause-high : goal.put_rest-requires-clause-high
put_rest-requires-clause-high g c =
    let old = g.A.Acts.marked c.args.acts.now in
    rw c.put.ensures.marked (omega (arith, c.requires.replacing.high, length-set old.bytes (c.args.at - 65536) 244))

pub put-requires-2-clause-inside : goal.put-requires-2-clause-inside
put-requires-2-clause-inside g c =
    let old = g.A.Acts.marked c.args.acts.now in
    let r = c.requires.replacing in
    let long = ap (λ (m : MarkedText). length m.bytes) c.put.ensures.marked ∙ length-set old.bytes (c.args.at - 65536) 244 in
    (r.low, omega (arith, r.high, c.put_rest.ensures.bytes.as_long, long))

pub returns-clause-marks : goal.returns-clause-marks
returns-clause-marks g c =
    ap (λ (m : MarkedText). m.marks) c.put-2.ensures.marked
    ∙ (c.put_rest.ensures.marks ∙ ap (λ (m : MarkedText). m.marks) c.put.ensures.marked)

pub returns-clause-made : goal.returns-clause-made
returns-clause-made g c = c.put-2.ensures.made ∙ (c.put_rest.ensures.made ∙ c.put.ensures.made)

pub returns-clause-keeper : goal.returns-clause-keeper
returns-clause-keeper g c = c.put-2.ensures.keeper ∙ (c.put_rest.ensures.keeper ∙ c.put.ensures.keeper)
