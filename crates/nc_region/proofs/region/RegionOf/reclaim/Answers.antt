use Rattle.std.proofs.Common.{ap, subst, sym, ◌∙◌, arith}
use Rattle.std.proofs.lemmas.Grind.{common_steps}
use Rattle.nc_text.specs.Places.{limit_of}
use Rattle.nc_text.specs.MarkedText.{MarkedText}
use Rattle.nc_text.proofs.Offered.{confined_if_closed}
use Rattle.nc_gens.specs.Seen.{KeeperState, HasLooked, least_number}
use Rattle.nc_region.specs.Region.{Region}
use Rattle.nc_region.specs.Deletion.{freed, unmarked}
use Rattle.nc_region.proofs.chunks.ReadyPlaces.{ready_kept}
use Rattle.nc_region.proofs.deleting.Due.{few, reclaimed_is}
use Rattle.nc_region.proofs.deleting.Least.{least_below}
use Rattle.nc_region.proofs.deleting.Progress.{progressed}
use Rattle.nc_region.proofs.RegionParts.{region_of}
use Rattle.nc_region.proofs.region.RegionOf.reclaim.Goals as goal

pub free_due-requires-clause-region : goal.free_due-requires-clause-region
free_due-requires-clause-region g c = grind (arith, common_steps)

pub invariant_of-self : goal.invariant_of-self
invariant_of-self g c =
    let made = c.free_due.ensures.made ∙ c.look-least.ensures.made in (
      c.free_due.ensures.freed.region,
      rw (c.free_due.ensures.freed.chunks, made) (ready_kept (g.A.Acts.made c.self.inside.acts) c.look-least.result c.self.inside.chunks c.self.invariant.1),
    )

pub free_due-requires-clause-least : goal.free_due-requires-clause-least
free_due-requires-clause-least g c =
    let numbers = (g.A.Acts.keeper c.look-least.new.self).numbers in
    least_below numbers.generation numbers.bounds c.look-least.result
    (omega (arith, c.look-least.ensures.looked.generation, c.generation-facts.ensures.generation, c.generation-facts.ensures.in_range))
    c.look-least.type_inv c.look-least.ensures.least

pub free_due-requires-clause-few : goal.free_due-requires-clause-few
free_due-requires-clause-few g c =
    let n = few (limit_of (g.A.Acts.marked c.self.inside.acts).bytes) 65536 c.self.inside.chunks c.self.invariant.0.ascending
    c.self.invariant.0.placed (omega (arith, c.self.invariant.0.whole.lawful.1)) in
    omega (arith, n, c.self.invariant.0.whole.lawful.2)

pub returns-clause-reclaimed : goal.returns-clause-reclaimed
returns-clause-reclaimed g c =
    let old : Region = region_of (g.A.Acts.marked c.self.inside.acts) (g.A.Acts.made c.self.inside.acts) c.self.inside.chunks
    (g.A.Acts.keeper c.self.inside.acts) (g.A.Acts.logged c.self.inside.acts) in
    let new : Region = region_of (g.A.Acts.marked c.free_due.new.acts) (g.A.Acts.made c.free_due.new.acts) c.free_due.new.chunks
    (g.A.Acts.keeper c.free_due.new.acts) (g.A.Acts.logged c.free_due.new.acts) in
    rw (← c.self.view_is)
    (reclaimed_is old new (g.A.Acts.logged c.look-least.new.self) c.free_due.result c.look-least.result
    (subst (HasLooked (g.A.Acts.keeper c.self.inside.acts)) (sym c.free_due.ensures.keeper) c.look-least.ensures.looked)
    (c.look-least.ensures.least ∙ ap (λ (k : KeeperState). least_number k.numbers) (sym c.free_due.ensures.keeper))
    c.free_due.ensures.freed.chunks
    c.free_due.ensures.count
    (c.free_due.ensures.freed.unmarks.marked ∙ ap (λ (m : MarkedText). unmarked m
    (freed c.look-least.result c.self.inside.chunks)) c.look-least.ensures.marked)
    (c.free_due.ensures.made ∙ c.look-least.ensures.made)
    c.look-least.ensures.logged
    c.free_due.ensures.freed.unmarks.logs)

pub returns-clause-progress : goal.returns-clause-progress
returns-clause-progress g c = progressed _ _ c.free_due.result (returns-clause-reclaimed g c)

pub returns-clause-confined : goal.returns-clause-confined
returns-clause-confined g c = confined_if_closed _ _ c.free_due.ensures.freed.region.whole.closed
