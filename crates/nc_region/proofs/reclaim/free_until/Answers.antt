use Rattle.std.proofs.Common.{◌≡◌, ℕ, List, [], length, take, refl, ap, ◌∙◌, arith, rules}
use Rattle.std.proofs.lemmas.List.{length-take-le}
use Rattle.nc_list.specs.declared.chunk.Chunk.{Chunk}
use Rattle.nc_region.specs.machinery.Freeing.{AreFreed}
use Rattle.nc_region.proofs.deleting.TakingOut.{taken_out, none_due, freed_none, freed_more, freed_same}
use Rattle.nc_region.proofs.reclaim.free_until.Given.{Over}
use Rattle.nc_region.proofs.reclaim.free_until.Goals as goal
use Rattle.nc_list.proofs.Offered.{taken_long}
use Rattle.nc_region.proofs.reclaim.free_until.Goals.{After-unmark_taken, Then-count-eq0}

pub loop-least-init : goal.loop-least-init
loop-least-init g c = record {
  freed = freed_none c.args.least c.args.chunks.now (g.A.Acts.marked c.args.acts.now)
      (g.A.Acts.logged c.args.acts.now) c.requires.region;
  room = refl;
  made = refl;
  keeper = refl;
}

pub unmark_taken-requires : goal.unmark_taken-requires
unmark_taken-requires g c = (
  c.args.least,
  c.take_due-count.new.self,
  (taken_out c.args.least (g.A.Acts.marked c.loop-least.acts) c.loop-least.chunks c.take_due-count.new.self
      (take c.take_due-count.result c.take_due-count.new.room) c.loop-least.invariant.freed.region c.take_due-count.ensures.taken),
)

-- what this turn has freed, with the turns before
so_far : (g : Over) (c : After-unmark_taken g) → AreFreed c.args.least c.args.chunks.now c.take_due-count.new.self (g.A.Acts.marked c.args.acts.now)
    (g.A.Acts.marked c.unmark_taken.new.acts)
    (g.A.Acts.logged c.args.acts.now) (g.A.Acts.logged c.unmark_taken.new.acts)
so_far g c =
    let due : List Chunk = take c.take_due-count.result c.take_due-count.new.room in
    let out = taken_out c.args.least (g.A.Acts.marked c.loop-least.acts) c.loop-least.chunks c.take_due-count.new.self due
    c.loop-least.invariant.freed.region c.take_due-count.ensures.taken in
    freed_more c.args.least c.args.chunks.now c.loop-least.chunks c.take_due-count.new.self due _ _ _ _ _ _
    c.loop-least.invariant.freed c.take_due-count.ensures.taken c.unmark_taken.ensures.unmarks
    (c.unmark_taken.ensures.region c.args.least c.take_due-count.new.self out)

pub loop-least-preserved : goal.loop-least-preserved
loop-least-preserved g c = record {
  freed = so_far g (goal.at.loop-least-preserved g c).After-unmark_taken;
  room = c.take_due-count.ensures.room ∙ c.loop-least.invariant.room;
  made = c.unmark_taken.ensures.made ∙ c.loop-least.invariant.made;
  keeper = c.unmark_taken.ensures.keeper ∙ c.loop-least.invariant.keeper;
}

pub loop-least-smaller : goal.loop-least-smaller
loop-least-smaller g c =
    let due : List Chunk = take c.take_due-count.result c.take_due-count.new.room in
    let many : length due ≡ c.take_due-count.result = length-take-le c.take_due-count.result c.take_due-count.new.room c.take_due-count.ensures.count in
    omega (arith, many, c.if-count-eq0.false, taken_long c.args.least c.loop-least.chunks c.take_due-count.new.self due c.take_due-count.ensures.taken)

-- in the last turn none is taken
none_taken : (g : Over) (c : Then-count-eq0 g) → take c.take_due-count.result c.take_due-count.new.room ≡ []
none_taken g c = ap (λ (n : ℕ). take n c.take_due-count.new.room) c.if-count-eq0.true

pub returns-then-count-eq0-clause-freed : goal.returns-then-count-eq0-clause-freed
returns-then-count-eq0-clause-freed g c =
    freed_same c.args.least c.args.chunks.now c.loop-least.chunks c.take_due-count.new.self _ _ _ _ _
    c.loop-least.invariant.freed c.take_due-count.ensures.taken
    (none_taken g (goal.at.returns-then-count-eq0-clause-freed g c).Then-count-eq0)

pub returns-then-count-eq0-clause-none : goal.returns-then-count-eq0-clause-none
returns-then-count-eq0-clause-none g c = λ no.
    none_due c.args.least c.loop-least.chunks c.take_due-count.new.self _ c.take_due-count.ensures.taken
    (none_taken g (goal.at.returns-then-count-eq0-clause-none g c).Then-count-eq0)

pub returns-then-count-enough-clause-freed : goal.returns-then-count-enough-clause-freed
returns-then-count-enough-clause-freed g c = so_far g (goal.at.returns-then-count-enough-clause-freed g c).After-unmark_taken

pub returns-then-count-enough-clause-none : goal.returns-then-count-enough-clause-none
returns-then-count-enough-clause-none g c = search rules
