use Rattle.std.proofs.Common.{◌≡◌, ◌+◌, ◌*◌, ◌==◌, ◌<◌, ◌≤◌, ℕ, length, replicate, sym, subst, arith, ◌∙◌}
use Rattle.std.proofs.lemmas.Grind.{common_steps}
use Rattle.std.specs.Int.{bit_at}
use Rattle.nc_host_acts.specs.machinery.Writing.{HasPutUpTo, marks_if}
use Rattle.nc_host_acts.proofs.writing.MarkReads.{mark_read}
use Rattle.nc_host_acts.proofs.writing.StopPlaces.{bundle_fits, bundle_next}
use Rattle.nc_host_acts.proofs.putting.write_stops.Given.{Over}
use Rattle.nc_host_acts.proofs.putting.write_stops.Goals.{After-places_of-places}
use Rattle.nc_host_acts.proofs.putting.write_stops.Goals as goal

-- the bundle of a turn is in the chunk
fits : (g : Over) (c : After-places_of-places g) → 32 * c.loop-n.n + 32 ≤ length (g.C.ReadChunk.code c.args.chunk.now)
fits g c = omega (arith, c.loop-n-test.true, c.len-n-end.ensures)

-- the places of a turn are those of its bundle that the chunk's marks choose
agree : (g : Over) (c : After-places_of-places g) (k : ℕ) → k < 32
    → (bit_at c.places_of-places.result k == 1)
    ≡ marks_if c.args.marked (g.C.ReadChunk.marks c.args.chunk.now) c.args.base (c.args.base + (32 * c.loop-n.n + k))
agree g c k lt =
    c.places_of-places.ensures k lt ∙ sym (mark_read c.args.marked (g.C.ReadChunk.marks c.args.chunk.now) c.args.base (32 * c.loop-n.n + k))

pub write_places-count-requires-clause-room : goal.write_places-count-requires-clause-room
write_places-count-requires-clause-room g c =
    let at = (goal.at.write_places-count-requires-clause-room g c).After-places_of-places in
    bundle_fits (marks_if c.args.marked (g.C.ReadChunk.marks c.args.chunk.now) c.args.base) c.places_of-places.result c.args.base c.loop-n.n
    (length (g.C.ReadChunk.code c.args.chunk.now)) c.args.acts.now c.args.from c.loop-n.acts c.loop-n.count (fits g at) (agree g at)
    c.loop-n.invariant c.requires.room

pub loop-n-smaller : goal.loop-n-smaller
loop-n-smaller g c = grind (arith, common_steps)

pub loop-n-preserved : goal.loop-n-preserved
loop-n-preserved g c =
    let at = (goal.at.loop-n-preserved g c).After-places_of-places in
    bundle_next (marks_if c.args.marked (g.C.ReadChunk.marks c.args.chunk.now) c.args.base) c.places_of-places.result c.args.base c.loop-n.n
    (length (g.C.ReadChunk.code c.args.chunk.now)) c.args.acts.now c.args.from c.loop-n.acts c.write_places-count.new.acts c.loop-n.count
    c.write_places-count.result (fits g at) (agree g at) c.loop-n.invariant c.write_places-count.ensures

pub returns : goal.returns
returns g c =
    let marks = g.C.ReadChunk.marks c.args.chunk.now in
    let many = length (g.C.ReadChunk.code c.args.chunk.now) in
    subst (λ (n : ℕ). HasPutUpTo (marks_if c.args.marked marks c.args.base) c.args.base (replicate many 244) c.args.acts.now c.args.from n
    c.loop-n.acts c.loop-n.count) {x = 32 * c.loop-n.n} {y = many}
    (omega (arith, c.loop-n-test.false, c.loop-n.auto.n-end, c.len-n-end.ensures, c.requires.whole)) c.loop-n.invariant
