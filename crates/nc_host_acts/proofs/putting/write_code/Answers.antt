use Rattle.std.proofs.Common.{◌+◌, ◌*◌, ◌≤◌, ℕ, length, take, drop, subst, arith}
use Rattle.nc_host_acts.specs.machinery.Writing.{HasPutUpTo, starts_if}
use Rattle.nc_vet.proofs.Offered.{bundle_size}
use Rattle.nc_host_acts.proofs.writing.Bundles.{part_fits, part_next}
use Rattle.nc_host_acts.proofs.writing.RunLists.{bundle_more}
use Rattle.nc_host_acts.proofs.putting.write_code.Goals as goal

pub write_bundle-count-requires-clause-start : goal.write_bundle-count-requires-clause-start
write_bundle-count-requires-clause-start g c =
    omega (arith, c.requires.start)

pub write_bundle-count-requires-clause-room : goal.write_bundle-count-requires-clause-room
write_bundle-count-requires-clause-room g c =
    let code = g.C.ReadChunk.code c.args.chunk.now in
    let n = c.loop-n.n in
    let fits : 32 * n + 32 ≤ length code = omega (arith, c.loop-n-test.true, c.len-n-end.ensures) in
    let f = starts_if c.args.starts in
    part_fits f f c.args.base (c.args.base + 32 * n) n code (take 32 (drop (32 * n) code)) c.args.acts.now c.args.from c.loop-n.acts c.loop-n.count
    (bundle_more f c.args.base n code fits) c.loop-n.invariant c.requires.room

pub loop-n-preserved : goal.loop-n-preserved
loop-n-preserved g c =
    let code = g.C.ReadChunk.code c.args.chunk.now in
    let n = c.loop-n.n in
    let fits : 32 * n + 32 ≤ length code = omega (arith, c.loop-n-test.true, c.len-n-end.ensures) in
    let f = starts_if c.args.starts in
    part_next f f c.args.base (c.args.base + 32 * n) n code (take 32 (drop (32 * n) code)) c.args.acts.now c.args.from c.loop-n.acts
    c.write_bundle-count.new.acts c.loop-n.count c.write_bundle-count.result (bundle_size code (32 * n) fits)
    (bundle_more f c.args.base n code fits) c.loop-n.invariant c.write_bundle-count.ensures

pub returns : goal.returns
returns g c =
    let code = g.C.ReadChunk.code c.args.chunk.now in
    subst (λ (n : ℕ). HasPutUpTo (starts_if c.args.starts) c.args.base code c.args.acts.now c.args.from n c.loop-n.acts c.loop-n.count)
    {x = 32 * c.loop-n.n} {y = length code}
    (omega (arith, c.loop-n-test.false, c.loop-n.auto.n-end, c.len-n-end.ensures, c.requires.whole)) c.loop-n.invariant
