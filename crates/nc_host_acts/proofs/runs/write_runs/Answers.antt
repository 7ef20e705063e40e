use Rattle.std.proofs.Common.{◌≡◌, ◌+◌, ◌*◌, ◌/◌, ◌<◌, ◌≤◌, length, arith}
use Rattle.nc_host_acts.proofs.writing.RunSteps.{run_next, run_all}
use Rattle.nc_host_acts.proofs.runs.write_runs.Goals as goal

pub loop-i-preserved : goal.loop-i-preserved
loop-i-preserved g c =
    let code = g.C.ReadChunk.code c.args.chunk.now in
    let lt : c.loop-i.i < length code / 32 = omega (arith, c.loop-i-test.true, c.len-i-end.ensures) in
    let le : 32 * c.loop-i.i + 32 ≤ length code = omega (arith, lt) in
    let fits : c.loop-i.count < length c.loop-i.acts =
    omega (arith, lt, c.loop-i.invariant.counted, c.loop-i.invariant.len, c.requires.room) in
    rw (c.write-count.ensures.acts, c.write-count.ensures.count, c.run.ensures)
    (run_next c.args.places (g.C.ReadChunk.marks c.args.chunk.now) c.args.base code c.args.acts.now c.args.from c.loop-i.i c.loop-i.acts
    c.loop-i.count c.bits_of-bits.result c.loop-i.invariant le (c.bits_of-bits.ensures c.args.base c.requires.start) fits)

pub returns-clause-added : goal.returns-clause-added
returns-clause-added g c =
    let code = g.C.ReadChunk.code c.args.chunk.now in
    let all : 32 * c.loop-i.i ≡ length code =
    omega (arith, c.loop-i-test.false, c.loop-i.auto.i-end, c.len-i-end.ensures, c.requires.whole) in
    run_all c.args.places (g.C.ReadChunk.marks c.args.chunk.now) c.args.base code c.args.acts.now c.args.from c.loop-i.i c.loop-i.acts
    c.loop-i.count all c.loop-i.invariant
