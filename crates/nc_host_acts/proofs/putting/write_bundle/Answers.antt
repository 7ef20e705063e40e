use Rattle.std.proofs.Common.{◌+◌, ◌≤◌, ℕ, List, length, take, drop, get_or, set, ap, arith, sym, subst, ◌∙◌}
use Rattle.nc_acts.specs.declared.acts.Act.TheVariants.{Put}
use Rattle.nc_acts.specs.Acts.{puts_where, is_start, is_inside}
use Rattle.nc_host_acts.specs.Shown.{act_of}
use Rattle.nc_host_acts.specs.machinery.Writing.{HasPutUpTo}
use Rattle.nc_vet.proofs.Offered.{bundle_size, bundle_byte}
use Rattle.nc_host_acts.proofs.writing.Bundles.{bundle_is, start_put, start_fits}
use Rattle.nc_host_acts.proofs.putting.write_bundle.Goals as goal

pub write-requires : goal.write-requires
write-requires g c =
    let code = g.C.ReadChunk.code c.args.chunk.now in
    start_fits c.args.at (take 32 (drop c.args.i code)) c.args.acts.now c.args.from c.requires.start (bundle_size code c.args.i c.requires.within)
    (rw c.if-starts.true at c.requires.room)

pub returns-then-starts : goal.returns-then-starts
returns-then-starts g c =
    let code = g.C.ReadChunk.code c.args.chunk.now in
    let bs = take 32 (drop c.args.i code) in
    let acts = c.args.acts.now in
    let from = c.args.from in
    rw (c.if-starts.true, c.write.ensures.acts, c.write.ensures.count, c.put.ensures)
    (subst (λ (b : ℕ). HasPutUpTo is_start c.args.at bs acts from 32 (set acts from (act_of (Put c.args.at b))) (from + 1))
    (bundle_byte code c.args.i 0 (omega arith) ∙ ap (λ (n : ℕ). get_or code n 0) {x = c.args.i + 0} {y = c.args.i} (omega arith) ∙ sym c.byte.ensures)
    (start_put c.args.at bs acts from c.requires.start (bundle_size code c.args.i c.requires.within) (rw c.if-starts.true at c.requires.room)))

pub write_inside-requires-clause-room : goal.write_inside-requires-clause-room
write_inside-requires-clause-room g c =
    let code = g.C.ReadChunk.code c.args.chunk.now in
    subst (λ (z : List ℕ). c.args.from + length (puts_where is_inside c.args.at z) ≤ length c.args.acts.now)
    (bundle_is code c.bytes.result c.args.i c.requires.within c.bytes.ensures.long c.bytes.ensures.bytes)
    (rw c.if-starts.false at c.requires.room)

pub returns : goal.returns
returns g c =
    let code = g.C.ReadChunk.code c.args.chunk.now in
    rw c.if-starts.false
    (subst (λ (z : List ℕ). HasPutUpTo is_inside c.args.at z c.args.acts.now c.args.from 32 c.write_inside.new.acts c.write_inside.result)
    (sym (bundle_is code c.bytes.result c.args.i c.requires.within c.bytes.ensures.long c.bytes.ensures.bytes))
    c.write_inside.ensures)
