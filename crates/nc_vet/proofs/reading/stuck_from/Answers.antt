use Rattle.std.proofs.Common.{ℕ, ◌+◌, List, set, take, Option, arith, subst, sym}
use Rattle.std.proofs.lemmas.List.{take_rest}
use Rattle.nc_vet.specs.Chunk.{mark_of}
use Rattle.nc_vet.specs.machinery.Steps.{HasReadTo, MayFollow, NoneMayFollow}
use Rattle.nc_vet.proofs.Growing.{grown, grown_in}
use Rattle.nc_vet.proofs.Stuck.{stuck}
use Rattle.nc_vet.proofs.reading.stuck_from.Goals as goal

pub loop-at-preserved : goal.loop-at-preserved
loop-at-preserved c =
    let follows = subst (λ (z : List ℕ). MayFollow (take (c.bundle_rest-room.result) z) c.loop-at.masked c.in-Ok.instr)
    (take_rest c.args.code.now c.loop-at.at) c.in-Ok.ensures.found in
    let more = grown _ _ _ _ _ _ _ c.loop-at.invariant.so_far.1 (omega arith) c.loop-at.invariant.in_code follows c.from-at.ensures in
    record {
      in_code = grown_in _ _ _ _ _ _ c.loop-at.invariant.in_code follows c.from-at.ensures;
      so_far = subst (λ (m : Option ℕ). HasReadTo c.args.code.now (c.loop-at.at + c.from-at.result) m) (sym c.masked_after-masked.ensures)
          (set c.loop-at.invariant.so_far.0 c.loop-at.at (mark_of c.in-Ok.instr), more);
    }

pub returns-in-Err : goal.returns-in-Err
returns-in-Err c =
    let none = subst (λ (z : List ℕ). NoneMayFollow (take (c.bundle_rest-room.result) z) c.loop-at.masked
    (c.args.base + c.loop-at.at) c.in-Err.fault) (take_rest c.args.code.now c.loop-at.at) c.in-Err.ensures.refused in
    stuck c.args.base c.args.code.now c.loop-at.at
    (c.bundle_rest-room.result) c.loop-at.masked c.loop-at.invariant.so_far.0 c.in-Err.fault c.loop-at.invariant.so_far.1
    c.loop-at-test.true (omega arith) none
