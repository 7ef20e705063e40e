use Rattle.std.proofs.Common.{ℕ, ◌+◌, rules}
use Rattle.nc_vet.specs.machinery.Judged.{near_to, IsGood}
use Rattle.nc_vet.proofs.BitPlaces.{one_done}
use Rattle.nc_vet.proofs.transfers.nears_good.Goals as goal

pub loop-left-preserved : goal.loop-left-preserved
loop-left-preserved c = one_done (IsGood c.args.base c.args.limit c.args.code.now c.args.bundles.now)
    (λ (k : ℕ). near_to c.args.base c.args.code.now (c.args.start + k)) c.args.ends c.loop-left.left c.lowest-k.result.1
    c.lowest-k.result.0 c.near_target-to.result c.lowest-k.ensures.others c.near_target-to.ensures (search (rules, c.is_good.ensures))
    c.loop-left.invariant
