use Rattle.std.proofs.Common.{ℕ, inl, refl, subst}
use Rattle.nc_host.specs.Outcomes.{IsChunkFault}
use Rattle.nc_host.proofs.region_change.vet_and_load.Goals as goal

pub returns-in-Err-clause-refused : goal.returns-in-Err-clause-refused
returns-in-Err-clause-refused c = λ lt.
    inl (
      refl,
      subst (λ (limit : ℕ). IsChunkFault c.args.base limit c.args.code.now c.in-Err.verdict.fault c.in-Err.verdict.at)
          c.limit.ensures c.in-Err.ensures.fault.1,
    )
