use Rattle.std.proofs.Common.{◌∙◌, ap, inl}
use Rattle.nc_host.specs.declared.lent_results.NcVerdict.{NcVerdict}
use Rattle.nc_host.proofs.Accepted.{only_memory}
use Rattle.nc_host.proofs.lent_vet.admit.Goals as goal

pub returns-in-Err-clause-exact : goal.returns-in-Err-clause-exact
returns-in-Err-clause-exact c = λ marks valid.
    inl (ap (λ (v : NcVerdict). v.fault) c.verdict_of.ensures
    ∙ only_memory c.args.base c.args.limit c.args.code.now marks c.in-Err.fault valid c.in-Err.ensures.fault)
