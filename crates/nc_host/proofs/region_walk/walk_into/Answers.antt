use Rattle.std.proofs.Common.{refl, inl, subst}
use Rattle.nc_region.specs.Trace.{MayRefuseWalk}
use Rattle.nc_region.specs.declared.fault.WalkFault.{WalkFault}
use Rattle.nc_host.proofs.region_walk.walk_into.Goals as goal

pub returns-in-Err-NotBundle-clause-refused : goal.returns-in-Err-NotBundle-clause-refused
returns-in-Err-NotBundle-clause-refused c = λ lt. (
  refl,
  inl (
    c.no_walk.ensures,
    subst (λ (f : WalkFault). MayRefuseWalk c.args.handle.now.region.marked.bytes c.args.start f)
        c.in-Err-NotBundle.field-0-is c.in-Err-NotBundle.ensures.refused,
  ),
)
