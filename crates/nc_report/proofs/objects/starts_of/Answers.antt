use Rattle.std.proofs.Common.{sym, subst}
use Rattle.nc_report.specs.Objects.{InArray, IsJson, NoElements}
use Rattle.nc_report.proofs.objects.starts_of.Goals as goal

pub loop-k-init : goal.loop-k-init
loop-k-init c = subst (IsJson InArray) (sym c.no_elements-starts.ensures) NoElements
