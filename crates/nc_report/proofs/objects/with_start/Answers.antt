use Rattle.std.proofs.Common.{sym, subst}
use Rattle.std.proofs.lemmas.Result.{IfOk-weaker}
use Rattle.nc_report.specs.Objects.{InArray, IsJson, Element, Braced}
use Rattle.nc_report.proofs.objects.with_start.Goals as goal

pub returns : goal.returns
returns c =
    IfOk-weaker c.with_object.result _ _
    (λ all is. subst (IsJson InArray) (sym is) (Element c.requires.starts (Braced c.in_ok-start.ensures.1))) c.with_object.ensures
