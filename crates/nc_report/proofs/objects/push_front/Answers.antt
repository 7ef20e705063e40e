use Rattle.std.proofs.Common.{◌++◌, ℕ, List, ap, ◌∙◌, codes}
use Rattle.std.proofs.lemmas.Result.{on_ok_weaker}
use Rattle.nc_output.specs.Verdicts.{address_digits}
use Rattle.nc_report.proofs.ObjectTexts.{inner, front_parts}
use Rattle.nc_report.proofs.objects.push_front.Goals as goal

pub returns : goal.returns
returns c =
    let digits = address_digits c.args.base in
    on_ok_weaker c.push_between-2.result
    (λ e. e ∙ ap (λ (z : List ℕ). c.push_between.new.out.items ++ (inner z ++ codes "\"")) c.address_digits.ensures
    ∙ ap (λ (z : List ℕ). z ++ (inner digits ++ codes "\"")) c.in_ok-push_between.ensures
    ∙ front_parts c.args.out.now.items c.args.name.now digits)
    c.push_between-2.ensures
