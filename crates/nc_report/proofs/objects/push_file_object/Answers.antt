use Rattle.std.proofs.Common.{◌++◌, ℕ, List, ap, ◌∙◌, codes}
use Rattle.std.proofs.lemmas.Result.{on_ok_weaker}
use Rattle.nc_report.specs.Objects.{string_member}
use Rattle.nc_report.proofs.ObjectTexts.{inner, file_parts}
use Rattle.nc_report.proofs.objects.push_file_object.Goals as goal

pub returns : goal.returns
returns c =
    let meaning = string_member (codes "meaning") c.args.meaning.now in
    on_ok_weaker c.push_text.result
    (λ e. e ∙ ap (λ (z : List ℕ). z ++ codes "}\n")
    (c.in_ok-push_meaning.ensures ∙ ap (λ (z : List ℕ). z ++ meaning)
    (c.in_ok-push_between-2.ensures ∙ ap (λ (z : List ℕ). z ++ (inner c.args.fault.now ++ codes "\"")) c.in_ok-push_between.ensures))
    ∙ file_parts c.args.out.now.items c.args.name.now c.args.fault.now c.args.meaning.now)
    c.push_text.ensures
