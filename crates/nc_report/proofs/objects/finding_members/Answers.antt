use Rattle.std.proofs.lemmas.Result.{IfOk-weaker}
use Rattle.nc_report.specs.Labels.{label_of}
use Rattle.nc_report.proofs.Members.{about_one}
use Rattle.nc_report.proofs.objects.finding_members.Goals as goal

pub returns : goal.returns
returns c =
    let finding = c.args.finding.now in
    IfOk-weaker c.with_array.result _ _
    (λ all e. about_one (label_of c.args.labels.now finding.at) finding.at finding.target finding.meaning.now c.bundle_digits.result c.in_ok-starts.starts.items c.no_members.result.items
    c.in_ok-named.named.items c.in_ok-explained.explained.items c.in_ok-targeted.targeted.items c.in_ok-shown.shown.items all.items c.in_ok-starts.ensures
    c.no_members.ensures c.in_ok-named.ensures c.in_ok-explained.ensures c.in_ok-targeted.ensures c.in_ok-shown.ensures e)
    c.with_array.ensures
