use Rattle.std.proofs.Common.{◌≡◌, ◌++◌, sym, ◌∙◌, ap, append-nil, Option, option_copied}
use Rattle.std.proofs.lemmas.Result.{IfOk-weaker}
use Rattle.nc_report.specs.Labels.{label_of}
use Rattle.nc_report.specs.declared.labels.Label.{Label}
use Rattle.nc_report.specs.machinery.Members.{label_text, symbol_member}
use Rattle.nc_report.proofs.Members.{symbol_added}
use Rattle.nc_report.proofs.objects.with_symbol.Goals as goal

pub returns-in_default : goal.returns-in_default
returns-in_default c =
    let members = c.args.members.items in
    sym (append-nil members) ∙ ap (λ (l : Option Label). members ++ symbol_member l c.args.at) (ap option_copied (sym c.in_default.is) ∙ c.of.ensures)

pub returns : goal.returns
returns c =
    let label = c.in-Some.label.now in
    let named : c.deref-2.result.now ≡ label_text label c.args.at =
    simp (c.deref-2.ensures.value, c.in_ok-extend_from_slice.ensures.items, c.in_ok-name.ensures.items, c.deref.ensures.value, c.as_bytes.ensures.value, c.in_ok-offset.ensures, c.saturating_sub.ensures) in
    IfOk-weaker c.with_string.result _ _
    (λ all e. symbol_added c.args.members.items all.items c.deref-2.result.now label c.args.at (label_of c.args.labels.now c.args.at)
    (ap option_copied (sym c.in-Some.is) ∙ c.of.ensures) named e) c.with_string.ensures
