use Rattle.std.proofs.Common.{ℕ, true, false, inl, inr, refl, ap, ◌∙◌, rules}
use Rattle.std.specs.Global.{Vec}
use Rattle.nc_report.specs.Report.{Reports}
use Rattle.nc_report.proofs.Additions.{begun_any}
use Rattle.nc_report.proofs.source_report.vet_and_report.Goals as goal

pub returns-in-Ok-clause-cut : goal.returns-in-Ok-clause-cut
returns-in-Ok-clause-cut g c =
    let source = c.args.source in
    let (b, l, k, v) = c.in-Ok.ensures.vetted in
    begun_any (Reports c.args.base c.args.limit c.args.style source.name.items source.code.items) _ false _ _
    (λ text t. inl (refl, rw (l, b, c.deref.ensures.value, k) at t)) c.in-Err-report_accepted.ensures.cut

pub returns-clause-cut : goal.returns-clause-cut
returns-clause-cut g c =
    let source = c.args.source in
    let code = c.deref-in-Err.ensures.value ∙ ap (λ (v : Vec ℕ). v.items) c.in-Err.ensures.given_back in
    begun_any (Reports c.args.base c.args.limit c.args.style source.name.items source.code.items) _ true _ _
    (λ text t. inr (refl, rw (c.deref-in-Err-3.ensures.value, code) at t)) c.in-Err-report_refused.ensures.cut

pub returns-in-Ok-report_refused-clause-ok : goal.returns-in-Ok-report_refused-clause-ok
returns-in-Ok-report_refused-clause-ok g c = search rules
