use Rattle.std.proofs.Common.{◌≡◌, ◌-◌, ℕ, List, [], Option, Some, refl, sym, ap, ◌∙◌, MatchOption}
use Rattle.nc_vet.specs.declared.fault.VetFault.{VetFault}
use Rattle.nc_output.specs.Verdicts.{place_of}
use Rattle.nc_output.specs.declared.detail.Detail.TheVariants.{All}
use Rattle.nc_output.specs.declared.detail.Format.{Format}
use Rattle.nc_report.specs.Report.{ReportsOthers, ReportsMore}
use Rattle.nc_report.proofs.Placed.{placed}
use Rattle.nc_report.proofs.Additions.{writes_none}
use Rattle.nc_report.proofs.RefusedTexts.{none_asked}
use Rattle.nc_report.proofs.source_report.write_more.Goals as goal

-- what is reported further about a fault with an address is the text about the other faults
reported_at : (f : Format) (base limit at : ℕ) (code : List ℕ) (fault : VetFault) → place_of fault ≡ Some at
    → ReportsMore All f base limit code fault ≡ ReportsOthers f base limit code fault (at - base)
reported_at f base limit at code fault e =
    ap (λ (o : Option ℕ). λ (text : List ℕ). MatchOption o (text ≡ []) (λ at. ReportsOthers f base limit code fault (at - base) text)) e

pub returns-in_default-clause-ok : goal.returns-in_default-clause-ok
returns-in_default-clause-ok g c =
    let judged = c.args.judged.now in
    writes_none _ _ (ReportsMore c.args.style.detail c.args.style.format judged.base judged.limit judged.code.now c.args.fault)
    (none_asked c.args.style judged.base judged.limit judged.code.now c.args.fault (λ e. c.in_default.not-All e))

pub returns-in_default-place_of-clause-ok : goal.returns-in_default-place_of-clause-ok
returns-in_default-place_of-clause-ok g c =
    let judged = c.args.judged.now in
    writes_none _ _ (ReportsMore c.args.style.detail c.args.style.format judged.base judged.limit judged.code.now c.args.fault)
    (rw (c.in-All.is, sym c.place_of.ensures ∙ c.in_default-place_of.is) refl)

pub write_others-requires-clause-span : goal.write_others-requires-clause-span
write_others-requires-clause-span g c =
    let judged = c.args.judged.now in
    (placed judged.base judged.limit c.in-Some.at judged.code.now c.args.fault (sym c.place_of.ensures ∙ c.in-Some.is) c.requires).0

pub write_others-requires-clause-within : goal.write_others-requires-clause-within
write_others-requires-clause-within g c =
    let judged = c.args.judged.now in
    (placed judged.base judged.limit c.in-Some.at judged.code.now c.args.fault (sym c.place_of.ensures ∙ c.in-Some.is) c.requires).1.within

pub returns-clause-ok : goal.returns-clause-ok
returns-clause-ok g c =
    let judged = c.args.judged.now in
    rw (c.in-All.is, reported_at c.args.style.format judged.base judged.limit c.in-Some.at judged.code.now c.args.fault (sym c.place_of.ensures ∙ c.in-Some.is))
    c.write_others.ensures.ok

pub returns-clause-cut : goal.returns-clause-cut
returns-clause-cut g c =
    let judged = c.args.judged.now in
    rw (c.in-All.is, reported_at c.args.style.format judged.base judged.limit c.in-Some.at judged.code.now c.args.fault (sym c.place_of.ensures ∙ c.in-Some.is))
    c.write_others.ensures.cut
