use Rattle.std.proofs.Common.{rules, ◌≡◌, sym, ap, subst, ◌∙◌}
use Rattle.nc_text.specs.MarkedText.{MarkedText}
use Rattle.nc_text.specs.Machine.{IsConfined}
use Rattle.nc_text.proofs.Offered.{confined_if_closed}
use Rattle.nc_region.specs.Region.{Region}
use Rattle.nc_acts.specs.Plain.{PlainState}
use Rattle.nc_region.proofs.region.RegionOf+Plain.new.Goals as goal

pub returns-in-Ok-clause-confined : goal.returns-in-Ok-clause-confined
returns-in-Ok-clause-confined c =
    let is : c.over.result.marked ≡ c.in-Ok.text.marked = ap (λ (r : Region). r.marked) c.over.ensures
    ∙ ap (λ (p : PlainState). p.marked) c.new-in-Ok.ensures in
    subst (λ (k : MarkedText). IsConfined k.bytes) (sym is) (confined_if_closed _ _ c.in-Ok.ensures.whole.closed)

pub returns-in-Err-BadSize-clause-size : goal.returns-in-Err-BadSize-clause-size
returns-in-Err-BadSize-clause-size c = search rules
