use Rattle.std.proofs.Common.{◌-◌, ◌%◌, arith, sym, ◌∙◌, ap}
use Rattle.std.specs.Result.{result_ok}
use Rattle.nc_region.proofs.walking.Windows.{found_in_window, shown_in_window, standing, not_none}
use Rattle.nc_region.proofs.walk.instruction.Goals as goal

pub returns-in-Ok : goal.returns-in-Ok
returns-in-Ok g c =
    shown_in_window (g.A.Acts.marked c.args.acts.now).bytes c.read-few.result c.args.at 6 c.in-Ok.instr c.requires.inside
    (sym c.decode.ensures.first ∙ ap result_ok c.in-Ok.is) (omega (arith, c.requires.whole.lawful.0)) (omega arith) c.read-few.ensures

pub unreachable-requires : goal.unreachable-requires
unreachable-requires g c =
    let text = (g.A.Acts.marked c.args.acts.now).bytes in
    let s = standing text c.args.at c.requires.stands in
    let found = found_in_window text c.read-bytes.result c.args.at (32 - c.args.at % 32) s.0 c.requires.inside s.1
    (omega (arith, s.2)) (omega arith) c.read-bytes.ensures in
    not_none _ s.0 (c.decode-2.ensures.first ∙ found) (ap result_ok c.in_default-decode.is)

pub returns : goal.returns
returns g c =
    let text = (g.A.Acts.marked c.args.acts.now).bytes in
    let s = standing text c.args.at c.requires.stands in
    let found = found_in_window text c.read-bytes.result c.args.at (32 - c.args.at % 32) s.0 c.requires.inside s.1
    (omega (arith, s.2)) (omega arith) c.read-bytes.ensures in
    s.1 ∙ (sym found ∙ (sym c.decode-2.ensures.first ∙ ap result_ok c.in-Ok-decode.is))
