use Rattle.std.proofs.Common.{◌≡◌, ◌-◌, min, length, take, rules, ◌∙◌}
use Rattle.std.proofs.lemmas.Result.{on_ok_weaker}
use Rattle.nc_output.proofs.Offered.{added_all}
use Rattle.nc_lines.proofs.Cuts.{kept_append}
use Rattle.nc_lines.proofs.lines.keep.Goals as goal

pub returns : goal.returns
returns c =
    let part = c.args.part.now in
    let line = c.args.line.now.items in
    let room : c.min-count.result ≡ min (1048577 - length line) (length part) = search rules in
    on_ok_weaker c.extend_from_slice.result
    (λ e whole is. e ∙ kept_append 1048577 line whole part c.min-count.result is room)
    (added_all c.extend_from_slice.result c.extend_from_slice.new.self.items line
    (take c.min-count.result part) c.extend_from_slice.ensures.items)
