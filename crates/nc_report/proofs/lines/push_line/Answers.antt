use Rattle.std.proofs.Common.{◌<◌, ◌++◌, List, ℕ, length, sym, ap, ◌∙◌, arith}
use Rattle.std.proofs.lemmas.Result.{on_ok_weaker}
use Rattle.nc_output.proofs.Offered.{line_details}
use Rattle.nc_report.proofs.ShownFronts.{all_shown, line_in, line_shown, line_ended}
use Rattle.nc_report.proofs.lines.push_line.Goals as goal

pub returns-then-text-eq32-2 : goal.returns-then-text-eq32-2
returns-then-text-eq32-2 c =
    let text = c.args.text.now in
    let len = c.args.len in
    let out = c.args.out.now.items in
    let all = all_shown text (sym c.are_printable.ensures ∙ c.if-are_printable.true) in
    let room : len < length text = omega (arith, c.requires.room, c.told-text) in
    on_ok_weaker c.push_text.result
    (λ e. line_details out c.push_text.new.out.items (line_in text len) (line_shown text len all)
    (e ∙ ap (λ (z : List ℕ). out ++ z) (line_ended text len c.requires.spaces room c.if-text-eq32.true c.if-text-eq32-2.true)))
    c.push_text.ensures
