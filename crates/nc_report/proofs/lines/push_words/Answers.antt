use Rattle.nc_report.proofs.ShownFronts.{all_shown}
use Rattle.std.proofs.Common.{sym, ◌∙◌}
use Rattle.nc_report.proofs.lines.push_words.Goals as goal

pub push_shown-requires : goal.push_shown-requires
push_shown-requires c = all_shown c.args.line.now (sym c.are_printable.ensures ∙ c.if-are_printable.true)
