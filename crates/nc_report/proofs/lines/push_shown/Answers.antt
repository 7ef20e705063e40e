use Rattle.nc_output.proofs.Offered.{line_added, line_details}
use Rattle.nc_report.proofs.lines.push_shown.Goals as goal

pub returns : goal.returns
returns c =
    line_details c.args.out.now.items c.push.new.self.items c.args.line.now c.requires
    (line_added c.args.out.now.items c.push_text.new.out.items c.extend_from_slice.new.self.items c.push.new.self.items c.args.line.now
    c.in_ok-push_text.ensures c.in_ok-extend_from_slice.ensures.items c.in_ok-push.ensures.items)
