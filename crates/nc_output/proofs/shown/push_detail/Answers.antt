use Rattle.nc_output.specs.Shown.{texts_shown}
use Rattle.nc_output.proofs.Additions.{texts_all, line_added, line_details}
use Rattle.nc_output.proofs.shown.push_detail.Goals as goal

pub returns-clause-exact : goal.returns-clause-exact
returns-clause-exact c =
    line_added c.args.out.now.items c.extend_from_slice.new.self.items c.push_all_shown.new.out.items c.push.new.self.items
    (texts_shown c.args.texts.now) c.in_ok-extend_from_slice.ensures.items c.in_ok-push_all_shown.ensures c.in_ok-push.ensures.items

pub returns-clause-details : goal.returns-clause-details
returns-clause-details c =
    line_details c.args.out.now.items c.push.new.self.items (texts_shown c.args.texts.now) (texts_all c.args.texts.now)
    (line_added c.args.out.now.items c.extend_from_slice.new.self.items c.push_all_shown.new.out.items c.push.new.self.items
    (texts_shown c.args.texts.now) c.in_ok-extend_from_slice.ensures.items c.in_ok-push_all_shown.ensures c.in_ok-push.ensures.items)
