use Rattle.std.proofs.Common.{sym, ap, ◌∙◌}
use Rattle.nc_script.specs.Requests.{Modify, Walk}
use Rattle.nc_script.specs.machinery.Shown.{shown}
use Rattle.nc_script.proofs.serving.LineReplies.{served, served_in}
use Rattle.nc_script.proofs.session.serve.Goals as goal

pub returns-in-Create-clause-follows : goal.returns-in-Create-clause-follows
returns-in-Create-clause-follows g c = served_in c.reply_to_create.result _ _ _ _ (ap shown c.in-Create.is) _ _ _ c.reply_to_create.ensures.follows

pub returns-in-Modify-clause-follows : goal.returns-in-Modify-clause-follows
returns-in-Modify-clause-follows g c =
    served_in c.reply_to_modify.result _ _ _ _ (ap shown c.in-Modify.is ∙ ap (Modify c.in-Modify.at) (sym c.deref.ensures.value)) _ _ _ c.reply_to_modify.ensures.follows

pub returns-in-Delete-clause-follows : goal.returns-in-Delete-clause-follows
returns-in-Delete-clause-follows g c = served_in c.reply_to_delete.result _ _ _ _ (ap shown c.in-Delete.is) _ _ _ c.reply_to_delete.ensures.follows

pub returns-in-CheckIn-clause-follows : goal.returns-in-CheckIn-clause-follows
returns-in-CheckIn-clause-follows g c = served c.reply_to_check_in.result _ _ _ _ (ap shown c.in-CheckIn.is) _ _ c.reply_to_check_in.ensures.follows

pub returns-in-Leave-clause-follows : goal.returns-in-Leave-clause-follows
returns-in-Leave-clause-follows g c = served c.reply_to_leave.result _ _ _ _ (ap shown c.in-Leave.is) _ _ (c.reply_to_leave.ensures.follows c.args.region.now)

pub returns-in-Reclaim-clause-follows : goal.returns-in-Reclaim-clause-follows
returns-in-Reclaim-clause-follows g c = served c.reply_to_reclaim.result _ _ _ _ (ap shown c.in-Reclaim.is) _ _ c.reply_to_reclaim.ensures.follows

pub returns-in-Walk-clause-follows : goal.returns-in-Walk-clause-follows
returns-in-Walk-clause-follows g c =
    served_in c.reply_to_walk.result _ _ _ _ (ap shown c.in-Walk.is ∙ ap (Walk c.in-Walk.start) (sym c.deref-in-Walk.ensures.value)) _ _ _ c.reply_to_walk.ensures

pub returns-in-Query-clause-follows : goal.returns-in-Query-clause-follows
returns-in-Query-clause-follows g c = served_in c.reply_to_query.result _ _ _ _ (ap shown c.in-Query.is) _ _ _ c.reply_to_query.ensures
