use Rattle.nc_script.proofs.serving.OneReply.{one_text, begins_all, frees_by_least, leaves_open}
use Rattle.nc_script.proofs.replay.law_of_replies.Goals as goal

pub returns-clause-one_text : goal.returns-clause-one_text
returns-clause-one_text c = one_text

pub returns-clause-begins_all : goal.returns-clause-begins_all
returns-clause-begins_all c = begins_all

pub returns-clause-least : goal.returns-clause-least
returns-clause-least c = frees_by_least

pub returns-clause-leaves_open : goal.returns-clause-leaves_open
returns-clause-leaves_open c = leaves_open
