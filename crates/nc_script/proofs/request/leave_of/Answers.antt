use Rattle.std.proofs.Common.{◌∙◌, ap, sym}
use Rattle.std.specs.Option.{option_map}
use Rattle.nc_script.specs.Requests.{Leave}
use Rattle.nc_script.proofs.serving.RequestWords.{seat_text}
use Rattle.nc_script.proofs.request.leave_of.Goals as goal

pub returns-in-None : goal.returns-in-None
returns-in-None c = sym (seat_text Leave c.args.text.now ∙ ap (option_map Leave) (sym c.in-None.ensures))
