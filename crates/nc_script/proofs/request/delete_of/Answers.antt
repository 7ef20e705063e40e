use Rattle.std.proofs.Common.{◌∙◌, ap, sym}
use Rattle.std.specs.Option.{option_map}
use Rattle.nc_script.specs.Requests.{Delete}
use Rattle.nc_script.proofs.serving.RequestWords.{delete_text}
use Rattle.nc_script.proofs.request.delete_of.Goals as goal

pub returns-in-Some : goal.returns-in-Some
returns-in-Some c = sym (delete_text c.args.text.now ∙ ap (option_map Delete) (sym c.in-Some.ensures))

pub returns-in-None : goal.returns-in-None
returns-in-None c = sym (delete_text c.args.text.now ∙ ap (option_map Delete) (sym c.in-None.ensures))
