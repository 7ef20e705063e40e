use Rattle.std.proofs.Common.{arith, ◌∙◌, ◌++◌, Bor, List, ℕ, Option, ap}
use Rattle.std.proofs.lemmas.Grind.{common_steps}
use Rattle.std.specs.Option.{option_copied, option_map}
use Rattle.nc_lines.specs.Words.{words_after}
use Rattle.nc_script.specs.Requests.{addresses_in}
use Rattle.nc_script.proofs.serving.RequestWords.{none_here}
use Rattle.nc_script.proofs.request.addresses_of.Goals as goal

pub loop-left-preserved : goal.loop-left-preserved
loop-left-preserved c = grind (arith, common_steps)

pub returns-in-None : goal.returns-in-None
returns-in-None c =
    let front = c.loop-left.choices.items in
    none_here _ c.in-Some.text.now front c.in-None.ensures.value
    (c.loop-left.invariant
    ∙ ap (λ (o : Option (Bor (List ℕ))). option_map (λ more. front ++ more) (addresses_in (words_after (option_copied o)))) c.in-Some.is)
