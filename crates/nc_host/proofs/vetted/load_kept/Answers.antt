use Rattle.std.proofs.Common.{rules, arith}
use Rattle.std.proofs.lemmas.Grind.{common_steps}
use Rattle.nc_host.proofs.vetted.load_kept.Goals as goal

pub returns-in-Err-clause-untouched : goal.returns-in-Err-clause-untouched
returns-in-Err-clause-untouched c = search rules

pub returns-in-Ok-clause-created : goal.returns-in-Ok-clause-created
returns-in-Ok-clause-created c = λ zero. (
  c.in-Some.vetted,
  search rules,
  (
    c.in-Ok.ensures.allowed.0,
    c.in-Ok.ensures.free.0,
    c.in-Ok.ensures.free.1,
    c.in-Ok.ensures.created,
    c.in-Ok.ensures.others,
    c.in-Ok.ensures.call,
  ),
  search rules,
)

pub returns-in-Err-clause-at : goal.returns-in-Err-clause-at
returns-in-Err-clause-at c = grind (arith, common_steps)
