use Rattle.std.proofs.Common.{◌∙◌, ap, subst, Some, length, List, ℕ, arith}
use Rattle.std.specs.Str.Parse.{ParsesUnsigned}
use Rattle.nc_command.proofs.Bases.{no_plus_first, numeral_read}
use Rattle.nc_command.proofs.check.base_of.Goals as goal
use Rattle.nc_command.proofs.check.base_of.Goals.{then-digits-gt8-via-then-digits-gt8, then-digits-gt8-via-else-digits-gt8+then-starts_with}

pub returns-clause-only : goal.returns-clause-only
returns-clause-only c = λ base spells.
    let digits = c.without_prefix-digits.ensures.only spells.0 spells.1 spells.2 in
    let parses = subst (λ text. ParsesUnsigned 32 16 text c.from_str_radix.result) digits c.from_str_radix.ensures.value in
    c.ok.ensures.value ∙ numeral_read spells.0 c.from_str_radix.result parses spells.2 spells.3 ∙ ap Some spells.4

pub returns-then-digits-gt8-clause-only : goal.returns-then-digits-gt8-clause-only
returns-then-digits-gt8-clause-only c = λ base spells.
    let digits = c.without_prefix-digits.ensures.only spells.0 spells.1 spells.2 in
    elim c.then-digits-gt8.branch [
      | then-digits-gt8-via-then-digits-gt8 w ↦ absurd (omega (arith, w.if-digits-gt8, ap (λ (z : List ℕ). length z) digits, spells.3))
      | then-digits-gt8-via-else-digits-gt8+then-starts_with w ↦
          absurd (no_plus_first spells.0 _ digits spells.2 (w.if-starts_with.ensures.cases.1.byte (omega arith)))
    ]
