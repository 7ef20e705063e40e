use Rattle.std.proofs.Common.{ℕ, ◌+◌, length, arith, ap, sym, ◌∙◌}
use Rattle.nc_text.specs.Ready.{TextState}
use Rattle.nc_text.proofs.Views.{bytes_long}
use Rattle.nc_text.proofs.text.Text.limit.Goals as goal

pub overflow_cast-result : goal.overflow_cast-result
overflow_cast-result c = let long = bytes_long c.self.inside.pages.items c.self.inside.size in omega (arith, c.self.invariant.0.lawful.2)

pub overflow_add-result : goal.overflow_add-result
overflow_add-result c = let long = bytes_long c.self.inside.pages.items c.self.inside.size in omega (arith, c.self.invariant.0.lawful.2)

pub returns-clause-limit : goal.returns-clause-limit
returns-clause-limit c = ap (λ (n : ℕ). 65536 + n) (sym (bytes_long c.self.inside.pages.items c.self.inside.size)
    ∙ ap (λ (t : TextState). length t.marked.bytes) c.self.view_is)
