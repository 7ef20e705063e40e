use Rattle.std.proofs.Common.{ℕ, Bool, None, ◌==◌, if◌then◌else◌, ap, sym}
use Rattle.std.proofs.lemmas.Bool.{ne_eqb}
use Rattle.nc_vet.proofs.reading.masked_after.Goals as goal

pub returns-then-place-eq0 : goal.returns-then-place-eq0
returns-then-place-eq0 c = ap (λ (n : ℕ). if n == 0 then None else c.args.instr.masks) (sym c.if-place-eq0.true)

pub returns-else-place-eq0 : goal.returns-else-place-eq0
returns-else-place-eq0 c = ap (λ (b : Bool). if b then None else c.args.instr.masks) (sym (ne_eqb _ 0 c.if-place-eq0.false))
