use Rattle.std.proofs.Common.{Bool, IsTrue, subst, sym}
use Rattle.nc_elf.proofs.header.is_elf.Goals as goal

pub returns : goal.returns
returns c = (
  subst (λ (b : Bool). IsTrue b) c.starts_with.ensures.value,
  subst (λ (b : Bool). IsTrue b) (sym c.starts_with.ensures.value),
)
