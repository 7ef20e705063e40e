use Rattle.std.proofs.Common.{Bool, if◌then◌else◌, ap, sym, ◌∙◌, w32}
use Rattle.std.proofs.lemmas.Nat.Bits.{bit_at_set_same, bit_at_set_other, bit_at_clear_same, bit_at_clear_other}
use Rattle.nc_text.proofs.masks.with_bit.Goals as goal

pub returns-then-on-clause-same : goal.returns-then-on-clause-same
returns-then-on-clause-same c = bit_at_set_same w32 c.args.mask c.args.at c.requires
    ∙ ap (λ (b : Bool). if b then 1 else 0) (sym c.if-on.true)

pub returns-then-on-clause-other : goal.returns-then-on-clause-other
returns-then-on-clause-other c = λ k lt ne. bit_at_set_other w32 c.args.mask c.args.at c.requires k ne

pub returns-else-on-clause-same : goal.returns-else-on-clause-same
returns-else-on-clause-same c = bit_at_clear_same w32 c.args.mask c.args.at c.requires
    ∙ ap (λ (b : Bool). if b then 1 else 0) (sym c.if-on.false)

pub returns-else-on-clause-other : goal.returns-else-on-clause-other
returns-else-on-clause-other c = λ k lt ne. bit_at_clear_other w32 c.args.mask c.args.at c.requires k lt ne
