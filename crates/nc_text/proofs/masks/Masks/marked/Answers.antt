use Rattle.std.proofs.Common.{◌∙◌}
use Rattle.std.proofs.lemmas.Nat.Bits.{bit_at_or, bit_at-lt}
use Rattle.nc_text.specs.machinery.Masks.{register_in}
use Rattle.nc_text.proofs.MarkedBits.{either_bit}
use Rattle.nc_text.proofs.masks.Masks.marked.Goals as goal

pub returns : goal.returns
returns c = λ k lt.
    let masks = c.args.self.now in
    bit_at_or masks.starts masks.seconds k
    ∙ either_bit _ _ (register_in masks k) (bit_at-lt masks.starts k) (bit_at-lt masks.seconds k)
