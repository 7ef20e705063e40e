-- The table of operands says their lengths.
use Rattle.std.proofs.Common.{◌≡◌, ℕ, ◌<◌, true, get_or, ◌==◌, ◌∙◌, refl, eqb-true}
use Rattle.std.proofs.lemmas.List.{get_or_default}
use Rattle.nc_decode.specs.declared.operand.TheConstants.{OPERAND}
use Rattle.nc_decode.specs.machinery.Shapes.{permits}
use Rattle.nc_decode.specs.Spelling.{operand_len}
use Rattle.nc_base.proofs.Offered.{each_below}
use Rattle.nc_base.proofs.Offered.{each_below-at}

-- the table of operands says the length at each ModRM
tabled : each_below (λ m. get_or OPERAND m 0 == operand_len m 0) 256 ≡ true
tabled = refl

-- the entry of the table of operands at a ModRM is the operand's length
pub operand_at : (m d : ℕ) → m < 256 → get_or OPERAND m d ≡ operand_len m 0
operand_at m d lt = get_or_default OPERAND m d 0 lt ∙ eqb-true _ _
    (each_below-at (λ x. get_or OPERAND x 0 == operand_len x 0) 256 m tabled lt)

-- where all forms are permitted, each ModRM is
any_permits : each_below (λ m. permits 0xFFFF m) 256 ≡ true
unfolding permits
any_permits = refl

-- where all forms are permitted, a ModRM is
pub any_at : (m : ℕ) → m < 256 → permits 0xFFFF m ≡ true
any_at m lt = each_below-at (permits 0xFFFF) 256 m any_permits lt
