use Rattle.std.proofs.Common.{rules, arith, ◌+◌, ap, refl}
use Rattle.nc_gens.proofs.Recording.{stores_left}
use Rattle.nc_gens.proofs.table.Gens.store_left.Goals as goal

pub store-requires : goal.store-requires
store-requires c =
    let is = c.pass.invariant in (
      search rules,
      search rules,
      stores_left _ _ _ _ _ is.is_pass is.alone (ap (λ k. k + 1) is.seat_is) refl (let a = is.published in
          let b = is.saw in let d = is.in_range in omega arith),
    )
