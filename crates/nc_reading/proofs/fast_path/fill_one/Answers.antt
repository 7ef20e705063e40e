use Rattle.std.proofs.Common.{◌<◌, get_or, ℕ, Option, arith, subst}
use Rattle.nc_reading.specs.machinery.Seen.{HasFilled}
use Rattle.nc_reading.proofs.BundleReading.{masked_at_start}
use Rattle.nc_reading.proofs.fast_path.fill_one.Goals as goal

pub returns : goal.returns
returns c =
    let code = c.args.code.now in
    let at = c.args.at in
    let bytes : (k : ℕ) → get_or code k 0 < 256 = λ k. omega (arith, c.type_inv.code k) in
    record {
      read = λ masked h. c.put.ensures.read code masked at c.requires.room (omega arith) bytes c.run_one.ensures
          (subst (λ (o : Option ℕ). HasFilled code at o c.args.classes.now) (masked_at_start at masked) h);
      low = omega arith;
      room = omega arith;
      long = omega arith;
    }
