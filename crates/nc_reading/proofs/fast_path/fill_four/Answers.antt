use Rattle.std.proofs.Common.{◌<◌, get_or, ℕ, Option, arith, subst}
use Rattle.nc_reading.specs.machinery.Seen.{HasFilled}
use Rattle.nc_reading.proofs.BundleReading.{masked_at_start}
use Rattle.nc_reading.proofs.fast_path.fill_four.Goals as goal

pub returns : goal.returns
returns c =
    let code = c.args.code.now in
    let at = c.args.at in
    let room = c.requires.room in
    let bytes : (k : ℕ) → get_or code k 0 < 256 = λ k. omega (arith, c.type_inv.code k) in
    record {
      read = λ masked h.
          c.put.ensures.read code masked at (omega (arith, room)) (omega arith) bytes c.run_four.ensures.fourth
          (c.put-third.ensures.read code masked at (omega (arith, room)) (omega arith) bytes c.run_four.ensures.third
          (c.put-second.ensures.read code masked at (omega (arith, room)) (omega arith) bytes c.run_four.ensures.second
          (c.put-first.ensures.read code masked at (omega (arith, room)) (omega arith) bytes c.run_four.ensures.first
          (subst (λ (o : Option ℕ). HasFilled code at o c.args.classes.now) (masked_at_start at masked) h))));
      low = omega arith;
      room = omega arith;
      long = omega arith;
    }
