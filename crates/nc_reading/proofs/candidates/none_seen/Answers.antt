use Rattle.std.proofs.Common.{◌+◌, length, slice_index, ap, arith}
use Rattle.nc_reading.specs.declared.class.Class.{Class}
use Rattle.nc_reading.specs.declared.class.Class.TheVariants.{Inside}
use Rattle.nc_reading.specs.Quiet.{is_quiet}
use Rattle.std.proofs.lemmas.List.{get_or_past}
use Rattle.nc_reading.proofs.candidates.none_seen.Goals as goal

pub returns : goal.returns
returns c = λ code k lt z. ap (λ (x : Class). is_quiet x (slice_index code (length c.args.classes.now + k))) (get_or_past c.args.classes.now (length c.args.classes.now + k) Inside (omega arith))
