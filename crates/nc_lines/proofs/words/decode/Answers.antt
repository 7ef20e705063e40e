use Rattle.nc_lines.proofs.DigitValues.{values_are}
use Rattle.nc_lines.proofs.words.decode.Goals as goal

pub decode_rest-requires-clause-values : goal.decode_rest-requires-clause-values
decode_rest-requires-clause-values c = values_are
