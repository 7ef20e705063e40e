use Rattle.std.proofs.Common.{rules}
use Rattle.nc_gens.proofs.HandingTrail.{starts_recorded}
use Rattle.nc_gens.proofs.opening.lay_words.Goals as goal

pub of_words-requires : goal.of_words-requires
of_words-requires c = starts_recorded c.args.seats c.as_slice.result.now (search rules)
