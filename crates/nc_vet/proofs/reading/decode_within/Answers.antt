use Rattle.std.proofs.Common.{arith}
use Rattle.std.proofs.lemmas.List.{length-take}
use Rattle.nc_vet.proofs.Pieces.{front_cut}
use Rattle.nc_vet.proofs.reading.decode_within.Goals as goal

pub returns-in-Ok-clause-found : goal.returns-in-Ok-clause-found
returns-in-Ok-clause-found c =
    let f = (c.decode.ensures.found c.in-Ok.instr).0 c.in-Ok.is in (
      front_cut c.args.rest.now c.in-Ok.instr c.args.room f (omega arith),
      c.in-Ok.ensures.sized.0,
      omega
          (arith, c.in-Ok.ensures.sized.1, length-take c.args.room c.args.rest.now),
    )
