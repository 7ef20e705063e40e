use Rattle.std.proofs.Common.{sym, ◌∙◌, arith}
use Rattle.nc_decode.proofs.Offered.{has_its_length}
use Rattle.nc_report.proofs.further.has_bad_target.Goals as goal

pub target-requires : goal.target-requires
target-requires c =
    let long = (has_its_length _ c.in-Some.instr (sym c.front_instruction.ensures ∙ c.in-Some.is)).1 in
    omega (arith, long, c.requires.span, c.requires.within)
