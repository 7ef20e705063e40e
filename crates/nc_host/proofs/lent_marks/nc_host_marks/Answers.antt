use Rattle.std.proofs.Common.{length}
use Rattle.nc_vet.proofs.Offered.{valid_len}
use Rattle.nc_region.proofs.Offered.{chunk_names_registers}
use Rattle.nc_host.proofs.Accepted.{eight_or_nine}
use Rattle.nc_host.proofs.lent_marks.nc_host_marks.Goals as goal

pub write_marks-requires-clause-each : goal.write_marks-requires-clause-each
write_marks-requires-clause-each c = valid_len _ c.in-Ok.ensures.valid.0

pub write_marks-requires-clause-registers : goal.write_marks-requires-clause-registers
write_marks-requires-clause-registers c = chunk_names_registers _ c.in-Ok.ensures.valid.0

pub returns-in-Err-clause-valid : goal.returns-in-Err-clause-valid
returns-in-Err-clause-valid c = λ m valid.
    eight_or_nine c.in-Err.verdict.fault (length c.args.code.now) (length c.args.marks.now) (c.in-Err.ensures.exact m valid)
