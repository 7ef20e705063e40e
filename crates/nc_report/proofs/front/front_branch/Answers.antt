use Rattle.std.proofs.Common.{Some, sym, ap, ◌∙◌, arith}
use Rattle.nc_decode.specs.declared.instruction.Flow.TheVariants.{Branch}
use Rattle.nc_report.specs.machinery.Transfers.{transfer}
use Rattle.nc_report.proofs.FrontTransfers.{same_number, branch_found}
use Rattle.nc_report.proofs.front.front_branch.Goals as goal

pub returns-then-opcode-le143 : goal.returns-then-opcode-le143
returns-then-opcode-le143 c =
    branch_found c.args.bytes.now (λ k. omega (arith, c.type_inv.bytes k)) c.in-len6-up.len_at_least c.if-first-eq15.true c.if-opcode-ge128.true
    c.if-opcode-le143.true
    ∙ ap (λ r. Some (transfer 6 Branch r))
    (sym c.from_le_bytes-rel.ensures
    ∙ same_number c.from_le_bytes-rel.result c.from_le_bytes-rel.type_inv)
    ∙ ap Some (sym c.transfer.ensures)
