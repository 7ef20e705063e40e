use Rattle.std.proofs.Common.{Some, sym, ap, ◌∙◌, arith}
use Rattle.nc_decode.specs.declared.instruction.Flow.TheVariants.{Call, Jump}
use Rattle.nc_report.specs.machinery.Transfers.{transfer}
use Rattle.nc_report.proofs.FrontTransfers.{same_number, call_found, jump_found}
use Rattle.nc_report.proofs.front.front_near.Goals as goal

pub returns-then-opcode : goal.returns-then-opcode
returns-then-opcode c =
    call_found c.args.bytes.now (λ k. omega (arith, c.type_inv.bytes k)) c.in-len5-up.len_at_least c.if-opcode.true
    ∙ ap (λ r. Some (transfer 5 Call r))
    (sym c.from_le_bytes-rel.ensures ∙ same_number c.from_le_bytes-rel.result c.from_le_bytes-rel.type_inv)
    ∙ ap Some (sym c.transfer.ensures)

pub returns-then-opcode-2 : goal.returns-then-opcode-2
returns-then-opcode-2 c =
    jump_found c.args.bytes.now (λ k. omega (arith, c.type_inv.bytes k)) c.in-len5-up.len_at_least c.if-opcode-2.true
    ∙ ap (λ r. Some (transfer 5 Jump r))
    (sym c.from_le_bytes-rel.ensures ∙ same_number c.from_le_bytes-rel.result c.from_le_bytes-rel.type_inv)
    ∙ ap Some (sym c.transfer-then-opcode-2.ensures)
