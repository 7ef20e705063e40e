use Rattle.std.proofs.Common.{Some, sym, ap, ◌∙◌, arith}
use Rattle.nc_decode.specs.declared.instruction.Flow.TheVariants.{Branch, Jump}
use Rattle.nc_report.specs.machinery.Transfers.{transfer}
use Rattle.nc_report.proofs.FrontTransfers.{same_number, branch_short_found, jump_short_found}
use Rattle.nc_report.proofs.front.front_short.Goals as goal

pub returns-then-opcode-le127 : goal.returns-then-opcode-le127
returns-then-opcode-le127 c =
    branch_short_found c.args.bytes.now (λ k. omega (arith, c.type_inv.bytes k)) c.in-len2-up.len_at_least c.if-opcode-ge112.true
    c.if-opcode-le127.true
    ∙ ap (λ r. Some (transfer 2 Branch r)) (sym c.short-rel.ensures ∙ same_number c.short-rel.result c.short-rel.type_inv)
    ∙ ap Some (sym c.transfer.ensures)

pub returns-then-opcode : goal.returns-then-opcode
returns-then-opcode c =
    jump_short_found c.args.bytes.now (λ k. omega (arith, c.type_inv.bytes k)) c.in-len2-up.len_at_least c.if-opcode.true
    ∙ ap (λ r. Some (transfer 2 Jump r)) (sym c.short-rel.ensures ∙ same_number c.short-rel.result c.short-rel.type_inv)
    ∙ ap Some (sym c.transfer-then-opcode.ensures)
