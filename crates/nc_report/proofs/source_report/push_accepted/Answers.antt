use Rattle.std.proofs.lemmas.Result.{on_ok_weaker}
use Rattle.nc_report.proofs.AcceptedTexts.{adds_none, adds_ok}
use Rattle.nc_report.proofs.source_report.push_accepted.Goals as goal

pub returns-in-Brief : goal.returns-in-Brief
returns-in-Brief c =
    adds_none c.args.chunk.now c.args.style c.args.name.now c.args.out.now.items c.code-facts.ensures.valid c.in-Brief.is

pub returns : goal.returns
returns c =
    on_ok_weaker c.push_end.result
    (adds_ok c.args.chunk.now c.args.style c.args.name.now c.args.out.now.items _ _ c.push_end.new.out.items c.count_instructions.result
    c.count_instructions.ensures c.code-facts.ensures.valid c.in_default.not-Brief c.in_ok-push_ok.ensures c.in_ok-push_transfers.ensures)
    c.push_end.ensures
