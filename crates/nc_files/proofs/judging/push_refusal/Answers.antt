use Rattle.std.proofs.lemmas.Result.{on_ok_weaker}
use Rattle.nc_files.proofs.WrittenReports.{refusal_added}
use Rattle.nc_files.proofs.judging.push_refusal.Goals as goal

pub returns-in_ok-extend_from_slice-in-Text-2 : goal.returns-in_ok-extend_from_slice-in-Text-2
returns-in_ok-extend_from_slice-in-Text-2 c =
    on_ok_weaker c.push_explanation.result
    (refusal_added c.args.style c.args.text.now.items c.args.name.now c.args.meaning.now _ _ c.push_explanation.new.text.items c.in-Text.is
    c.in_ok-extend_from_slice-in-Text.ensures.items c.in_ok-extend_from_slice-in-Text-2.ensures.items)
    c.push_explanation.ensures
