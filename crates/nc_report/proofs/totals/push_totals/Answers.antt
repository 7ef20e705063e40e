use Rattle.std.proofs.Common.{◌≡◌, ◌++◌, ℕ, List, append_assoc, codes}
use Rattle.std.proofs.lemmas.Result.{on_ok_weaker}
use Rattle.nc_output.specs.Shown.{detail_line}
use Rattle.nc_report.proofs.totals.push_totals.Goals as goal

-- a line was added, part after part
line_added : (o d f k m n new : List ℕ) → m ≡ o ++ (codes "  " ++ (d ++ f)) → n ≡ m ++ k → new ≡ n ++ codes "\n" → new ≡ o ++ detail_line (d ++ (f ++ k))
line_added o d f k m n new number kinds end = simp (end, kinds, number, append_assoc)

pub returns : goal.returns
returns c =
    on_ok_weaker c.push_text.result
    (line_added c.args.out.now.items _ _ _ _ _ c.push_text.new.out.items c.in_ok-push_total.ensures c.in_ok-push_kinds.ensures)
    c.push_text.ensures
