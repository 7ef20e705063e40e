use Rattle.std.proofs.Common.{◌≡◌, ◌++◌, ◌-◌, ℕ, List, [], length, take, min, sym, ap, ◌∙◌, arith, rules}
use Rattle.std.proofs.lemmas.Grind.{common_steps}
use Rattle.std.proofs.lemmas.List.{drop_all}
use Rattle.nc_lines.proofs.Cuts.{kept_append}
use Rattle.nc_lines.proofs.Steps.{early_kept}
use Rattle.nc_lines.proofs.lines.reply_to_last.Goals as goal

pub returns-then-is_empty-clause-replies : goal.returns-then-is_empty-clause-replies
returns-then-is_empty-clause-replies g c = λ part e.
    let line = c.args.line.now.items in
    let last = c.args.last.now in
    let count = c.min-count.result in
    let none : length line ≡ 0 = search rules in
    let empty : line ≡ [] = drop_all 0 line (omega arith) in
    let room : count ≡ min (1048577 - length line) (length last) = omega (arith, c.min-count.ensures) in
    c.reply_to_line.ensures.replies (part ++ last)
    (ap (λ (xs : List ℕ). xs ++ take count last) (sym empty) ∙ kept_append 1048577 line part last count e room)

pub returns-then-is_empty-clause-none : goal.returns-then-is_empty-clause-none
returns-then-is_empty-clause-none g c = grind (arith, common_steps)

pub returns-in-Err-clause-replies : goal.returns-in-Err-clause-replies
returns-in-Err-clause-replies g c = λ part e.
    early_kept (Unit {0}) g.S.Responder.replies c.args.responder.now c.args.responder.now _ _ c.args.replies.now.held.items c.end_early.new.self.items (part ++ c.args.last.now)
    c.end_early.result c.end_early.ensures.ends

pub returns-in-Ok-reply_to_line-clause-replies : goal.returns-in-Ok-reply_to_line-clause-replies
returns-in-Ok-reply_to_line-clause-replies g c = λ part e.
    c.in-Ok-reply_to_line.ensures.replies (part ++ c.args.last.now) (c.as_slice.ensures.value ∙ c.in-Ok.ensures part e)

pub returns-in-Err-reply_to_line-clause-replies : goal.returns-in-Err-reply_to_line-clause-replies
returns-in-Err-reply_to_line-clause-replies g c = λ part e.
    c.in-Err-reply_to_line.ensures.replies (part ++ c.args.last.now) (c.as_slice.ensures.value ∙ c.in-Ok.ensures part e)
