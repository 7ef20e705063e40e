use Rattle.std.proofs.Common.{◌≡◌, ◌<◌, [], length, ◌∙◌, sym, append-nil, arith, rules}
use Rattle.std.proofs.lemmas.Bool.{eqb-false}
use Rattle.std.proofs.lemmas.List.{drop_all}
use Rattle.nc_lines.specs.Lines.{line_limit, lines_of}
use Rattle.nc_lines.proofs.Cuts.{kept_is_all, kept_some}
use Rattle.nc_lines.proofs.Steps.{finish_none, finish_line, finishes_failed, held_written, held_begun}
use Rattle.nc_lines.proofs.stream.reply_to_rest.Goals as goal

pub returns-then-is_empty-clause-finishes : goal.returns-then-is_empty-clause-finishes
returns-then-is_empty-clause-finishes g c = λ start before bytes s.
    let line = c.args.line.now in
    let none : length line ≡ 0 = search rules in
    let empty : line ≡ [] = drop_all 0 line (omega arith) in
    finish_none g.S.Responder.replies start before bytes _ _ c.args.replies.now.held.items line s c.requires
    (sym (kept_is_all line_limit line s.part s.is_kept (omega arith)) ∙ empty)

pub returns-in-Err-clause-finishes : goal.returns-in-Err-clause-finishes
returns-in-Err-clause-finishes g c = λ start before bytes s.
    let line = c.args.line.now in
    let apart : length line ≡ 0 → ⊥ = eqb-false (length line) 0 (sym c.is_empty.ensures ∙ c.if-is_empty.false) in
    let some : 0 < length line = omega arith in
    finishes_failed (Unit {0}) g.S.Responder.replies start before bytes _ _ c.args.replies.now.held.items line c.reply_to_line.new.responder _
    c.reply_to_line.new.replies.held.items s (kept_some line_limit line s.part s.is_kept some) c.in-Err.fault
    (c.in-Err.ensures.replies s.part s.is_kept)

pub returns-in-Ok-write_all-clause-finishes : goal.returns-in-Ok-write_all-clause-finishes
returns-in-Ok-write_all-clause-finishes g c = λ start before bytes s.
    let line = c.args.line.now in
    let apart : length line ≡ 0 → ⊥ = eqb-false (length line) 0 (sym c.is_empty.ensures ∙ c.if-is_empty.false) in
    let some : 0 < length line = omega arith in
    let h = c.in-Ok.ensures.replies s.part s.is_kept in
    held_written g.S.Responder.replies start before c.reply_to_line.new.responder _ c.reply_to_line.new.replies.held.items (lines_of bytes) _
    (finish_line g.S.Responder.replies start before bytes _ _ c.args.replies.now.held.items line h.0 c.reply_to_line.new.responder _
    c.reply_to_line.new.replies.held.items s (kept_some line_limit line s.part s.is_kept some) h.1 h.2)
    c.in-Ok-write_all.ensures.all

pub returns-in-Err-write_all-clause-finishes : goal.returns-in-Err-write_all-clause-finishes
returns-in-Err-write_all-clause-finishes g c = λ start before bytes s.
    let line = c.args.line.now in
    let apart : length line ≡ 0 → ⊥ = eqb-false (length line) 0 (sym c.is_empty.ensures ∙ c.if-is_empty.false) in
    let some : 0 < length line = omega arith in
    let h = c.in-Ok.ensures.replies s.part s.is_kept in
    held_begun g.S.Responder.replies start before c.reply_to_line.new.responder _ c.reply_to_line.new.replies.held.items
    (lines_of bytes) [] (lines_of bytes) _
    (finish_line g.S.Responder.replies start before bytes _ _ c.args.replies.now.held.items line h.0 c.reply_to_line.new.responder _
    c.reply_to_line.new.replies.held.items s (kept_some line_limit line s.part s.is_kept some) h.1 h.2)
    c.in-Err-write_all.ensures.front (sym (append-nil (lines_of bytes)))
