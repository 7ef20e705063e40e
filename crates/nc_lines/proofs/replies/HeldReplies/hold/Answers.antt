use Rattle.std.proofs.Common.{◌++◌, ◌∙◌, List, ℕ, OnErr, OnOk, subst}
use Rattle.std.proofs.lemmas.Bool.{cond-false}
use Rattle.nc_lines.specs.machinery.Progress.{HoldsRest, WritesFront}
use Rattle.nc_lines.proofs.HoldingBack.{front_of_more, holds_none, writes_more}
use Rattle.nc_lines.proofs.replies.HeldReplies.hold.Goals as goal

pub returns-clause-ok : goal.returns-clause-ok
returns-clause-ok g c =
    let contents = g.W.Write.contents in
    let still = c.has_taken.ensures.bytes ∙ cond-false c.has_taken.result _ _ c.if-has_taken.false in
    subst (λ (held : List ℕ). OnOk c.write_out.result (HoldsRest (contents c.args.writer.now) (contents c.write_out.new.writer)
    (held ++ c.args.reply.now) c.write_all.new.self.items)) still
    (holds_none c.write_out.result _ _ _ _ c.args.reply.now _ c.in-Ok.ensures.all c.in-Ok.ensures.none c.write_out.ensures.all)

pub returns-clause-front : goal.returns-clause-front
returns-clause-front g c =
    let contents = g.W.Write.contents in
    let still = c.has_taken.ensures.bytes ∙ cond-false c.has_taken.result _ _ c.if-has_taken.false in
    subst (λ (held : List ℕ). OnErr c.write_out.result (WritesFront (contents c.args.writer.now) (contents c.write_out.new.writer)
    (held ++ c.args.reply.now))) still
    (writes_more c.write_out.result _ _ _ _ c.args.reply.now c.in-Ok.ensures.all c.write_out.ensures.front)

pub returns-in-Err-clause-front : goal.returns-in-Err-clause-front
returns-in-Err-clause-front g c =
    let still = c.has_taken.ensures.bytes ∙ cond-false c.has_taken.result _ _ c.if-has_taken.false in
    subst (λ (held : List ℕ). WritesFront (g.W.Write.contents c.args.writer.now) (g.W.Write.contents c.write_all.new.writer)
    (held ++ c.args.reply.now)) still
    (front_of_more _ _ _ c.args.reply.now c.in-Err.ensures.front)
