use Rattle.std.proofs.Common.{◌≡◌, ◌++◌, ℕ, List, ap, sym, ◌∙◌, subst, inr}
use Rattle.nc_lines.specs.machinery.Progress.{HeldBytes, HoldsRest, WritesFront}
use Rattle.nc_lines.proofs.lines.reply_to_line.Goals as goal

pub returns-clause-replies : goal.returns-clause-replies
returns-clause-replies g c = λ part e.
    let h = c.in-Ok.ensures part e in
    let given : c.as_slice.result.now ≡ h.0 =
    c.as_slice.ensures.value ∙ h.1 ∙ ap (λ (l : List ℕ). l ++ h.0) c.clear_reply.ensures.reply in
    let all : c.clear_reply.new.self.held.items ++ c.as_slice.result.now ≡ c.args.replies.now.held.items ++ h.0 =
    ap (λ (l : List ℕ). c.clear_reply.new.self.held.items ++ l) given
    ∙ ap (λ (v : HeldBytes). v.items ++ h.0) c.clear_reply.ensures.held in (
      h.0,
      h.2,
      subst (λ (v : HeldBytes). HoldsRest (g.W.Write.contents c.args.writer.now) (g.W.Write.contents c.hold.new.writer)
          (c.args.replies.now.held.items ++ h.0) v.items) (sym c.clear_reply-2.ensures.held)
          (subst (λ (xs : List ℕ). HoldsRest (g.W.Write.contents c.args.writer.now) (g.W.Write.contents c.hold.new.writer) xs
          c.hold.new.self.items) all c.in-Ok-hold.ensures.ok),
    )

pub returns-in-Err-hold-clause-replies : goal.returns-in-Err-hold-clause-replies
returns-in-Err-hold-clause-replies g c = λ part e.
    let h = c.in-Ok.ensures part e in
    let given : c.as_slice.result.now ≡ h.0 =
    c.as_slice.ensures.value ∙ h.1 ∙ ap (λ (l : List ℕ). l ++ h.0) c.clear_reply.ensures.reply in
    let all : c.clear_reply.new.self.held.items ++ c.as_slice.result.now ≡ c.args.replies.now.held.items ++ h.0 =
    ap (λ (l : List ℕ). c.clear_reply.new.self.held.items ++ l) given
    ∙ ap (λ (v : HeldBytes). v.items ++ h.0) c.clear_reply.ensures.held in
    inr (h.0, c.reply.new.self, h.2, subst (WritesFront (g.W.Write.contents c.args.writer.now) (g.W.Write.contents c.hold.new.writer)) all c.in-Err-hold.ensures.front)
