use Rattle.std.proofs.Common.{◌≡◌, ◌++◌, ◌+◌, ◌<◌, ℕ, List, [], ◌∷◌, Err, length, take, drop, get_or, sym, ap, ◌∙◌, subst}
use Rattle.std.proofs.Common.{append_assoc, arith}
use Rattle.std.proofs.lemmas.List.{take_all, take_more}
use Rattle.nc_lines.specs.machinery.Progress.{RepliesToKept, KeepsUp, Feeds, IsOpen}
use Rattle.nc_lines.proofs.Steps.{cut_after, stands_part, part_goes_on, early_failed, stands_line, line_failed, feeds_failed}
use Rattle.nc_lines.proofs.lines.feed_part.Given.{Over}
use Rattle.nc_lines.proofs.lines.feed_part.Goals.{After-reply_to_last}
use Rattle.nc_lines.proofs.lines.feed_part.Goals as goal

-- bytes up to a line end and that end are the bytes up to behind it
one_end : (bytes rest : List ℕ) (end : ℕ) → end < length rest → get_or rest end 0 ≡ 10
    → (bytes ++ take end rest) ++ 10 ∷ [] ≡ bytes ++ take (end + 1) rest
one_end bytes rest end below is =
    append_assoc bytes (take end rest) (10 ∷ [])
    ∙ ap (λ (b : ℕ). bytes ++ (take end rest ++ b ∷ [])) (sym is) ∙ ap (λ (xs : List ℕ). bytes ++ xs) (sym (take_more rest end 0 below))

pub returns-in-Ok-clause-feeds : goal.returns-in-Ok-clause-feeds
returns-in-Ok-clause-feeds g c = λ start before bytes s.
    let replies = g.S.Responder.replies in
    let after = g.W.Write.contents c.args.writer.now in
    let held = c.args.replies.now.held.items in
    let rest = c.args.rest.now in
    let end = c.first_end-end.result in
    let whole : take end rest ≡ rest = take_all end rest (omega arith) in
    subst (λ (xs : List ℕ). KeepsUp replies start before (bytes ++ xs) c.args.responder.now after held c.keep.new.line.items) (sym whole)
    (stands_part replies start before bytes c.args.responder.now after held c.args.line.now.items rest c.keep.new.line.items s
    (subst IsOpen whole c.first_end-end.ensures.«open») (c.in-Ok.ensures s.part s.is_kept))

pub returns-in-Err-clause-feeds : goal.returns-in-Err-clause-feeds
returns-in-Err-clause-feeds g c = λ start before bytes s.
    early_failed (Unit {0}) g.S.Responder.replies start before bytes c.args.responder.now (g.W.Write.contents c.args.writer.now)
    c.args.replies.now.held.items c.args.line.now.items c.args.rest.now c.args.responder.now (g.W.Write.contents c.end_early.new.writer)
    c.end_early.new.self.items c.keep.new.line.items s c.requires c.end_early.result c.end_early.ensures.ends

-- the bytes with the end after them, once the line that ends has its reply
taken : (g : Over) (c : After-reply_to_last g) (bytes : List ℕ)
    → (bytes ++ take c.first_end-end.result c.args.rest.now) ++ 10 ∷ [] ≡ bytes ++ take (c.first_end-end.result + 1) c.args.rest.now
taken g c bytes =
    let below : c.first_end-end.result < length c.args.rest.now = omega (arith, c.first_end-end.ensures.within) in
    one_end bytes c.args.rest.now c.first_end-end.result below (c.first_end-end.ensures.end below)

pub returns-in-Ok-reply_to_last-clause-feeds : goal.returns-in-Ok-reply_to_last-clause-feeds
returns-in-Ok-reply_to_last-clause-feeds g c = λ start before bytes s.
    let at = (goal.at.returns-in-Ok-reply_to_last-clause-feeds g c).After-reply_to_last in
    let now = c.args.responder.now in
    let after = g.W.Write.contents c.args.writer.now in
    let held = c.args.replies.now.held.items in
    let part = take c.first_end-end.result c.args.rest.now in
    let (next, is) = part_goes_on g.S.Responder.replies start before bytes now after held c.args.line.now.items part s
    c.first_end-end.ensures.«open» in
    let (reply, runs, rest) = c.in-Ok-reply_to_last.ensures.replies s.part s.is_kept in
    subst (λ (xs : List ℕ). KeepsUp g.S.Responder.replies start before xs c.reply_to_last.new.responder
    (g.W.Write.contents c.reply_to_last.new.writer) c.reply_to_last.new.replies.held.items c.reply_to_last.new.line.items) (taken g at bytes)
    (stands_line g.S.Responder.replies start before (bytes ++ part) now after held _ reply c.reply_to_last.new.responder
    (g.W.Write.contents c.reply_to_last.new.writer) c.reply_to_last.new.replies.held.items c.reply_to_last.new.line.items next
    c.in-Ok-reply_to_last.ensures.none
    (subst (λ (line : List ℕ). g.S.Responder.replies now line reply c.reply_to_last.new.responder) (sym is) runs) rest)

pub returns-in-Err-reply_to_last-clause-feeds : goal.returns-in-Err-reply_to_last-clause-feeds
returns-in-Err-reply_to_last-clause-feeds g c = λ start before bytes s.
    let replies = g.S.Responder.replies in
    let at = (goal.at.returns-in-Err-reply_to_last-clause-feeds g c).After-reply_to_last in
    let after = g.W.Write.contents c.args.writer.now in
    let later = g.W.Write.contents c.reply_to_last.new.writer in
    let now = c.args.responder.now in
    let new = c.reply_to_last.new.responder in
    let held = c.args.replies.now.held.items in
    let left = c.reply_to_last.new.replies.held.items in
    let part_left = c.reply_to_last.new.line.items in
    let rest = c.args.rest.now in
    let end = c.first_end-end.result in
    let fault = c.in-Err-reply_to_last.fault in
    let next = part_goes_on replies start before bytes now after held c.args.line.now.items (take end rest) s
    c.first_end-end.ensures.«open» in
    subst (λ (xs : List ℕ). Feeds {T = Unit {0}} replies start before xs new later left part_left (Err fault))
    (ap (λ (xs : List ℕ). xs ++ drop (end + 1) rest) (taken g at bytes) ∙ sym (cut_after bytes rest (end + 1)))
    (feeds_failed (Unit {0}) replies start before ((bytes ++ take end rest) ++ 10 ∷ []) new later left part_left (drop (end + 1) rest) fault
    (line_failed (Unit {0}) replies start before (bytes ++ take end rest) now after held _ new later left part_left next.0 fault
    (subst (λ (line : List ℕ). RepliesToKept {T = Unit {0}} replies now new after later held left line (Err fault)) (sym next.1)
    (c.in-Err-reply_to_last.ensures.replies s.part s.is_kept))))
