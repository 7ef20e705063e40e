use Rattle.std.proofs.Common.{refl}
use Rattle.std.specs.Prelude.{codes}
use Rattle.nc_script.specs.Requests.{Leave}
use Rattle.nc_output.specs.Verdicts.{with_line_end, refused_words}
use Rattle.nc_script.specs.machinery.Session.{SessionState, Follows}
use Rattle.nc_output.proofs.Offered.{added}
use Rattle.nc_script.proofs.serving.SeatRequests.{left_follows, no_seat_leaves, follows_same}
use Rattle.nc_script.proofs.session.reply_to_leave.Goals as goal

pub returns-then-leave-clause-follows : goal.returns-then-leave-clause-follows
returns-then-leave-clause-follows c = λ region.
    let left = c.if-leave.ensures.leaves in
    added c.extend_from_slice.result _ _ (with_line_end (codes "ok"))
    (λ reply. Follows (Leave c.args.seat) (record { region = region; seats = c.args.seats.now }) reply
    (record { region = region; seats = c.leave.new.self }))
    c.extend_from_slice.ensures.items
    (left_follows c.args.seat c.args.seats.now region c.leave.new.self left.0 left.1.0 left.1.1)

pub returns-else-leave-clause-follows : goal.returns-else-leave-clause-follows
returns-else-leave-clause-follows c = λ region.
    let old : SessionState = record { region = region; seats = c.args.seats.now } in
    added c.extend_from_slice-else-leave.result _ _ (with_line_end (refused_words (codes "NoSeat")))
    (λ reply. Follows (Leave c.args.seat) old reply (record { region = region; seats = c.leave.new.self }))
    c.extend_from_slice-else-leave.ensures.items
    (follows_same (Leave c.args.seat) region region c.args.seats.now c.leave.new.self
    (with_line_end (refused_words (codes "NoSeat"))) refl c.if-leave.ensures.table c.if-leave.ensures.leaves.1 (no_seat_leaves c.args.seat old c.if-leave.ensures.leaves.0))
