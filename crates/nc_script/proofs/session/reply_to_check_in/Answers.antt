use Rattle.std.specs.Prelude.{codes}
use Rattle.nc_script.specs.Requests.{CheckIn}
use Rattle.nc_output.specs.Verdicts.{with_line_end, refused_words}
use Rattle.nc_script.specs.machinery.Session.{SessionState, Follows}
use Rattle.nc_output.proofs.Offered.{added}
use Rattle.nc_script.proofs.serving.SeatRequests.{checked_follows, no_seat_checks_in, follows_same}
use Rattle.nc_script.proofs.session.reply_to_check_in.Goals as goal

pub returns-then-check_in-clause-follows : goal.returns-then-check_in-clause-follows
returns-then-check_in-clause-follows g c =
    added c.extend_from_slice.result _ _ (with_line_end (codes "ok"))
    (λ reply. Follows (CheckIn c.args.seat) (record { region = c.args.region.now; seats = c.args.seats.now }) reply
    (record { region = c.check_in.new.region; seats = c.check_in.new.self }))
    c.extend_from_slice.ensures.items
    (checked_follows c.args.seat c.args.seats.now c.args.region.now c.check_in.new.self c.check_in.new.region c.if-check_in.ensures.checks)

pub returns-else-check_in-clause-follows : goal.returns-else-check_in-clause-follows
returns-else-check_in-clause-follows g c =
    let old : SessionState = record { region = c.args.region.now; seats = c.args.seats.now } in
    added c.extend_from_slice-else-check_in.result _ _ (with_line_end (refused_words (codes "NoSeat")))
    (λ reply. Follows (CheckIn c.args.seat) old reply (record { region = c.check_in.new.region; seats = c.check_in.new.self }))
    c.extend_from_slice-else-check_in.ensures.items
    (follows_same (CheckIn c.args.seat) c.args.region.now c.check_in.new.region c.args.seats.now c.check_in.new.self
    (with_line_end (refused_words (codes "NoSeat"))) c.if-check_in.ensures.checks.2 c.if-check_in.ensures.table c.if-check_in.ensures.checks.1 (no_seat_checks_in c.args.seat old c.if-check_in.ensures.checks.0))
