use Rattle.std.proofs.Common.{rules, arith, ◌≡◌, All, length, sym, ap, ◌∙◌, subst}
use Rattle.std.proofs.lemmas.Result.{IfOk-from_err}
use lib.ListN.{length-replicate}
use Rattle.nc_gens.proofs.FirstTable.{length-new_passes, tables-new_passes}
use Rattle.nc_gens.proofs.HandingTrail.{gives_pass_recorded}
use Rattle.nc_gens.proofs.opening.give_passes.Goals as goal

pub split_seat-token-requires : goal.split_seat-token-requires
split_seat-token-requires c =
    let me = c.loop-seat.invariant.1 in
    let room = c.loop-seat-test.true in
    let long : length c.loop-seat.keeper.me.0.keeper.bounds ≡ c.args.seats = ap (λ m. length m.0.keeper.bounds) me
    ∙ length-replicate c.args.seats 0 in
    let given : c.loop-seat.keeper.me.0.given ≡ c.loop-seat.seat = ap (λ m. m.0.given) me in
    (search rules, search rules, gives_pass_recorded _ _ (ap (λ m. m.0.is_pass) me) (ap (λ m. m.0.is_keeper) me) (omega arith))

pub returns-in_err-push-clause-passes : goal.returns-in_err-push-clause-passes
returns-in_err-push-clause-passes c = IfOk-from_err _ _ c.from_residual-in_err-push.ensures.0

pub returns-in_err-push-clause-count : goal.returns-in_err-push-clause-count
returns-in_err-push-clause-count c = IfOk-from_err _ _ c.from_residual-in_err-push.ensures.0

pub returns-in_err-push-clause-tables : goal.returns-in_err-push-clause-tables
returns-in_err-push-clause-tables c = IfOk-from_err _ _ c.from_residual-in_err-push.ensures.0

pub returns-in_err-push-clause-table : goal.returns-in_err-push-clause-table
returns-in_err-push-clause-table c = IfOk-from_err _ _ c.from_residual-in_err-push.ensures.0

pub returns-in_err-push-clause-view : goal.returns-in_err-push-clause-view
returns-in_err-push-clause-view c = IfOk-from_err _ _ c.from_residual-in_err-push.ensures.0

pub returns-clause-count : goal.returns-clause-count
returns-clause-count c =
    let counted = ap length c.loop-seat.invariant.2 ∙ length-new_passes c.args.keeper.now.table_id c.loop-seat.seat in let end =
    c.loop-seat-test.false in let within = c.loop-seat.auto.seat-end in omega arith

pub returns-clause-tables : goal.returns-clause-tables
returns-clause-tables c = subst (All (λ p. p.table ≡ c.args.keeper.now.table_id)) (sym c.loop-seat.invariant.2)
    (tables-new_passes c.args.keeper.now.table_id c.loop-seat.seat)
