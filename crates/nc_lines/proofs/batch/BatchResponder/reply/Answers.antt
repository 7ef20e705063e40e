use Rattle.std.proofs.Common.{◌≡◌, [], Some, None, sym, append-nil, rules}
use Rattle.std.proofs.lemmas.Result.{IfOk-from_err}
use Rattle.nc_lines.specs.Words.{chunk_in}
use Rattle.nc_lines.proofs.Gathering.{gathers_chunk, gathers_none}
use Rattle.nc_lines.proofs.batch.BatchResponder.reply.Goals as goal

pub returns-in_err-push-in-Some-2 : goal.returns-in_err-push-in-Some-2
returns-in_err-push-in-Some-2 c = IfOk-from_err _ _ c.from_residual-in_err-push-in-Some-2.ensures.0

pub returns-in_err-push-in-None : goal.returns-in_err-push-in-None
returns-in_err-push-in-None c = IfOk-from_err _ _ c.from_residual-in_err-push-in-None.ensures.0

pub returns-in_ok-push-in-Some-2 : goal.returns-in_ok-push-in-Some-2
returns-in_ok-push-in-Some-2 c = λ line e.
    let names : chunk_in c.args.kept.now ≡ Some (c.in-Some.base, c.in-Some.code.items) = search rules in (
      [],
      sym (append-nil c.args._out.now.items),
      gathers_chunk c.args.self.now c.args.kept.now line c.in-Some.base c.in-Some.code c.push-in-Some.new.self c.push.new.self names e
          c.in_ok-push-in-Some-2.ensures.items c.in_ok-push-in-Some.ensures.items,
    )

pub returns-in_ok-push-in-None : goal.returns-in_ok-push-in-None
returns-in_ok-push-in-None c = λ line e.
    let names : chunk_in c.args.kept.now ≡ None = search rules in (
      [],
      sym (append-nil c.args._out.now.items),
      gathers_none c.args.self.now c.args.kept.now line c.push-in-None.new.self names e c.in_ok-push-in-None.ensures.items,
    )
