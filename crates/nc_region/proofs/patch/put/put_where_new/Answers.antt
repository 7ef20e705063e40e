use Rattle.std.proofs.Common.{[], cond, Bool, sym, subst, ◌∙◌}
use Rattle.nc_acts.specs.Log.{Logs}
use Rattle.nc_region.specs.Patch.{log_of_instruction}
use Rattle.nc_acts.proofs.Offered.{logs_none}
use Rattle.nc_region.proofs.patching.Turns.{stands_same}
use Rattle.nc_region.proofs.patch.put.put_where_new.Goals as goal

pub returns-then-stands_there-clause-bytes : goal.returns-then-stands_there-clause-bytes
returns-then-stands_there-clause-bytes g c =
    let r = c.requires.replacing in
    stands_same (g.A.Acts.marked c.args.acts.now).bytes c.args.at c.args.bytes.now r.low r.high (sym c.stands_there.ensures
    ∙ c.if-stands_there.true)

pub returns-then-stands_there-clause-log : goal.returns-then-stands_there-clause-log
returns-then-stands_there-clause-log g c =
    subst (λ (z : Bool). Logs (g.A.Acts.logged c.args.acts.now) (g.A.Acts.logged c.args.acts.now)
    (cond z [] (log_of_instruction c.args.at c.args.bytes.now))) (sym (sym c.stands_there.ensures ∙ c.if-stands_there.true))
    (logs_none (g.A.Acts.logged c.args.acts.now))

pub put_instruction-requires : goal.put_instruction-requires
put_instruction-requires g c = c.requires

pub returns : goal.returns
returns g c = record {
  bytes = c.put_instruction.ensures.bytes;
  marks = c.put_instruction.ensures.marks;
  whole = c.put_instruction.ensures.whole;
  made = c.put_instruction.ensures.made;
  keeper = c.put_instruction.ensures.keeper;
  log = subst (λ (z : Bool). Logs (g.A.Acts.logged c.args.acts.now) (g.A.Acts.logged c.put_instruction.new.acts)
      (cond z [] (log_of_instruction c.args.at c.args.bytes.now)))
      (sym (sym c.stands_there.ensures ∙ c.if-stands_there.false)) c.put_instruction.ensures.log;
}
