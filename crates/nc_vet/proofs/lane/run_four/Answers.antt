use Rattle.std.proofs.Common.{◌≡◌, arith, rules}
use Rattle.nc_vet.proofs.BundleStates.{all_read}
use Rattle.nc_vet.proofs.lane.run_four.Goals as goal

pub loop-i-init : goal.loop-i-init
loop-i-init c = record {
  a = c.new-a.ensures _;
  b = c.new-b.ensures _;
  c = c.new-c.ensures _;
  d = c.new-d.ensures _;
}

pub loop-i-preserved : goal.loop-i-preserved
loop-i-preserved c = search rules

pub returns : goal.returns
returns c =
    let code = c.args.code.now in
    let room = c.requires.room in
    let i = c.loop-i.i in
    let all : i ≡ 32 = omega (arith, c.loop-i-test.false, c.loop-i.auto.i-end) in
    record {
      first = all_read code _ i _ _ (room 0 (omega arith)) all c.loop-i.invariant.a;
      second = all_read code _ i _ _ (room 1 (omega arith)) all c.loop-i.invariant.b;
      third = all_read code _ i _ _ (room 2 (omega arith)) all c.loop-i.invariant.c;
      fourth = all_read code _ i _ _ (room 3 (omega arith)) all c.loop-i.invariant.d;
    }
