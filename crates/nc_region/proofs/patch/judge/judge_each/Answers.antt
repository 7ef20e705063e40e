use Rattle.std.proofs.Common.{◌≡◌, true, false, sym, ◌∙◌}
use Rattle.nc_region.specs.Patch.{IsRun}
use Rattle.nc_region.proofs.patching.Runs.{run_along}
use Rattle.nc_region.proofs.patch.judge.judge_each.Goals as goal

pub returns-then-not-are_instructions-clause-refused : goal.returns-then-not-are_instructions-clause-refused
returns-then-not-are_instructions-clause-refused g c = λ news.
    let yes : c.are_instructions.result ≡ true = c.are_instructions.ensures.1 news in
    let differ : true ≡ false = sym yes ∙ c.if-not-are_instructions.true in
    cc

pub returns-then-not-fits-clause-refused : goal.returns-then-not-fits-clause-refused
returns-then-not-fits-clause-refused g c =
    (c.are_instructions.ensures.0 c.if-not-are_instructions.false, c.fits.ensures.none c.if-not-fits.true)

pub leaves_pairs-requires-clause-along : goal.leaves_pairs-requires-clause-along
leaves_pairs-requires-clause-along g c =
    run_along (g.A.Acts.marked c.args.acts.now) c.args.chunk c.args.at c.args.new.now (c.fits.ensures.run c.if-not-fits.false)

pub returns-then-not-leaves_pairs-clause-refused : goal.returns-then-not-leaves_pairs-clause-refused
returns-then-not-leaves_pairs-clause-refused g c = (
  c.fits.ensures.run c.if-not-fits.false,
  λ f.
      let a = run_along (g.A.Acts.marked c.args.acts.now) c.args.chunk c.args.at c.args.new.now f.0 in
      let yes : c.leaves_pairs.result ≡ true = (c.leaves_pairs.ensures.exact a.begins a.news a.bytes a.runs).1 f.1 in
      let differ : true ≡ false = sym yes ∙ c.if-not-leaves_pairs.true in
      cc,
)

pub returns-then-not-keeps_targets-clause-refused : goal.returns-then-not-keeps_targets-clause-refused
returns-then-not-keeps_targets-clause-refused g c =
    let run : IsRun (g.A.Acts.marked c.args.acts.now) c.args.chunk c.args.at c.args.new.now = c.fits.ensures.run c.if-not-fits.false in
    let a = run_along (g.A.Acts.marked c.args.acts.now) c.args.chunk c.args.at c.args.new.now run in (
      (run, (c.leaves_pairs.ensures.exact a.begins a.news a.bytes a.runs).0 c.if-not-leaves_pairs.false),
      λ f.
          let yes : c.keeps_targets.result ≡ true = (c.keeps_targets.ensures.exact f.0.holds f.0.run.news f.0.run.bytes).1 f.2 in
          let differ : true ≡ false = sym yes ∙ c.if-not-keeps_targets.true in
          cc,
    )

pub returns-clause-can : goal.returns-clause-can
returns-clause-can g c =
    let run : IsRun (g.A.Acts.marked c.args.acts.now) c.args.chunk c.args.at c.args.new.now = c.fits.ensures.run c.if-not-fits.false in
    let a = run_along (g.A.Acts.marked c.args.acts.now) c.args.chunk c.args.at c.args.new.now run in
    record {
      holds = run.holds;
      run = run.run;
      pairs = (c.leaves_pairs.ensures.exact a.begins a.news a.bytes a.runs).0 c.if-not-leaves_pairs.false;
      targets = (c.keeps_targets.ensures.exact run.holds run.run.news run.run.bytes).0 c.if-not-keeps_targets.false;
    }
