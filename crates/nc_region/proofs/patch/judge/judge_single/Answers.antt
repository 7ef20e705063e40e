use Rattle.std.proofs.Common.{◌≡◌, true, false, [], ◌∷◌, sym, ◌∙◌, arith}
use Rattle.nc_decode.proofs.Offered.{has_its_length}
use Rattle.nc_region.proofs.patching.Runs.{run_begins}
use Rattle.nc_region.proofs.patching.OneInstruction.{IsOne, piece_of, one_is, one_run, one_leaves, one_keeps}
use Rattle.nc_region.proofs.patch.judge.judge_single.Goals as goal

pub returns-then-not-fits_single-clause-refused : goal.returns-then-not-fits_single-clause-refused
returns-then-not-fits_single-clause-refused g c =
    let o : IsOne c.args.new.now c.args.instr = record { first = c.requires.first; only = c.requires.only } in
    ((piece_of c.args.new.now c.args.instr ∷ [], one_is c.args.new.now c.args.instr o), c.fits_single.ensures.none c.if-not-fits_single.true)

pub spares_pair-requires-clause-begins : goal.spares_pair-requires-clause-begins
spares_pair-requires-clause-begins g c =
    run_begins (g.A.Acts.marked c.args.acts.now) c.args.chunk c.args.at c.args.new.now (c.fits_single.ensures.run c.if-not-fits_single.false)

pub spares_pair-requires-clause-some : goal.spares_pair-requires-clause-some
spares_pair-requires-clause-some g c =
    let own = has_its_length c.args.new.now c.args.instr c.requires.first in
    omega (arith, own.0, c.requires.only)

pub returns-then-not-spares_pair-clause-refused : goal.returns-then-not-spares_pair-clause-refused
returns-then-not-spares_pair-clause-refused g c =
    let marked = g.A.Acts.marked c.args.acts.now in
    let new = c.args.new.now in
    let i = c.args.instr in
    let o : IsOne c.args.new.now c.args.instr = record { first = c.requires.first; only = c.requires.only } in (
      c.fits_single.ensures.run c.if-not-fits_single.false,
      λ f.
          let x = one_run marked c.args.chunk c.args.at new i o f.0 in
          let one = c.spares_pair.ensures.exact (run_begins marked c.args.chunk c.args.at new f.0) x.old x.rest x.is x.long in
          let kept : c.spares_pair.result ≡ true = one.1 ((one_leaves marked c.args.chunk c.args.at new i f.0 x).1 f.1) in
          let differ : true ≡ false = sym kept ∙ c.if-not-spares_pair.true in
          cc,
    )

pub returns-then-not-spares_pair-clause-can : goal.returns-then-not-spares_pair-clause-can
returns-then-not-spares_pair-clause-can g c = tt

pub returns-then-not-goes_well-clause-refused : goal.returns-then-not-goes_well-clause-refused
returns-then-not-goes_well-clause-refused g c =
    let marked = g.A.Acts.marked c.args.acts.now in
    let new = c.args.new.now in
    let i = c.args.instr in
    let o : IsOne c.args.new.now c.args.instr = record { first = c.requires.first; only = c.requires.only } in
    let run = c.fits_single.ensures.run c.if-not-fits_single.false in
    let x = one_run marked c.args.chunk c.args.at new i o run in
    let one = c.spares_pair.ensures.exact (run_begins marked c.args.chunk c.args.at new run) x.old x.rest x.is x.long in (
      (run, (one_leaves marked c.args.chunk c.args.at new i run x).0 (one.0 c.if-not-spares_pair.false)),
      λ f.
          let y = one_run marked c.args.chunk c.args.at new i o f.0 in
          let good : c.goes_well.result ≡ true = (c.goes_well.ensures.exact f.0.holds).1
          ((one_keeps marked c.args.chunk c.args.at new i f.0 y).1 f.2) in
          let differ : true ≡ false = sym good ∙ c.if-not-goes_well.true in
          cc,
    )

pub returns-clause-can : goal.returns-clause-can
returns-clause-can g c =
    let marked = g.A.Acts.marked c.args.acts.now in
    let new = c.args.new.now in
    let i = c.args.instr in
    let o : IsOne c.args.new.now c.args.instr = record { first = c.requires.first; only = c.requires.only } in
    let run = c.fits_single.ensures.run c.if-not-fits_single.false in
    let x = one_run marked c.args.chunk c.args.at new i o run in
    let one = c.spares_pair.ensures.exact (run_begins marked c.args.chunk c.args.at new run) x.old x.rest x.is x.long in
    record {
      holds = run.holds;
      run = run.run;
      pairs = (one_leaves marked c.args.chunk c.args.at new i run x).0 (one.0 c.if-not-spares_pair.false);
      targets = (one_keeps marked c.args.chunk c.args.at new i run x).0 ((c.goes_well.ensures.exact run.holds).0 c.if-not-goes_well.false);
    }
