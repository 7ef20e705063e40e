use Rattle.std.proofs.Common.{◌≡◌, true, false, sym, ◌∙◌}
use Rattle.nc_region.proofs.patching.Runs.{begins_marked, run_of, run_along, run_marked}
use Rattle.nc_region.proofs.patch.judge.fits.Goals as goal

pub fits_from-requires-clause-begins : goal.fits_from-requires-clause-begins
fits_from-requires-clause-begins g c =
    begins_marked (g.A.Acts.marked c.args.acts.now) c.args.chunk c.args.at c.requires.holds c.requires.from
    (λ e. c.is_marked.ensures.0 c.if-not-is_marked.false (c.mark.ensures ∙ e))

pub returns-then-not-is_marked-clause-none : goal.returns-then-not-is_marked-clause-none
returns-then-not-is_marked-clause-none g c = λ no run.
    let yes : c.is_marked.result ≡ true =
    c.is_marked.ensures.1 (λ e. run_marked
    (g.A.Acts.marked c.args.acts.now) c.args.chunk c.args.at c.args.new.now c.requires.whole c.requires.from run
    (sym c.mark.ensures ∙ e)) in
    let differ : true ≡ false = sym yes ∙ c.if-not-is_marked.true in
    cc

pub returns-clause-run : goal.returns-clause-run
returns-clause-run g c = λ yes.
    let marked = g.A.Acts.marked c.args.acts.now in
    let some = c.requires.some in
    let b = begins_marked marked c.args.chunk c.args.at c.requires.holds c.requires.from
    (λ e. c.is_marked.ensures.0 c.if-not-is_marked.false (c.mark.ensures ∙ e)) in
    run_of marked c.args.chunk c.args.at c.args.new.now b some.0 some.1 ((c.fits_from.ensures.exact b some.0 some.1).0 yes)

pub returns-clause-none : goal.returns-clause-none
returns-clause-none g c = λ no run.
    let marked = g.A.Acts.marked c.args.acts.now in
    let a = run_along marked c.args.chunk c.args.at c.args.new.now run in
    let yes : c.fits_from.result ≡ true = (c.fits_from.ensures.exact a.begins a.news a.bytes).1 a.runs in
    let differ : true ≡ false = sym yes ∙ no in
    cc
