use Rattle.std.proofs.Common.{◌≡◌, true, false, [], ◌∷◌, length, eqb-true, eq-eqb, refl, sym, ◌∙◌}
use Rattle.nc_region.specs.machinery.PatchSteps.{Begins}
use Rattle.nc_region.proofs.patching.Standing.{standing, runs_from, runs_to}
use Rattle.nc_region.proofs.patching.Runs.{begins_marked, run_of, run_begins, run_along, run_marked}
use Rattle.nc_region.proofs.patching.OneInstruction.{IsOne, piece_of, one_is, one_run}
use Rattle.nc_region.proofs.patch.judge.fits_single.Goals as goal

pub length_at-requires-clause-begins : goal.length_at-requires-clause-begins
length_at-requires-clause-begins g c =
    begins_marked (g.A.Acts.marked c.args.acts.now) c.args.chunk c.args.at c.requires.place.holds c.requires.place.from
    (λ e. c.is_marked.ensures.0 c.if-is_marked.true (c.requires.place.mark_is ∙ e))

pub returns-then-is_marked-clause-run : goal.returns-then-is_marked-clause-run
returns-then-is_marked-clause-run g c = λ yes.
    let marked = g.A.Acts.marked c.args.acts.now in
    let new = c.args.new.now in
    let i = c.args.instr in
    let o : IsOne c.args.new.now c.args.instr = record { first = c.requires.first; only = c.requires.only } in
    let b = begins_marked marked c.args.chunk c.args.at c.requires.place.holds c.requires.place.from
    (λ e. c.is_marked.ensures.0 c.if-is_marked.true (c.requires.place.mark_is ∙ e)) in
    let s = standing marked c.args.chunk c.args.at c.requires.place.whole b c.requires.place.from.1 in
    let long : length s.piece.bytes ≡ length new = sym s.len ∙ (sym (c.length_at.ensures s.piece.instr s.instr)
    ∙ (eqb-true _ _ yes ∙ (c.from.ensures ∙ c.requires.only))) in
    run_of marked c.args.chunk c.args.at new b (piece_of new i ∷ []) (one_is new i o)
    (runs_from b.rest (piece_of new i ∷ []) s.piece (piece_of new i) s.rest [] s.is refl long tt)

pub returns-then-is_marked-clause-none : goal.returns-then-is_marked-clause-none
returns-then-is_marked-clause-none g c = λ no run.
    let marked = g.A.Acts.marked c.args.acts.now in
    let new = c.args.new.now in
    let i = c.args.instr in
    let o : IsOne c.args.new.now c.args.instr = record { first = c.requires.first; only = c.requires.only } in
    let b : Begins (g.A.Acts.marked c.args.acts.now) c.args.chunk c.args.at = run_begins marked c.args.chunk c.args.at new run in
    let s = standing marked c.args.chunk c.args.at c.requires.place.whole b c.requires.place.from.1 in
    let x = one_run marked c.args.chunk c.args.at new i o run in
    let r = runs_to b.rest run.run.news s.piece (piece_of new i) s.rest [] s.is x.news
    (run_along marked c.args.chunk c.args.at new run).runs in
    let same : c.length_at.result ≡ c.from.result = c.length_at.ensures s.piece.instr s.instr
    ∙ (s.len ∙ (r.0 ∙ (sym c.requires.only ∙ sym c.from.ensures))) in
    let differ : true ≡ false = sym (eq-eqb _ _ same) ∙ no in
    cc

pub returns-else-is_marked-clause-none : goal.returns-else-is_marked-clause-none
returns-else-is_marked-clause-none g c = λ no run.
    let yes : c.is_marked.result ≡ true =
    c.is_marked.ensures.1 (λ e. run_marked (g.A.Acts.marked c.args.acts.now) c.args.chunk c.args.at c.args.new.now
    c.requires.place.whole c.requires.place.from run (sym c.requires.place.mark_is ∙ e)) in
    let differ : true ≡ false = sym yes ∙ no in
    cc
