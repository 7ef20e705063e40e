use Rattle.std.proofs.Common.{◌≡◌, ◌+◌, ◌++◌, List, [], ℕ, length, refl, sym, ap, ◌∙◌, subst, arith}
use Rattle.nc_vet.specs.declared.fault.VetFault.{VetFault}
use Rattle.nc_report.specs.Further.{others_at, others_to}
use Rattle.nc_report.specs.Totals.{counts_to, total}
use Rattle.nc_report.specs.Report.{ReportsEach}
use Rattle.nc_report.specs.declared.totals.Counts.{Counts}
use Rattle.nc_report.specs.machinery.Added.{WritesOn}
use Rattle.nc_report.specs.machinery.CountedFault.{counted}
use Rattle.nc_report.proofs.Additions.{writes_none, writes_more, cut_here, cut_in}
use Rattle.nc_report.proofs.CountedFaults.{counts_more, total_small}
use Rattle.nc_report.proofs.FurtherTexts.{completed, reported_more, reported_there}
use Rattle.nc_report.proofs.QuietPlaces.{AreFaultless, others_over, counts_over}
use Rattle.nc_report.proofs.others.write_places.Goals as goal

pub loop-k-init : goal.loop-k-init
loop-k-init g c = record { within = omega arith; known = c.none_seen-seen.ensures c.args.judged.now.code.now; text = writes_none _ _ (ReportsEach c.args.format []) refl; counts = refl; short = λ before. before }

pub returns-in-Err-clause-cut : goal.returns-in-Err-clause-cut
returns-in-Err-clause-cut g c =
    let judged = c.args.judged.now in
    let code = judged.code.now in
    let faults = others_to judged.base judged.limit code c.args.classes.now c.args.own in
    cut_here _ _ _ _ (ReportsEach c.args.format (faults c.loop-k.k)) (ReportsEach c.args.format (faults (length code)))
    (completed c.args.format judged.base judged.limit code c.args.classes.now c.args.own c.loop-k.k (length code) c.loop-k.invariant.within)
    c.loop-k.invariant.text

pub returns-in-Err-write_much-clause-cut : goal.returns-in-Err-write_much-clause-cut
returns-in-Err-write_much-clause-cut g c =
    let judged = c.args.judged.now in
    let code = judged.code.now in
    let classes = c.args.classes.now in
    let k = c.loop-k.k in
    let faults = others_to judged.base judged.limit code classes c.args.own in
    cut_in _ _ _ _ _ _ c.in-Err-write_much.ensures.cut.0 (ReportsEach c.args.format (faults k))
    (ReportsEach c.args.format (others_at judged.base judged.limit code classes c.args.own k)) (ReportsEach c.args.format (faults (length code)))
    (λ a b h i. completed c.args.format judged.base judged.limit code classes c.args.own (k + 1) (length code) (omega (arith, c.loop-k-test.true)) (a ++ b)
    (reported_more c.args.format judged.base judged.limit code classes c.args.own k a b h i))
    c.loop-k.invariant.text
    (reported_there c.args.format judged.base judged.limit code classes c.args.own k c.fault_at-found.result c.other_than.result _ _ c.fault_at-found.ensures c.other_than.ensures c.in-Ok.ensures)
    c.in-Err-write_much.ensures.cut.1

pub loop-k-preserved : goal.loop-k-preserved
loop-k-preserved g c =
    let judged = c.args.judged.now in
    let base = judged.base in
    let limit = judged.limit in
    let code = judged.code.now in
    let classes = c.args.classes.now in
    let own = c.args.own in
    let k = c.loop-k.k in
    let next = c.next_fault-k.result in
    let low = c.next_fault-k.ensures.low in
    let faults = others_to base limit code classes own in
    let quiet : AreFaultless base limit code classes (k + 1) next
    = c.next_fault-k.ensures.faultless in
    let (part, appended, kept) = c.in-Ok-write_much.ensures.ok in
    record {
      within = c.next_fault-k.ensures.within;
      known = c.next_fault-k.ensures.known;
      text = writes_more _ _ _ _ _ _ _ part (ReportsEach c.args.format (faults k)) (ReportsEach c.args.format (others_at base limit code classes own k)) (ReportsEach c.args.format (faults next))
          (λ a b h i. subst (λ (fs : List VetFault). ReportsEach c.args.format fs (a ++ b)) (sym (others_over base limit code classes own (k + 1) next low quiet))
          (reported_more c.args.format base limit code classes own k a b h i))
          c.loop-k.invariant.text
          (reported_there c.args.format base limit code classes own k c.fault_at-found.result c.other_than.result _ _ c.fault_at-found.ensures c.other_than.ensures c.in-Ok.ensures)
          appended kept;
      counts = c.counted-counts.ensures ∙ ap (λ (x : Counts). counted x c.fault_at-found.result) c.loop-k.invariant.counts
          ∙ ap (counted (counts_to base limit code classes k)) c.fault_at-found.ensures ∙ counts_more base limit code classes k
          ∙ sym (counts_over base limit code classes (k + 1) next low quiet);
      short = λ before. c.in-Ok-write_much.ensures.short;
    }

pub returns-clause-ok : goal.returns-clause-ok
returns-clause-ok g c =
    let judged = c.args.judged.now in
    subst (λ (n : ℕ). WritesOn (g.W.Write.contents c.args.writer.now) (g.W.Write.contents c.loop-k.writer) c.args.out.now.items c.loop-k.out.items
    (ReportsEach c.args.format (others_to judged.base judged.limit judged.code.now c.args.classes.now c.args.own n))) (omega arith) c.loop-k.invariant.text

pub returns-clause-counts : goal.returns-clause-counts
returns-clause-counts g c =
    let judged = c.args.judged.now in
    let all : c.loop-k.k ≡ length judged.code.now = omega arith in
    c.loop-k.invariant.counts ∙ ap (counts_to judged.base judged.limit judged.code.now c.args.classes.now) all

pub counted-counts-requires : goal.counted-counts-requires
counted-counts-requires g c =
    let judged = c.args.judged.now in
    omega (arith, c.requires.span, ap total c.loop-k.invariant.counts, total_small judged.base judged.limit judged.code.now c.args.classes.now c.loop-k.k)
