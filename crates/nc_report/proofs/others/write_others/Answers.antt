use Rattle.std.proofs.Common.{◌≡◌, ◌++◌, List, ℕ, [], length, refl, sym, subst, ap, arith}
use Rattle.std.proofs.KnownBytes.{Appends-nil}
use Rattle.nc_output.specs.declared.detail.Format.{Format}
use Rattle.nc_reading.specs.declared.class.Class.{Class}
use Rattle.nc_reading.specs.Reading.{HasClasses}
use Rattle.nc_report.specs.declared.totals.Counts.{Counts}
use Rattle.nc_report.specs.Further.{others_to}
use Rattle.nc_report.specs.Totals.{counts_to, total}
use Rattle.nc_report.specs.Report.{about_all, Shows, Opens, ReportsEach, ReportsOthers, counts_text}
use Rattle.nc_output.specs.Adds.{Adds}
use Rattle.nc_report.proofs.Additions.{writes_after, writes_more, begun_later, cut_here}
use Rattle.nc_report.proofs.CountedFaults.{total_small}
use Rattle.nc_report.proofs.FurtherTexts.{ReportsFirst, ReportsLast, others_reported, others_completed}
use Rattle.nc_report.proofs.others.write_others.Goals as goal

-- the numbers, and what is shown after them, were added
last_added : (f : Format) (base limit : ℕ) (code out new : List ℕ) (classes : List Class) (counts : Counts)
    → counts ≡ counts_to base limit code classes (length code)
    → ((last : List ℕ) × Shows about_all f last × (new ≡ out ++ (counts_text f counts ++ last))) → Adds out new (ReportsLast f base limit code classes)
last_added f base limit code out new classes counts e (last, d, added) = record {
  text = counts_text f counts ++ last;
  says = (last, d, ap (λ (x : Counts). counts_text f x ++ last) e);
  added = added;
}

pub returns-in-Err-write_places-clause-cut : goal.returns-in-Err-write_places-clause-cut
returns-in-Err-write_places-clause-cut g c =
    let judged = c.args.judged.now in
    let f = c.args.format in
    let code = judged.code.now in
    let seen = c.deref-2.result.now in
    let classes = subst (HasClasses code) (sym c.deref-2.ensures.value) c.in-Ok.ensures in
    begun_later _ _ c.args.out.now.items _ (Opens f c.args.fault) (ReportsEach f (others_to judged.base judged.limit code seen c.args.own (length code)))
    (ReportsOthers f judged.base judged.limit code c.args.fault c.args.own)
    (λ a b o t. others_completed f judged.base judged.limit code seen c.args.fault c.args.own classes (a ++ b) (a, b, o, t, refl))
    c.in-Ok-push_opening.ensures c.in-Err-write_places.ensures.cut

pub push_last-requires : goal.push_last-requires
push_last-requires g c =
    let judged = c.args.judged.now in
    omega (
      arith,
      c.requires.span.high,
      c.requires.span.lawful,
      ap total c.in-Ok-write_places.ensures.counts,
      total_small judged.base judged.limit judged.code.now c.deref-2.result.now (length judged.code.now),
    )

pub returns-in-Ok-push_last-clause-ok : goal.returns-in-Ok-push_last-clause-ok
returns-in-Ok-push_last-clause-ok g c =
    let judged = c.args.judged.now in
    let f = c.args.format in
    let code = judged.code.now in
    let seen = c.deref-2.result.now in
    let classes = subst (HasClasses code) (sym c.deref-2.ensures.value) c.in-Ok.ensures in
    let Each = ReportsEach f (others_to judged.base judged.limit code seen c.args.own (length code)) in
    let First = ReportsFirst f judged.base judged.limit code seen c.args.fault c.args.own in
    writes_more _ _ _ c.args.out.now.items c.write_places.new.out.items _ _ [] First (ReportsLast f judged.base judged.limit code seen)
    (ReportsOthers f judged.base judged.limit code c.args.fault c.args.own)
    (others_reported f judged.base judged.limit code seen c.args.fault c.args.own classes)
    (writes_after _ _ c.args.out.now.items _ _ (Opens f c.args.fault) Each First (λ a b o t. (a, b, o, t, refl)) c.in-Ok-push_opening.ensures
    c.in-Ok-write_places.ensures.ok)
    (last_added f judged.base judged.limit code _ _ seen _ c.in-Ok-write_places.ensures.counts c.in-Ok-push_last.ensures)
    (Appends-nil _) refl

pub returns-clause-cut : goal.returns-clause-cut
returns-clause-cut g c =
    let judged = c.args.judged.now in
    let f = c.args.format in
    let code = judged.code.now in
    let seen = c.deref-2.result.now in
    let classes = subst (HasClasses code) (sym c.deref-2.ensures.value) c.in-Ok.ensures in
    let Each = ReportsEach f (others_to judged.base judged.limit code seen c.args.own (length code)) in
    let First = ReportsFirst f judged.base judged.limit code seen c.args.fault c.args.own in
    cut_here _ _ c.args.out.now.items _ First (ReportsOthers f judged.base judged.limit code c.args.fault c.args.own)
    (others_completed f judged.base judged.limit code seen c.args.fault c.args.own classes)
    (writes_after _ _ c.args.out.now.items _ _ (Opens f c.args.fault) Each First (λ a b o t. (a, b, o, t, refl)) c.in-Ok-push_opening.ensures
    c.in-Ok-write_places.ensures.ok)
