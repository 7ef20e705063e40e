use Rattle.std.proofs.Common.{Bool, ◌≡◌, ℕ, ◌+◌, ◌-◌, ◌<◌, List, length, get_or, set, refl, arith, sym, subst, ◌∙◌}
use Rattle.nc_decode.specs.declared.instruction.Mark.{Mark}
use Rattle.nc_text.specs.Marks.{IsClosed}
use Rattle.nc_text.specs.Puts.{HasPut}
use Rattle.nc_text.specs.Ready.{IsReady}
use Rattle.nc_acts.specs.Acts.{starts_if}
use Rattle.nc_acts.proofs.SoFar.{none_yet, one_put, one_passed, all_logged, start_chosen, start_passed}
use Rattle.nc_text.proofs.Offered.{put_more}
use Rattle.nc_acts.proofs.acts.Acts.put_where.Goals.{then-place-at_starts, else-place-at_starts}
use Rattle.nc_acts.proofs.acts.Acts.put_where.Goals as goal

pub loop-i-init : goal.loop-i-init
loop-i-init g c =
    record {
      so_far = none_yet (starts_if c.args.at_starts) c.args.at c.args.code.now (g.Self.Acts.marked c.args.self.now).bytes
          (g.Self.Acts.logged c.args.self.now);
      marks = refl;
      whole = c.limit-facts.ensures.whole;
      made = refl;
      keeper = refl;
    }

pub put-requires-clause-inside : goal.put-requires-clause-inside
put-requires-clause-inside g c =
    let here = c.requires.inside c.loop-i.i (omega (arith, c.loop-i-test.true)) in
    (omega (arith, here.0), omega (arith, here.1, c.loop-i.invariant.so_far.put.as_long))

pub put-requires-clause-ready : goal.put-requires-clause-ready
put-requires-clause-ready g c =
    subst (λ (made : List Bool). IsReady made (c.args.at + c.loop-i.i)) (sym c.loop-i.invariant.made)
    (c.requires.ready c.loop-i.i (omega (arith, c.loop-i-test.true)))

pub put-requires-clause-closed : goal.put-requires-clause-closed
put-requires-clause-closed g c =
    let i = c.loop-i.i in
    let here = c.requires.inside i (omega (arith, c.loop-i-test.true)) in
    let old = g.Self.Acts.marked c.args.self.now in
    let now = g.Self.Acts.marked c.loop-i.self in
    let next = set now.bytes (c.args.at + i - 65536) (get_or c.args.code.now i 0) in
    let first = c.requires.inside 0 (omega (arith, c.loop-i-test.true)) in
    subst (λ (marks : List Mark). IsClosed next marks) (sym c.loop-i.invariant.marks)
    (c.requires.closed (i + 1) next (omega (arith, c.loop-i-test.true))
    (put_more (starts_if c.args.at_starts) c.args.at c.args.code.now i old.bytes now.bytes c.loop-i.invariant.so_far.put
    (omega (arith, first.0)) (omega (arith, here.1)) (start_chosen c.args.at_starts (c.args.at + i) c.if-place-at_starts.true)))

pub loop-i-preserved : goal.loop-i-preserved
loop-i-preserved g c =
    let i = c.loop-i.i in
    let so = c.loop-i.invariant in
    let lt : i < length c.args.code.now = omega (arith, c.loop-i-test.true) in
    let here = c.requires.inside i lt in
    let first = c.requires.inside 0 (omega (arith, lt)) in
    elim c.if-place-at_starts.branch [
      | then-place-at_starts w ↦ rw w.self-is (record {
        so_far = rw w.put.ensures.marked (one_put (starts_if c.args.at_starts) c.args.at c.args.code.now i
            (get_or c.args.code.now i 0) (g.Self.Acts.marked c.args.self.now).bytes (g.Self.Acts.marked c.loop-i.self).bytes
            (g.Self.Acts.logged c.args.self.now) (g.Self.Acts.logged c.loop-i.self) (g.Self.Acts.logged w.put.new.self)
            so.so_far (omega (arith, first.0)) (omega (arith, here.1)) lt
            (start_chosen c.args.at_starts (c.args.at + i) w.if-place-at_starts.true) refl w.put.ensures.logged);
        marks = rw w.put.ensures.marked so.marks;
        whole = w.put.ensures.whole;
        made = w.put.ensures.made ∙ so.made;
        keeper = w.put.ensures.keeper ∙ so.keeper;
      })
      | else-place-at_starts w ↦ rw w.self-is (record {
        so_far = one_passed (starts_if c.args.at_starts) c.args.at c.args.code.now i _ _ _ _ so.so_far lt
            (start_passed c.args.at_starts (c.args.at + i) w.if-place-at_starts.false);
        marks = so.marks;
        whole = so.whole;
        made = so.made;
        keeper = so.keeper;
      })
    ]

pub returns-clause-bytes : goal.returns-clause-bytes
returns-clause-bytes g c =
    let end : c.loop-i.i ≡ length c.args.code.now = omega arith in
    subst (λ (n : ℕ). HasPut (starts_if c.args.at_starts) c.args.at c.args.code.now n (g.Self.Acts.marked c.args.self.now).bytes
    (g.Self.Acts.marked c.loop-i.self).bytes) end c.loop-i.invariant.so_far.put

pub returns-clause-logged : goal.returns-clause-logged
returns-clause-logged g c =
    all_logged (starts_if c.args.at_starts) c.args.at c.args.code.now c.loop-i.i _ _ _ _ c.loop-i.invariant.so_far (omega arith)
