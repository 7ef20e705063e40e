use Rattle.std.proofs.Common.{Bool, true, ◌≡◌, ℕ, ◌+◌, ◌-◌, ◌<◌, List, length, set, replicate, refl, arith, sym, subst, ap, ◌∙◌}
use Rattle.std.proofs.lemmas.List.{length-replicate, get_or-replicate}
use Rattle.nc_decode.specs.declared.instruction.Mark.{Mark}
use Rattle.nc_decode.specs.Bits.{mark_bit}
use Rattle.nc_text.specs.Marks.{IsClosed, mark_at}
use Rattle.nc_text.specs.Puts.{HasPut}
use Rattle.nc_text.specs.Ready.{IsReady}
use Rattle.nc_acts.specs.Acts.{marked_if}
use Rattle.nc_acts.proofs.SoFar.{none_yet, one_put, one_passed, all_logged, mark_chosen, mark_passed}
use Rattle.nc_text.proofs.Offered.{put_more}
use Rattle.nc_acts.proofs.acts.Acts.stop_where.Goals.{then-mark_bit-at_marked, else-mark_bit-at_marked}
use Rattle.nc_acts.proofs.acts.Acts.stop_where.Goals as goal

pub loop-i-init : goal.loop-i-init
loop-i-init g c =
    record {
      so_far = none_yet (marked_if c.args.at_marked (g.Self.Acts.marked c.args.self.now).marks) c.args.at (replicate c.args.len 244)
          (g.Self.Acts.marked c.args.self.now).bytes (g.Self.Acts.logged c.args.self.now);
      marks = refl;
      whole = c.limit-facts.ensures.whole;
      made = refl;
      keeper = refl;
    }

pub put-requires-clause-inside : goal.put-requires-clause-inside
put-requires-clause-inside g c =
    let here = c.requires.inside c.loop-i.i (omega (arith, c.loop-i-test.true)) in
    (omega (arith, here.0), omega (arith, here.1, c.loop-i.invariant.so_far.put.as_long))

pub put-requires-clause-ready : goal.put-requires-clause-ready
put-requires-clause-ready g c =
    subst (λ (made : List Bool). IsReady made (c.args.at + c.loop-i.i)) (sym c.loop-i.invariant.made)
    (c.requires.ready c.loop-i.i (omega (arith, c.loop-i-test.true)))

pub put-requires-clause-closed : goal.put-requires-clause-closed
put-requires-clause-closed g c =
    let i = c.loop-i.i in
    let lt : i < c.args.len = omega (arith, c.loop-i-test.true) in
    let here = c.requires.inside i lt in
    let first = c.requires.inside 0 (omega (arith, lt)) in
    let old = g.Self.Acts.marked c.args.self.now in
    let now = g.Self.Acts.marked c.loop-i.self in
    let chosen = marked_if c.args.at_marked old.marks in
    let stops : List ℕ = replicate c.args.len 244 in
    let bit : c.mark_bit.result ≡ mark_bit (mark_at old.marks (c.args.at + i)) =
    c.mark_bit.ensures ∙ ap mark_bit (c.mark.ensures ∙ ap (λ (marks : List Mark). mark_at marks (c.args.at + i)) c.loop-i.invariant.marks) in
    let is : chosen (c.args.at + i) ≡ true =
    mark_chosen c.args.at_marked old.marks (c.args.at + i) c.mark_bit.result bit c.if-mark_bit-at_marked.true in
    let put = subst (λ (b : ℕ). HasPut chosen c.args.at stops (i + 1) old.bytes (set now.bytes (c.args.at + i - 65536) b))
    (get_or-replicate {A = ℕ} c.args.len i 244 0 lt)
    (put_more chosen c.args.at stops i old.bytes now.bytes c.loop-i.invariant.so_far.put (omega (arith, first.0)) (omega (arith, here.1)) is) in
    subst (λ (marks : List Mark). IsClosed (set now.bytes (c.args.at + i - 65536) 244) marks) (sym c.loop-i.invariant.marks)
    (c.requires.closed (i + 1) (set now.bytes (c.args.at + i - 65536) 244) (omega (arith, lt, length-replicate {A = ℕ} c.args.len 244)) put)

pub loop-i-preserved : goal.loop-i-preserved
loop-i-preserved g c =
    let i = c.loop-i.i in
    let so = c.loop-i.invariant in
    let lt : i < c.args.len = omega (arith, c.loop-i-test.true) in
    let here = c.requires.inside i lt in
    let first = c.requires.inside 0 (omega (arith, lt)) in
    let marks = (g.Self.Acts.marked c.args.self.now).marks in
    let stops : List ℕ = replicate c.args.len 244 in
    let short : i < length stops = omega (arith, lt, length-replicate {A = ℕ} c.args.len 244) in
    let bit : c.mark_bit.result ≡ mark_bit (mark_at marks (c.args.at + i)) =
    c.mark_bit.ensures ∙ ap mark_bit (c.mark.ensures ∙ ap (λ (ms : List Mark). mark_at ms (c.args.at + i)) so.marks) in
    elim c.if-mark_bit-at_marked.branch [
      | then-mark_bit-at_marked w ↦ rw w.self-is (record {
        so_far = rw w.put.ensures.marked (one_put (marked_if c.args.at_marked marks) c.args.at stops i 244
            (g.Self.Acts.marked c.args.self.now).bytes (g.Self.Acts.marked c.loop-i.self).bytes
            (g.Self.Acts.logged c.args.self.now) (g.Self.Acts.logged c.loop-i.self) (g.Self.Acts.logged w.put.new.self)
            so.so_far (omega (arith, first.0)) (omega (arith, here.1)) short
            (mark_chosen c.args.at_marked marks (c.args.at + i) c.mark_bit.result bit w.if-mark_bit-at_marked.true)
            (get_or-replicate {A = ℕ} c.args.len i 244 0 lt) w.put.ensures.logged);
        marks = rw w.put.ensures.marked so.marks;
        whole = w.put.ensures.whole;
        made = w.put.ensures.made ∙ so.made;
        keeper = w.put.ensures.keeper ∙ so.keeper;
      })
      | else-mark_bit-at_marked w ↦ rw w.self-is (record {
        so_far = one_passed (marked_if c.args.at_marked marks) c.args.at stops i _ _ _ _ so.so_far short
            (mark_passed c.args.at_marked marks (c.args.at + i) c.mark_bit.result bit w.if-mark_bit-at_marked.false);
        marks = so.marks;
        whole = so.whole;
        made = so.made;
        keeper = so.keeper;
      })
    ]

pub returns-clause-bytes : goal.returns-clause-bytes
returns-clause-bytes g c =
    let end : c.loop-i.i ≡ c.args.len = omega arith in
    subst (λ (n : ℕ). HasPut (marked_if c.args.at_marked (g.Self.Acts.marked c.args.self.now).marks) c.args.at (replicate c.args.len 244) n
    (g.Self.Acts.marked c.args.self.now).bytes (g.Self.Acts.marked c.loop-i.self).bytes) end c.loop-i.invariant.so_far.put

pub returns-clause-logged : goal.returns-clause-logged
returns-clause-logged g c =
    all_logged (marked_if c.args.at_marked (g.Self.Acts.marked c.args.self.now).marks) c.args.at (replicate c.args.len 244) c.loop-i.i
    _ _ _ _ c.loop-i.invariant.so_far (omega (arith, length-replicate {A = ℕ} c.args.len 244))
