use Rattle.std.proofs.Common.{◌≡◌, ℕ, ◌+◌, true, false, sym, ◌∙◌, ap, arith, refl, List, length, get_or}
use Rattle.nc_text.specs.Marks.{mark_at}
use Rattle.nc_region.specs.machinery.PatchSteps.{is_after}
use Rattle.nc_region.proofs.patching.Sparing.{stands_as, bytes_stay, stands_if}
use Rattle.nc_region.proofs.patch.judge.spares_pair.Goals as goal

pub returns-then-not-keeps_transfer : goal.returns-then-not-keeps_transfer
returns-then-not-keeps_transfer g c = record {
  exact = λ b old rest is long.
      let s = stands_as (g.A.Acts.marked c.args.acts.now) c.args.chunk c.args.at c.requires.whole b old rest is in (
        λ yes. absurd (let differ : true ≡ false = sym yes ∙ refl in cc),
        λ spares.
            let kept : c.keeps_transfer.result ≡ true =
            (c.keeps_transfer.ensures.exact old.instr (c.mark.ensures ∙ s.mark)).1 (spares.transfer, spares.register) in
            let differ : true ≡ false = sym kept ∙ c.if-not-keeps_transfer.true in
            absurd cc,
      );
}

pub returns-then-not-is_after : goal.returns-then-not-is_after
returns-then-not-is_after g c = record {
  exact = λ b old rest is long.
      let s = stands_as (g.A.Acts.marked c.args.acts.now) c.args.chunk c.args.at c.requires.whole b old rest is in
      let kept : c.keeps_transfer.result ≡ true = c.if-not-keeps_transfer.false in
      let keeps = (c.keeps_transfer.ensures.exact old.instr (c.mark.ensures ∙ s.mark)).0 kept in
      let len : c.from.result ≡ length old.bytes = c.from.ensures ∙ (c.requires.sized ∙ sym long) in (
        λ yes. record {
          mask = λ half.
              let is_half : is_after (mark_at (g.A.Acts.marked c.args.acts.now).marks (c.args.at + c.from.result)) ≡ true =
              (s.goes_on c.from.result len).1 half in
              let differ : true ≡ false = sym is_half ∙ (ap is_after (sym c.mark-2.ensures) ∙ (sym c.is_after.ensures
              ∙ c.if-not-is_after.true)) in
              absurd cc;
          transfer = keeps.0;
          register = keeps.1;
        },
        λ spares. refl,
      );
}

pub returns : goal.returns
returns g c = record {
  exact = λ b old rest is long.
      let s = stands_as (g.A.Acts.marked c.args.acts.now) c.args.chunk c.args.at c.requires.whole b old rest is in
      let kept : c.keeps_transfer.result ≡ true = c.if-not-keeps_transfer.false in
      let keeps = (c.keeps_transfer.ensures.exact old.instr (c.mark.ensures ∙ s.mark)).0 kept in
      let len : c.from.result ≡ length old.bytes = c.from.ensures ∙ (c.requires.sized ∙ sym long) in
      let not_plain : c.is_after.result ≡ true = c.if-not-is_after.false in
      let half = (s.goes_on c.from.result len).0 (ap is_after (sym c.mark-2.ensures) ∙ (sym c.is_after.ensures ∙ not_plain)) in (
        λ stands. record {
          mask = λ half.
              bytes_stay (g.A.Acts.marked c.args.acts.now).bytes c.args.at c.args.bytes.now old.bytes long s.bytes
              (sym c.stands_there.ensures ∙ stands);
          transfer = keeps.0;
          register = keeps.1;
        },
        λ spares.
            c.stands_there.ensures
            ∙ stands_if (g.A.Acts.marked c.args.acts.now).bytes c.args.at c.args.bytes.now
            (λ k lt. s.bytes k (omega (arith, lt, long)) ∙ ap (λ (z : List ℕ). get_or z k 0) (sym (spares.mask half))),
      );
}
