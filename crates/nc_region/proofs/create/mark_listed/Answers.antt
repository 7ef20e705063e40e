use Rattle.std.proofs.Common.{◌∙◌, refl, arith}
use Rattle.std.proofs.lemmas.Grind.{common_steps}
use Rattle.nc_region.proofs.create.mark_listed.Goals as goal

pub mark_span-requires-2 : goal.mark_span-requires-2
mark_span-requires-2 g c =
    let list = c.deref.ensures.value ∙ c.listed-marks.ensures in
    let placed = c.requires.placed in
    record {
      inside = rw (list, c.requires.as_long) (λ k lt. (omega (arith, placed.low), omega (arith, placed.high, lt)));
      ready = rw (list, c.requires.as_long) c.requires.ready;
      registers = rw list c.requires.registers;
      keeps = rw list c.requires.keeps;
      closed = rw list c.requires.closed;
    }

pub returns : goal.returns
returns g c =
    let list = c.deref.ensures.value ∙ c.listed-marks.ensures in
    record {
      marked = c.mark_span-2.ensures.marked ∙ rw list refl;
      made = c.mark_span-2.ensures.made;
      whole = c.mark_span-2.ensures.whole;
      keeper = c.mark_span-2.ensures.keeper;
      logged = rw (list, c.requires.as_long) at c.mark_span-2.ensures.logged;
    }

pub mark_span-requires-clause-closed : goal.mark_span-requires-clause-closed
mark_span-requires-clause-closed g c = grind (arith, common_steps)
