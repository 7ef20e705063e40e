use Rattle.std.proofs.Common.{refl}
use Rattle.nc_region.proofs.create.put_by_bits.Goals as goal

pub put_bundles-requires : goal.put_bundles-requires
put_bundles-requires g c =
    record {
      chunk = rw (c.requires.code, ← c.in-Some.ensures.marks) (rw c.requires.code at c.requires.can.chunk);
      unused = c.requires.can.unused;
      ready = c.requires.can.ready;
    }

pub returns-in-Some : goal.returns-in-Some
returns-in-Some g c =
    let done = c.put_bundles.ensures in
    record {
      marked = λ yes. rw (c.in-Some.ensures.marks, ← c.requires.code) (done.marked yes);
      log = λ yes. done.logged yes;
      unchanged = done.unchanged;
      made = done.made;
      whole = done.whole;
      keeper = done.keeper;
    }

pub returns-in-None-clause-unchanged : goal.returns-in-None-clause-unchanged
returns-in-None-clause-unchanged g c = λ no. (refl, refl)
