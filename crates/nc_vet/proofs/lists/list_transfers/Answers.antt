use Rattle.std.proofs.Common.{ℕ, ◌+◌, ◌*◌, length, refl, sym, subst, arith, inl, inr}
use Rattle.std.proofs.lemmas.Bool.{cases_eq}
use Rattle.std.proofs.lemmas.Nat.{ones-le}
use Rattle.nc_vet.specs.machinery.Lists.{AreListed}
use Rattle.nc_vet.proofs.PlaceLists.{listed_two}
use Rattle.nc_vet.proofs.lists.list_transfers.Goals as goal

pub loop-n-init : goal.loop-n-init
loop-n-init c = record {
  low = omega arith;
  within = omega arith;
  fresh = λ e. refl;
  room = omega arith;
  small = c.requires.small;
  listed = λ n k ge lt k-lt either. absurd (omega (arith, ge, lt));
}

pub loop-n-preserved : goal.loop-n-preserved
loop-n-preserved c = record {
  low = omega (arith, c.loop-n.invariant.low);
  within = omega arith;
  fresh = λ e. absurd (omega (arith, e, c.loop-n.invariant.low));
  room = omega (arith, c.add_places-count.ensures.count, ones-le 64 c.both-bits.result (omega (arith, c.both-bits.type_inv)));
  small = c.add_places-count.ensures.added.small (32 * length c.args.bundles.now) (omega arith) c.loop-n.invariant.small;
  listed = subst (λ (count : ℕ). AreListed c.args.bundles.now c.add_places-count.new.list count c.args.start (c.loop-n.n + 2))
      (sym c.add_places-count.ensures.count)
      (listed_two c.args.bundles.now c.loop-n.list c.add_places-count.new.list c.loop-n.count c.args.start c.loop-n.n c.both-bits.result
      c.both-bits.ensures.first c.both-bits.ensures.second c.add_places-count.ensures.added c.loop-n.invariant.listed);
}

pub overflow_add-n : goal.overflow_add-n
overflow_add-n c = omega (arith, c.loop-n.invariant.within, c.requires.fits)

pub returns-else-count : goal.returns-else-count
returns-else-count c = record {
  room = c.loop-n.invariant.room;
  more = elim (cases_eq c.loop-n.n c.args.start) [
    | inl is ↦ absurd (omega (arith, c.loop-n.invariant.fresh is, c.if-count.false))
    | inr other ↦ omega (arith, other, c.loop-n.invariant.low)
  ];
  within = c.loop-n.invariant.within;
  small = c.loop-n.invariant.small;
  listed = c.loop-n.invariant.listed;
}

pub returns-after-loop-n : goal.returns-after-loop-n
returns-after-loop-n c = record {
  room = c.loop-n.invariant.room;
  more = omega (arith, c.loop-n-test.false, c.requires.some);
  within = c.loop-n.invariant.within;
  small = c.loop-n.invariant.small;
  listed = c.loop-n.invariant.listed;
}
