use Rattle.std.proofs.Common.{◌≡◌}
use Rattle.nc_text.specs.MarkedText.{IsText}
use Rattle.nc_acts.specs.Acts.{starts_if}
use Rattle.nc_acts.proofs.SoFar.{SoFar}
use Rattle.nc_acts.proofs.acts.Acts.put_where.Given as goal

abbrev pub invariant-loop-i : goal.invariant-loop-i
invariant-loop-i g l =
    record {
      so_far : SoFar (starts_if l.at_starts) l.at l.code l.i (g.Self.Acts.marked l.initial.self).bytes (g.Self.Acts.marked l.self).bytes
          (g.Self.Acts.logged l.initial.self) (g.Self.Acts.logged l.self);
      marks : (g.Self.Acts.marked l.self).marks ≡ (g.Self.Acts.marked l.initial.self).marks;
      whole : IsText (g.Self.Acts.marked l.self);
      made : g.Self.Acts.made l.self ≡ g.Self.Acts.made l.initial.self;
      keeper : g.Self.Acts.keeper l.self ≡ g.Self.Acts.keeper l.initial.self;
    }
