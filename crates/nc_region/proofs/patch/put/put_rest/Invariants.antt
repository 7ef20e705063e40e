use Rattle.std.proofs.Common.{◌≡◌, ◌+◌, ◌∷◌, take}
use Rattle.nc_text.specs.MarkedText.{IsText}
use Rattle.nc_acts.specs.declared.acts.Entry.TheVariants.{Serialized}
use Rattle.nc_acts.specs.Acts.{puts_where}
use Rattle.nc_acts.specs.Log.{Logs, only_acts}
use Rattle.nc_region.specs.Patch.{any_place}
use Rattle.nc_text.specs.Puts.{HasPut}
use Rattle.nc_region.proofs.patch.put.put_rest.Given as goal

abbrev pub invariant-loop-i : goal.invariant-loop-i
invariant-loop-i g l =
    record {
      bytes : HasPut any_place (l.at + 1) l.rest l.i (g.A.Acts.marked l.fn.acts).bytes (g.A.Acts.marked l.acts).bytes;
      marks : (g.A.Acts.marked l.acts).marks ≡ (g.A.Acts.marked l.fn.acts).marks;
      whole : IsText (g.A.Acts.marked l.acts);
      made : g.A.Acts.made l.acts ≡ g.A.Acts.made l.fn.acts;
      keeper : g.A.Acts.keeper l.acts ≡ g.A.Acts.keeper l.fn.acts;
      log : Logs (g.A.Acts.logged l.fn.acts) (g.A.Acts.logged l.acts)
          (Serialized ∷ only_acts (puts_where any_place (l.at + 1) (take l.i l.rest)));
    }
