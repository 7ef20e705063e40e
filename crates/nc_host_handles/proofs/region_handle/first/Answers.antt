use Rattle.std.proofs.Common.{◌≡◌, ◌+◌, ◌*◌, refl, ap, sym, ◌∙◌}
use Rattle.atomic_table.specs.Seated.{TableId}
use Rattle.nc_gens.specs.Seen.{KeeperState, first_keeper, new_passes}
use Rattle.nc_region.specs.Region.{Region}
use Rattle.nc_acts.specs.Plain.{PlainState}
use Rattle.nc_host_handles.proofs.region_handle.first.Goals as goal

pub over-region-requires : goal.over-region-requires
over-region-requires c =
    (0x10000 + 32 * c.args.bundles, c.requires.lawful, ap (λ (p : PlainState). p.marked) c.new-3.ensures ∙ c.in-Ok.ensures.marked)

pub returns : goal.returns
returns c =
    let region = c.over-region.ensures in
    let owned = c.new-3.ensures in
    let keeper : c.over-region.result.keeper ≡ first_keeper c.in-Ok-new.gens c.args.seats =
    ap (λ (r : Region). r.keeper) region ∙ (ap (λ (p : PlainState). p.keeper) owned ∙ c.in-Ok-new.ensures.keeper) in
    let table = sym (ap (λ (k : KeeperState). k.table) keeper) in
    record {
      numbers = c.requires.seats;
      lawful = c.requires.lawful;
      marked = ap (λ (r : Region). r.marked) region ∙ (ap (λ (p : PlainState). p.marked) owned ∙ c.in-Ok.ensures.marked);
      made = ap (λ (r : Region). r.made) region ∙ (ap (λ (p : PlainState). p.made) owned ∙ c.in-Ok.ensures.made);
      chunks = ap (λ (r : Region). r.chunks) region;
      keeper = keeper ∙ ap (λ (t : TableId). first_keeper t c.args.seats) table;
      logged = ap (λ (r : Region). r.logged) region ∙ ap (λ (p : PlainState). p.entries) owned;
      passes = c.in-Ok-new.ensures.passes ∙ ap (λ (t : TableId). new_passes t c.args.seats) table;
      begun = refl;
    }
