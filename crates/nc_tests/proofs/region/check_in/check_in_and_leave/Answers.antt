use Rattle.std.proofs.Common.{◌≡◌, ℕ, List, ◌++◌, length, take, drop}
use Rattle.std.specs.Prelude.{All}
use Rattle.std.proofs.lemmas.List.Elements.{All-take, All-append, All-drop}
use Rattle.nc_gens.specs.declared.table.Pass.{Pass}
use Rattle.nc_tests.proofs.region.check_in.check_in_and_leave.Goals as goal

-- what holds of each pass holds once they are read out of the slice again
kept_back : (P : Pass → Type 0) (old new : List Pass) (n : ℕ) → All P old → All P new → All P (take n (new ++ drop (length new) old))
kept_back P old new n before now = All-take P n (new ++ drop (length new) old)
    (All-append P new (drop (length new) old) now (All-drop P (length new) old before))

pub last_leaves-requires-after_bounds : goal.last_leaves-requires-after_bounds
last_leaves-requires-after_bounds g c κs _ =
    let P : Pass → Type 0 = λ p. p.table ≡ c.args.shared.table in
    let before : All P c.args.passes.items = c.requires in
    kept_back P c.args.passes.items c.check_in_beside-freed.new.passes c.args.passes.len before c.check_in_beside-freed.ensures
