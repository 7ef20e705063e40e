-- A value that a call takes out of a handle, changes and puts back.
use Rattle.std.proofs.Common.{◌≡◌, Some, ◌∙◌, sym, ap}
use Rattle.std.specs.Prelude.{Option}
use Rattle.nc_host.specs.Handles.{IsDone}

-- the value that was taken is the one that the handle had, by whatever name
pub had_before : {X : Type 0} {old : Option X} {taken before : X} → old ≡ Some taken → before ≡ taken → old ≡ Some before
had_before {X} {old} {taken} {before} had same = had ∙ ap (λ (x : X). Some x) (sym same)

-- the handle had a value and has one, and what the call did holds between the two
pub is_done : {X : Type 0} {old new : Option X} {taken before after : X} (step : X → X → Type 0) → old ≡ Some taken → before ≡ taken
    → new ≡ Some after → step before after → IsDone old new step
is_done {X} {old} {new} {taken} {before} {after} step had same has did =
    record { before = before; after = after; had = had_before had same; has = has; did = did }
