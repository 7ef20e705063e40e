-- The first classes of a bundle are written.
use Rattle.std.proofs.Common.{◌≡◌, ◌≤◌, ◌+◌, ◌-◌, ◌++◌, ℕ, List, length, take, replicate}
use Rattle.nc_vet.specs.States.{AreBundleStates}
use Rattle.nc_reading.specs.declared.class.Class.{Class}
use Rattle.nc_reading.specs.declared.class.Class.TheVariants.{Inside}
use Rattle.nc_reading.specs.machinery.FastPath.{bundle_classes}
use Rattle.nc_reading.proofs.fast_path.put_bundle.Given as goal

abbrev pub invariant-loop-k : goal.invariant-loop-k
invariant-loop-k l = record {
  put : (code : List ℕ) (front after : List Class) → l.at + 32 ≤ length code → AreBundleStates code l.at l.states
      → length front ≡ l.at → l.initial.classes ≡ front ++ (replicate 32 Inside ++ after)
      → l.classes ≡ front ++ (take l.k (bundle_classes code l.at) ++ (replicate (32 - l.k) Inside ++ after));
  long : length l.classes ≡ length l.initial.classes;
}
