use Rattle.std.proofs.Common.{ℕ, refl, rules}
use Rattle.std.specs.Prelude.{◌↔◌, IsErrOf, IsTrue, false, Err}
use Rattle.nc_decode.specs.Bundles.{IsRegionSize}
use Rattle.nc_lines.specs.declared.fault.ReplayFault.{ReplayFault}
use Rattle.nc_lines.specs.declared.fault.ReplayFault.TheVariants.{BadSize}
use Rattle.nc_script.proofs.replay.run_in.Goals as goal

-- the refusal of a size is due
refuses_size : (bundles : ℕ) → (IsTrue false ↔ IsRegionSize bundles)
    → IsErrOf {T = Unit} {E = ReplayFault} (Err BadSize) BadSize ↔ ¬ IsRegionSize bundles
refuses_size bundles replied = (λ _. λ size. no (replied.1 size), λ _. refl)
  where
    no : IsTrue false → ⊥
    no e = cc

pub returns-then-not-is_region_size : goal.returns-then-not-is_region_size
returns-then-not-is_region_size g c = record {
  bad_size = refuses_size c.args.bundles c.if-not-is_region_size.ensures;
  bad_seats = (λ e. absurd cc, λ due. absurd ((refuses_size c.args.bundles c.if-not-is_region_size.ensures).0 refl due.0));
  no_workers = λ e. cc;
  untouched = λ _. (refl, refl);
  ok = tt;
  read = tt;
  write_failed = λ e. absurd cc;
  read_failed = λ e. absurd cc;
  out_of_memory = λ e. absurd cc;
}

pub returns-then-not-are_seats : goal.returns-then-not-are_seats
returns-then-not-are_seats g c = record {
  bad_size = search rules;
  bad_seats = search rules;
  no_workers = λ e. cc;
  untouched = λ _. (refl, refl);
  ok = tt;
  read = tt;
  write_failed = λ e. absurd cc;
  read_failed = λ e. absurd cc;
  out_of_memory = λ e. absurd cc;
}
