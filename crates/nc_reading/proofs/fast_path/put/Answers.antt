use Rattle.std.proofs.Common.{◌≤◌, ◌+◌, ◌==◌, ℕ, Option, None, cond, arith, sym, subst}
use Rattle.nc_decode.specs.declared.automaton.TheConstants.{END}
use Rattle.nc_reading.specs.machinery.Seen.{HasFilled}
use Rattle.nc_reading.proofs.BundleReading.{bundle_filled, state_at, none_masked_past}
use Rattle.nc_reading.proofs.fast_path.put.Goals as goal

pub returns-clause-read : goal.returns-clause-read
returns-clause-read c = λ code masked from room low bytes states filled.
    let at = c.args.at in
    let mask : ℕ → Option ℕ = λ n. cond (n == from) masked None in
    subst (λ (o : Option ℕ). HasFilled code (at + 32) o c.put_bundle.new.classes) (sym (none_masked_past from (at + 32) masked (omega (arith, low))))
    (bundle_filled code at (mask at) c.args.classes.now _ c.requires.start room bytes
    (subst (λ (s : ℕ). END ≤ s) (state_at code at c.args.states.now 32 states) c.if-states-lt-END.false)
    (λ front after n e. c.put_bundle.ensures.put code front after room states n e)
    (subst (λ (n : ℕ). HasFilled code n (mask n) c.args.classes.now) c.if-end-at.false filled))
