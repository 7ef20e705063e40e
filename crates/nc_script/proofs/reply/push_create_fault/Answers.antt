use Rattle.std.proofs.Common.{◌≡◌, ◌++◌, ℕ, List, Result, Ok, Err, OnOk, cond, is_ok}
use Rattle.std.specs.Prelude.{codes}
use Rattle.nc_region.specs.declared.fault.CreateFault.{CreateFault}
use Rattle.nc_region.specs.declared.fault.CreateFault.TheVariants.{Occupied}
use Rattle.nc_output.specs.Verdicts.{with_line_end, refused_words}
use Rattle.nc_script.proofs.reply.push_create_fault.Goals as goal

-- the reply was added for a fault that is known
added_known : {T E : Type 0} (fault : CreateFault) (r : Result T E) (new old : List ℕ) → fault ≡ Occupied
    → new ≡ cond (is_ok r) (old ++ with_line_end (refused_words (codes "Occupied"))) old
    → OnOk r ((fault ≡ Occupied) × (new ≡ old ++ with_line_end (refused_words (codes "Occupied"))))
added_known fault (Ok x) new old known e = (known, e)
added_known fault (Err x) new old known e = tt

pub returns-in-Occupied : goal.returns-in-Occupied
returns-in-Occupied c =
    added_known c.args.fault c.extend_from_slice.result c.extend_from_slice.new.self.items c.args.out.now.items c.in-Occupied.is
    c.extend_from_slice.ensures.items
