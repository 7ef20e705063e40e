use Rattle.std.proofs.Common.{List, All, AllPairs, Err, ap, sym, subst}
use Rattle.nc_elf.specs.declared.fault.ElfFault.{ElfFault}
use Rattle.nc_elf.specs.declared.listing.Segment.{Segment}
use Rattle.nc_elf.specs.Header.{e_phnum}
use Rattle.nc_elf.specs.Segments.{IsPlaced, EndsBefore}
use Rattle.nc_elf.specs.Faults.{HasElfFault}
use Rattle.nc_elf.proofs.Placed.{all_placed, all_apart}
use Rattle.nc_elf.proofs.OneFault.{found_is_due}
use Rattle.nc_elf.proofs.listing.code_segments.Goals as goal

pub returns-in-Err-clause-exact : goal.returns-in-Err-clause-exact
returns-in-Err-clause-exact c = λ fault named. (
  λ e. subst (λ (f : ElfFault). HasElfFault c.args.file.now f) (cc e) c.in-Err.ensures.fault,
  λ due. ap (λ (f : ElfFault). Err f) (found_is_due c.args.file.now c.in-Err.fault fault c.in-Err.ensures.fault due named),
)

pub returns-in-Ok-clause-placed : goal.returns-in-Ok-clause-placed
returns-in-Ok-clause-placed c =
    let file = c.args.file.now in
    subst (λ (xs : List Segment). All (IsPlaced file) xs) (sym c.in-Ok.ensures)
    (all_placed file (e_phnum file) c.in_default.ensures.fine.good)

pub returns-in-Ok-clause-apart : goal.returns-in-Ok-clause-apart
returns-in-Ok-clause-apart c =
    let file = c.args.file.now in
    subst (λ (xs : List Segment). AllPairs EndsBefore xs) (sym c.in-Ok.ensures)
    (all_apart file (e_phnum file) c.in_default.ensures.fine.good)
