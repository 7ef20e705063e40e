use Rattle.std.proofs.Common.{Err, ap, subst, rules}
use Rattle.nc_elf.specs.declared.fault.ElfFault.{ElfFault}
use Rattle.nc_elf.specs.declared.fault.LoadedFault.TheVariants.{Refused}
use Rattle.nc_elf.specs.Header.{e_phnum}
use Rattle.nc_elf.specs.Faults.{HasElfFault}
use Rattle.nc_elf.proofs.Loadable.{all_loadable, all_below}
use Rattle.nc_elf.proofs.OneFault.{found_is_due}
use Rattle.nc_elf.proofs.loaded.loaded_segments.Goals as goal

pub returns-in-Err-clause-exact : goal.returns-in-Err-clause-exact
returns-in-Err-clause-exact c = λ fault named. (
  λ e. subst (λ (f : ElfFault). HasElfFault c.args.file.now f) (cc e) c.in-Err.ensures.fault,
  λ due. ap (λ (f : ElfFault). Err (Refused f)) (found_is_due c.args.file.now c.in-Err.fault fault c.in-Err.ensures.fault due named),
)

pub returns-clause-loadable : goal.returns-clause-loadable
returns-clause-loadable c = all_loadable c.args.file.now (e_phnum c.args.file.now) c.in_default.ensures.fine.good

pub returns-clause-apart : goal.returns-clause-apart
returns-clause-apart c = all_below c.args.file.now (e_phnum c.args.file.now) c.in_default.ensures.fine.good

pub returns-then-count-room-clause-fault : goal.returns-then-count-room-clause-fault
returns-then-count-room-clause-fault c = search rules
