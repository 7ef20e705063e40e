use Rattle.nc_elf.proofs.Fields.{field_from}
use Rattle.nc_elf.proofs.entries.name_field.Goals as goal

pub returns-clause-field : goal.returns-clause-field
returns-clause-field c = field_from _ c.args.entry.name c.min.result c.min-2.result c.min.ensures c.min-2.ensures
