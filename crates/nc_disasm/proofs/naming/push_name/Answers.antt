use Rattle.nc_disasm.proofs.Printable.{name_added}
use Rattle.nc_disasm.proofs.naming.push_name.Goals as goal

pub returns-clause-added : goal.returns-clause-added
returns-clause-added c =
    name_added c.extend_from_slice.result _ c.args.out.now.items c.args.name.now.text c.args.name.now.len
    c.extend_from_slice.ensures.items c.requires.printable c.requires.short
