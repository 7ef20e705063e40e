use Rattle.std.proofs.Common.{◌≡◌}
use Rattle.nc_elf.specs.machinery.Pass.{first_segments}
use Rattle.nc_elf.proofs.listing.list_segments.Given as goal

abbrev pub invariant-loop-number : goal.invariant-loop-number
invariant-loop-number l = l.segments.items ≡ first_segments l.file l.number
