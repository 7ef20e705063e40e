use Rattle.nc_decode.proofs.fronts.FrontLaws.{exact, prefix_free, stop_first, has_its_length, depends_on_its_bytes, masks_only_before_next}
use Rattle.nc_decode.proofs.fronts.FrontLaws.{names_registers, masks_exactly, goes_on_after_prefix, never_barred, never_barred_at_front}
use Rattle.nc_decode.proofs.fronts.TransferBytes.{direct_begins}
use Rattle.nc_decode.proofs.law.law_of_fronts.Goals as goal

pub returns-clause-exact : goal.returns-clause-exact
returns-clause-exact c = exact

pub returns-clause-prefix_free : goal.returns-clause-prefix_free
returns-clause-prefix_free c = prefix_free

pub returns-clause-stop : goal.returns-clause-stop
returns-clause-stop c = stop_first

pub returns-clause-length : goal.returns-clause-length
returns-clause-length c = has_its_length

pub returns-clause-local : goal.returns-clause-local
returns-clause-local c = depends_on_its_bytes

pub returns-clause-masks : goal.returns-clause-masks
returns-clause-masks c = masks_only_before_next

pub returns-clause-registers : goal.returns-clause-registers
returns-clause-registers c = names_registers

pub returns-clause-exact_masks : goal.returns-clause-exact_masks
returns-clause-exact_masks c = masks_exactly

pub returns-clause-prefixes : goal.returns-clause-prefixes
returns-clause-prefixes c = goes_on_after_prefix

pub returns-clause-transfers : goal.returns-clause-transfers
returns-clause-transfers c = direct_begins

pub returns-clause-allowed : goal.returns-clause-allowed
returns-clause-allowed c = never_barred

pub returns-clause-allowed_at_front : goal.returns-clause-allowed_at_front
returns-clause-allowed_at_front c = never_barred_at_front
