-- What an `NcVetted` owns.
use Rattle.std.specs.Prelude.{Option}
use Rattle.std.specs.Coded.{coded_option}
use Rattle.std.specs.Global.{Global}
use base.Fml.{Fml}
use base.Stored.{Coded}
use denote.RawPtr.{Ptr}
use Rattle.nc_host_handles.specs.contracts.vetted_handle.VettedHandle.{the_row}
use Rattle.nc_host_handles.specs.machinery.Pointer.{pointer_owns}

-- what an `NcVetted` owns: nothing if its pointer is null, else what a box with that pointer owns
abbrev pub may_own : Global → Ptr → Option the_row.Denot → Fml
may_own = pointer_owns the_row

abbrev pub may_coded : Coded (Option the_row.Denot)
may_coded = coded_option the_row.coded
