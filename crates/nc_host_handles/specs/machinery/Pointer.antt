-- What a C struct with a pointer owns: nothing, or the same as a box.
use Rattle.std.specs.Prelude.{Option, Some, None}
use Rattle.std.specs.Box.Ownership.{box_owns}
use Rattle.std.specs.Global.{Global}
use Rattle.std_heap.specs.contracts.GlobalAllocator.TheImpl.{ghosts}
use base.Fml.{Fml, feq}
use denote.RattleType.{RattleType}
use denote.RawPtr.{Ptr, null_ptr}

-- nothing if the pointer is null, else what a box with this pointer owns, for a value of this type
abbrev pub pointer_owns : (target : RattleType) → Global → Ptr → Option target.Denot → Fml
pointer_owns target alloc at None = feq Ptr at null_ptr
pointer_owns target alloc at (Some value) = box_owns (ghosts.dealloc_token alloc) target at value
