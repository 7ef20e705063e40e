-- Machinery of the proofs, cited by no public contract: values without the location of their bytes in memory.
use Rattle.nc_script.specs.Requests as spec
use Rattle.nc_script.specs.declared.request.Request.{Request}
use Rattle.nc_script.specs.declared.request.Request.TheVariants.{Create, Modify, Delete, CheckIn, Leave, Reclaim, Walk, Query}

-- a request, without the location of its bytes in memory
abbrev pub shown : Request → spec.Request
shown (Create at bytes) = spec.Create at bytes.items
shown (Modify at bytes) = spec.Modify at bytes.items
shown (Delete base) = spec.Delete base
shown (CheckIn seat) = spec.CheckIn seat
shown (Leave seat) = spec.Leave seat
shown Reclaim = spec.Reclaim
shown (Walk start choices) = spec.Walk start choices.items
shown (Query query) = spec.Query query
