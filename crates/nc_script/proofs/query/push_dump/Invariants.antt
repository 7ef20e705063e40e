-- The chunks so far are shown.
use Rattle.std.proofs.Common.{◌≡◌, ◌++◌, take, map}
use Rattle.std.specs.List.{flat_map}
use Rattle.nc_script.specs.machinery.Session.{script_chunk}
use Rattle.nc_script.specs.Replies.{chunk_words}
use Rattle.nc_script.proofs.query.push_dump.Given as goal

abbrev pub invariant-loop-i : goal.invariant-loop-i
invariant-loop-i g l =
    l.out.items ≡ l.initial.out.items ++ flat_map chunk_words (map (script_chunk l.region.marked.bytes) (take l.i l.region.chunks))
