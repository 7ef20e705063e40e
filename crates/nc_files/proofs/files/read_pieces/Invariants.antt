-- What was read is the code so far, at least a byte for each read.
use Rattle.std.proofs.Common.{◌≤◌, length}
use Rattle.std.specs.Io.KnownBytes.{Consumes}
use Rattle.nc_files.proofs.files.read_pieces.Given as goal

abbrev pub invariant-loop : goal.invariant-loop
invariant-loop g l =
    Consumes (g.R.Read.remaining l.initial.reader) (g.R.Read.remaining l.reader) l.code.items
    × (l.counter ≤ length l.code.items) × (length l.code.items ≤ 67108864)
