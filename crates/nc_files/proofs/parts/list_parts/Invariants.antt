-- What is made of the segments so far goes on by what is made of the others, and the others have their bytes in the file.
use Rattle.std.proofs.Common.{◌≡◌, ◌++◌, All, map}
use Rattle.std.specs.Vec.Iter.{into_iter_items}
use Rattle.nc_elf.specs.Segments.{IsPlaced, bytes_of}
use Rattle.nc_files.specs.Parts.{bases_in, codes_in, names_in, part_name, labels_in, labels_of}
use Rattle.nc_files.proofs.parts.list_parts.Given as goal

abbrev pub invariant-loop-segment : goal.invariant-loop-segment
invariant-loop-segment l =
    (map (λ s. s.address) (into_iter_items l.initial.segment-iterator)
    ≡ bases_in l.parts.items ++ map (λ s. s.address) (into_iter_items l.segment-iterator))
    × (map (bytes_of l.file.code.items) (into_iter_items l.initial.segment-iterator)
    ≡ codes_in l.parts.items ++ map (bytes_of l.file.code.items) (into_iter_items l.segment-iterator))
    × (map (labels_of l.file.code.items l.symbols) (into_iter_items l.initial.segment-iterator)
    ≡ labels_in l.parts.items ++ map (labels_of l.file.code.items l.symbols) (into_iter_items l.segment-iterator))
    × (map (λ s. part_name l.format l.file.name.items s.address) (into_iter_items l.initial.segment-iterator)
    ≡ names_in l.parts.items ++ map (λ s. part_name l.format l.file.name.items s.address) (into_iter_items l.segment-iterator))
    × All (IsPlaced l.file.code.items) (into_iter_items l.segment-iterator)
