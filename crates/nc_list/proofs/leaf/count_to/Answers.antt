use Rattle.std.proofs.Common.{◌<◌, ◌≤◌, leb, leb-true, leb-false, arith, rules}
use Rattle.std.proofs.lemmas.List.Sorted.{IsPartitionPoint-from_clause, IsPartitionedBy-leb, IsNonDecreasingBy-from_default}
use Rattle.nc_list.specs.declared.chunk.Chunk.{Chunk}
use Rattle.nc_list.specs.declared.chunk.ChunkState.TheVariants.{Live}
use Rattle.nc_base.proofs.Offered.{each_take_from, each_drop_from}
use Rattle.nc_list.proofs.Ascending.{ascending_at}
use Rattle.nc_list.proofs.leaf.count_to.Goals as goal

pub returns-clause-below : goal.returns-clause-below
returns-clause-below c =
    let none : Chunk = record { base = 0; length = 0; state = Live } in
    let parted = IsPartitionedBy-leb (λ (d : Chunk). d.base) _ c.args.at
    (IsNonDecreasingBy-from_default (λ (d : Chunk). d.base) _ none (λ i j le lt. ascending_at 0 _ i j none c.requires le lt)) in
    let point = IsPartitionPoint-from_clause (λ (d : Chunk). leb d.base c.args.at) _ _ c.partition_point.ensures.partitioned parted
    (λ a r q k. search rules) in
    each_take_from (λ (d : Chunk). d.base ≤ c.args.at) _ c.args.entries.now none c.partition_point.ensures.bound
    (λ i lt. leb-true _ _ (point.0 i none (omega arith) lt))

pub returns-clause-above : goal.returns-clause-above
returns-clause-above c =
    let none : Chunk = record { base = 0; length = 0; state = Live } in
    let parted = IsPartitionedBy-leb (λ (d : Chunk). d.base) _ c.args.at
    (IsNonDecreasingBy-from_default (λ (d : Chunk). d.base) _ none (λ i j le lt. ascending_at 0 _ i j none c.requires le lt)) in
    let point = IsPartitionPoint-from_clause (λ (d : Chunk). leb d.base c.args.at) _ _ c.partition_point.ensures.partitioned parted
    (λ a r q k. search rules) in
    each_drop_from (λ (d : Chunk). c.args.at < d.base) _ c.args.entries.now none
    (λ i le lt. leb-false _ _ (point.1 i none le lt))
