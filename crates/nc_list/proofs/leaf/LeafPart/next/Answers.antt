use Rattle.std.proofs.Common.{◌≡◌, ℕ, ◌+◌, ◌-◌, ◌<◌, ◌≤◌, List, length, get_or, take, drop, sym, ap, subst, arith}
use Rattle.std.proofs.lemmas.List.{take_all}
use Rattle.nc_list.specs.declared.chunk.Chunk.{Chunk}
use Rattle.nc_list.specs.declared.chunk.ChunkState.TheVariants.{Live}
use Rattle.nc_list.specs.Chunks.{IsAscending, IsAboveAll}
use Rattle.nc_list.specs.Parts.{BeginTo, BeginAbove}
use Rattle.nc_list.proofs.Finding.{before_begun, up_to_ended, last_begun, later_above, next_at}
use Rattle.nc_list.proofs.leaf.LeafPart.next.Goals as goal
use Rattle.nc_list.proofs.leaf.LeafPart.next.Goals.{Joined-k-gt0, then-k-gt0+else-at-base, else-k-gt0}

pub returns-then-at-base-clause-found : goal.returns-then-at-base-clause-found
returns-then-at-base-clause-found c =
    let items : List Chunk = c.self.inside.entries.items in
    let k : ℕ = c.count_near-k.result in
    let found : Chunk = c.index-entry.result.now in
    let ascending : IsAscending 0 items = subst (IsAscending 0) (sym c.self.view_is) c.requires in
    let le : k ≤ length items = rw c.deref.ensures.value at c.count_near-k.ensures.bound in
    let to : BeginTo c.args.at (take k items) = rw c.deref.ensures.value at c.count_near-k.ensures.below in
    let begun = last_begun items k c.args.at found c.if-k-gt0.true le to in
    let same = ap (λ (d : Chunk). d.base) c.index-entry.ensures in
    rw (c.chunk.ensures, ← c.self.view_is)
    (next_at items (k - 1) c.args.at found (omega (arith, le)) c.index-entry.ensures
    (before_begun items (k - 1) c.args.at found ascending (omega (arith, le)) begun) (omega (arith, begun, same)))

-- the chunks counted up to the place end at or below it
ended : (c : Joined-k-gt0) → IsAboveAll c.args.at (take c.count_near-k.result c.self.inside.entries.items)
ended c =
    let items : List Chunk = c.self.inside.entries.items in
    let k : ℕ = c.count_near-k.result in
    let none : Chunk = record { base = 0; length = 0; state = Live } in
    let ascending : IsAscending 0 items = subst (IsAscending 0) (sym c.self.view_is) c.requires in
    let le : k ≤ length items = rw c.deref.ensures.value at c.count_near-k.ensures.bound in
    let to : BeginTo c.args.at (take k items) = rw c.deref.ensures.value at c.count_near-k.ensures.below in
    elim c.if-k-gt0.branch [
      | then-k-gt0+else-at-base w ↦
          let found : Chunk = w.index-entry.result.now in
          let same : found ≡ get_or items (k - 1) found = w.index-entry.ensures in
          up_to_ended items k c.args.at found ascending le
          (λ some. subst (λ (d : Chunk). d.base + d.length ≤ c.args.at) same
          (omega (
            arith,
            last_begun items k c.args.at found some le to,
            ap (λ (d : Chunk). d.base) same,
            w.base.ensures,
            w.length.ensures,
            w.if-at-base.false,
          )))
      | else-k-gt0 w ↦ up_to_ended items k c.args.at none ascending le (λ some. absurd (omega (arith, some, w.if-k-gt0.false)))
    ]

pub returns-then-k-len-clause-found : goal.returns-then-k-len-clause-found
returns-then-k-len-clause-found c =
    let items : List Chunk = c.self.inside.entries.items in
    let k : ℕ = c.count_near-k.result in
    let found : Chunk = c.index.result.now in
    let above : BeginAbove c.args.at (drop k items) = rw c.deref.ensures.value at c.count_near-k.ensures.above in
    let inside : k < length items = omega (arith, c.deref.ensures.len, ap (λ (z : List Chunk). length z) c.deref.ensures.value) in
    rw (c.chunk-then-k-len.ensures, ← c.self.view_is)
    (next_at items k c.args.at found inside c.index.ensures (ended (goal.at.returns-then-k-len-clause-found c).Joined-k-gt0)
    (omega (arith, later_above items k c.args.at k found (omega arith) inside above, ap (λ (d : Chunk). d.base) c.index.ensures)))

pub returns-clause-none : goal.returns-clause-none
returns-clause-none c _ =
    let items : List Chunk = c.self.inside.entries.items in
    let k : ℕ = c.count_near-k.result in
    let all : length items ≤ k = omega (arith, c.deref.ensures.len, ap (λ (z : List Chunk). length z) c.deref.ensures.value) in
    rw (← c.self.view_is)
    (subst (IsAboveAll c.args.at) (take_all k items all) (ended (goal.at.returns-clause-none c).Joined-k-gt0))
