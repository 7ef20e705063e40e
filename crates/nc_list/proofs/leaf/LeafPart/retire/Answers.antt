use Rattle.std.proofs.Common.{◌≡◌, ℕ, ◌-◌, ◌≤◌, List, length, take, drop, sym, ap, ◌∙◌, subst, arith}
use Rattle.nc_list.specs.declared.chunk.Chunk.{Chunk}
use Rattle.nc_list.specs.declared.chunk.ChunkState.{ChunkState}
use Rattle.nc_list.specs.Chunks.{IsAscending, HasBase}
use Rattle.nc_list.specs.Stamps.{IsSince}
use Rattle.nc_list.specs.Parts.{BeginTo, BeginAbove}
use Rattle.nc_list.proofs.LowerBounds.{since_set}
use Rattle.nc_list.proofs.Finding.{last_has, retired_at, begins_set}
use Rattle.nc_list.proofs.leaf.LeafPart.retire.Goals as goal

pub invariant_of-self : goal.invariant_of-self
invariant_of-self c =
    let items : List Chunk = c.self.inside.entries.items in
    let i : ℕ = c.count_near-k.result - 1 in
    let found : Chunk = c.index-entry.result.now in
    let now : Chunk = c.retired.result in
    let same : now.base ≡ found.base = ap (λ (d : Chunk). d.base) c.retired.ensures in
    let since : IsSince c.args.stamp now.state =
    subst (λ (s : ChunkState). IsSince c.args.stamp s) (sym (ap (λ (d : Chunk). d.state) c.retired.ensures)) (omega arith) in (
      begins_set c.self.inside.first items i now found c.self.invariant.0 (same ∙ ap (λ (d : Chunk). d.base) c.index-entry.ensures),
      since_set c.min-self-inside.result c.self.inside.oldest c.args.stamp now items i (omega arith) (omega arith) since
          c.self.invariant.1,
    )

pub returns : goal.returns
returns c =
    let items : List Chunk = c.self.inside.entries.items in
    let k : ℕ = c.count_near-k.result in
    let found : Chunk = c.index-entry.result.now in
    let to : BeginTo c.args.base (take k items) = rw c.deref.ensures.value at c.count_near-k.ensures.below in
    let above : BeginAbove c.args.base (drop k items) = rw c.deref.ensures.value at c.count_near-k.ensures.above in
    let le : k ≤ length items = rw c.deref.ensures.value at c.count_near-k.ensures.bound in
    let last = last_has items k c.args.base found (subst (IsAscending 0) (sym c.self.view_is) c.requires.ascending) le to above
    (subst (λ (z : List Chunk). HasBase z c.args.base) (sym c.self.view_is) c.requires.base) in
    rw (c.retired.ensures, ← c.self.view_is)
    (retired_at items (k - 1) c.args.base c.args.stamp found (omega (arith, last.0, le)) c.index-entry.ensures
    (ap (λ (d : Chunk). d.base) c.index-entry.ensures ∙ last.1))
