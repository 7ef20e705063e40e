use Rattle.std.proofs.Common.{ℕ, rules, subst, sym, refl}
use Rattle.std.specs.Prelude.{Option, None, Contains}
use Rattle.nc_list.specs.declared.chunk.Chunk.{Chunk}
use Rattle.nc_region.specs.Region.{Region, IsRegion}
use Rattle.nc_region.proofs.Offered.{listed_there}
use Rattle.nc_histories.specs.Calls.{no_details}
use Rattle.nc_histories.specs.Histories.{LogsCall}
use Rattle.nc_host_handles.specs.RegionHandle.{RegionHandleState, CanEnd, HasEndedDeletion}
use Rattle.nc_host_handles.proofs.Reporting.{ends}
use Rattle.nc_host_handles.proofs.OneChunk.{one_of_base}
use Rattle.nc_host_handles.proofs.region_handle.RegionHandle.end_delete.Goals as goal

pub invariant_of-self : goal.invariant_of-self
invariant_of-self c = (search rules, c.self.invariant.1, tt)

pub returns-clause-ended : goal.returns-clause-ended
returns-clause-ended c =
    let old : Region = c.self.inside.region in
    let new : Region = c.delete.new.region in
    let begun : Chunk = c.in-Some.chunk in
    let live : Contains old.chunks begun = (subst (λ (o : Option Chunk). CanEnd o old) c.in-Some.is c.self.invariant.2).0.0 in
    let deleted = c.in-Ok.ensures.deleted in
    let there = listed_there old.chunks deleted.index deleted.chunk deleted.listed in
    let whole : IsRegion old.marked old.chunks = subst (λ (h : RegionHandleState). IsRegion h.region.marked h.region.chunks)
    (sym c.self.view_is) c.chunk_count-facts.ensures.region in
    let call = λ (seats : ℕ).
    let is = c.in-Ok.ensures.call seats in
    subst (λ (d : Chunk). LogsCall seats (record no_details { base = begun.base; len = d.length }) old new)
    (one_of_base old.marked old.chunks is.0 begun whole is.1 live is.2) is.3 in
    subst
    (λ (h : RegionHandleState). HasEndedDeletion h (record { region = new; passes = c.self.inside.passes.items; begun = None }) c.in-Ok.stamp)
    c.self.view_is
    (record {
      chunk = begun;
      begun = c.in-Some.is;
      deleted = deleted;
      same = one_of_base old.marked old.chunks deleted.chunk begun whole (deleted.index, there.0, there.1) live deleted.base_is;
      call = call;
      others = refl;
    })

pub returns-clause-pending : goal.returns-clause-pending
returns-clause-pending c = λ seats. ends seats _ _ c.in-Ok.stamp (returns-clause-ended c)
