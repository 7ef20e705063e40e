-- The chunks that are due, and what a reclaim leaves.
use Rattle.std.proofs.Common.{◌++◌, ◌≡◌, ℕ, ◌+◌, ◌≤◌, Bool, true, List, [], ◌∷◌, length}
use Rattle.std.proofs.Common.{arith, refl, ◌∙◌, ap, subst}
use Rattle.nc_text.specs.MarkedText.{MarkedText, without_marks}
use Rattle.nc_list.specs.declared.chunk.Chunk.{Chunk}
use Rattle.nc_list.specs.declared.chunk.ChunkState.{ChunkState}
use Rattle.nc_list.specs.declared.chunk.ChunkState.TheVariants.{Live, Retired}
use Rattle.nc_acts.specs.declared.acts.Act.TheVariants.{Look}
use Rattle.nc_acts.specs.declared.acts.Entry.{Entry}
use Rattle.nc_acts.specs.declared.acts.Entry.TheVariants.{Did}
use Rattle.nc_acts.specs.Chunks.{HasGoodSpan}
use Rattle.nc_base.specs.Each.{Each}
use Rattle.nc_region.specs.Region.{Region, IsLive, IsAscending, told}
use Rattle.nc_gens.specs.Seen.{HasLooked, least_number}
use Rattle.nc_acts.specs.Log.{Logs, only_acts}
use Rattle.nc_region.specs.Deletion.{is_due, freed, kept, unmarked, unmarkings, IsReclaimed}
use Rattle.nc_acts.proofs.Offered.{logs_more, told_logged, acts_back}

-- what is due isn't live
pub due_dead : (least : ℕ) (s : ChunkState) → is_due least s ≡ true → IsLive s → ⊥
due_dead least Live is live = absurd cc
due_dead least (Retired stamp) is live = live

-- unmarking changes no byte
pub unmarked_bytes : (marked : MarkedText) (done : List Chunk) → (unmarked marked done).bytes ≡ marked.bytes
unmarked_bytes marked [] = refl
unmarked_bytes marked (d ∷ done) = unmarked_bytes (without_marks marked d.base d.length) done

-- a list of chunks below a limit is no longer than the places there
pub few : (limit from : ℕ) (chunks : List Chunk) → IsAscending from chunks → Each (λ (c : Chunk). HasGoodSpan c.base limit c.length) chunks
    → from ≤ limit → from + length chunks ≤ limit
few limit from [] ascending placed le = omega (arith, le)
few limit from (c ∷ rest) ascending placed le =
    omega (arith, ascending.0, placed.0.some, few limit (c.base + c.length) rest ascending.1 placed.1 (omega (arith, placed.0.high)))

-- a region with these pages
abbrev with_pages : Region → List Bool → Region
with_pages r made =
    record { marked = r.marked; made = made; chunks = r.chunks; keeper = r.keeper; logged = r.logged }

-- what reclaiming leaves, by its parts
pub reclaimed_is : (old new : Region) (halfway : List Entry) (count least : ℕ)
    → HasLooked old.keeper new.keeper
    → least ≡ least_number new.keeper.numbers
    → new.chunks ≡ kept least old.chunks → count ≡ length (freed least old.chunks)
    → new.marked ≡ unmarked old.marked (freed least old.chunks) → new.made ≡ old.made
    → Logs old.logged halfway (Did Look ∷ []) → Logs halfway new.logged (only_acts (unmarkings (freed least old.chunks)))
    → IsReclaimed old new count
reclaimed_is old new halfway count least looked is chunks count_is marked made look rest =
    let acts = Look ∷ unmarkings (freed least old.chunks) in
    let log : Logs old.logged new.logged (only_acts acts) =
    logs_more old.logged halfway new.logged (Did Look ∷ []) (only_acts (unmarkings (freed least old.chunks))) look rest in
    record {
      looked = looked;
      chunks = chunks ∙ ap (λ (n : ℕ). kept n old.chunks) is;
      count_is = count_is ∙ ap (λ (n : ℕ). length (freed n old.chunks)) is;
      marked = marked ∙ ap (λ (n : ℕ). unmarked old.marked (freed n old.chunks)) is;
      bytes = ap (λ (m : MarkedText). m.bytes) marked ∙ unmarked_bytes old.marked (freed least old.chunks);
      others = ap (λ (d : List Bool). with_pages new d) made;
      acts = subst (λ (n : ℕ). told new ≡ told old ++ Look ∷ unmarkings (freed n old.chunks)) is
          (told_logged old.logged new.logged (only_acts acts) acts (acts_back acts) log);
      log = subst (λ (n : ℕ). Logs old.logged new.logged (only_acts (Look ∷ unmarkings (freed n old.chunks)))) is log;
    }
