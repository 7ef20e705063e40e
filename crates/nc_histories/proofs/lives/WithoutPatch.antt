-- A chunk's life without a patch.
use Rattle.std.proofs.Common.{◌≡◌, ℕ, ◌+◌, ◌-◌, ◌/◌, false, List, [], ◌∷◌, ◌++◌, length}
use Rattle.std.proofs.Common.{arith, refl, sym, ap, subst}
use Rattle.std.proofs.lemmas.List.{length-replicate}
use Rattle.std.proofs.lemmas.List.Elements.{All-nil}
use Rattle.nc_vet.specs.Chunk.{MarkedChunk, IsValid}
use Rattle.nc_text.specs.Machine.{State, Joined}
use Rattle.nc_text.specs.MarkedText.{MarkedText}
use Rattle.nc_text.specs.Ready.{unmade_pages}
use Rattle.nc_gens.specs.Seen.{KeeperState, first_keeper}
use Rattle.nc_gens.proofs.Offered.{no_steps}
use Rattle.nc_region.specs.schedules.Events.{Event}
use Rattle.nc_region.specs.Region.{Region, IsCreated}
use Rattle.nc_region.proofs.Offered.{created_region, created_at, pages_made, pages_get_ready}
use Rattle.nc_histories.specs.Interleaving.{IsKeepers}
use Rattle.nc_histories.specs.Histories.{Turn, AreTurns, IsHistory, happened, region_at_end}
use Rattle.nc_histories.specs.Example.{first_region, start_of, last_of, ThreadIsIn, IsLife}
use Rattle.nc_histories.proofs.AllTurns.{text_at_end}
use Rattle.nc_histories.proofs.lives.LastTurns.{Ended, Begun, ended}
use Rattle.nc_histories.proofs.lives.FirstTurn.{creation_events, creation_steps, stage_created, fresh, same_created, creation_turn, creation_is_turn, creates_around}
use Rattle.nc_histories.proofs.lives.FirstTurn.{lies_in, bytes_back, marks_back}

-- the chunk has a life along each path through this text that begins at its base
abbrev pub HasLives : MarkedChunk → KeeperState → Turn → List Turn → List ℕ → Type 0
HasLives v keeper creation between text = (path : List State) → Joined text (start_of v) path → IsLife v keeper creation between path

-- a history that begins with a new region
pub history_of : (v : MarkedChunk) (keeper : KeeperState) (turns : List Turn) → IsValid v
    → AreTurns v.limit 1 [] (first_region v.limit (fresh keeper)) turns
    → IsHistory v.limit 1 [] (first_region v.limit (fresh keeper)) turns
history_of v keeper turns valid are = record {
  lawful = valid.range.0;
  keepers = All-nil IsKeepers;
  threads = tt;
  keeper = no_steps (fresh keeper) (fresh keeper) refl;
  order = λ _. ([], refl);
  in_range = omega arith;
  marked = refl;
  chunks = refl;
  turns_are = are;
}

-- a creation, turns after it and the last turns are a chunk's life
pub life_of : (v : MarkedChunk) (keeper : KeeperState) (created : Region) (between : List Turn) (before : List Event) (path : List State)
    → IsValid v → IsCreated (first_region v.limit (fresh keeper)) created v → (e : Ended v before (region_at_end created between) path)
    → AreTurns v.limit 1 [] (first_region v.limit (fresh keeper)) (creation_turn v created ∷ (between ++ e.deletion ∷ e.reclaim ∷ []))
    → ThreadIsIn v.limit (happened [] (creation_turn v created ∷ (between ++ e.deletion ∷ []))) (last_of (start_of v) path)
    → IsLife v (fresh keeper) (creation_turn v created) between path
life_of v keeper created between before path valid is e turns stays =
    record {
      deletion = e.deletion;
      reclaim = e.reclaim;
      history = history_of v keeper (creation_turn v created ∷ (between ++ e.deletion ∷ e.reclaim ∷ [])) valid turns;
      creates = creates_around v keeper created valid is;
      deletes = e.deletes;
      goes = e.goes;
      stays = stays;
      checks_in = e.checks_in;
      frees = e.frees;
      no_chunk = e.no_chunk;
      unused = e.unused;
    }

-- where the creation leaves the world
begun_created : (v : MarkedChunk) (keeper : KeeperState) (created : Region) → IsValid v
    → IsCreated (first_region v.limit (fresh keeper)) created v → Begun v (creation_events v) created.marked.bytes
begun_created v keeper created valid is =
    let h = history_of v keeper (creation_turn v created ∷ []) valid (creation_is_turn v keeper created valid is, tt) in
    let stands = text_at_end v.limit 1 [] (first_region v.limit (fresh keeper)) (creation_turn v created ∷ []) h in
    record { stage = stage_created v; text_is = ap (λ (m : MarkedText). m.bytes) stands.marked; steps = creation_steps v }

-- the last turns after the creation
ended_created : (v : MarkedChunk) (keeper : KeeperState) (created : Region) → IsValid v
    → IsCreated (first_region v.limit (fresh keeper)) created v → (path : List State) → Joined created.marked.bytes (start_of v) path
    → Ended v (creation_events v) created path
ended_created v keeper created valid is path joined =
    subst (λ (r : Region). Ended v (creation_events v) r path) (sym (same_created v keeper created is))
    (ended v keeper created.marked created.made created.logged (creation_events v) (begun_created v keeper created valid is)
    (bytes_back v keeper created valid is) (marks_back v keeper created valid is) path joined)

-- the life after a creation
life_created : (v : MarkedChunk) (keeper : KeeperState) (created : Region) → IsValid v
    → IsCreated (first_region v.limit (fresh keeper)) created v
    → HasLives v (fresh keeper) (creation_turn v created) [] created.marked.bytes
life_created v keeper created valid is path joined =
    let e = ended_created v keeper created valid is path joined in
    life_of v keeper created [] (creation_events v) path valid is e (creation_is_turn v keeper created valid is, e.turns_are) e.stays

-- a creation in a new region
created_first : (v : MarkedChunk) (keeper : KeeperState) → IsValid v
    → (created : Region) × IsCreated (first_region v.limit (fresh keeper)) created v
created_first v keeper valid =
    let old = first_region v.limit (fresh keeper) in
    let pages = length-replicate ((v.limit - 65536 + 4095) / 4096) false in
    let made = pages_made (unmade_pages v.limit) v.base (length v.code) in (
      created_region (first_region v.limit (fresh keeper)) v 0 (pages_made (unmade_pages v.limit) v.base (length v.code)),
      created_at (first_region v.limit (fresh keeper)) v 0 (pages_made (unmade_pages v.limit) v.base (length v.code)) (omega arith, tt, tt)
          (pages_get_ready (unmade_pages v.limit) v.base (length v.code) valid.base_is.1 valid.length_is.0
          (omega (arith, pages, lies_in v valid))),
    )

-- what is to be shown of each chunk, for a keeper
abbrev HasLife : MarkedChunk → KeeperState → Type 0
HasLife v keeper = (creation : Turn) × HasLives v keeper creation [] creation.region.marked.bytes

-- each valid chunk has a life
pub lives : (v : MarkedChunk) (keeper : KeeperState) → IsValid v → keeper ≡ first_keeper keeper.table 1
    → (creation : Turn) × HasLives v keeper creation [] creation.region.marked.bytes
lives v keeper valid first =
    let c = created_first v keeper valid in
    subst (HasLife v) (sym first) (creation_turn v c.0, life_created v keeper c.0 valid c.1)
