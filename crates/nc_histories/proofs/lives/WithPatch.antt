-- A chunk's life with a patch.
use Rattle.std.proofs.Common.{◌≡◌, ℕ, ◌+◌, ◌-◌, ◌≤◌, List, [], ◌∷◌, ◌++◌, length, replicate}
use Rattle.std.proofs.Common.{arith, refl, ◌∙◌, sym, ap, subst}
use Rattle.std.specs.Prelude.{Contains}
use Rattle.std.proofs.lemmas.List.{length-replicate}
use Rattle.nc_vet.specs.Chunk.{MarkedChunk, Piece, IsValid}
use Rattle.nc_text.specs.Machine.{State, Joined}
use Rattle.nc_text.specs.MarkedText.{MarkedText, with_span, unused_text}
use Rattle.nc_text.proofs.Offered.{length-with_span}
use Rattle.nc_gens.specs.Rule.{first_keeper_numbers}
use Rattle.nc_gens.specs.Seen.{KeeperState, first_keeper}
use Rattle.nc_list.specs.declared.chunk.Chunk.{Chunk}
use Rattle.nc_region.specs.schedules.World.{first_world}
use Rattle.nc_region.specs.schedules.Events.{world_after}
use Rattle.nc_region.specs.Region.{Region, IsCreated, live_chunk}
use Rattle.nc_region.specs.Patch.{IsPatch, log_of_patch}
use Rattle.nc_region.proofs.Offered.{after_append}
use Rattle.nc_region.proofs.Offered.{patched_region, patched_exists}
use Rattle.nc_histories.specs.Calls.{patch_events}
use Rattle.nc_histories.specs.Histories.{NoneYet, Patches, Turn, IsTurn}
use Rattle.nc_histories.specs.Example.{first_region, start_of, PatchesAt}
use Rattle.nc_histories.proofs.AllTurns.{text_at_end}
use Rattle.nc_histories.specs.Steps.{word_steps}
use Rattle.nc_histories.proofs.WordSteps.{steps_append, begins_with_none}
use Rattle.nc_histories.proofs.CallSteps.{text_steps}
use Rattle.nc_histories.proofs.lives.Refilled.{span_over}
use Rattle.nc_histories.proofs.lives.TextEvents.{own_of_text, may_of_text, patch_text}
use Rattle.nc_histories.proofs.lives.OneSeat.{Stage, stage_of_text, seat_in}
use Rattle.nc_histories.proofs.lives.LastTurns.{with_live, Ended, Begun, ended}
use Rattle.nc_histories.proofs.lives.FirstTurn.{creation_events, creation_steps, stage_created, fresh, same_created, creation_turn, creation_is_turn}
use Rattle.nc_histories.proofs.lives.FirstTurn.{lies_in, bytes_back, marks_back}
use Rattle.nc_histories.proofs.RetiredSpans.{one_is}
use Rattle.nc_histories.proofs.lives.WithoutPatch.{HasLives, history_of, life_of}

-- the patch lies in the chunk
patch_lies : (v : MarkedChunk) (keeper : KeeperState) (created : Region) (at : ℕ) (bytes : List ℕ) → IsValid v
    → IsCreated (first_region v.limit (fresh keeper)) created v → IsPatch created at bytes
    → (v.base ≤ at) × (at + length bytes ≤ v.base + length v.code)
patch_lies v keeper created at bytes valid is lawful =
    let held = lawful.1.1 in
    let chunks : created.chunks ≡ live_chunk v ∷ [] = ap (λ (r : Region). r.chunks) (same_created v keeper created is) in
    let same : live_chunk v ≡ lawful.1.0 = one_is (live_chunk v) lawful.1.0
    (subst (λ (z : List Chunk). Contains z lawful.1.0) chunks held.0) in
    let base = ap (λ (c : Chunk). c.base) same in
    let long = ap (λ (c : Chunk). c.length) same in (
      omega (arith, base, held.2.0),
      omega (arith, base, long, held.2.1, lawful.0.1, valid.base_is.0, valid.length_is.1),
    )

-- the region after the patch
abbrev patched_of : (created : Region) (at : ℕ) (bytes : List ℕ) → IsPatch created at bytes → Region
patched_of created at bytes lawful = patched_region created at bytes lawful.1.2.0.run.news

-- the turn of the patch
abbrev patch_turn : (created : Region) (at : ℕ) (bytes : List ℕ) → IsPatch created at bytes → Turn
patch_turn created at bytes lawful = record {
  events = patch_events created.marked.bytes at lawful.1.2.0.run.news;
  region = patched_of created at bytes lawful;
}

-- the turn of the patch patches the created region
patches_at : (created : Region) (at : ℕ) (bytes : List ℕ) (lawful : IsPatch created at bytes)
    → PatchesAt created at bytes (patch_turn created at bytes lawful)
patches_at created at bytes lawful = record {
  patched = patched_exists created at bytes lawful.1.2.0.run.news;
  news = lawful.1.2.0.run.news;
  bytes_are = lawful.1.2.0.run.bytes;
  own = refl;
}

-- the world after the patch
stage_patched : (v : MarkedChunk) (text : List ℕ) (at : ℕ) (news : List Piece)
    → Stage v.limit (first_keeper_numbers 1) (seat_in (start_of v))
    (world_after (first_world v.limit 1) (creation_events v ++ patch_events text at news))
stage_patched v text at news =
    subst (Stage v.limit (first_keeper_numbers 1) (seat_in (start_of v)))
    (sym (after_append (first_world v.limit 1) (creation_events v) (patch_events text at news)))
    (stage_of_text v.limit (first_keeper_numbers 1) (seat_in (start_of v)) (world_after (first_world v.limit 1) (creation_events v))
    (patch_events text at news) (patch_text text at news) (stage_created v))

-- the patch is a turn (`IsTurn`)
patch_is_turn : (v : MarkedChunk) (keeper : KeeperState) (created : Region) (at : ℕ) (bytes : List ℕ)
    → IsCreated (first_region v.limit (fresh keeper)) created v → (lawful : IsPatch created at bytes)
    → IsTurn v.limit 1 (creation_events v) created (patch_turn created at bytes lawful)
patch_is_turn v keeper created at bytes is lawful =
    let news = lawful.1.2.0.run.news in
    let p = patches_at created at bytes lawful in
    record {
      call = Patches at bytes lawful.1.2.0.run.news lawful lawful.1.2.0.run.bytes
          (patched_exists created at bytes lawful.1.2.0.run.news) [] NoneYet
          (own_of_text (patch_events created.marked.bytes at lawful.1.2.0.run.news)
          (patch_text created.marked.bytes at lawful.1.2.0.run.news));
      threads = may_of_text (world_after (first_world v.limit 1) (creation_events v))
          (patch_events created.marked.bytes at lawful.1.2.0.run.news) (patch_text created.marked.bytes at lawful.1.2.0.run.news);
      order = λ made later parts some none. begins_with_none (word_steps (creation_events v ++ made)) created.keeper.trail (ap (λ (r : Region). r.keeper.trail) is.others);
    }

-- the bytes of the patched chunk, set to stops, are those of the unused text
patched_back : (v : MarkedChunk) (keeper : KeeperState) (created : Region) (at : ℕ) (bytes : List ℕ) → IsValid v
    → IsCreated (first_region v.limit (fresh keeper)) created v → IsPatch created at bytes
    → with_span (with_span created.marked.bytes (at - 65536) bytes) (v.base - 65536) (replicate (length v.code) 244)
    ≡ (unused_text v.limit).bytes
patched_back v keeper created at bytes valid is lawful =
    let lies = patch_lies v keeper created at bytes valid is lawful in
    let stops = length-replicate {A = ℕ} (length v.code) 244 in
    let long : length created.marked.bytes ≡ v.limit - 65536 = ap (λ (z : List ℕ). length z) is.bytes
    ∙ (length-with_span (unused_text v.limit).bytes (v.base - 65536) v.code
    (omega (arith, length-replicate {A = ℕ} (v.limit - 65536) 244, lies_in v valid)) ∙ length-replicate {A = ℕ} (v.limit - 65536) 244) in
    span_over created.marked.bytes (at - 65536) bytes (v.base - 65536) (replicate (length v.code) 244) 0
    (omega (arith, long, stops, lies_in v valid)) (omega (arith, lies.0)) (omega (arith, lies.0, lies.1, stops, valid.base_is.1))
    ∙ bytes_back v keeper created valid is

-- where the patch leaves the world
begun_patched : (v : MarkedChunk) (keeper : KeeperState) (created : Region) (at : ℕ) (bytes : List ℕ) → IsValid v
    → IsCreated (first_region v.limit (fresh keeper)) created v → (lawful : IsPatch created at bytes)
    → Begun v (creation_events v ++ patch_events created.marked.bytes at lawful.1.2.0.run.news)
    (with_span created.marked.bytes (at - 65536) bytes)
begun_patched v keeper created at bytes valid is lawful =
    let turns : List Turn = creation_turn v created ∷ patch_turn created at bytes lawful ∷ [] in
    let h = history_of v keeper (creation_turn v created ∷ patch_turn created at bytes lawful ∷ []) valid
    (creation_is_turn v keeper created valid is, (patch_is_turn v keeper created at bytes is lawful, tt)) in
    let stands = text_at_end v.limit 1 [] (first_region v.limit (fresh keeper))
    (creation_turn v created ∷ patch_turn created at bytes lawful ∷ []) h in
    record {
      stage = stage_patched v created.marked.bytes at lawful.1.2.0.run.news;
      text_is = ap (λ (m : MarkedText). m.bytes) stands.marked;
      steps = steps_append (creation_events v) (patch_events created.marked.bytes at lawful.1.2.0.run.news)
          ∙ (λ i. creation_steps v i ++ text_steps (patch_events created.marked.bytes at lawful.1.2.0.run.news)
          (patch_text created.marked.bytes at lawful.1.2.0.run.news) i);
    }

-- the region after the patch, by its parts
same_patched : (v : MarkedChunk) (keeper : KeeperState) (created : Region) (at : ℕ) (bytes : List ℕ)
    → IsCreated (first_region v.limit (fresh keeper)) created v → (lawful : IsPatch created at bytes)
    → patched_of created at bytes lawful ≡ with_live v keeper
    (record { bytes = with_span created.marked.bytes (at - 65536) bytes; marks = created.marked.marks }) created.made
    (created.logged ++ log_of_patch created.marked.bytes at lawful.1.2.0.run.news)
same_patched v keeper created at bytes is lawful =
    ap (λ (r : Region). let x : Region = record {
      marked = record { bytes = with_span created.marked.bytes (at - 65536) bytes; marks = created.marked.marks };
      made = created.made;
      chunks = r.chunks;
      keeper = r.keeper;
      logged = created.logged ++ log_of_patch created.marked.bytes at lawful.1.2.0.run.news;
    } in x) (same_created v keeper created is)

-- the last turns after the patch
ended_patched : (v : MarkedChunk) (keeper : KeeperState) (created : Region) (at : ℕ) (bytes : List ℕ) → IsValid v
    → IsCreated (first_region v.limit (fresh keeper)) created v → (lawful : IsPatch created at bytes) → (path : List State)
    → Joined (with_span created.marked.bytes (at - 65536) bytes) (start_of v) path
    → Ended v (creation_events v ++ patch_events created.marked.bytes at lawful.1.2.0.run.news) (patched_of created at bytes lawful) path
ended_patched v keeper created at bytes valid is lawful path joined =
    subst
    (λ (r : Region). Ended v (creation_events v ++ patch_events created.marked.bytes at lawful.1.2.0.run.news) r path)
    (sym (same_patched v keeper created at bytes is lawful))
    (ended v keeper (record { bytes = with_span created.marked.bytes (at - 65536) bytes; marks = created.marked.marks }) created.made
    (created.logged ++ log_of_patch created.marked.bytes at lawful.1.2.0.run.news)
    (creation_events v ++ patch_events created.marked.bytes at lawful.1.2.0.run.news)
    (begun_patched v keeper created at bytes valid is lawful) (patched_back v keeper created at bytes valid is lawful)
    (marks_back v keeper created valid is) path joined)

-- the life with the patch
life_patched : (v : MarkedChunk) (keeper : KeeperState) (created : Region) (at : ℕ) (bytes : List ℕ) → IsValid v
    → IsCreated (first_region v.limit (fresh keeper)) created v → (lawful : IsPatch created at bytes)
    → HasLives v (fresh keeper) (creation_turn v created) (patch_turn created at bytes lawful ∷ [])
    (with_span created.marked.bytes (at - 65536) bytes)
life_patched v keeper created at bytes valid is lawful path joined =
    let e = ended_patched v keeper created at bytes valid is lawful path joined in
    life_of v keeper created (patch_turn created at bytes lawful ∷ [])
    (creation_events v ++ patch_events created.marked.bytes at lawful.1.2.0.run.news) path valid is e
    (creation_is_turn v keeper created valid is, (patch_is_turn v keeper created at bytes is lawful, e.turns_are)) e.stays

-- what is to be shown of each creation and patch, for a keeper
abbrev HasPatchedLife : MarkedChunk → (created : Region) (at : ℕ) (bytes : List ℕ) → KeeperState → Type 0
HasPatchedLife v created at bytes keeper =
    (creation patch : Turn) × (creation.region ≡ created) × PatchesAt created at bytes patch
    × HasLives v keeper creation (patch ∷ []) patch.region.marked.bytes

-- each valid chunk has a life with any lawful patch
pub lives_patched : (v : MarkedChunk) (keeper : KeeperState) (created : Region) (at : ℕ) (bytes : List ℕ) → IsValid v
    → keeper ≡ first_keeper keeper.table 1 → IsCreated (first_region v.limit keeper) created v → IsPatch created at bytes
    → (creation patch : Turn) × (creation.region ≡ created) × PatchesAt created at bytes patch
    × HasLives v keeper creation (patch ∷ []) patch.region.marked.bytes
lives_patched v keeper created at bytes valid first is lawful =
    let new : IsCreated (first_region v.limit (fresh keeper)) created v =
    subst (λ (k : KeeperState). IsCreated (first_region v.limit k) created v) first is in
    subst (HasPatchedLife v created at bytes) (sym first) (
      creation_turn v created,
      patch_turn created at bytes lawful,
      refl,
      patches_at created at bytes lawful,
      life_patched v keeper created at bytes valid new lawful,
    )
