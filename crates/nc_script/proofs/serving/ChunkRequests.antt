-- The replies to a patch and a deletion of a region's chunk are the script's.
use Rattle.std.proofs.Common.{◌≡◌, ℕ, ◌+◌, ◌-◌, ◌≤◌, List, ◌∷◌, length, map, set, take, drop, inl, inr, refl, sym, ap, ◌∙◌, subst}
use Rattle.std.proofs.Common.{replicate, arith}
use Rattle.std.specs.Prelude.{codes}
use Rattle.nc_gens.specs.Seen.{KeeperState}
use Rattle.nc_text.specs.Places.{limit_of}
use Rattle.nc_text.specs.MarkedText.{with_span}
use Rattle.nc_text.proofs.Offered.{length-with_span}
use Rattle.std.proofs.lemmas.List.{length-replicate}
use Rattle.nc_list.specs.declared.chunk.Chunk.{Chunk}
use Rattle.nc_list.specs.declared.chunk.ChunkState.{ChunkState}
use Rattle.nc_list.specs.declared.chunk.ChunkState.TheVariants.{Live, Retired}
use Rattle.nc_base.proofs.Offered.{each_map, each_contains, each_set, each_append, each_take, each_drop}
use Rattle.nc_region.specs.Region.{Region, IsRegion, IsLive}
use Rattle.nc_region.specs.Region as region
use Rattle.nc_region.specs.Patch.{IsPatch, MayRefusePatch, IsPatched}
use Rattle.nc_region.specs.Deletion.{IsDeleted, MayRefuseDelete}
use Rattle.nc_region.specs.declared.fault.ModifyFault.{ModifyFault}
use Rattle.nc_region.specs.declared.fault.DeleteFault.{DeleteFault}
use Rattle.nc_region.specs.declared.fault.DeleteFault.TheVariants.{NoChunk, GensFull}
use Rattle.nc_script.specs.Requests.{Modify, Delete}
use Rattle.nc_script.specs.Script as script
use Rattle.nc_script.specs.Script.{Script, ScriptSeat}
use Rattle.nc_script.specs.Reuse.{retired_at, IsRefusedDeletion}
use Rattle.nc_output.specs.Verdicts.{with_line_end, refused_words}
use Rattle.nc_script.specs.Replies.{patch_words, deletion_words, stamp_reply}
use Rattle.nc_script.specs.machinery.Session.{script_chunk, script_of, IsStamped, FollowsIn}
use Rattle.nc_script.proofs.chunks.Fitting.{AreStamped, follows_kept, follows_same, seats_up}
use Rattle.nc_script.proofs.chunks.Listed.{listed_at}
use Rattle.nc_script.proofs.chunks.Patches.{lawful_of, refused_of}
use Rattle.nc_script.proofs.chunks.PatchedChunks.{patched_chunks}
use Rattle.nc_script.proofs.chunks.RetiredChunks.{retired_chunks, has_live, live_has}
use Rattle.nc_script.proofs.serving.Serving.{same_but_chunks}

-- a patch that was made
pub patched_follows : (old new : Region) (at : ℕ) (bytes : List ℕ) → IsRegion old.marked old.chunks → IsPatched old new at bytes
    → IsPatch old at bytes
    → FollowsIn (Modify at bytes) old (with_line_end (codes "ok")) new
patched_follows old new at bytes is m p =
    let text = old.marked.bytes in
    let c = p.1.0 in
    let held = p.1.1 in
    let placed = each_contains _ old.chunks c is.placed held.0 in
    let fits : at - 0x10000 + length bytes ≤ length text =
    omega (arith, p.0.1, placed.start, placed.whole, held.2.0, held.2.1, placed.low, placed.high) in
    let chunks_are : new.chunks ≡ old.chunks = ap (λ (r : Region). r.chunks) m.others in
    follows_kept (Modify at bytes) old new (with_line_end (codes "ok")) (ap (λ (r : Region). r.keeper) m.others)
    (λ generation h. subst (AreStamped generation) (sym chunks_are) h)
    (λ seats freed. inl (record {
      lawful = lawful_of old is seats freed at bytes p;
      reply_is = refl;
      new_is = same_but_chunks (script_of old seats freed) (script_of new seats freed)
          (ap limit_of m.patched ∙ ap (λ (n : ℕ). 0x10000 + n) (length-with_span text (at - 0x10000) bytes fits))
          (ap (λ (r : Region). r.keeper.numbers.generation) m.others) refl refl
          ∙ ap (λ (cs : List script.ScriptChunk). record (script_of old seats freed) { chunks = cs })
          (ap (λ (bs : List ℕ). map (script_chunk bs) new.chunks) m.patched
          ∙ (ap (λ (cs : List Chunk). map (script_chunk (with_span text (at - 0x10000) bytes)) cs) chunks_are
          ∙ patched_chunks text bytes at old.chunks c p.0.0 p.0.1 is.ascending is.placed placed held.0 held.1 held.2.0 held.2.1));
    }))

-- a patch that was refused
pub unpatched_follows : (old new : Region) (at : ℕ) (bytes : List ℕ) (fault : ModifyFault) → IsRegion old.marked old.chunks
    → MayRefusePatch old at bytes fault → new ≡ old
    → FollowsIn (Modify at bytes) old (with_line_end (refused_words (patch_words fault))) new
unpatched_follows old new at bytes fault is due same =
    subst (λ (r : Region). FollowsIn (Modify at bytes) old (with_line_end (refused_words (patch_words fault))) r) (sym same)
    (follows_same (Modify at bytes) old (with_line_end (refused_words (patch_words fault)))
    (λ seats freed. inr (record { fault = fault; due = refused_of old is seats freed at bytes fault due; reply_is = refl; same = refl })))

-- stamps stay below a higher generation
stamped_up : (low high : ℕ) (s : ChunkState) → low ≤ high → IsStamped low s → IsStamped high s
stamped_up low high Live le h = tt
stamped_up low high (Retired stamp) le h = omega (arith, le, h)

-- a deletion that was made
pub deleted_follows : (old new : Region) (base stamp : ℕ) → IsRegion old.marked old.chunks → IsDeleted old new base stamp
    → FollowsIn (Delete base) old (with_line_end (stamp_reply stamp)) new
deleted_follows old new base stamp is d state seats freed fits =
    let text = old.marked.bytes in
    let generation = old.keeper.numbers.generation in
    let stops : List ℕ = replicate d.chunk.length 0xF4 in
    let listed = listed_at old.chunks d.index d.chunk d.listed in
    let placed = each_contains _ old.chunks d.chunk is.placed listed in
    let span_fits : base - 0x10000 + length stops ≤ length text =
    omega (arith, length-replicate {A = ℕ} d.chunk.length 0xF4, d.base_is, placed.low, placed.high) in
    let now : new.keeper.numbers.generation ≡ generation + 1 = ap (λ (k : KeeperState). k.numbers.generation) d.keeper.others in
    let bounds : new.keeper.numbers.bounds ≡ old.keeper.numbers.bounds = ap (λ (k : KeeperState). k.numbers.bounds) d.keeper.others in
    let limit : limit_of new.marked.bytes ≡ limit_of text =
    ap limit_of d.bytes ∙ ap (λ (n : ℕ). 0x10000 + n) (length-with_span text (base - 0x10000) stops span_fits) in
    let chunks : map (script_chunk new.marked.bytes) new.chunks ≡ map (retired_at base (generation + 1)) (map (script_chunk text) old.chunks) =
    ap (λ (bs : List ℕ). map (script_chunk bs) new.chunks) d.bytes
    ∙ (ap (λ (cs : List Chunk). map (script_chunk (with_span text (base - 0x10000) stops)) cs) d.chunks
    ∙ (ap (λ (b : ℕ). map (script_chunk (with_span text (b - 0x10000) stops)) (set old.chunks d.index
    (record d.chunk { state = Retired stamp }))) (sym d.base_is)
    ∙ (retired_chunks text stamp 0x10000 d.index old.chunks d.chunk is.ascending is.placed d.listed
    ∙ (ap (λ (b : ℕ). map (retired_at b stamp) (map (script_chunk text) old.chunks)) d.base_is
    ∙ ap (λ (n : ℕ). map (retired_at base n) (map (script_chunk text) old.chunks)) d.stamp_is)))) in (
      seats,
      freed,
      inl (record {
        live = has_live text base old.chunks (d.chunk, listed, subst IsLive (sym d.live) tt, d.base_is);
        room = d.room;
        reply_is = ap (λ (n : ℕ). with_line_end (stamp_reply n)) d.stamp_is;
        new_is = λ j. record { limit = limit j; chunks = chunks j; generation = now j; seats = seats; freed = freed };
      }),
      record {
        in_range = omega (arith, now, d.room);
        current = omega (arith, now, fits.current);
        stamps = subst (λ (cs : List Chunk). AreStamped new.keeper.numbers.generation cs) (sym d.chunks)
            (each_set (λ (c : Chunk). IsStamped new.keeper.numbers.generation c.state) old.chunks d.index
            (record d.chunk { state = Retired stamp })
            (each_map (λ (c : Chunk). IsStamped generation c.state) (λ (c : Chunk). IsStamped new.keeper.numbers.generation c.state)
            (λ c h. stamped_up generation new.keeper.numbers.generation c.state (omega (arith, now)) h) old.chunks fits.stamps)
            (omega (arith, now, d.stamp_is)));
        seats_fit = seats_up generation new.keeper.numbers.generation freed state.passes old.keeper.numbers.bounds
            new.keeper.numbers.bounds seats
            (omega (arith, now)) bounds fits.seats_fit;
      },
    )

-- a deletion that was refused
pub undeleted_follows : (old new : Region) (base : ℕ) (fault : DeleteFault) → MayRefuseDelete old base fault → new ≡ old
    → FollowsIn (Delete base) old (with_line_end (refused_words (deletion_words fault))) new
undeleted_follows old new base fault due same =
    subst (λ (r : Region). FollowsIn (Delete base) old (with_line_end (refused_words (deletion_words fault))) r) (sym same)
    (follows_same (Delete base) old (with_line_end (refused_words (deletion_words fault)))
    (λ seats freed. inr (record { fault = fault; due = refused seats freed fault due; reply_is = refl; same = refl })))
  where
    refused : (seats : List ScriptSeat) (freed : ℕ) (f : DeleteFault) → MayRefuseDelete old base f
        → IsRefusedDeletion (script_of old seats freed) base f
    refused seats freed NoChunk h = λ live. h (live_has old.marked.bytes base old.chunks live)
    refused seats freed GensFull h = (has_live old.marked.bytes base old.chunks h.0, h.1)

-- an inserted live chunk has no stamp
pub inserted_stamped : (generation : ℕ) (old new : List Chunk) (c : Chunk) → c.state ≡ Live → region.IsInserted old new c
    → AreStamped generation old → AreStamped generation new
inserted_stamped generation old new c live (k, fits, e) h =
    subst (AreStamped generation) (sym e)
    (each_append (λ (x : Chunk). IsStamped generation x.state) (take k old) (c ∷ drop k old)
    (each_take (λ (x : Chunk). IsStamped generation x.state) k old h)
    (subst (IsStamped generation) (sym live) tt, each_drop (λ (x : Chunk). IsStamped generation x.state) k old h))
