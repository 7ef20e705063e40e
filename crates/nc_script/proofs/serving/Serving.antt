-- The replies of a session's calls are the script's.
use Rattle.std.proofs.Common.{◌≡◌, ◌≢◌, ℕ, ◌+◌, ◌-◌, ◌≤◌, length, map, arith, List, inl, inr, refl, sym, ap, ◌∙◌, subst}
use Rattle.std.specs.Prelude.{codes}
use Rattle.nc_list.specs.declared.chunk.Chunk.{Chunk}
use Rattle.nc_region.specs.Region.{Region, IsRegion, IsCreated, Meets}
use Rattle.nc_text.specs.MarkedText.{with_span}
use Rattle.nc_text.proofs.Offered.{length-with_span}
use Rattle.nc_vet.specs.Chunk as vet
use Rattle.nc_vet.specs.Chunk.{IsValid}
use Rattle.nc_script.specs.Script.{Script, ScriptSeat, IsPutBetween, Live}
use Rattle.nc_script.proofs.chunks.Creating.{occupied_meets, meets_occupied, inserted}
use Rattle.nc_region.specs.Trace.{IsTrace, IsWalkStart}
use Rattle.nc_region.specs.declared.trace.End.{End}
use Rattle.nc_vet.specs.Faults.{HasFault}
use Rattle.nc_vet.specs.declared.fault.VetFault.{VetFault}
use Rattle.nc_vet.specs.declared.fault.VetFault.TheVariants.{OutOfMemory}
use Rattle.nc_text.specs.Places.{limit_of}
use Rattle.nc_script.specs.Requests.{Create, Walk}
use Rattle.nc_output.specs.Verdicts.{IsValidAt}
use Rattle.nc_script.specs.Serving.{Serves}
use Rattle.nc_script.specs.machinery.Session.{script_of, script_chunk}
use Rattle.nc_output.specs.Verdicts.{with_line_end, refused_words, fault_words}
use Rattle.nc_script.specs.Replies.{walk_reply}
use Rattle.nc_script.proofs.chunks.RegionText.{script_text-script_of}

-- states that differ in their chunks
pub same_but_chunks : (a b : Script) → b.limit ≡ a.limit → b.generation ≡ a.generation → b.seats ≡ a.seats → b.freed ≡ a.freed
    → b ≡ record a { chunks = b.chunks }
same_but_chunks a b limit generation seats freed = λ j. record {
  limit = limit j;
  chunks = b.chunks;
  generation = generation j;
  seats = seats j;
  freed = freed j;
}

-- a valid chunk for this limit
valid_here : (v : vet.MarkedChunk) (limit : ℕ) → v.limit ≡ limit → IsValid v → IsValidAt v.base limit v.code
valid_here v limit e valid =
    (v.marks, subst (λ (l : ℕ). IsValid (record { base = v.base; limit = l; code = v.code; marks = v.marks })) e valid)

-- a trace through the region serves a walk
pub walk_serves : (region : Region) (seats : List ScriptSeat) (freed : ℕ) (start : ℕ) (choices places : List ℕ) (end : End)
    → IsRegion region.marked region.chunks
    → IsWalkStart region.marked.bytes start → IsTrace region.marked.bytes start choices places end
    → Serves (Walk start choices) (script_of region seats freed) (with_line_end (walk_reply places end)) (script_of region seats freed)
walk_serves region seats freed start choices places end is at trace = inl (record {
  begins = subst (λ (text : List ℕ). IsWalkStart text start) (sym (script_text-script_of region seats freed is)) at;
  places = places;
  end = end;
  trace = subst (λ (text : List ℕ). IsTrace text start choices places end) (sym (script_text-script_of region seats freed is)) trace;
  reply_is = refl;
  same = refl;
})

-- a fault of the chunk serves its creation
pub fault_serves : (region : Region) (seats : List ScriptSeat) (freed : ℕ) (base : ℕ) (bytes : List ℕ) (fault : VetFault)
    → HasFault base (limit_of region.marked.bytes) bytes fault → fault ≢ OutOfMemory
    → Serves (Create base bytes) (script_of region seats freed) (with_line_end (refused_words (fault_words fault)))
    (script_of region seats freed)
fault_serves region seats freed base bytes fault has known =
    inr (inl (record { fault = fault; has = has; known = known; reply_is = refl; same = refl }))

-- a walk from elsewhere is refused
pub no_start_serves : (region : Region) (seats : List ScriptSeat) (freed : ℕ) (start : ℕ) (choices : List ℕ)
    → IsRegion region.marked region.chunks
    → ¬ IsWalkStart region.marked.bytes start
    → Serves (Walk start choices) (script_of region seats freed) (with_line_end (refused_words (codes "NotBundle")))
    (script_of region seats freed)
no_start_serves region seats freed start choices is not = inr (record {
  begins_not = subst (λ (text : List ℕ). ¬ IsWalkStart text start) (sym (script_text-script_of region seats freed is)) not;
  reply_is = refl;
  same = refl;
})

-- a chunk created in the region is one put into the script's list
pub created_serves : (old new : Region) (seats : List ScriptSeat) (freed : ℕ) (v : vet.MarkedChunk) → IsRegion old.marked old.chunks
    → v.limit ≡ limit_of old.marked.bytes
    → IsValid v
    → IsCreated old new v → ¬ Meets v.base (length v.code) old.chunks
    → Serves (Create v.base v.code) (script_of old seats freed) (with_line_end (codes "ok")) (script_of new seats freed)
created_serves old new seats freed v is limit_is valid created apart =
    let text = old.marked.bytes in
    let (k, fits, listed) = created.chunks in
    let low : 0x10000 ≤ v.base = valid.base_is.1 in
    let high : v.base + length v.code ≤ limit_of text = omega (arith, valid.range.1, limit_is) in
    let span = with_span text (v.base - 0x10000) v.code in
    let bytes_are : new.marked.bytes ≡ span = created.bytes in
    inl (record {
      valid = valid_here v (limit_of text) limit_is valid;
      free = λ taken. apart (meets_occupied text v.base (length v.code) old.chunks is.placed taken);
      reply_is = refl;
      others = same_but_chunks (script_of old seats freed) (script_of new seats freed)
          (ap limit_of bytes_are
          ∙ ap (λ (n : ℕ). 0x10000 + n) (length-with_span text (v.base - 0x10000) v.code (omega (arith, low, high))))
          (ap (λ (r : Region). r.keeper.numbers.generation) created.others) refl refl;
      inserted = subst (IsPutBetween (record { base = v.base; state = Live v.code }) (map (script_chunk text) old.chunks))
          (ap (λ (cs : List Chunk). map (script_chunk span) cs) (sym listed) ∙ ap (λ (bs : List ℕ). map (script_chunk bs) new.chunks)
          (sym bytes_are))
          (inserted text v.code v.base k old.chunks low high valid.length_is.0 is.placed fits);
    })

-- a chunk that meets another in the region meets one in the script
pub crowded_serves : (old : Region) (seats : List ScriptSeat) (freed : ℕ) (v : vet.MarkedChunk) → IsRegion old.marked old.chunks → v.limit
    ≡ limit_of old.marked.bytes
    → IsValid v
    → Meets v.base (length v.code) old.chunks
    → Serves (Create v.base v.code) (script_of old seats freed) (with_line_end (refused_words (codes "Occupied"))) (script_of old seats freed)
crowded_serves old seats freed v is limit_is valid meets = inr (inr (record {
  valid = valid_here v (limit_of old.marked.bytes) limit_is valid;
  taken = occupied_meets old.marked.bytes v.base (length v.code) old.chunks is.placed meets;
  reply_is = refl;
  same = refl;
}))

-- what serves the chunk serves what was requested
pub as_requested : (v : vet.MarkedChunk) (base : ℕ) (bytes reply : List ℕ) (old new : Script) → v.base ≡ base → v.code ≡ bytes
    → Serves (Create v.base v.code) old reply new → Serves (Create base bytes) old reply new
as_requested v base bytes reply old new base_is code_is served =
    subst (λ (b : ℕ). Serves (Create b bytes) old reply new) base_is
    (subst (λ (bs : List ℕ). Serves (Create v.base bs) old reply new) code_is served)
