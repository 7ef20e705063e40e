use Rattle.std.proofs.Common.{◌≡◌, ◌≢◌, ℕ, Bool, List, length, subst, ap, ◌∙◌, refl}
use Rattle.nc_text.specs.Places.{limit_of}
use Rattle.nc_text.specs.MarkedText.{MarkedText, IsText}
use Rattle.nc_text.specs.Ready.{GetsReady}
use Rattle.nc_text.proofs.Offered.{confined_if_closed}
use Rattle.nc_vet.specs.Chunk.{MarkedChunk}
use Rattle.nc_region.specs.declared.fault.CreateFault.{CreateFault}
use Rattle.nc_region.specs.declared.fault.CreateFault.TheVariants.{WrongLimit, Occupied, OutOfMemory}
use Rattle.nc_acts.specs.Chunks.{HasGoodSpan, IsClosedChunk, with_chunk}
use Rattle.nc_acts.specs.Acts.{acts_of_create}
use Rattle.nc_acts.specs.Log.{log_of_create}
use Rattle.nc_region.specs.Region.{Region, IsRefused, live_chunk}
use Rattle.nc_region.proofs.chunks.Inserting.{unused_if_apart, region_with_chunk}
use Rattle.nc_region.proofs.chunks.Pieces.{valid_chunk_is_closed, chunk_names_registers}
use Rattle.nc_region.proofs.chunks.ReadyPlaces.{chunks_stay_ready, ready_inserted}
use Rattle.nc_region.proofs.RegionParts.{region_of}
use Rattle.nc_region.proofs.region.RegionOf.create.Goals as goal
use Rattle.nc_acts.proofs.Offered.{told_logged, created_acts}

-- what changes nothing, or only pages on a want of memory, is a refused creation
refused_as : (old new : Region) (v : MarkedChunk) (fault : CreateFault) → new ≡ record old { made = new.made }
    → GetsReady old.made new.made v.base (length v.code) → (fault ≢ OutOfMemory → new.made ≡ old.made) → IsRefused old new v fault
refused_as old new v WrongLimit same gets made =
    same ∙ ap (λ (pages : List Bool). record old { made = pages }) (made (λ e. let none : ⊥ = cc in none))
refused_as old new v Occupied same gets made =
    same ∙ ap (λ (pages : List Bool). record old { made = pages }) (made (λ e. let none : ⊥ = cc in none))
refused_as old new v OutOfMemory same gets made = (same, gets)

pub invariant_of-self : goal.invariant_of-self
invariant_of-self g c =
    let others = c.make_room.ensures.others in
    rw (others.0, c.in-Err.ensures.unlisted) (
      c.self.invariant.0,
      chunks_stay_ready _ _ _ _ c.make_room.ensures.only c.self.inside.chunks c.self.invariant.1,
    )

pub returns-in-Err : goal.returns-in-Err
returns-in-Err g c =
    let others = c.make_room.ensures.others in
    let inside = c.self.inside in
    let now = c.make_room.new in
    let old : Region = region_of (g.A.Acts.marked inside.acts) (g.A.Acts.made inside.acts) inside.chunks
    (g.A.Acts.keeper inside.acts) (g.A.Acts.logged inside.acts) in
    let new : Region = region_of (g.A.Acts.marked now.acts) (g.A.Acts.made now.acts) now.chunks
    (g.A.Acts.keeper now.acts) (g.A.Acts.logged now.acts) in
    let same : new ≡ record old { made = new.made } = rw (others.0, c.in-Err.ensures.unlisted, others.1, others.2) refl in
    record {
      created = tt;
      acts = tt;
      log = tt;
      free = tt;
      unchanged = rw (← c.self.view_is) (
        refl,
        refused_as old new c.args.vetted c.in-Err.fault same c.make_room.ensures.only c.in-Err.ensures.made,
      );
      refused = rw (← c.self.view_is) c.in-Err.ensures.refused;
      confined = rw others.0 (confined_if_closed _ _ c.self.invariant.0.whole.closed);
    }

pub put_chunk-requires : goal.put_chunk-requires
put_chunk-requires g c =
    let marked = g.A.Acts.marked c.self.inside.acts in
    let v = c.args.vetted in
    let others = c.make_room.ensures.others in
    let room = c.in-Ok.ensures.room in
    let placed : HasGoodSpan v.base (limit_of marked.bytes) (length v.code) =
    subst (λ (l : ℕ). HasGoodSpan v.base l (length v.code)) room.limit (valid_chunk_is_closed v room.valid).placed in
    record {
      can = record {
        whole = rw others.0 c.self.invariant.0.whole;
        chunk = rw (others.0, c.base.ensures.value, c.code.ensures.value, ← room.limit) (valid_chunk_is_closed v room.valid);
        unused = rw (others.0, c.base.ensures.value, c.code.ensures.value)
            (unused_if_apart marked c.self.inside.chunks room.listed.0 v.base (length v.code) c.self.invariant.0 placed
            room.listed.1.1 room.listed.1.2);
        ready = rw (c.base.ensures.value, c.code.ensures.value) room.ready;
      };
      code = c.code.ensures.value;
      room = (c.in-Ok.ensures.marks.0, rw c.code.ensures.value c.in-Ok.ensures.marks.1);
      registers = chunk_names_registers v room.valid;
    }

pub invariant_of-self-2 : goal.invariant_of-self-2
invariant_of-self-2 g c =
    let marked = g.A.Acts.marked c.self.inside.acts in
    let v = c.args.vetted in
    let chunks = c.self.inside.chunks in
    let others = c.make_room.ensures.others in
    let room = c.in-Ok.ensures.room in
    let k : ℕ = room.listed.0 in
    let chunk : IsClosedChunk v.base (limit_of marked.bytes) v.code v.marks =
    subst (λ (l : ℕ). IsClosedChunk v.base l v.code v.marks) room.limit (valid_chunk_is_closed v room.valid) in
    let put : g.A.Acts.marked c.put_chunk.new.acts ≡ with_chunk marked v.base v.code v.marks = c.put_chunk.ensures.put.marked
    ∙ rw (others.0, c.base.ensures.value, c.code.ensures.value) refl in
    let region = region_with_chunk marked chunks k (live_chunk v) v.code v.marks
    (record {
      region = c.self.invariant.0;
      vetted = v;
      valid = room.valid;
      base_is = refl;
      limit_is = room.limit;
      code_is = refl;
      marks_is = refl;
      chunk = chunk;
      long = refl;
      above = room.listed.1.1;
      below = room.listed.1.2;
    }) tt (subst IsText put c.put_chunk.ensures.put.whole) in
    let stay = chunks_stay_ready _ _ _ _ c.make_room.ensures.only chunks c.self.invariant.1 in
    rw (put, room.listed.2, c.put_chunk.ensures.made) (region, ready_inserted _ chunks k (live_chunk v) stay room.ready)

pub returns : goal.returns
returns g c =
    let marked = g.A.Acts.marked c.self.inside.acts in
    let v = c.args.vetted in
    let others = c.make_room.ensures.others in
    let room = c.in-Ok.ensures.room in
    let put : g.A.Acts.marked c.put_chunk.new.acts ≡ with_chunk marked v.base v.code v.marks = c.put_chunk.ensures.put.marked
    ∙ rw (others.0, c.base.ensures.value, c.code.ensures.value) refl in
    record {
      created = rw (← c.self.view_is) (record {
        bytes = ap (λ (m : MarkedText). m.bytes) put;
        marks = ap (λ (m : MarkedText). m.marks) put;
        chunks = room.listed;
        ready = rw c.put_chunk.ensures.made c.make_room.ensures.only;
        others = rw (c.put_chunk.ensures.keeper, others.1) refl;
      });
      acts = rw (← c.self.view_is, ← others.2, ← c.base.ensures.value, ← c.code.ensures.value)
          (told_logged (g.A.Acts.logged c.make_room.new.acts) (g.A.Acts.logged c.put_chunk.new.acts)
          (log_of_create c.base.result c.code.result.now) (acts_of_create c.base.result c.code.result.now)
          (created_acts c.base.result c.code.result.now) c.put_chunk.ensures.put.log);
      log = rw (← c.self.view_is, ← others.2, ← c.base.ensures.value, ← c.code.ensures.value) c.put_chunk.ensures.put.log;
      free = rw (← c.self.view_is) (room.limit, room.free);
      unchanged = tt;
      refused = tt;
      confined = confined_if_closed _ _ c.put_chunk.ensures.put.whole.closed;
    }
