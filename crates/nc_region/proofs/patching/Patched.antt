-- A region in which a live chunk was patched.
use Rattle.std.proofs.Common.{◌≡◌, ℕ, ◌+◌, ◌-◌, ◌<◌, ◌≤◌, ◌⊎◌, List, length, get_or, inl, inr, arith, ◌∙◌, sym, ap}
use Rattle.std.proofs.Common.{subst, ⊎_elim}
use Rattle.std.proofs.lemmas.Bool.{cases_lt}
use Rattle.nc_text.specs.Places.{byte_at, limit_of}
use Rattle.nc_text.specs.Marks.{mark_at}
use Rattle.nc_text.specs.MarkedText.{MarkedText, IsText, with_span}
use Rattle.nc_text.proofs.Offered.{length-with_span}
use Rattle.nc_decode.specs.declared.instruction.Mark.{Mark}
use Rattle.nc_list.specs.declared.chunk.Chunk.{Chunk}
use Rattle.nc_base.proofs.Offered.{each_get, each_from}
use Rattle.nc_acts.specs.Chunks.{HasGoodSpan}
use Rattle.nc_base.specs.Each.{Each}
use Rattle.nc_region.specs.Region.{Region, IsLive, IsInChunk, IsAscending, HoldsValid, IsRegion}
use Rattle.nc_region.specs.Patch.{IsHeldBy, IsPatchSpan, IsPatch, IsRun, LeavesPairs, KeepsTargets, MayRefusePatch}
use Rattle.nc_region.specs.machinery.PatchSteps.{CanPatch, MayRefuseIn}
use Rattle.nc_region.specs.declared.fault.ModifyFault.{ModifyFault}
use Rattle.nc_region.specs.declared.fault.ModifyFault.TheVariants.{BadSpan, NotLive, NotPermitted, Boundaries, PairTouched, BadTarget}
use Rattle.nc_region.proofs.chunks.AgreesOutside.{AgreesOutside, still_holds}
use Rattle.nc_text.proofs.Offered.{span_before, span_behind}
use Rattle.nc_list.proofs.Offered.{ascending_apart}
use Rattle.nc_region.proofs.patching.Runs.{held_same}

-- a chunk of the list is patched
pub record Patches (old new : MarkedText) (chunks : List Chunk) (c : Chunk) (at : ℕ) (bytes : List ℕ) : Type 0 where
  pub region : IsRegion old chunks
  pub held : IsHeldBy chunks at c
  pub holds : HoldsValid new c
  pub whole : IsText new
  pub bytes_are : new.bytes ≡ with_span old.bytes (at - 65536) bytes
  pub marks_are : new.marks ≡ old.marks
  pub low : 65536 ≤ c.base
  pub high : c.base + c.length ≤ 65536 + length old.bytes
  pub ends : at + length bytes ≤ c.base + c.length

-- outside the chunk nothing is changed
agrees : (old new : MarkedText) (chunks : List Chunk) (c : Chunk) (at : ℕ) (bytes : List ℕ) → Patches old new chunks c at bytes
    → AgreesOutside old new c.base c.length
agrees old new chunks c at bytes p =
    let low : 65536 ≤ at = omega (arith, p.low, p.held.2.0) in
    let high : at + length bytes ≤ 65536 + length old.bytes = omega (arith, p.ends, p.high) in
    record {
      as_long = ap (λ (z : List ℕ). length z) p.bytes_are ∙ length-with_span old.bytes (at - 65536) bytes (omega (arith, low, high));
      bytes = λ k from out.
          ap (λ (z : List ℕ). byte_at z k) p.bytes_are
          ∙ elim out [
            | inl l ↦ span_before old.bytes at bytes k 0 low high from (omega (arith, l, p.held.2.0))
            | inr b ↦ span_behind old.bytes at bytes k 0 low high (omega (arith, b, p.ends))
          ];
      marks = λ k from out. ap (λ (z : List Mark). mark_at z k) p.marks_are;
    }

-- the region after a patch
pub region_patched : (old new : MarkedText) (chunks : List Chunk) (c : Chunk) (at : ℕ) (bytes : List ℕ)
    → Patches old new chunks c at bytes → IsRegion new chunks
region_patched old new chunks c at bytes p =
    let a = agrees old new chunks c at bytes p in
    let is : get_or chunks p.held.0.0 c ≡ c = p.held.0.2 in
    record {
      whole = p.whole;
      ascending = p.region.ascending;
      placed = subst (λ (l : ℕ). Each (λ (d : Chunk). HasGoodSpan d.base l d.length) chunks)
          (ap (λ (n : ℕ). 65536 + n) (sym a.as_long)) p.region.placed;
      live = each_from (λ (d : Chunk). IsLive d.state → HoldsValid new d) chunks c (λ k lt live.
          let h = each_get (λ (d : Chunk). IsLive d.state → HoldsValid old d) chunks k c lt p.region.live live in
          ⊎_elim
          (λ (before : k < p.held.0.0). still_holds old new c (get_or chunks k c) a
          (inl (omega (
            arith,
            ascending_apart 65536 chunks k p.held.0.0 c p.region.ascending before p.held.0.1,
            ap (λ (x : Chunk). x.base) is,
          ))) h)
          (λ (from : p.held.0.0 ≤ k).
          ⊎_elim
          (λ (behind : p.held.0.0 < k). still_holds old new c (get_or chunks k c) a
          (inr (omega (
            arith,
            ascending_apart 65536 chunks p.held.0.0 k c p.region.ascending behind lt,
            ap (λ (x : Chunk). x.base + x.length) is,
          ))) h)
          (λ (to : k ≤ p.held.0.0). (let same : p.held.0.0 ≡ k = omega (arith, from, to) in
          subst (λ (x : Chunk). HoldsValid new x) (sym is ∙ ap (λ (n : ℕ). get_or chunks n c) same) p.holds))
          (cases_lt p.held.0.0 k))
          (cases_lt k p.held.0.0));
      stops = λ k inside free.
          let not : IsInChunk c k → ⊥ = subst (λ (x : Chunk). IsLive x.state → IsInChunk x k → ⊥) is
          (each_get (λ (d : Chunk). IsLive d.state → IsInChunk d k → ⊥) chunks p.held.0.0 c p.held.0.1 free) p.held.1 in
          let out : (k < c.base) ⊎ (c.base + c.length ≤ k) =
          ⊎_elim (λ (l : k < c.base). inl l)
          (λ (f : c.base ≤ k). ⊎_elim (λ (l : k < c.base + c.length). absurd (not (f, l))) (λ (b : c.base + c.length ≤ k). inr b)
          (cases_lt k (c.base + c.length))) (cases_lt k c.base) in
          a.bytes k inside.0 out ∙ p.region.stops k (inside.0, omega (arith, inside.1, a.as_long)) free;
      unused = λ k inside free. ap (λ (z : List Mark). mark_at z k) p.marks_are
          ∙ p.region.unused k (inside.0, omega (arith, inside.1, a.as_long)) free;
    }

-- ---- what is said of a chunk that holds the place, said of the region

-- a live chunk that holds a place has the code of a valid one
pub held_holds : (marked : MarkedText) (chunks : List Chunk) (at : ℕ) (c : Chunk) → IsRegion marked chunks → IsHeldBy chunks at c
    → HoldsValid marked c
held_holds marked chunks at c r held =
    subst (λ (d : Chunk). IsLive d.state → HoldsValid marked d) held.0.2
    (each_get (λ (d : Chunk). IsLive d.state → HoldsValid marked d) chunks held.0.0 c held.0.1 r.live) held.1

-- what can be done to the chunk is lawful
pub patch_lawful : (r : Region) (at : ℕ) (new : List ℕ) (c : Chunk) → IsPatchSpan at (length new) → IsHeldBy r.chunks at c
    → CanPatch r.marked c at new → IsPatch r at new
patch_lawful r at new c span held p = (span, (c, held, (record { holds = p.holds; run = p.run }, p.pairs, p.targets)))

-- what refuses the chunk's patch refuses that of the region
pub refused_in : (r : Region) (at : ℕ) (new : List ℕ) (c : Chunk) (fault : ModifyFault) → IsAscending 65536 r.chunks
    → IsPatchSpan at (length new) → IsHeldBy r.chunks at c → MayRefuseIn r.marked c at new fault → MayRefusePatch r at new fault
refused_in r at new c BadSpan ascending span held by = absurd by
refused_in r at new c NotLive ascending span held by = absurd by
refused_in r at new c NotPermitted ascending span held by = (span, (c, held), by)
refused_in r at new c Boundaries ascending span held by = (
  span,
  (c, held),
  by.0,
  λ f. by.1 (subst (λ (d : Chunk). IsRun r.marked d at new) (held_same r.chunks at c f.0 ascending held f.1) f.2),
)
refused_in r at new c PairTouched ascending span held by = (
  span,
  (c, held, by.0),
  λ f. by.1 (subst (λ (d : Chunk). (is : IsRun r.marked d at new) × LeavesPairs is.run)
      (held_same r.chunks at c f.0 ascending held f.1) f.2),
)
refused_in r at new c BadTarget ascending span held by = (
  span,
  (c, held, by.0),
  λ p. by.1 (subst (λ (d : Chunk). (is : IsRun r.marked d at new) × LeavesPairs is.run × KeepsTargets (limit_of r.marked.bytes) is.run)
      (held_same r.chunks at c p.1.0 ascending held p.1.1) p.1.2),
)
