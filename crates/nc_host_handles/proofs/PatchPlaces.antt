-- Where the bytes of a lawful patch lie.
use Rattle.std.proofs.Common.{◌≡◌, ℕ, ◌+◌, ◌<◌, ◌≤◌, ◌^◌, List, length, take, arith, sym, subst, ◌∙◌}
use Rattle.std.proofs.lemmas.List.{get_or-take, length-take-le}
use Rattle.nc_text.specs.Places.{limit_of}
use Rattle.nc_vet.specs.Faults.{HasGoodSpan}
use Rattle.nc_list.specs.declared.chunk.Chunk.{Chunk}
use Rattle.nc_region.specs.Region.{Region, IsRegion}
use Rattle.nc_region.specs.Patch.{IsPatch}
use Rattle.nc_base.proofs.Offered.{each_get}
use Rattle.nc_host_acts.specs.Standing.{AreBytesAt}
use Rattle.nc_host_handles.specs.machinery.Window.{HoldsText}

pub record LiesIn (text : List ℕ) (at len : ℕ) : Type 0 where
  pub some : 0 < len
  pub short : len ≤ 32
  pub low : 0x10000 ≤ at
  pub high : at + 32 ≤ limit_of text
  pub fits : limit_of text < 2 ^ 32

-- a patch lies in the region
pub patch_lies : (r : Region) (at : ℕ) (new : List ℕ) → IsRegion r.marked r.chunks → IsPatch r at new → LiesIn r.marked.bytes at (length new)
patch_lies r at new region patch =
    let c : Chunk = patch.1.0 in
    let listed = patch.1.1.0 in
    let inside = patch.1.1.2 in
    let good : HasGoodSpan c.base (limit_of r.marked.bytes) c.length =
    subst (λ (d : Chunk). HasGoodSpan d.base (limit_of r.marked.bytes) d.length) listed.2
    (each_get (λ (d : Chunk). HasGoodSpan d.base (limit_of r.marked.bytes) d.length) r.chunks listed.0 c listed.1 region.placed) in
    record {
      some = omega (arith, patch.0.0);
      short = omega (arith, patch.0.1);
      low = omega (arith, good.low, inside.0);
      high = omega (arith, good.high, inside.1);
      fits = omega (arith, good.lawful.2);
    }

-- the bytes that were read are those of the text
pub window_stands : (text : List ℕ) (at len count : ℕ) (bytes : List ℕ) → LiesIn text at len → count ≡ len → HoldsText text at bytes count
    → AreBytesAt text at (take len bytes)
window_stands text at len count bytes lies all h = λ k lt.
    let long : length (take len bytes) ≡ len = length-take-le len bytes (omega (arith, lies.short, h.long)) in
    let here : k < len = omega (arith, lt, long) in
    sym (get_or-take len bytes k 0 here
    ∙ h.read k (omega (arith, here, all)) lies.low (omega (arith, here, lies.short, lies.high)))
