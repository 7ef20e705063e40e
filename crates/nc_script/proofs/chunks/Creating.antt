-- A chunk created in a region is a chunk put into the script's list.
use Rattle.std.proofs.Common.{◌≡◌, ℕ, ◌+◌, ◌-◌, ◌<◌, ◌≤◌, ◌⊎◌, inl, inr, List, [], ◌∷◌, ◌++◌, length, get_or, take, drop, map, refl, sym}
use Rattle.std.proofs.Common.{ap, ◌∙◌, ⊎_elim, subst, take-append-drop, zero, suc, arith}
use Rattle.std.specs.Prelude.{All}
use Rattle.std.specs.List.{insert}
use Rattle.std.proofs.lemmas.List.{map-append, ext_get_or}
use Rattle.nc_text.specs.Places.{limit_of}
use Rattle.nc_text.specs.MarkedText.{with_span}
use Rattle.nc_text.proofs.Offered.{length-with_span, get_or-with_span_in, get_or-with_span_below, get_or-with_span_above}
use Rattle.nc_list.specs.declared.chunk.Chunk.{Chunk}
use Rattle.nc_list.specs.declared.chunk.ChunkState.{ChunkState}
use Rattle.nc_list.specs.declared.chunk.ChunkState.TheVariants.{Live, Retired}
use Rattle.nc_base.specs.Each.{Each}
use Rattle.nc_base.proofs.Offered.{each_map, each_both, each_take, each_drop}
use Rattle.nc_acts.specs.Chunks.{HasGoodSpan}
use Rattle.nc_region.specs.Region.{FitsAt, Meets}
use Rattle.nc_script.specs.Script as script
use Rattle.nc_script.specs.Script.{IsOccupied, IsPutBetween}
use Rattle.nc_script.specs.machinery.Session.{bytes_at, state_in, script_chunk}
use Rattle.nc_script.proofs.chunks.RegionText.{length-bytes_at, length-state_in, get_or-bytes_at}

-- what holds of each chunk holds at each index of the script's list
pub All-from_each : (bytes : List ℕ) (P : script.ScriptChunk → Type 0) (chunks : List Chunk)
    → Each (λ (c : Chunk). P (script_chunk bytes c)) chunks → All P (map (script_chunk bytes) chunks)
All-from_each bytes P [] h k d l = absurd (omega arith)
All-from_each bytes P (c ∷ rest) h zero d l = h.0
All-from_each bytes P (c ∷ rest) h (suc k) d l = All-from_each bytes P rest h.1 k d (omega arith)

-- the bytes of a span that the code doesn't meet stay
bytes_at-apart : (bytes code : List ℕ) (base from len : ℕ) → 0x10000 ≤ base → base + length code ≤ limit_of bytes → 0x10000 ≤ from
    → from + len ≤ limit_of bytes
    → (from + len ≤ base) ⊎ (base + length code ≤ from)
    → bytes_at (with_span bytes (base - 0x10000) code) from len ≡ bytes_at bytes from len
bytes_at-apart bytes code base from len low high from_low from_high apart =
    let new = with_span bytes (base - 0x10000) code in
    let as_long = length-with_span bytes (base - 0x10000) code (omega arith) in
    let one = length-bytes_at new from len from_low (omega (arith, as_long)) in
    let two = length-bytes_at bytes from len from_low from_high in
    ext_get_or 0 (bytes_at new from len) (bytes_at bytes from len) (one ∙ sym two)
    (λ k l.
    let at = from + k in
    let here : at - from ≡ k = omega arith in
    let inside : at < from + len = omega (arith, l, one) in
    ap (λ (i : ℕ). get_or (bytes_at new from len) i 0) (sym here) ∙ get_or-bytes_at new from len at from_low (omega arith) inside
    ∙ ⊎_elim
    (λ below. get_or-with_span_below bytes (base - 0x10000) code (at - 0x10000) 0 (omega arith) (omega (arith, below, inside)))
    (λ above. get_or-with_span_above bytes (base - 0x10000) code (at - 0x10000) 0 (omega arith) (omega (arith, above, inside))) apart
    ∙ sym (get_or-bytes_at bytes from len at from_low (omega arith) inside) ∙ ap (λ (i : ℕ). get_or (bytes_at bytes from len) i 0) here)

-- code that is put into a span stands in it
pub bytes_at-itself : (bytes code : List ℕ) (base : ℕ) → 0x10000 ≤ base → base + length code ≤ limit_of bytes
    → bytes_at (with_span bytes (base - 0x10000) code) base (length code) ≡ code
bytes_at-itself bytes code base low high =
    let new = with_span bytes (base - 0x10000) code in
    let as_long = length-with_span bytes (base - 0x10000) code (omega arith) in
    let one = length-bytes_at new base (length code) low (omega (arith, as_long)) in
    ext_get_or 0 (bytes_at new base (length code)) code one
    (λ k l.
    let at = base + k in
    let here : at - base ≡ k = omega arith in
    let inside : at < base + length code = omega (arith, l, one) in
    ap (λ (i : ℕ). get_or (bytes_at new base (length code)) i 0) (sym here) ∙ get_or-bytes_at new base (length code) at low
    (omega arith) inside
    ∙ get_or-with_span_in bytes (base - 0x10000) code (at - 0x10000) 0 (omega arith) (omega arith) (omega (arith, inside))
    ∙ ap (λ (i : ℕ). get_or code i 0) (omega arith))

-- a chunk's state stays where new code lies apart from it
pub state_in-apart : (bytes code : List ℕ) (base from len : ℕ) (s : ChunkState) → 0x10000 ≤ base → base + length code ≤ limit_of bytes
    → 0x10000 ≤ from → from + len ≤ limit_of bytes
    → (from + len ≤ base) ⊎ (base + length code ≤ from)
    → state_in (with_span bytes (base - 0x10000) code) from len s ≡ state_in bytes from len s
state_in-apart bytes code base from len Live low high from_low from_high apart =
    ap script.Live (bytes_at-apart bytes code base from len low high from_low from_high apart)
state_in-apart bytes code base from len (Retired stamp) low high from_low from_high apart = refl

-- the script's chunks stay where new code lies apart from them
pub chunks_apart : (bytes code : List ℕ) (base : ℕ) (chunks : List Chunk) → 0x10000 ≤ base → base + length code ≤ limit_of bytes
    → Each (λ (c : Chunk). HasGoodSpan c.base (limit_of bytes) c.length) chunks
    → Each (λ (c : Chunk). (c.base + c.length ≤ base) ⊎ (base + length code ≤ c.base)) chunks
    → map (script_chunk (with_span bytes (base - 0x10000) code)) chunks ≡ map (script_chunk bytes) chunks
chunks_apart bytes code base [] low high placed apart = refl
chunks_apart bytes code base (c ∷ rest) low high placed apart =
    ap (λ (s : script.ScriptChunkState). record { base = c.base; state = s } ∷ map (script_chunk (with_span bytes (base - 0x10000) code)) rest)
    (state_in-apart bytes code base c.base c.length c.state low high placed.0.low (omega (arith, placed.0.high)) apart.0)
    ∙ ap (λ (cs : List script.ScriptChunk). script_chunk bytes c ∷ cs) (chunks_apart bytes code base rest low high placed.1 apart.1)

-- a chunk of the script meets the span where one of the region does
pub occupied_meets : (bytes : List ℕ) (base len : ℕ) (chunks : List Chunk)
    → Each (λ (c : Chunk). HasGoodSpan c.base (limit_of bytes) c.length) chunks
    → Meets base len chunks → IsOccupied base len (map (script_chunk bytes) chunks)
occupied_meets bytes base len [] placed m = absurd m
occupied_meets bytes base len (c ∷ rest) placed (inl m) =
    let long = length-state_in bytes c.base c.length c.state placed.0.low (omega (arith, placed.0.high)) in
    (0, script_chunk bytes c, omega arith, refl, (omega (arith, m.0, long), m.1))
occupied_meets bytes base len (c ∷ rest) placed (inr m) =
    let (k, d, l, is, h) = occupied_meets bytes base len rest placed.1 m in
    (suc k, d, omega (arith, l), is, h)

-- a chunk of the region meets the span where one of the script does
pub meets_occupied : (bytes : List ℕ) (base len : ℕ) (chunks : List Chunk)
    → Each (λ (c : Chunk). HasGoodSpan c.base (limit_of bytes) c.length) chunks
    → IsOccupied base len (map (script_chunk bytes) chunks) → Meets base len chunks
meets_occupied bytes base len [] placed (k, d, l, is, h) = absurd (omega (arith, l))
meets_occupied bytes base len (c ∷ rest) placed (zero, d, l, is, h) =
    let long = length-state_in bytes c.base c.length c.state placed.0.low (omega (arith, placed.0.high)) in
    let same : d ≡ script_chunk bytes c = sym is in
    let m = subst (λ (x : script.ScriptChunk). script.MeetsSpan base len x) same h in
    inl (omega (arith, m.0, long), m.1)
meets_occupied bytes base len (c ∷ rest) placed (suc k, d, l, is, h) =
    inr (meets_occupied bytes base len rest placed.1 (k, d, omega (arith, l), is, h))

-- the chunk in the script's list, where the region's chunk is in the region's
pub inserted : (bytes code : List ℕ) (base k : ℕ) (chunks : List Chunk) → 0x10000 ≤ base → base + length code ≤ limit_of bytes
    → 0 < length code
    → Each (λ (c : Chunk). HasGoodSpan c.base (limit_of bytes) c.length) chunks → FitsAt base (length code) chunks k
    → IsPutBetween (record { base = base; state = script.Live code }) (map (script_chunk bytes) chunks)
    (map (script_chunk (with_span bytes (base - 0x10000) code)) (insert chunks k (record { base = base; length = length code; state = Live })))
inserted bytes code base k chunks low high some placed (short, above, below) =
    let new = with_span bytes (base - 0x10000) code in
    let first = take k chunks in
    let rest = drop k chunks in
    let chunk : Chunk = record { base = base; length = length code; state = Live } in
    let shown : script.ScriptChunk = record { base = base; state = script.Live code } in
    let first_placed = each_take (λ (c : Chunk). HasGoodSpan c.base (limit_of bytes) c.length) k chunks placed in
    let rest_placed = each_drop (λ (c : Chunk). HasGoodSpan c.base (limit_of bytes) c.length) k chunks placed in
    let first_same = chunks_apart bytes code base first low high first_placed
    (each_map (λ (d : Chunk). d.base + d.length ≤ base) (λ (d : Chunk). (d.base + d.length ≤ base) ⊎ (base + length code ≤ d.base))
    (λ d h. inl h) first above) in
    let rest_same = chunks_apart bytes code base rest low high rest_placed
    (each_map (λ (d : Chunk). base + length code ≤ d.base) (λ (d : Chunk). (d.base + d.length ≤ base) ⊎ (base + length code ≤ d.base))
    (λ d h. inr h) rest below) in
    let chunk_same : script_chunk new chunk ≡ shown =
    ap (λ (bs : List ℕ). record { base = base; state = script.Live bs }) (bytes_at-itself bytes code base low high) in
    record {
      before = map (script_chunk bytes) first;
      after = map (script_chunk bytes) rest;
      old_is = ap (map (script_chunk bytes)) (sym (take-append-drop k chunks)) ∙ map-append (script_chunk bytes) first rest;
      new_is = map-append (script_chunk new) first (chunk ∷ rest)
          ∙ ap (λ (cs : List script.ScriptChunk). cs ++ map (script_chunk new) (chunk ∷ rest)) first_same
          ∙ ap (λ (c : script.ScriptChunk). map (script_chunk bytes) first ++ c ∷ map (script_chunk new) rest) chunk_same
          ∙ ap (λ (cs : List script.ScriptChunk). map (script_chunk bytes) first ++ shown ∷ cs) rest_same;
      lower = All-from_each bytes (λ c. c.base < base) first
          (each_both (λ (d : Chunk). d.base + d.length ≤ base) (λ (d : Chunk). HasGoodSpan d.base (limit_of bytes) d.length)
          (λ (d : Chunk). d.base < base) (λ d h p. omega (arith, h, p.some)) first above first_placed);
      higher = All-from_each bytes (λ c. base < c.base) rest
          (each_map (λ (d : Chunk). base + length code ≤ d.base) (λ (d : Chunk). base < d.base)
          (λ d h. omega (arith, h, some)) rest below);
    }
