-- The text that a region's chunks stand for is the region's text.
use Rattle.std.proofs.Common.{◌≡◌, ℕ, ◌+◌, ◌-◌, ◌<◌, ◌≤◌, ◌⊎◌, inl, inr, Bool, true, false, cond, ◌&&◌, leb, ltb, List, [], ◌∷◌, length}
use Rattle.std.proofs.Common.{get_or, drop, map, refl, sym, ap, ◌∙◌, ⊎_elim, arith}
use Rattle.std.proofs.lemmas.Bool.{leb-true, leb-false, ltb-true, ltb-false}
use Rattle.std.proofs.lemmas.List.{get_or-take, get_or-drop, get_or-replicate, length-take-le, length-drop, length-replicate, ext_get_or}
use Rattle.std.proofs.lemmas.List.FromFn.{length-map-range_with_len, get_or-map-range_with_len}
use Rattle.nc_text.specs.Places.{limit_of, byte_at}
use Rattle.nc_list.specs.declared.chunk.Chunk.{Chunk}
use Rattle.nc_list.specs.declared.chunk.ChunkState.{ChunkState}
use Rattle.nc_list.specs.declared.chunk.ChunkState.TheVariants.{Live, Retired}
use Rattle.nc_base.specs.Each.{Each}
use Rattle.nc_acts.specs.Chunks.{HasGoodSpan}
use Rattle.nc_region.specs.Region.{Region, IsRegion, IsAscending, IsLive, IsInChunk}
use Rattle.nc_script.specs.Script as script
use Rattle.nc_script.specs.Script.{byte_in, standing_bytes, script_text}
use Rattle.nc_script.specs.machinery.Session.{bytes_at, state_in, script_chunk, script_of}

-- a span has as many bytes as its length
pub length-bytes_at : (bytes : List ℕ) (base len : ℕ) → 0x10000 ≤ base → base + len ≤ limit_of bytes
    → length (bytes_at bytes base len) ≡ len
length-bytes_at bytes base len low high =
    length-take-le len (drop (base - 0x10000) bytes) (omega (arith, length-drop (base - 0x10000) bytes))

-- in a span stand the region's bytes
pub get_or-bytes_at : (bytes : List ℕ) (base len at : ℕ) → 0x10000 ≤ base → base ≤ at → at < base + len
    → get_or (bytes_at bytes base len) (at - base) 0 ≡ byte_at bytes at
get_or-bytes_at bytes base len at low from to =
    get_or-take len (drop (base - 0x10000) bytes) (at - base) 0 (omega arith)
    ∙ get_or-drop (base - 0x10000) bytes (at - base) 0
    ∙ ap (λ (k : ℕ). get_or bytes k 0) (omega arith)

-- a chunk's state has as many bytes as its span
pub length-state_in : (bytes : List ℕ) (base len : ℕ) (s : ChunkState) → 0x10000 ≤ base → base + len ≤ limit_of bytes
    → length (standing_bytes (state_in bytes base len s)) ≡ len
length-state_in bytes base len Live low high = length-bytes_at bytes base len low high
length-state_in bytes base len (Retired stamp) low high = length-replicate len 0xF4

-- in its span a chunk's state has the text's bytes
byte_here : (bytes : List ℕ) (base len at : ℕ) (s : ChunkState) → 0x10000 ≤ base → base ≤ at → at < base + len
    → ((IsLive s → ⊥) → byte_at bytes at ≡ 0xF4)
    → get_or (standing_bytes (state_in bytes base len s)) (at - base) 0 ≡ byte_at bytes at
byte_here bytes base len at Live low from to stop = get_or-bytes_at bytes base len at low from to
byte_here bytes base len at (Retired stamp) low from to stop = get_or-replicate len (at - base) 0xF4 0 (omega arith) ∙ sym (stop (λ h. h))

-- a choice by two tests has the value that both of its branches have
choose : (p q : Bool) (x y v : ℕ) → (p ≡ true → q ≡ true → x ≡ v) → ((p ≡ false) ⊎ (q ≡ false) → y ≡ v) → cond (p && q) x y ≡ v
choose true true x y v within beyond = within refl refl
choose true false x y v within beyond = beyond (inr refl)
choose false q x y v within beyond = beyond (inl refl)

-- the byte is that of the first chunk, or that of the rest where the first has not the place
first_or_rest : (c : script.ScriptChunk) (rest : List script.ScriptChunk) (at v : ℕ)
    → (c.base ≤ at → at < c.base + length (standing_bytes c.state) → get_or (standing_bytes c.state) (at - c.base) 0 ≡ v)
    → ((c.base ≤ at → at < c.base + length (standing_bytes c.state) → ⊥) → byte_in rest at ≡ v)
    → byte_in (c ∷ rest) at ≡ v
first_or_rest c rest at v within beyond =
    choose (leb c.base at) (ltb at (c.base + length (standing_bytes c.state))) _ _ v
    (λ p q. within (leb-true _ _ p) (ltb-true _ _ q))
    (λ out. beyond (λ from to. ⊎_elim (λ p. omega (arith, leb-false _ _ p)) (λ q. omega (arith, ltb-false _ _ q)) out))

-- where a list begins above a place, none of its chunks has the place
none_above : (at from : ℕ) (chunks : List Chunk) → IsAscending from chunks → at < from
    → Each (λ (c : Chunk). IsLive c.state → IsInChunk c at → ⊥) chunks
none_above at from [] r l = tt
none_above at from (c ∷ rest) r l =
    (λ live inside. omega (arith, inside.0, r.0), none_above at (c.base + c.length) rest r.1 (omega (arith, r.0)))

-- each place of the region has the text's byte
byte_in-chunks : (bytes : List ℕ) (at from : ℕ) (chunks : List Chunk) → IsAscending from chunks
    → Each (λ (c : Chunk). HasGoodSpan c.base (limit_of bytes) c.length) chunks
    → (Each (λ (c : Chunk). IsLive c.state → IsInChunk c at → ⊥) chunks → byte_at bytes at ≡ 0xF4)
    → byte_in (map (script_chunk bytes) chunks) at ≡ byte_at bytes at
byte_in-chunks bytes at from [] ascending placed stops = sym (stops tt)
byte_in-chunks bytes at from (c ∷ rest) ascending placed stops =
    let high : c.base + c.length ≤ limit_of bytes = omega (arith, placed.0.high) in
    let long = length-state_in bytes c.base c.length c.state placed.0.low high in
    first_or_rest (script_chunk bytes c) (map (script_chunk bytes) rest) at (byte_at bytes at)
    (λ low to. byte_here bytes c.base c.length at c.state placed.0.low low (omega (arith, long))
    (λ dead. stops (λ live inside. dead live, none_above at (c.base + c.length) rest ascending.1 (omega (arith, long)))))
    (λ out. byte_in-chunks bytes at (c.base + c.length) rest ascending.1 placed.1
    (λ others. stops (λ live inside. out inside.0 (omega (arith, long, inside.1)), others)))

-- the text of the script's state is the region's
pub script_text-script_of : (region : Region) (seats : List script.ScriptSeat) (freed : ℕ) → IsRegion region.marked region.chunks
    → script_text (script_of region seats freed) ≡ region.marked.bytes
script_text-script_of region seats freed is =
    let bytes = region.marked.bytes in
    let n = limit_of bytes - 0x10000 in
    let same : n ≡ length bytes = omega arith in
    let chunks = map (script_chunk bytes) region.chunks in
    ext_get_or 0 (script_text (script_of region seats freed)) bytes (length-map-range_with_len (byte_in chunks) 0x10000 n ∙ same)
    (λ k l.
    let inside : k < n = omega (arith, l, length-map-range_with_len (byte_in chunks) 0x10000 n) in
    get_or-map-range_with_len (byte_in chunks) 0x10000 n k (0x10000 + k) 0 inside refl
    ∙ byte_in-chunks bytes (0x10000 + k) 0x10000 region.chunks is.ascending is.placed
    (λ out. is.stops (0x10000 + k) (omega arith, omega (arith, inside)) out)
    ∙ ap (λ (i : ℕ). get_or bytes i 0) (omega arith))
