-- The chunks of a script after a patch, or a deletion, of one of them.
use Rattle.std.proofs.Common.{◌≡◌, ℕ, zero, suc, ◌+◌, ◌-◌, ◌%◌, ◌<◌, ◌≤◌, ◌⊎◌, inl, inr, Bool, true, false, cond, ◌&&◌, leb, ltb, List}
use Rattle.std.proofs.Common.{[], ◌∷◌}
use Rattle.std.proofs.Common.{length, get_or, map, refl, sym, ap, ◌∙◌, ⊎_elim, subst, arith}
use Rattle.std.specs.Prelude.{Contains}
use Rattle.std.proofs.lemmas.Bool.{lt-ltb, le-leb, le-ltb, lt-leb, cases_lt}
use Rattle.nc_text.specs.Places.{limit_of}
use Rattle.nc_text.specs.MarkedText.{with_span}
use Rattle.nc_text.proofs.Offered.{length-with_span, is_with_span, get_or-with_span_in, get_or-with_span_below}
use Rattle.nc_text.proofs.Offered.{get_or-with_span_above}
use Rattle.nc_list.specs.declared.chunk.Chunk.{Chunk}
use Rattle.nc_list.specs.declared.chunk.ChunkState.{ChunkState}
use Rattle.nc_list.specs.declared.chunk.ChunkState.TheVariants.{Live, Retired}
use Rattle.nc_base.specs.Each.{Each}
use Rattle.nc_base.proofs.Offered.{each_map}
use Rattle.nc_acts.specs.Chunks.{HasGoodSpan}
use Rattle.nc_region.specs.Region.{IsAscending, IsLive}
use Rattle.nc_script.specs.Script as script
use Rattle.nc_script.specs.Script.{standing_bytes, covers}
use Rattle.nc_script.specs.Patching.{patched_state, patched_at}
use Rattle.nc_script.specs.machinery.Session.{bytes_at, state_in, script_chunk}
use Rattle.nc_script.proofs.chunks.RegionText.{length-bytes_at, length-state_in, get_or-bytes_at}
use Rattle.nc_script.proofs.chunks.Creating.{state_in-apart}
use Rattle.nc_script.proofs.chunks.Listed.{ascending_listed, ascending_each}

-- a chunk lies apart from a span, or it is live and has the whole of it
abbrev pub IsApartOrAround : ℕ → ℕ → Chunk → Type 0
IsApartOrAround at len d =
    ((d.base + d.length ≤ at) ⊎ (at + len ≤ d.base)) ⊎ (IsLive d.state × (d.base ≤ at) × (at + len ≤ d.base + d.length))

-- where a live chunk has a span, each chunk lies apart from it or has the whole of it
pub apart_or_around : (from at len : ℕ) (chunks : List Chunk) (c : Chunk) → IsAscending from chunks → Contains chunks c → IsLive c.state
    → c.base ≤ at → at + len ≤ c.base + c.length → Each (IsApartOrAround at len) chunks
apart_or_around from at len [] c ascending (k, l, e) live low high = tt
apart_or_around from at len (d ∷ rest) c ascending (zero, l, e) live low high = (
  subst (IsApartOrAround at len) (sym e) (inr (live, low, high)),
  each_map (λ (x : Chunk). at + len ≤ x.base) (IsApartOrAround at len) (λ x h. inl (inr h)) rest
      (ascending_each (d.base + d.length) (at + len) rest
      (subst (λ (x : Chunk). at + len ≤ x.base + x.length) (sym e) high) ascending.1),
)
apart_or_around from at len (d ∷ rest) c ascending (suc k, l, e) live low high =
    let listed : Contains rest c = (k, omega (arith, l), e) in (
      inl (inl (omega (arith, low, ascending_listed (d.base + d.length) rest c ascending.1 listed))),
      apart_or_around (d.base + d.length) at len rest c ascending.1 listed live low high,
    )

-- the bytes of a span inside of which code was put
bytes_at-around : (bytes code : List ℕ) (at base len : ℕ) → 0x10000 ≤ base → base ≤ at → at + length code ≤ base + len
    → base + len ≤ limit_of bytes
    → bytes_at (with_span bytes (at - 0x10000) code) base len ≡ with_span (bytes_at bytes base len) (at - base) code
bytes_at-around bytes code at base len low from to high =
    let new = with_span bytes (at - 0x10000) code in
    let fits : at - 0x10000 + length code ≤ length bytes = omega (arith, low, from, to, high) in
    let as_long = length-with_span bytes (at - 0x10000) code fits in
    let one = length-bytes_at new base len low (omega (arith, as_long, high)) in
    let two = length-bytes_at bytes base len low high in
    is_with_span (bytes_at new base len) (bytes_at bytes base len) (at - base) code 0 (omega (arith, two, from, to)) (one ∙ sym two)
    (λ k l.
    let here : base + k - base ≡ k = omega arith in
    let inside : base + k < base + len = omega (arith, l, from, to) in
    ap (λ (i : ℕ). get_or (bytes_at new base len) i 0) (sym here) ∙ get_or-bytes_at new base len (base + k) low (omega arith) inside
    ∙ get_or-with_span_below bytes (at - 0x10000) code (base + k - 0x10000) 0 fits (omega (arith, l, low, from))
    ∙ sym (get_or-bytes_at bytes base len (base + k) low (omega arith) inside)
    ∙ ap (λ (i : ℕ). get_or (bytes_at bytes base len) i 0) here)
    (λ k ge lt.
    let here : base + k - base ≡ k = omega arith in
    let inside : base + k < base + len = omega (arith, lt, from, to) in
    ap (λ (i : ℕ). get_or (bytes_at new base len) i 0) (sym here) ∙ get_or-bytes_at new base len (base + k) low (omega arith) inside
    ∙ get_or-with_span_in bytes (at - 0x10000) code (base + k - 0x10000) 0 fits (omega (arith, ge, low, from))
    (omega (arith, lt, low, from))
    ∙ ap (λ (i : ℕ). get_or code i 0) (omega (arith, ge, low, from)))
    (λ k ge.
    ⊎_elim
    (λ (lt : k < len).
    let here : base + k - base ≡ k = omega arith in
    let inside : base + k < base + len = omega (arith, lt) in
    ap (λ (i : ℕ). get_or (bytes_at new base len) i 0) (sym here) ∙ get_or-bytes_at new base len (base + k) low (omega arith) inside
    ∙ get_or-with_span_above bytes (at - 0x10000) code (base + k - 0x10000) 0 fits (omega (arith, ge, low, from))
    ∙ sym (get_or-bytes_at bytes base len (base + k) low (omega arith) inside)
    ∙ ap (λ (i : ℕ). get_or (bytes_at bytes base len) i 0) here)
    (λ (past : len ≤ k).
    get_or-past (bytes_at new base len) k 0 (omega (arith, one, past))
    ∙ sym (get_or-past (bytes_at bytes base len) k 0 (omega (arith, two, past))))
    (cases_lt k len))
  where
    get_or-past : (xs : List ℕ) (k d : ℕ) → length xs ≤ k → get_or xs k d ≡ d
    get_or-past [] k d l = refl
    get_or-past (x ∷ xs) zero d l = absurd (omega (arith, l))
    get_or-past (x ∷ xs) (suc k) d l = get_or-past xs k d (omega (arith, l))

-- a test of two that holds
both : (p q : Bool) (x y : script.ScriptChunk) → p ≡ true → q ≡ true → cond (p && q) x y ≡ x
both true true x y a b = refl
both true false x y a b = absurd cc
both false q x y a b = absurd cc

-- a test of two that doesn't
either : (p q : Bool) (x y : script.ScriptChunk) → (p ≡ false) ⊎ (q ≡ false) → cond (p && q) x y ≡ y
either true true x y (inl a) = absurd cc
either true true x y (inr a) = absurd cc
either true false x y h = refl
either false q x y h = refl

-- the state of a live chunk with bytes put into it
around_state : (bytes code : List ℕ) (at base len : ℕ) (s : ChunkState) → IsLive s → 0x10000 ≤ base → base ≤ at
    → at + length code ≤ base + len → base + len ≤ limit_of bytes
    → state_in (with_span bytes (at - 0x10000) code) base len s ≡ patched_state (at - base) code (state_in bytes base len s)
around_state bytes code at base len Live live low from to high =
    ap (λ (bs : List ℕ). script.Live bs) (bytes_at-around bytes code at base len low from to high)
around_state bytes code at base len (Retired stamp) live low from to high = absurd live

-- one chunk of the list after the patch
patched_one : (bytes code : List ℕ) (at : ℕ) (d : Chunk) → 0 < length code → 0x10000 ≤ at → at + length code ≤ limit_of bytes
    → HasGoodSpan d.base (limit_of bytes) d.length → IsApartOrAround at (length code) d
    → script_chunk (with_span bytes (at - 0x10000) code) d ≡ patched_at at code (script_chunk bytes d)
patched_one bytes code at d some low high placed (inl apart) =
    let long = length-state_in bytes d.base d.length d.state placed.low (omega (arith, placed.high)) in
    ap (λ (s : script.ScriptChunkState). record { base = d.base; state = s })
    (state_in-apart bytes code at d.base d.length d.state low high placed.low (omega (arith, placed.high)) apart)
    ∙ sym (either (leb d.base at) (ltb at (d.base + length (standing_bytes (state_in bytes d.base d.length d.state)))) _ _
    (⊎_elim (λ (below : d.base + d.length ≤ at). inr (le-ltb _ _ (omega (arith, below, long))))
    (λ (above : at + length code ≤ d.base). inl (lt-leb _ _ (omega (arith, above, some)))) apart))
patched_one bytes code at d some low high placed (inr around) =
    let long = length-state_in bytes d.base d.length d.state placed.low (omega (arith, placed.high)) in
    ap (λ (s : script.ScriptChunkState). record { base = d.base; state = s })
    (around_state bytes code at d.base d.length d.state around.0 placed.low around.1 around.2 (omega (arith, placed.high)))
    ∙ sym (both (leb d.base at) (ltb at (d.base + length (standing_bytes (state_in bytes d.base d.length d.state)))) _ _
    (le-leb _ _ around.1) (lt-ltb _ _ (omega (arith, around.2, some, long))))

-- a patch of the text patches each chunk of the script
patched_each : (bytes code : List ℕ) (at : ℕ) (chunks : List Chunk) → 0 < length code → 0x10000 ≤ at → at + length code ≤ limit_of bytes
    → Each (λ (d : Chunk). HasGoodSpan d.base (limit_of bytes) d.length) chunks → Each (IsApartOrAround at (length code)) chunks
    → map (script_chunk (with_span bytes (at - 0x10000) code)) chunks ≡ map (patched_at at code) (map (script_chunk bytes) chunks)
patched_each bytes code at [] some low high placed apart = refl
patched_each bytes code at (d ∷ rest) some low high placed apart =
    ap (λ (c : script.ScriptChunk). c ∷ map (script_chunk (with_span bytes (at - 0x10000) code)) rest)
    (patched_one bytes code at d some low high placed.0 apart.0)
    ∙ ap (λ (cs : List script.ScriptChunk). patched_at at code (script_chunk bytes d) ∷ cs)
    (patched_each bytes code at rest some low high placed.1 apart.1)

-- the chunks of the script after a patch of one of them
pub patched_chunks : (bytes code : List ℕ) (at : ℕ) (chunks : List Chunk) (c : Chunk) → 0 < length code → at % 32 + length code ≤ 32
    → IsAscending 0x10000 chunks → Each (λ (d : Chunk). HasGoodSpan d.base (limit_of bytes) d.length) chunks
    → HasGoodSpan c.base (limit_of bytes) c.length → Contains chunks c → IsLive c.state → c.base ≤ at → at < c.base + c.length
    → map (script_chunk (with_span bytes (at - 0x10000) code)) chunks ≡ map (patched_at at code) (map (script_chunk bytes) chunks)
patched_chunks bytes code at chunks c some bundle ascending placed here listed live from to =
    let base_is : c.base % 32 ≡ 0 = here.start in
    let end : at + length code ≤ c.base + c.length = omega (arith, bundle, base_is, here.whole, from, to) in
    patched_each bytes code at chunks some (omega (arith, here.low, from)) (omega (arith, end, here.high)) placed
    (apart_or_around 0x10000 at (length code) chunks c ascending listed live from end)
