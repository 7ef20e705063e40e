-- What is read from a span of a text.
use Rattle.std.proofs.Common.{◌≡◌, ◌==◌, Bool, false, ℕ, ◌+◌, ◌-◌, ◌*◌, ◌/◌, ◌%◌, ◌^◌, ◌<◌, ◌≤◌, List, ◌++◌, length, get_or, take, drop, ap, arith, sym, subst, ◌∙◌}
use Rattle.std.proofs.lemmas.Bool.{eqb-false}
use Rattle.std.proofs.lemmas.List.{get_or-drop, get_or-take, length-drop, length-take-le}
use Rattle.std.proofs.Math.Seq.{drop-append_seam, take-append_seam}
use Rattle.nc_text.specs.Places.{byte_at, limit_of}
use Rattle.nc_text.specs.MarkedText.{with_span}
use Rattle.nc_vet.specs.Chunk.{MarkedChunk, IsValid}
use Rattle.nc_vet.specs.Faults.{HasGoodSpan}
use Rattle.nc_region.specs.Region.{Region, IsCreated}
use Rattle.nc_acts.specs.Log.{log_of_create}
use Rattle.nc_host_acts.specs.declared.act.NcAct.{NcAct}
use Rattle.nc_host_handles.specs.RegionHandle.{IsShort}
use Rattle.nc_host_handles.specs.Lent.{IsReported, bytes_of_span}

-- a span of the text has as many bytes as it has places
pub span_long : (text : List ℕ) (base len : ℕ) → HasGoodSpan base (limit_of text) len → length (bytes_of_span text base len) ≡ len
span_long text base len g =
    length-take-le len (drop (base - 0x10000) text) (omega (arith, g.low, g.high, length-drop (base - 0x10000) text))

-- the end of a span of the text has an address
pub span_high : (text : List ℕ) (base len : ℕ) → HasGoodSpan base (limit_of text) len → base + length (bytes_of_span text base len) < 2 ^ 32
span_high text base len g = omega (arith, span_long text base len g, g.high, g.lawful.2)

-- a span is whole bundles
pub span_whole : (text : List ℕ) (base len : ℕ) → HasGoodSpan base (limit_of text) len → length (bytes_of_span text base len) % 32 ≡ 0
span_whole text base len g = ap (λ (n : ℕ). n % 32) (span_long text base len g) ∙ g.whole

-- a buffer that is lent, and not too short, has room
has_room : (room wanted : ℕ) → ¬ IsShort room wanted → (room ≡ 0 → ⊥) → wanted ≤ room
has_room room wanted roomy some = grind (arith, roomy, some)

-- a buffer that is lent, and not too short, has room for the acts of a span
pub span_room : (text : List ℕ) (base len room : ℕ) (empty : Bool) → HasGoodSpan base (limit_of text) len → ¬ IsShort room (len + 2)
    → empty ≡ (room == 0) → empty ≡ false → length (bytes_of_span text base len) + 2 ≤ room
span_room text base len room empty g roomy is lent =
    omega (arith, span_long text base len g, has_room room (len + 2) roomy (eqb-false room 0 (sym is ∙ lent)))

-- a buffer with room for the runs of as many places has room for those of a span
pub span_runs : (text : List ℕ) (base len room : ℕ) → HasGoodSpan base (limit_of text) len → 2 * (len / 32) + 2 ≤ room
    → 2 * (length (bytes_of_span text base len) / 32) + 2 ≤ room
span_runs text base len room g fits = subst (λ (n : ℕ). 2 * (n / 32) + 2 ≤ room) (sym (span_long text base len g)) fits

-- the byte at a place of the span
pub span_byte : (text : List ℕ) (base len n : ℕ) → HasGoodSpan base (limit_of text) len → n < len
    → byte_at text (base + n) ≡ get_or (bytes_of_span text base len) n 0
span_byte text base len n g lt =
    let here : base + n - 0x10000 ≡ base - 0x10000 + n = omega (arith, g.low) in
    sym (get_or-take len (drop (base - 0x10000) text) n 0 lt
    ∙ (get_or-drop (base - 0x10000) text n 0 ∙ ap (λ (k : ℕ). get_or text k 0) (sym here)))

-- what was put into a span stands in it
pub span_put : (text : List ℕ) (base : ℕ) (code : List ℕ) → HasGoodSpan base (limit_of text) (length code)
    → bytes_of_span (with_span text (base - 0x10000) code) base (length code) ≡ code
span_put text base code g =
    let start = base - 0x10000 in
    let rest : List ℕ = code ++ drop (start + length code) text in
    let before : length (take start text) ≡ start = length-take-le start text (omega (arith, g.low, g.high)) in
    let there : drop start (take start text ++ rest) ≡ rest =
    subst (λ (k : ℕ). drop k (take start text ++ rest) ≡ rest) before (drop-append_seam (take start text) rest) in
    ap (λ (z : List ℕ). take (length code) z) there ∙ take-append_seam code (drop (start + length code) text)

-- the span of a valid chunk, in a region with the chunk's limit
pub chunk_span : (r : Region) (v : MarkedChunk) → IsValid v → v.limit ≡ limit_of r.marked.bytes → HasGoodSpan v.base (limit_of r.marked.bytes) (length v.code)
chunk_span r v valid limit =
    subst (λ (n : ℕ). HasGoodSpan v.base n (length v.code)) limit
    (record { lawful = valid.range.0; start = valid.base_is.0; whole = valid.length_is.1; some = valid.length_is.0; low = valid.base_is.1; high = valid.range.1 })

-- the acts that were reported for what stands in the span of a chunk that was created are those for its code
pub created_reported : (old new : Region) (v : MarkedChunk) (base : ℕ) (code : List ℕ) (acts now : List NcAct) (count : ℕ) → base ≡ v.base → code ≡ v.code
    → IsCreated old new v → IsValid v → v.limit ≡ limit_of old.marked.bytes
    → IsReported acts now count (log_of_create base (bytes_of_span new.marked.bytes base (length code))) → IsReported acts now count (log_of_create v.base v.code)
created_reported old new v base code acts now count at is made valid limit reported =
    let stands : bytes_of_span new.marked.bytes v.base (length v.code) ≡ v.code =
    ap (λ (t : List ℕ). bytes_of_span t v.base (length v.code)) made.bytes ∙ span_put old.marked.bytes v.base v.code (chunk_span old v valid limit) in
    subst (λ (z : List ℕ). IsReported acts now count (log_of_create v.base z)) stands
    (subst (λ (z : List ℕ). IsReported acts now count (log_of_create v.base (bytes_of_span new.marked.bytes v.base (length z)))) is
    (subst (λ (b : ℕ). IsReported acts now count (log_of_create b (bytes_of_span new.marked.bytes b (length code)))) at reported))
