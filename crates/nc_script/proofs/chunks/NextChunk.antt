-- The chunk of a script that ends first above an address is the one that the region finds.
use Rattle.std.proofs.Common.{◌≡◌, ℕ, ◌+◌, ◌<◌, ◌≤◌, Bool, cond, List, [], ◌∷◌, ◌++◌, length, filter, map, Some, None, refl, ap}
use Rattle.std.proofs.Common.{◌∙◌, ltb, subst, arith}
use Rattle.std.specs.List.{slice_get}
use Rattle.std.proofs.lemmas.Bool.{lt-ltb, le-ltb}
use Rattle.nc_text.specs.Places.{limit_of}
use Rattle.nc_base.specs.Each.{Each}
use Rattle.nc_acts.specs.Chunks.{HasGoodSpan}
use Rattle.nc_region.specs.Region.{IsAboveAll, IsNextChunk}
use Rattle.nc_list.specs.declared.chunk.Chunk.{Chunk}
use Rattle.nc_script.specs.Queries.{next_chunk}
use Rattle.nc_script.specs.Script as script
use Rattle.nc_script.specs.Script.{standing_bytes}
use Rattle.nc_script.specs.machinery.Session.{script_chunk}
use Rattle.nc_script.proofs.chunks.RegionText.{length-state_in}

-- the chunks of the script that end above the address
abbrev ending_above : ℕ → List script.ScriptChunk → List script.ScriptChunk
ending_above at chunks = filter (λ (c : script.ScriptChunk). ltb at (c.base + length (standing_bytes c.state))) chunks

-- a chunk that ends above the address is the first one in the list of these, however the list goes on
ends_above : (bytes : List ℕ) (at : ℕ) (c : Chunk) (rest : List script.ScriptChunk) → HasGoodSpan c.base (limit_of bytes) c.length
    → at < c.base + c.length → ending_above at (script_chunk bytes c ∷ rest) ≡ script_chunk bytes c ∷ ending_above at rest
ends_above bytes at c rest placed above =
    let long = length-state_in bytes c.base c.length c.state placed.low (omega (arith, placed.high)) in
    ap (λ (t : Bool). cond t (script_chunk bytes c ∷ ending_above at rest) (ending_above at rest))
    (lt-ltb at (c.base + length (standing_bytes (script_chunk bytes c).state)) (omega (arith, above, long)))

-- a chunk that ends at or below the address isn't among those that end above it
ends_below : (bytes : List ℕ) (at : ℕ) (c : Chunk) (rest : List script.ScriptChunk) → HasGoodSpan c.base (limit_of bytes) c.length
    → c.base + c.length ≤ at → ending_above at (script_chunk bytes c ∷ rest) ≡ ending_above at rest
ends_below bytes at c rest placed below =
    let long = length-state_in bytes c.base c.length c.state placed.low (omega (arith, placed.high)) in
    ap (λ (t : Bool). cond t (script_chunk bytes c ∷ ending_above at rest) (ending_above at rest))
    (le-ltb at (c.base + length (standing_bytes (script_chunk bytes c).state)) (omega (arith, below, long)))

-- the first one that ends above the address, behind those that don't
first_above : (bytes : List ℕ) (at : ℕ) (before after : List Chunk) (c : Chunk)
    → Each (λ (d : Chunk). HasGoodSpan d.base (limit_of bytes) d.length) (before ++ c ∷ after) → IsAboveAll at before
    → at < c.base + c.length → next_chunk at (map (script_chunk bytes) (before ++ c ∷ after)) ≡ Some (script_chunk bytes c)
first_above bytes at [] after c placed below above =
    ap (λ (cs : List script.ScriptChunk). slice_get cs 0) (ends_above bytes at c (map (script_chunk bytes) after) placed.0 above)
first_above bytes at (d ∷ before) after c placed below above =
    ap (λ (cs : List script.ScriptChunk). slice_get cs 0)
    (ends_below bytes at d (map (script_chunk bytes) (before ++ c ∷ after)) placed.0 below.0)
    ∙ first_above bytes at before after c placed.1 below.1 above

-- the script finds the next chunk that the region finds
pub next_found : (bytes : List ℕ) (at : ℕ) (chunks : List Chunk) (c : Chunk)
    → Each (λ (d : Chunk). HasGoodSpan d.base (limit_of bytes) d.length) chunks → IsNextChunk chunks at c
    → next_chunk at (map (script_chunk bytes) chunks) ≡ Some (script_chunk bytes c)
next_found bytes at chunks c placed next =
    ap (λ (cs : List Chunk). next_chunk at (map (script_chunk bytes) cs)) next.parts
    ∙ first_above bytes at next.before next.after c
    (subst (Each (λ (d : Chunk). HasGoodSpan d.base (limit_of bytes) d.length)) next.parts placed) next.below next.above

-- where each chunk ends at or below the address, there is no next chunk
pub none_found : (bytes : List ℕ) (at : ℕ) (chunks : List Chunk)
    → Each (λ (d : Chunk). HasGoodSpan d.base (limit_of bytes) d.length) chunks → IsAboveAll at chunks
    → next_chunk at (map (script_chunk bytes) chunks) ≡ None
none_found bytes at [] placed below = refl
none_found bytes at (d ∷ rest) placed below =
    ap (λ (cs : List script.ScriptChunk). slice_get cs 0) (ends_below bytes at d (map (script_chunk bytes) rest) placed.0 below.0)
    ∙ none_found bytes at rest placed.1 below.1
