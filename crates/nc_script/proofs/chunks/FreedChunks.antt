-- The chunks of a script after a reclaim.
use Rattle.std.proofs.Common.{◌≡◌, ℕ, ◌<◌, ◌≤◌, min, Bool, true, false, not, cond, leb, List, [], ◌∷◌, length, filter, map, refl, sym, ap}
use Rattle.std.proofs.Common.{◌∙◌}
use Rattle.std.proofs.Common.{⊎_elim, arith}
use Rattle.std.proofs.lemmas.Bool.{le-leb, lt-leb, cases_lt}
use Rattle.std.proofs.lemmas.List.{length-map}
use Rattle.nc_list.specs.declared.chunk.Chunk.{Chunk}
use Rattle.nc_list.specs.declared.chunk.ChunkState.{ChunkState}
use Rattle.nc_list.specs.declared.chunk.ChunkState.TheVariants.{Live, Retired}
use Rattle.nc_base.specs.Each.{Each}
use Rattle.nc_region.specs.Deletion as region
use Rattle.nc_script.specs.Script as script
use Rattle.nc_script.specs.Reuse.{is_freed_by, freed_by, kept_by}
use Rattle.nc_script.specs.machinery.Session.{state_in, script_chunk, IsStamped}
use Rattle.nc_script.proofs.chunks.Fitting.{AreStamped}

-- a stamp that isn't above the generation is due by a number where it is due by the lower of the two
same_test : (stamp least generation : ℕ) → stamp ≤ generation → leb stamp (min least generation) ≡ leb stamp least
same_test stamp least generation le =
    ⊎_elim
    (λ (above : least < stamp). lt-leb stamp (min least generation) (omega (arith, above)) ∙ sym (lt-leb stamp least above))
    (λ (below : stamp ≤ least). le-leb stamp (min least generation) (omega (arith, below, le)) ∙ sym (le-leb stamp least below))
    (cases_lt least stamp)

-- a chunk's state in the script is due where the region's is
same_due : (bytes : List ℕ) (base len least generation : ℕ) (s : ChunkState) → IsStamped generation s
    → is_freed_by (min least generation) (state_in bytes base len s) ≡ region.is_due least s
same_due bytes base len least generation Live h = refl
same_due bytes base len least generation (Retired stamp) h = same_test stamp least generation h

-- tests that agree keep the same of a list of chunks as of the list made of it
kept_both : (f : Chunk → script.ScriptChunk) (p : Chunk → Bool) (q : script.ScriptChunk → Bool) (chunks : List Chunk)
    → Each (λ (c : Chunk). q (f c) ≡ p c) chunks → filter q (map f chunks) ≡ map f (filter p chunks)
kept_both f p q [] h = refl
kept_both f p q (c ∷ rest) h =
    ap (λ (t : Bool). cond t (f c ∷ filter q (map f rest)) (filter q (map f rest))) h.0 ∙ either (kept_both f p q rest h.1) (p c)
  where
    either : filter q (map f rest) ≡ map f (filter p rest) → (t : Bool) → cond t (f c ∷ filter q (map f rest)) (filter q (map f rest))
        ≡ map f (cond t (c ∷ filter p rest) (filter p rest))
    either tail true = ap (λ (cs : List script.ScriptChunk). f c ∷ cs) tail
    either tail false = tail

-- each chunk is due in the script and in the region, or in neither
due_both : (bytes : List ℕ) (least generation : ℕ) (chunks : List Chunk) → AreStamped generation chunks
    → Each (λ (c : Chunk). is_freed_by (min least generation) (script_chunk bytes c).state ≡ region.is_due least c.state) chunks
due_both bytes least generation [] h = tt
due_both bytes least generation (c ∷ rest) h =
    (same_due bytes c.base c.length least generation c.state h.0, due_both bytes least generation rest h.1)

-- each chunk is kept in the script and in the region, or in neither
stay_both : (bytes : List ℕ) (least generation : ℕ) (chunks : List Chunk) → AreStamped generation chunks
    → Each (λ (c : Chunk). not (is_freed_by (min least generation) (script_chunk bytes c).state) ≡ not (region.is_due least c.state)) chunks
stay_both bytes least generation [] h = tt
stay_both bytes least generation (c ∷ rest) h = (
  ap (λ (t : Bool). not t) (same_due bytes c.base c.length least generation c.state h.0),
  stay_both bytes least generation rest h.1,
)

-- the script's chunks that stay are the region's
pub kept_chunks : (bytes : List ℕ) (least generation : ℕ) (chunks : List Chunk) → AreStamped generation chunks
    → kept_by (min least generation) (map (script_chunk bytes) chunks) ≡ map (script_chunk bytes) (region.kept least chunks)
kept_chunks bytes least generation chunks h =
    kept_both (script_chunk bytes) (λ (c : Chunk). not (region.is_due least c.state)) (λ c. not (is_freed_by (min least generation) c.state)) chunks
    (stay_both bytes least generation chunks h)

-- as many chunks are freed in the script as in the region
pub freed_count : (bytes : List ℕ) (least generation : ℕ) (chunks : List Chunk) → AreStamped generation chunks
    → length (freed_by (min least generation) (map (script_chunk bytes) chunks)) ≡ length (region.freed least chunks)
freed_count bytes least generation chunks h =
    ap (λ (cs : List script.ScriptChunk). length cs)
    (kept_both (script_chunk bytes) (λ (c : Chunk). region.is_due least c.state) (λ c. is_freed_by (min least generation) c.state) chunks
    (due_both bytes least generation chunks h))
    ∙ length-map (region.freed least chunks) (script_chunk bytes)

-- what stays is stamped as before
pub kept_stamped : (generation : ℕ) (p : Chunk → Bool) (chunks : List Chunk) → AreStamped generation chunks
    → AreStamped generation (filter p chunks)
kept_stamped generation p [] h = tt
kept_stamped generation p (c ∷ rest) h = go (kept_stamped generation p rest h.1) (p c)
  where
    go : AreStamped generation (filter p rest) → (t : Bool) → AreStamped generation (cond t (c ∷ filter p rest) (filter p rest))
    go tail true = (h.0, tail)
    go tail false = tail
