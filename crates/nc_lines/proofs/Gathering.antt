-- Lines gathered one after the other, and the verdicts on their chunks.
use Rattle.std.proofs.Common.{◌≡◌, ℕ, ◌++◌, Bool, true, false, List, [], ◌∷◌, map, Option, Some, None, Result, Ok, Err, is_some, refl, sym}
use Rattle.std.proofs.Common.{ap, ◌∙◌, subst, append_assoc, append-nil}
use Rattle.std.specs.Prelude.{MatchOption}
use Rattle.std.specs.List.{flat_map, AllZip}
use Rattle.std.specs.Global.{Vec}
use Rattle.std.proofs.lemmas.List.{map-append}
use Rattle.nc_vet.specs.Chunk.{MarkedChunk}
use Rattle.nc_vet.specs.Faults.{HasFault}
use Rattle.nc_vet.specs.declared.fault.VetFault.{VetFault}
use Rattle.nc_work.specs.Verdicts.{IsVerdictOn}
use Rattle.nc_work.specs.declared.job.Job.{Job}
use Rattle.nc_lines.specs.Lines.{kept_of}
use Rattle.nc_lines.specs.Words.{chunk_in}
use Rattle.nc_lines.specs.Replying.{RepliesToLines}
use Rattle.nc_lines.specs.machinery.Batch.{JobValue, value_of, jobs_for, Gathers, HasGathered, IsFound, AreFound}
use Rattle.nc_lines.specs.declared.batch.Batch.{Batch}
use Rattle.nc_lines.proofs.Kept.{chunk_of_kept}

-- a line that names a chunk is gathered by its job
pub gathers_chunk : (old : Batch) (kept line : List ℕ) (base : ℕ) (code : Vec ℕ) (named : Vec Bool) (jobs : Vec Job)
    → chunk_in kept ≡ Some (base, code.items) → kept ≡ kept_of line → named.items ≡ old.named.items ++ true ∷ []
    → jobs.items ≡ old.jobs.items ++ record { base = base; limit = old.limit; code = code } ∷ []
    → Gathers old line [] (record { alloc = old.alloc; limit = old.limit; named = named; jobs = jobs })
gathers_chunk old kept line base code named jobs names e n j =
    let is = sym (chunk_of_kept kept line e) ∙ names in
    record {
      nothing = refl;
      limit = refl;
      named = n ∙ ap (λ (o : Option (ℕ × List ℕ)). old.named.items ++ is_some o ∷ []) (sym is);
      jobs = ap (map value_of) j ∙ map-append value_of old.jobs.items (record { base = base; limit = old.limit; code = code } ∷ [])
          ∙ ap (λ (o : Option (ℕ × List ℕ)). map value_of old.jobs.items ++ jobs_for old.limit o) (sym is);
    }

-- a line that names no chunk has no job
pub gathers_none : (old : Batch) (kept line : List ℕ) (named : Vec Bool)
    → chunk_in kept ≡ None → kept ≡ kept_of line → named.items ≡ old.named.items ++ false ∷ []
    → Gathers old line [] (record { alloc = old.alloc; limit = old.limit; named = named; jobs = old.jobs })
gathers_none old kept line named names e n =
    let is = sym (chunk_of_kept kept line e) ∙ names in
    record {
      nothing = refl;
      limit = refl;
      named = n ∙ ap (λ (o : Option (ℕ × List ℕ)). old.named.items ++ is_some o ∷ []) (sym is);
      jobs = sym (append-nil (map value_of old.jobs.items))
          ∙ ap (λ (o : Option (ℕ × List ℕ)). map value_of old.jobs.items ++ jobs_for old.limit o) (sym is);
    }

-- lines to which a batch replies are gathered in it
pub gathered : (old : Batch) (lines : List (List ℕ)) (replies : List ℕ) (new : Batch) → RepliesToLines Gathers old lines replies new
    → HasGathered old new lines
gathered old [] replies new h = record {
  limit = ap (λ (b : Batch). b.limit) h.1;
  named = ap (λ (b : Batch). b.named.items) h.1 ∙ sym (append-nil old.named.items);
  jobs = ap (λ (b : Batch). map value_of b.jobs.items) h.1 ∙ sym (append-nil (map value_of old.jobs.items));
}
gathered old (line ∷ lines) replies new h =
    let (mid, reply, rest, one, e, more) = h in
    let others = gathered mid lines rest new more in
    record {
      limit = others.limit ∙ one.limit;
      named = others.named ∙ ap (λ (bs : List Bool). bs ++ map (λ l. is_some (chunk_in l)) lines) one.named
          ∙ append_assoc old.named.items (is_some (chunk_in line) ∷ []) (map (λ l. is_some (chunk_in l)) lines);
      jobs = others.jobs
          ∙ ap (λ (n : ℕ). map value_of mid.jobs.items ++ flat_map (λ l. jobs_for n (chunk_in l)) lines) one.limit
          ∙ ap (λ (js : List JobValue). js ++ flat_map (λ l. jobs_for old.limit (chunk_in l)) lines) one.jobs
          ∙ append_assoc (map value_of old.jobs.items) (jobs_for old.limit (chunk_in line))
          (flat_map (λ l. jobs_for old.limit (chunk_in l)) lines);
    }

-- a verdict on a job is one on its chunk
found_of : (limit : ℕ) (placed : ℕ × List ℕ) (job : Job) (verdict : Result MarkedChunk (Vec ℕ × VetFault))
    → value_of job ≡ record { base = placed.0; limit = limit; code = placed.1 }
    → IsVerdictOn job verdict → IsFound limit placed verdict
found_of limit placed job (Ok v) is h =
    (h.0 ∙ ap (λ (j : JobValue). j.base) is, h.1 ∙ ap (λ (j : JobValue). j.limit) is, h.2 ∙ ap (λ (j : JobValue). j.code) is, h.3)
found_of limit placed job (Err e) is h = subst (λ (j : JobValue). HasFault j.base j.limit j.code e.1) is h.1

-- of a line and the lines after it, where those after it have their verdicts
found_more : (limit : ℕ) (line : List ℕ) (lines : List (List ℕ)) (chunk : Option (ℕ × List ℕ)) (named : List Bool) (jobs : List Job)
    (verdicts : List (Result MarkedChunk (Vec ℕ × VetFault))) (others : List JobValue) (rest : List Bool)
    → ((left : List Job) (later : List (Result MarkedChunk (Vec ℕ × VetFault))) → map value_of left ≡ others
    → AllZip IsVerdictOn left later → AreFound limit lines rest later)
    → named ≡ is_some chunk ∷ rest → map value_of jobs ≡ jobs_for limit chunk ++ others → AllZip IsVerdictOn jobs verdicts
    → MatchOption chunk
    ((after : List Bool) × (named ≡ false ∷ after) × AreFound limit lines after verdicts)
    (λ placed. (after : List Bool) × (verdict : Result MarkedChunk (Vec ℕ × VetFault))
    × (later : List (Result MarkedChunk (Vec ℕ × VetFault)))
    × (named ≡ true ∷ after) × (verdicts ≡ verdict ∷ later) × IsFound limit placed verdict × AreFound limit lines after later)
found_more limit line lines None named jobs verdicts others rest more n j h = (rest, n, more jobs verdicts j h)
found_more limit line lines (Some placed) named [] verdicts others rest more n j h = absurd (cc)
found_more limit line lines (Some placed) named (job ∷ jobs) [] others rest more n j h = absurd h
found_more limit line lines (Some placed) named (job ∷ jobs) (verdict ∷ verdicts) others rest more n j h =
    let here : value_of job ≡ record { base = placed.0; limit = limit; code = placed.1 } = cc in
    let left : map value_of jobs ≡ others = cc in
    (rest, verdict, verdicts, n, refl, found_of limit placed job verdict here h.0, more jobs verdicts left h.1)

-- the verdicts on the jobs of lines are the verdicts on their chunks
pub all_found : (limit : ℕ) (lines : List (List ℕ)) (named : List Bool) (jobs : List Job)
    (verdicts : List (Result MarkedChunk (Vec ℕ × VetFault)))
    → named ≡ map (λ line. is_some (chunk_in line)) lines → map value_of jobs ≡ flat_map (λ line. jobs_for limit (chunk_in line)) lines
    → AllZip IsVerdictOn jobs verdicts → AreFound limit lines named verdicts
all_found limit [] named [] [] n j h = (n, refl)
all_found limit [] named [] (verdict ∷ verdicts) n j h = absurd h
all_found limit [] named (job ∷ jobs) verdicts n j h = absurd (cc)
all_found limit (line ∷ lines) named jobs verdicts n j h =
    found_more limit line lines (chunk_in line) named jobs verdicts (flat_map (λ l. jobs_for limit (chunk_in l)) lines)
    (map (λ l. is_some (chunk_in l)) lines)
    (λ left later k g. all_found limit lines (map (λ l. is_some (chunk_in l)) lines) left later refl k g) n j h
