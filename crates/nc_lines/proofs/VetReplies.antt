-- The replies to gathered lines, one line after the other.
use Rattle.std.proofs.Common.{◌≡◌, ℕ, ◌++◌, Bool, true, false, List, [], ◌∷◌, map, is_some, Option, Some, None, Result, refl, sym, ap, ◌∙◌}
use Rattle.std.proofs.Common.{subst, append_assoc, append-nil}
use Rattle.std.specs.Prelude.{MatchOption}
use Rattle.std.specs.List.{flat_map, AllZip}
use Rattle.std.specs.Global.{Vec}
use Rattle.nc_vet.specs.Chunk.{MarkedChunk}
use Rattle.nc_vet.specs.declared.fault.VetFault.{VetFault}
use Rattle.nc_lines.specs.Lines.{bad_line}
use Rattle.nc_lines.specs.Words.{chunk_in}
use Rattle.nc_lines.specs.Vetting.{SaysVerdict, VetsLine, VetsLines}
use Rattle.nc_work.specs.Verdicts.{IsVerdictOn}
use Rattle.nc_work.specs.declared.job.Job.{Job}
use Rattle.nc_lines.specs.machinery.Batch.{value_of, jobs_for, HasGathered, IsFound, AreFound}
use Rattle.nc_lines.specs.declared.batch.Batch.{Batch}
use Rattle.nc_lines.proofs.Gathering.{all_found}

-- where a line names no chunk, it is a bad line, and no verdict is used up
bad_here : (limit : ℕ) (lines : List (List ℕ)) (chunk : Option (ℕ × List ℕ)) (rest : List Bool)
    (verdicts : List (Result MarkedChunk (Vec ℕ × VetFault)))
    → MatchOption chunk
    ((after : List Bool) × (false ∷ rest ≡ false ∷ after) × AreFound limit lines after verdicts)
    (λ placed. (after : List Bool) × (verdict : Result MarkedChunk (Vec ℕ × VetFault))
    × (later : List (Result MarkedChunk (Vec ℕ × VetFault)))
    × (false ∷ rest ≡ true ∷ after) × (verdicts ≡ verdict ∷ later) × IsFound limit placed verdict × AreFound limit lines after later)
    → MatchOption chunk (bad_line ≡ bad_line) (λ placed. SaysVerdict placed.0 limit placed.1 bad_line) × AreFound limit lines rest verdicts
bad_here limit lines None rest verdicts h =
    let same : h.0 ≡ rest = cc in
    (refl, subst (λ (bs : List Bool). AreFound limit lines bs verdicts) same h.2)
bad_here limit lines (Some placed) rest verdicts h = let e = h.3 in absurd (cc)

-- the next line is bad where its flag says that it names no chunk
pub bad_next : (limit : ℕ) (line : List ℕ) (lines : List (List ℕ)) (is_named : Bool) (rest : List Bool)
    (verdicts : List (Result MarkedChunk (Vec ℕ × VetFault)))
    → is_named ≡ false → AreFound limit (line ∷ lines) (is_named ∷ rest) verdicts → VetsLine limit line bad_line
    × AreFound limit lines rest verdicts
bad_next limit line lines is_named rest verdicts e h =
    bad_here limit lines (chunk_in line) rest verdicts (subst (λ (b : Bool). AreFound limit (line ∷ lines) (b ∷ rest) verdicts) e h)

-- where a line names a chunk, the next verdict is on it
named_here : (limit : ℕ) (lines : List (List ℕ)) (chunk : Option (ℕ × List ℕ)) (rest : List Bool)
    (verdict : Result MarkedChunk (Vec ℕ × VetFault)) (later : List (Result MarkedChunk (Vec ℕ × VetFault))) (Reply : List ℕ → Type 0)
    → ((base limit : ℕ) (bytes : List ℕ) → IsFound limit (base, bytes) verdict → (reply : List ℕ) × Reply reply
    × SaysVerdict base limit bytes reply)
    → MatchOption chunk
    ((after : List Bool) × (true ∷ rest ≡ false ∷ after) × AreFound limit lines after (verdict ∷ later))
    (λ placed. (after : List Bool) × (first : Result MarkedChunk (Vec ℕ × VetFault))
    × (others : List (Result MarkedChunk (Vec ℕ × VetFault)))
    × (true ∷ rest ≡ true ∷ after) × (verdict ∷ later ≡ first ∷ others) × IsFound limit placed first × AreFound limit lines after others)
    → (reply : List ℕ) × Reply reply × MatchOption chunk (reply ≡ bad_line) (λ placed. SaysVerdict placed.0 limit placed.1 reply)
    × AreFound limit lines rest later
named_here limit lines None rest verdict later Reply says h = let e = h.1 in absurd (cc)
named_here limit lines (Some placed) rest verdict later Reply says h =
    let (after, first, others, e, f, found, more) = h in
    let same_rest : after ≡ rest = cc in
    let same_first : first ≡ verdict = cc in
    let same_others : others ≡ later = cc in
    let said = says placed.0 limit placed.1 (subst (IsFound limit placed) same_first found) in (
      said.0,
      said.1,
      said.2,
      subst (λ (bs : List Bool). AreFound limit lines bs later) same_rest
          (subst (λ (vs : List (Result MarkedChunk (Vec ℕ × VetFault))). AreFound limit lines after vs) same_others more),
    )

-- the next verdict is on the next line's chunk where its flag says that it names one
pub named_next : (limit : ℕ) (line : List ℕ) (lines : List (List ℕ)) (is_named : Bool) (rest : List Bool)
    (verdicts later : List (Result MarkedChunk (Vec ℕ × VetFault))) (verdict : Result MarkedChunk (Vec ℕ × VetFault))
    (Reply : List ℕ → Type 0)
    → is_named ≡ true → verdicts ≡ verdict ∷ later
    → ((base limit : ℕ) (bytes : List ℕ) → IsFound limit (base, bytes) verdict → (reply : List ℕ) × Reply reply
    × SaysVerdict base limit bytes reply)
    → AreFound limit (line ∷ lines) (is_named ∷ rest) verdicts
    → (reply : List ℕ) × Reply reply × VetsLine limit line reply × AreFound limit lines rest later
named_next limit line lines is_named rest verdicts later verdict Reply e f says h =
    named_here limit lines (chunk_in line) rest verdict later Reply says
    (subst (λ (vs : List (Result MarkedChunk (Vec ℕ × VetFault))). AreFound limit (line ∷ lines) (true ∷ rest) vs) f
    (subst (λ (b : Bool). AreFound limit (line ∷ lines) (b ∷ rest) verdicts) e h))

-- where no verdict is left, no line names a chunk
none_here : (limit : ℕ) (lines : List (List ℕ)) (chunk : Option (ℕ × List ℕ)) (rest : List Bool)
    (verdicts : List (Result MarkedChunk (Vec ℕ × VetFault)))
    → verdicts ≡ [] → MatchOption chunk
    ((after : List Bool) × (true ∷ rest ≡ false ∷ after) × AreFound limit lines after verdicts)
    (λ placed. (after : List Bool) × (first : Result MarkedChunk (Vec ℕ × VetFault))
    × (others : List (Result MarkedChunk (Vec ℕ × VetFault)))
    × (true ∷ rest ≡ true ∷ after) × (verdicts ≡ first ∷ others) × IsFound limit placed first × AreFound limit lines after others) → ⊥
none_here limit lines None rest verdicts none h = let e = h.1 in cc
none_here limit lines (Some placed) rest verdicts none h = let e = h.4 in cc

-- where no verdict is left, no flag of a named chunk is
pub none_next : (limit : ℕ) (line : List ℕ) (lines : List (List ℕ)) (is_named : Bool) (rest : List Bool)
    (verdicts : List (Result MarkedChunk (Vec ℕ × VetFault)))
    → is_named ≡ true → verdicts ≡ [] → AreFound limit (line ∷ lines) (is_named ∷ rest) verdicts → ⊥
none_next limit line lines is_named rest verdicts e none h =
    none_here limit lines (chunk_in line) rest verdicts none (subst (λ (b : Bool). AreFound limit (line ∷ lines) (b ∷ rest) verdicts) e h)

-- where a flag is left, a line is left
left_here : (limit : ℕ) (lines : List (List ℕ)) (is_named : Bool) (named : List Bool)
    (verdicts : List (Result MarkedChunk (Vec ℕ × VetFault)))
    → AreFound limit lines (is_named ∷ named) verdicts → (line : List ℕ) × (others : List (List ℕ)) × (lines ≡ line ∷ others)
left_here limit [] is_named named verdicts h = let e = h.0 in absurd (cc)
left_here limit (line ∷ lines) is_named named verdicts h = (line, lines, refl)

-- where no flag is left, no line is left: at a line a flag is used up
no_flag : (limit : ℕ) (lines : List (List ℕ)) (chunk : Option (ℕ × List ℕ)) (verdicts : List (Result MarkedChunk (Vec ℕ × VetFault)))
    → MatchOption chunk
    ((after : List Bool) × ([] ≡ false ∷ after) × AreFound limit lines after verdicts)
    (λ placed. (after : List Bool) × (first : Result MarkedChunk (Vec ℕ × VetFault))
    × (others : List (Result MarkedChunk (Vec ℕ × VetFault)))
    × ([] ≡ true ∷ after) × (verdicts ≡ first ∷ others) × IsFound limit placed first × AreFound limit lines after others) → ⊥
no_flag limit lines None verdicts h = let e = h.1 in cc
no_flag limit lines (Some placed) verdicts h = let e = h.3 in cc

-- where no flag is left, no line is left
none_left : (limit : ℕ) (lines : List (List ℕ)) (verdicts : List (Result MarkedChunk (Vec ℕ × VetFault)))
    → AreFound limit lines [] verdicts → lines ≡ []
none_left limit [] verdicts h = refl
none_left limit (line ∷ lines) verdicts h = absurd (no_flag limit lines (chunk_in line) verdicts h)

-- the replies to lines go on by one
all_more : (limit : ℕ) (lines each : List (List ℕ)) (line reply : List ℕ) → AllZip (VetsLine limit) lines each → VetsLine limit line reply
    → AllZip (VetsLine limit) (lines ++ line ∷ []) (each ++ reply ∷ [])
all_more limit [] [] line reply h v = (v, tt)
all_more limit [] (r ∷ each) line reply h v = absurd h
all_more limit (l ∷ lines) [] line reply h v = absurd h
all_more limit (l ∷ lines) (r ∷ each) line reply h v = (h.0, all_more limit lines each line reply h.1 v)

-- the bytes of the replies to lines go on by those of one more
replies_more : (each : List (List ℕ)) (reply : List ℕ) → flat_map (λ r. r) (each ++ reply ∷ []) ≡ flat_map (λ r. r) each ++ reply
replies_more [] reply = append-nil reply
replies_more (r ∷ each) reply =
    ap (λ (xs : List ℕ). r ++ xs) (replies_more each reply) ∙ sym (append_assoc r (flat_map (λ x. x) each) reply)

-- the replies to lines go on by that to one more line
vets_more : (limit : ℕ) (lines : List (List ℕ)) (replies line reply : List ℕ) → VetsLines limit lines replies → VetsLine limit line reply
    → VetsLines limit (lines ++ line ∷ []) (replies ++ reply)
vets_more limit lines replies line reply h v =
    (h.0 ++ reply ∷ [], all_more limit lines h.0 line reply h.1 v, ap (λ (xs : List ℕ). xs ++ reply) h.2 ∙ sym (replies_more h.0 reply))

-- how far the replies have come: some lines have theirs, and the flags and verdicts that are left are of the others
pub record AreReplied (limit : ℕ) (lines : List (List ℕ)) (named : List Bool) (verdicts : List (Result MarkedChunk (Vec ℕ × VetFault)))
    (start now : List ℕ) : Type 0 where
  pub done : List (List ℕ)
  pub left : List (List ℕ)
  pub split : lines ≡ done ++ left
  pub found : AreFound limit left named verdicts
  pub replies : List ℕ
  pub added : now ≡ start ++ replies
  pub vetted : VetsLines limit done replies

-- at first no line has its reply
pub replied_start : (limit : ℕ) (lines : List (List ℕ)) (named : List Bool) (verdicts : List (Result MarkedChunk (Vec ℕ × VetFault)))
    (start : List ℕ) → AreFound limit lines named verdicts → AreReplied limit lines named verdicts start start
replied_start limit lines named verdicts start h =
    record { done = []; left = lines; split = refl; found = h; replies = []; added = sym (append-nil start); vetted = ([], tt, refl) }

-- the next line has its reply
pub replied_more : (limit : ℕ) (lines : List (List ℕ)) (is_named : Bool) (flags named : List Bool)
    (verdicts later : List (Result MarkedChunk (Vec ℕ × VetFault))) (start now new : List ℕ)
    → AreReplied limit lines flags verdicts start now → flags ≡ is_named ∷ named
    → ((limit : ℕ) (line : List ℕ) (lines : List (List ℕ)) (rest : List Bool) → AreFound limit (line ∷ lines) (is_named ∷ rest) verdicts
    → (reply : List ℕ) × (new ≡ now ++ reply) × VetsLine limit line reply × AreFound limit lines rest later)
    → AreReplied limit lines named later start new
replied_more limit lines is_named flags named verdicts later start now new r e step =
    let found = subst (λ (bs : List Bool). AreFound limit r.left bs verdicts) e r.found in
    let (line, others, f) = left_here limit r.left is_named named verdicts found in
    let (reply, added, vets, more) =
    step limit line others named (subst (λ (ls : List (List ℕ)). AreFound limit ls (is_named ∷ named) verdicts) f found) in
    record {
      done = r.done ++ line ∷ [];
      left = others;
      split = r.split ∙ ap (λ (ls : List (List ℕ)). r.done ++ ls) f ∙ sym (append_assoc r.done (line ∷ []) others);
      found = more;
      replies = r.replies ++ reply;
      added = added ∙ ap (λ (xs : List ℕ). xs ++ reply) r.added ∙ append_assoc start r.replies reply;
      vetted = vets_more limit r.done r.replies line reply r.vetted vets;
    }

-- at the end all lines have theirs
pub replied_all : (limit : ℕ) (lines : List (List ℕ)) (named : List Bool) (verdicts : List (Result MarkedChunk (Vec ℕ × VetFault)))
    (start now : List ℕ)
    → AreReplied limit lines named verdicts start now → named ≡ [] → (replies : List ℕ) × (now ≡ start ++ replies)
    × VetsLines limit lines replies
replied_all limit lines named verdicts start now r e =
    let none = none_left limit r.left verdicts (subst (λ (bs : List Bool). AreFound limit r.left bs verdicts) e r.found) in
    let same : lines ≡ r.done = r.split ∙ ap (λ (ls : List (List ℕ)). r.done ++ ls) none ∙ append-nil r.done in
    (r.replies, r.added, subst (λ (ls : List (List ℕ)). VetsLines limit ls r.replies) (sym same) r.vetted)

-- what was added to nothing is the replies to the lines that were gathered in an empty batch
pub whole_reply : (start batch : Batch) (limit : ℕ) (lines : List (List ℕ)) (verdicts : List (Result MarkedChunk (Vec ℕ × VetFault)))
    (old new : List ℕ)
    → start.limit ≡ limit → start.named.items ≡ [] → start.jobs.items ≡ [] → HasGathered start batch lines
    → AllZip IsVerdictOn batch.jobs.items verdicts → old ≡ []
    → ((limit : ℕ) (lines : List (List ℕ)) → AreFound limit lines batch.named.items verdicts → (replies : List ℕ) × (new ≡ old ++ replies)
    × VetsLines limit lines replies)
    → VetsLines limit lines new
whole_reply start batch limit lines verdicts old new is named jobs h v empty says =
    let flags : batch.named.items ≡ map (λ line. is_some (chunk_in line)) lines =
    h.named ∙ ap (λ (bs : List Bool). bs ++ map (λ line. is_some (chunk_in line)) lines) named in
    let values : map value_of batch.jobs.items ≡ flat_map (λ line. jobs_for limit (chunk_in line)) lines =
    h.jobs ∙ ap (λ (js : List Job). map value_of js ++ flat_map (λ line. jobs_for start.limit (chunk_in line)) lines) jobs
    ∙ ap (λ (n : ℕ). flat_map (λ line. jobs_for n (chunk_in line)) lines) is in
    let (replies, added, vets) = says limit lines (all_found limit lines batch.named.items batch.jobs.items verdicts flags values v) in
    subst (VetsLines limit lines) (sym (added ∙ ap (λ (xs : List ℕ). xs ++ replies) empty)) vets
