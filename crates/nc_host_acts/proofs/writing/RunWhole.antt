-- The whole list of runs of a creation, and of a deletion.
use Rattle.std.proofs.Common.{◌≡◌, ℕ, ◌+◌, ◌*◌, ◌/◌, ◌<◌, ◌≤◌, Bool, true, false, List, [], ◌∷◌, ◌++◌, length, replicate, set, refl, ap, arith}
use Rattle.std.proofs.Common.{subst, ◌∙◌}
use Rattle.std.proofs.lemmas.List.{length-set}
use Rattle.nc_decode.specs.declared.instruction.Mark.{Mark}
use Rattle.nc_text.specs.Marks.{mark_at}
use Rattle.nc_acts.specs.declared.acts.Act.{Act}
use Rattle.nc_acts.specs.declared.acts.Act.TheVariants.{MarkSpan, Bump}
use Rattle.nc_acts.specs.declared.acts.Entry.{Entry}
use Rattle.nc_acts.specs.declared.acts.Entry.TheVariants.{Did, Serialized}
use Rattle.nc_acts.specs.Acts.{puts_where, is_start, is_inside, is_marked_at}
use Rattle.nc_acts.specs.Log.{only_acts, log_of_create, log_of_delete}
use Rattle.nc_host_acts.specs.declared.act.NcAct.{NcAct}
use Rattle.nc_host_acts.specs.Shown.{entry_of}
use Rattle.nc_host_acts.specs.Standing.{AreMarksAt}
use Rattle.nc_host_acts.specs.Runs.{Run, Single, PutRun, StopRun, runs_where, runs_of_create, runs_of_delete, HasRuns}
use Rattle.nc_host_acts.specs.machinery.Running.{AddsRuns}
use Rattle.nc_host_acts.specs.machinery.Writing.{mark_if, marks_if}
use Rattle.nc_host_acts.proofs.writing.RunLists.{runs_same}
use Rattle.nc_host_acts.proofs.writing.RunSteps.{adds_run, adds_both_runs}
use Rattle.nc_host_acts.proofs.writing.WholeLists.{same_stops, stands_so}

-- nothing is written yet
no_runs : (acts : List NcAct) (base : ℕ) (code : List ℕ) → HasRuns acts acts 0 base code [] []
no_runs acts base code = record { buffer = refl; counted = refl; entries = refl }

-- a single entry is added with the runs that are added after it
then_single : (base : ℕ) (code : List ℕ) (acts next last : List NcAct) (n m k : ℕ) (a : Entry) (runs : List Run) (rest : List Entry)
    → next ≡ set acts n (entry_of a) → m ≡ n + 1 → n < length acts → AddsRuns base code next m last k runs rest
    → AddsRuns base code acts n last k (Single a ∷ runs) (a ∷ rest)
then_single base code acts next last n m k a runs rest e f lt more =
    adds_both_runs base code acts next last n m k (Single a ∷ []) runs (a ∷ []) rest (rw (e, f) (adds_run base code acts n (Single a) lt)) more

-- the runs of a creation
pub creation_runs : (base : ℕ) (code : List ℕ) (acts acts1 acts2 acts3 acts4 : List NcAct) (n1 n2 n3 n4 : ℕ)
    → AddsRuns base code acts 0 acts1 n1 (runs_where PutRun is_inside base (length code / 32)) (only_acts (puts_where is_inside base code))
    → length acts1 ≡ length acts → n1 ≡ 0 + length code / 32 → acts2 ≡ set acts1 n1 (entry_of Serialized) → n2 ≡ n1 + 1
    → acts3 ≡ set acts2 n2 (entry_of (Did (MarkSpan base (length code)))) → n3 ≡ n2 + 1
    → AddsRuns base code acts3 n3 acts4 n4 (runs_where PutRun is_start base (length code / 32)) (only_acts (puts_where is_start base code))
    → n4 ≡ n3 + length code / 32 → 2 * (length code / 32) + 2 ≤ length acts
    → HasRuns acts acts4 (2 * (length code / 32) + 2) base code (runs_of_create base code) (log_of_create base code)
creation_runs base code acts acts1 acts2 acts3 acts4 n1 n2 n3 n4 one long m1 e2 m2 e3 m3 rest m4 room =
    let bundles : ℕ = length code / 32 in
    let long2 = ap (λ (z : List NcAct). length z) e2 ∙ length-set acts1 n1 (entry_of Serialized) in
    let marks : Entry = Did (MarkSpan base (length code)) in
    let starts : List Entry = only_acts (puts_where is_start base code) in
    let last : List Run = runs_where PutRun is_start base bundles in
    let marked : AddsRuns base code acts2 n2 acts4 n4 (Single marks ∷ last) (marks ∷ starts) =
    then_single base code acts2 acts3 acts4 n2 n3 n4 marks last starts e3 m3 (omega (arith, long, long2, m1, m2, room)) rest in
    let serialized = then_single base code acts1 acts2 acts4 n1 n2 n4 Serialized (Single marks ∷ last) (marks ∷ starts) e2 m2
    (omega (arith, long, m1, room)) marked in
    let all : HasRuns acts acts4 n4 base code (runs_of_create base code) (log_of_create base code) =
    adds_both_runs base code acts acts1 acts4 0 n1 n4 (runs_where PutRun is_inside base bundles) (Single Serialized ∷ Single marks ∷ last)
    (only_acts (puts_where is_inside base code)) (Serialized ∷ marks ∷ starts) one serialized acts [] [] (no_runs acts base code) in
    subst (λ (n : ℕ). HasRuns acts acts4 n base code (runs_of_create base code) (log_of_create base code))
    {x = n4} {y = 2 * (length code / 32) + 2} (omega (arith, m1, m2, m3, m4)) all

-- the runs by a chunk's marks are those by the marks of the text in which they stand
same_runs : (marked : Bool) (marks : ℕ → Mark) (text : List Mark) (base len : ℕ) → AreMarksAt text base len marks
    → runs_where StopRun (marks_if marked marks base) base (len / 32)
    ≡ runs_where StopRun (λ at. mark_if marked (mark_at text at)) base (len / 32)
same_runs marked marks text base len h =
    runs_same StopRun (marks_if marked marks base) (λ at. mark_if marked (mark_at text at)) base (len / 32)
    (λ k lt. stands_so marked marks text base len k h (omega (arith, lt)))

-- a deletion's runs and log by a chunk's marks are those by the text's
by_text : (marks : ℕ → Mark) (text : List Mark) (base : ℕ) (code : List ℕ) (acts acts4 : List NcAct) (n : ℕ)
    → AreMarksAt text base (length code) marks
    → HasRuns acts acts4 n base code
    (runs_where StopRun (marks_if true marks base) base (length code / 32)
    ++ (Single Serialized ∷ (runs_where StopRun (marks_if false marks base) base (length code / 32) ++ Single (Did Bump) ∷ [])))
    (only_acts (puts_where (marks_if true marks base) base (replicate {A = ℕ} (length code) 244))
    ++ (Serialized ∷ (only_acts (puts_where (marks_if false marks base) base (replicate {A = ℕ} (length code) 244)) ++ Did Bump ∷ [])))
    → HasRuns acts acts4 n base code (runs_of_delete text base (length code)) (log_of_delete text base (length code))
by_text marks text base code acts acts4 n stand h =
    let bytes : List ℕ = replicate {A = ℕ} (length code) 244 in
    let others : List Act = puts_where (marks_if false marks base) base bytes in
    let last : List Run = runs_where StopRun (marks_if false marks base) base (length code / 32) in
    let log : _ ≡ log_of_delete text base (length code) =
    ap (λ (z : List Act). only_acts z ++ (Serialized ∷ (only_acts others ++ Did Bump ∷ []))) (same_stops true marks text base (length code) stand)
    ∙ ap (λ (z : List Act). only_acts (puts_where (is_marked_at text) base bytes) ++ (Serialized ∷ (only_acts z ++ Did Bump ∷ [])))
    (same_stops false marks text base (length code) stand) in
    let runs : _ ≡ runs_of_delete text base (length code) =
    ap (λ (z : List Run). z ++ (Single Serialized ∷ (last ++ Single (Did Bump) ∷ []))) (same_runs true marks text base (length code) stand)
    ∙ ap (λ (z : List Run). runs_where StopRun (is_marked_at text) base (length code / 32)
    ++ (Single Serialized ∷ (z ++ Single (Did Bump) ∷ []))) (same_runs false marks text base (length code) stand) in
    subst (λ (z : List Entry). HasRuns acts acts4 n base code (runs_of_delete text base (length code)) z) log
    (subst (λ (z : List Run). HasRuns acts acts4 n base code z
    (only_acts (puts_where (marks_if true marks base) base bytes) ++ (Serialized ∷ (only_acts others ++ Did Bump ∷ [])))) runs h)

-- the runs of a deletion
pub deletion_runs : (marks : ℕ → Mark) (text : List Mark) (base : ℕ) (code : List ℕ) (acts acts1 acts2 acts3 acts4 : List NcAct) (n1 n2 n3 : ℕ)
    → AddsRuns base code acts 0 acts1 n1 (runs_where StopRun (marks_if true marks base) base (length code / 32))
    (only_acts (puts_where (marks_if true marks base) base (replicate {A = ℕ} (length code) 244)))
    → length acts1 ≡ length acts → n1 ≡ 0 + length code / 32 → acts2 ≡ set acts1 n1 (entry_of Serialized) → n2 ≡ n1 + 1
    → AddsRuns base code acts2 n2 acts3 n3 (runs_where StopRun (marks_if false marks base) base (length code / 32))
    (only_acts (puts_where (marks_if false marks base) base (replicate {A = ℕ} (length code) 244)))
    → length acts3 ≡ length acts2 → n3 ≡ n2 + length code / 32 → acts4 ≡ set acts3 n3 (entry_of (Did Bump))
    → 2 * (length code / 32) + 2 ≤ length acts → AreMarksAt text base (length code) marks
    → HasRuns acts acts4 (2 * (length code / 32) + 2) base code (runs_of_delete text base (length code)) (log_of_delete text base (length code))
deletion_runs marks text base code acts acts1 acts2 acts3 acts4 n1 n2 n3 one long m1 e2 m2 rest long3 m3 e4 room stand =
    let bytes : List ℕ = replicate {A = ℕ} (length code) 244 in
    let ones : List Entry = only_acts (puts_where (marks_if true marks base) base bytes) in
    let others : List Entry = only_acts (puts_where (marks_if false marks base) base bytes) in
    let first_runs : List Run = runs_where StopRun (marks_if true marks base) base (length code / 32) in
    let other_runs : List Run = runs_where StopRun (marks_if false marks base) base (length code / 32) in
    let end_runs : List Run = Single (Did Bump) ∷ [] in
    let end : List Entry = Did Bump ∷ [] in
    let long2 = ap (λ (z : List NcAct). length z) e2 ∙ length-set acts1 n1 (entry_of Serialized) in
    let last : AddsRuns base code acts3 n3 acts4 (n3 + 1) end_runs end =
    rw e4 (adds_run base code acts3 n3 (Single (Did Bump)) (omega (arith, long, long2, long3, m1, m2, m3, room))) in
    let stops = adds_both_runs base code acts2 acts3 acts4 n2 n3 (n3 + 1) other_runs end_runs others end rest last in
    let serialized = then_single base code acts1 acts2 acts4 n1 n2 (n3 + 1) Serialized (other_runs ++ end_runs) (others ++ end) e2 m2
    (omega (arith, long, m1, room)) stops in
    let all : HasRuns acts acts4 (n3 + 1) base code (first_runs ++ (Single Serialized ∷ (other_runs ++ end_runs))) (ones ++ (Serialized ∷ (others ++ end))) =
    adds_both_runs base code acts acts1 acts4 0 n1 (n3 + 1) first_runs (Single Serialized ∷ (other_runs ++ end_runs)) ones
    (Serialized ∷ (others ++ end)) one serialized acts [] [] (no_runs acts base code) in
    subst (λ (n : ℕ). HasRuns acts acts4 n base code (runs_of_delete text base (length code)) (log_of_delete text base (length code)))
    {x = n3 + 1} {y = 2 * (length code / 32) + 2} (omega (arith, m1, m2, m3)) (by_text marks text base code acts acts4 (n3 + 1) stand all)
