-- Ascending numbers, and how often each occurs.
use Rattle.std.proofs.Common.{◌≡◌, ◌≢◌, ℕ, ◌+◌, ◌<◌, ◌≤◌, List, [], ◌∷◌, ◌++◌, length, drop, replicate, refl, sym, subst, ◌∙◌, ap, arith, append_assoc, append-nil, get_or}
use Rattle.std.specs.List.Sorted.{IsNonDecreasing, IsPermutation}
use Rattle.std.proofs.lemmas.List.{take-append-drop, length-drop, get_or-drop, flat_map_more}
use Rattle.std.proofs.lemmas.List.Sorted.{IsNonDecreasingBy-drop}
use Rattle.std.proofs.lemmas.List.Concat.{flat_map-append}
use Rattle.nc_vet.specs.Chunk.{Piece, code_of, AreSpelled}
use Rattle.nc_output.specs.declared.detail.Format.{Format}
use Rattle.nc_report.specs.Outside.{OutsideRow, AscendFrom, all_sent, row_text}
use Rattle.nc_report.specs.machinery.Found.{AddsRows}
use Rattle.nc_report.specs.machinery.Runs.{BeginsWithRun, IsSent, HasCounted, AddsCounts, numbers_of}

-- before the first run nothing is written
pub none_counted : (f : Format) (numbers out : List ℕ) → IsNonDecreasing numbers → HasCounted f numbers out out numbers
none_counted f numbers out s = record {
  rows = [];
  least = 0;
  split = refl;
  ascend = λ more a. a;
  above = λ k lt. omega arith;
  sorted = s;
  added = sym (append-nil out);
}

-- a number after a run is higher than those of the run
above_run : (rest : List ℕ) (count k : ℕ) → IsNonDecreasing rest → BeginsWithRun rest count → k < length (drop count rest)
    → get_or rest 0 0 + 1 ≤ get_or (drop count rest) k 0
above_run rest count k s r lt =
    let long = length-drop count rest in
    let first : get_or rest 0 0 ≤ get_or rest count 0 = s 0 count 0 (omega arith) (omega (arith, lt, long)) in
    let later : get_or rest count 0 ≤ get_or rest (count + k) 0 = s count (count + k) 0 (omega arith) (omega (arith, lt, long)) in
    let other : get_or rest count 0 ≢ get_or rest 0 0 = r.ends (omega (arith, lt, long)) in
    subst (λ (n : ℕ). get_or rest 0 0 + 1 ≤ n) (sym (get_or-drop count rest k 0)) (omega (arith, first, later, other))

-- with the row of one more run, the numbers up to its end are written
pub count_more : (f : Format) (numbers old out new rest : List ℕ) (count : ℕ) → HasCounted f numbers old out rest → BeginsWithRun rest count
    → new ≡ out ++ row_text f (record { to = get_or rest 0 0; times = count }) → HasCounted f numbers old new (drop count rest)
count_more f numbers old out new rest count h r e =
    let first = get_or rest 0 0 in
    let row : OutsideRow = record { to = first; times = count } in
    record {
      rows = h.rows ++ row ∷ [];
      least = first + 1;
      split = h.split
          ∙ ap (λ (z : List ℕ). numbers_of h.rows ++ z) (sym (take-append-drop count rest) ∙ ap (λ (z : List ℕ). z ++ drop count rest) r.same)
          ∙ sym (append_assoc (numbers_of h.rows) (replicate count first) (drop count rest))
          ∙ ap (λ (z : List ℕ). z ++ drop count rest)
          (sym (flat_map-append (λ (x : OutsideRow). replicate x.times x.to) h.rows (row ∷ [])
          ∙ ap (λ (z : List ℕ). numbers_of h.rows ++ z) (append-nil (replicate count first))));
      ascend = λ more a. subst (AscendFrom 0) (sym (append_assoc h.rows (row ∷ []) more))
          (h.ascend (row ∷ more) (r.some, h.above 0 (omega (arith, r.some, r.within)), a));
      above = λ k lt. above_run rest count k h.sorted r lt;
      sorted = IsNonDecreasingBy-drop (λ (x : ℕ). x) count rest h.sorted;
      added = e ∙ ap (λ (z : List ℕ). z ++ row_text f row) h.added ∙ flat_map_more (row_text f) old h.rows row;
    }

-- where nothing is left, all is written
pub all_counted : (f : Format) (numbers old new rest : List ℕ) → HasCounted f numbers old new rest → rest ≡ [] → AddsCounts f numbers old new
all_counted f numbers old new rest h none = record {
  rows = h.rows;
  ascend = subst (AscendFrom 0) (append-nil h.rows) (h.ascend [] tt);
  all = h.split ∙ ap (λ (z : List ℕ). numbers_of h.rows ++ z) none ∙ append-nil (numbers_of h.rows);
  added = h.added;
}

-- what is sent outside was counted, in whatever order it was
pub lists_outside : (f : Format) (base : ℕ) (code sent numbers old new : List ℕ) → IsSent base code sent → IsPermutation sent numbers
    → AddsCounts f numbers old new → (pieces : List Piece) → AreSpelled pieces → code ≡ code_of pieces → AddsRows f old new base pieces
lists_outside f base code sent numbers old new is moved counts = λ pieces s parts. record {
  rows = counts.rows;
  counts = record {
    ascend = counts.ascend;
    same = subst (λ (z : List ℕ). IsPermutation z (numbers_of counts.rows))
        (is pieces s parts ∙ ap (λ (n : ℕ). all_sent base n base pieces) (ap (λ (z : List ℕ). length z) parts))
        (subst (IsPermutation sent) counts.all moved);
  };
  added = counts.added;
}
