-- One step of writing runs, and all of them.
use Rattle.std.proofs.Common.{◌≡◌, ℕ, suc, ◌+◌, ◌*◌, ◌/◌, ◌<◌, ◌≤◌, Bool, List, [], ◌∷◌, ◌++◌, length, set, take, drop, refl, ap, arith, sym, subst, ◌∙◌}
use Rattle.std.proofs.Common.{append_assoc}
use Rattle.std.specs.Prelude.{map}
use Rattle.std.proofs.lemmas.List.{length-map, length-set, length-append, append-nil, map-append}
use Rattle.std.proofs.Math.Seq.{take-length}
use Rattle.nc_decode.specs.declared.instruction.Mark.{Mark}
use Rattle.nc_acts.specs.declared.acts.Act.{Act}
use Rattle.nc_acts.specs.declared.acts.Entry.{Entry}
use Rattle.nc_acts.specs.declared.acts.Entry.TheVariants.{Did}
use Rattle.nc_acts.specs.Acts.{puts_where}
use Rattle.nc_acts.specs.Log.{only_acts}
use Rattle.nc_host_acts.specs.declared.act.NcAct.{NcAct}
use Rattle.nc_host_acts.specs.declared.runs.Places.{Places}
use Rattle.nc_host_acts.specs.Runs.{Run, run_of, entries_of, bits_at, runs_where, HasRuns}
use Rattle.nc_host_acts.specs.machinery.Running.{picks, bytes_for, run_at, HasBits, AddsRuns, HasRunUpTo}
use Rattle.nc_base.proofs.Offered.{over_one_more}
use Rattle.nc_host_acts.proofs.writing.RunLists.{bundle_more, bytes_long, entries_append, run_entries, bits_bundle, runs_more}

-- a run written behind the first ones of a buffer is one more of them
pub write_run : (start now : List NcAct) (count base : ℕ) (code : List ℕ) (runs : List Run) (log : List Entry) (r : Run)
    → HasRuns start now count base code runs log → count < length now
    → HasRuns start (set now count (run_of r)) (count + 1) base code (runs ++ r ∷ []) (log ++ entries_of base code r)
write_run start now count base code runs log r h lt =
    let long : length (map run_of runs) ≡ count = length-map runs run_of ∙ sym h.counted in
    record {
      buffer = rw (h.buffer, sym long, map-append run_of runs (r ∷ []))
          (over_one_more (map run_of runs) start (run_of r)
          (subst (λ (z : List NcAct). length (map run_of runs) < length z) h.buffer (omega (arith, lt, long))));
      counted = omega (arith, h.counted, length-append runs (r ∷ []));
      entries = entries_append base code runs (r ∷ [])
          ∙ (ap (λ (z : List Entry). z ++ (entries_of base code r ++ [])) h.entries
          ∙ ap (λ (z : List Entry). log ++ z) (append-nil (entries_of base code r)));
    }

-- a buffer that stays has no run added
pub adds_no_run : (base : ℕ) (code : List ℕ) (acts : List NcAct) (count : ℕ) → AddsRuns base code acts count acts count [] []
adds_no_run base code acts count = λ start before log h.
    subst (λ (z : List Run). HasRuns start acts count base code z (log ++ [])) (sym (append-nil before))
    (subst (λ (z : List Entry). HasRuns start acts count base code before z) (sym (append-nil log)) h)

-- a run written at the next place of a buffer is added
pub adds_run : (base : ℕ) (code : List ℕ) (acts : List NcAct) (count : ℕ) (r : Run) → count < length acts
    → AddsRuns base code acts count (set acts count (run_of r)) (count + 1) (r ∷ []) (entries_of base code r)
adds_run base code acts count r lt = λ start before log h. write_run start acts count base code before log r h lt

-- runs that are added after others are added with them
pub adds_both_runs : (base : ℕ) (code : List ℕ) (a b c : List NcAct) (n m k : ℕ) (rs ss : List Run) (xs ys : List Entry)
    → AddsRuns base code a n b m rs xs → AddsRuns base code b m c k ss ys → AddsRuns base code a n c k (rs ++ ss) (xs ++ ys)
adds_both_runs base code a b c n m k rs ss xs ys one two = λ start before log h.
    subst (λ (z : List Run). HasRuns start c k base code z (log ++ (xs ++ ys))) (append_assoc before rs ss)
    (subst (λ (z : List Entry). HasRuns start c k base code ((before ++ rs) ++ ss) z) (append_assoc log xs ys)
    (two start (before ++ rs) (log ++ xs) (one start before log h)))

-- nothing has been looked at
pub run_none : (places : Places) (marks : ℕ → Mark) (base : ℕ) (code : List ℕ) (initial : List NcAct) (from : ℕ)
    → HasRunUpTo places marks base code initial from 0 initial from
run_none places marks base code initial from =
    record { len = refl; counted = omega arith; written = adds_no_run base code initial from }

-- the run of one bundle
one_bundle : (places : Places) (marks : ℕ → Mark) (base : ℕ) (code : List ℕ) (n : ℕ) (acts : List NcAct) (count bits : ℕ)
    → 32 * n + 32 ≤ length code → HasBits (picks places marks base) (base + 32 * n) 32 bits → count < length acts
    → AddsRuns base code acts count (set acts count (run_of (run_at places (base + 32 * n) bits))) (count + 1)
    (run_at places (base + 32 * n) (bits_at (picks places marks base) (base + 32 * n)) ∷ [])
    (only_acts (puts_where (picks places marks base) (base + 32 * n) (take 32 (drop (32 * n) (bytes_for places code)))))
one_bundle places marks base code n acts count bits le are lt =
    let now : List NcAct = set acts count (run_of (run_at places (base + 32 * n) bits)) in
    subst (λ (z : List Entry). AddsRuns base code acts count now (count + 1)
    (run_at places (base + 32 * n) (bits_at (picks places marks base) (base + 32 * n)) ∷ []) z)
    (run_entries places marks base code n bits le are)
    (subst (λ (b : ℕ). AddsRuns base code acts count now (count + 1) (run_at places (base + 32 * n) b ∷ [])
    (entries_of base code (run_at places (base + 32 * n) bits)))
    (bits_bundle (picks places marks base) (base + 32 * n) bits are) (adds_run base code acts count (run_at places (base + 32 * n) bits) lt))

-- the runs are written up to the next bundle by the run of this one
pub run_next : (places : Places) (marks : ℕ → Mark) (base : ℕ) (code : List ℕ) (initial : List NcAct) (from n : ℕ) (acts : List NcAct)
    (count bits : ℕ) → HasRunUpTo places marks base code initial from n acts count → 32 * n + 32 ≤ length code
    → HasBits (picks places marks base) (base + 32 * n) 32 bits → count < length acts
    → HasRunUpTo places marks base code initial from (n + 1) (set acts count (run_of (run_at places (base + 32 * n) bits))) (count + 1)
run_next places marks base code initial from n acts count bits h le are lt =
    let chosen : ℕ → Bool = picks places marks base in
    let now : List NcAct = set acts count (run_of (run_at places (base + 32 * n) bits)) in
    let bytes : List ℕ = bytes_for places code in
    let before : List Act = puts_where chosen base (take (32 * n) bytes) in
    let here : List Act = puts_where chosen (base + 32 * n) (take 32 (drop (32 * n) bytes)) in
    let first : List Run = runs_where (run_at places) chosen base n in
    let last : List Run = run_at places (base + 32 * n) (bits_at chosen (base + 32 * n)) ∷ [] in
    let both : only_acts (puts_where chosen base (take (32 * (n + 1)) bytes)) ≡ only_acts before ++ only_acts here =
    ap (λ (z : List Act). only_acts z) (bundle_more chosen base n bytes (omega (arith, le, bytes_long places code)))
    ∙ map-append Did before here in
    let all : runs_where (run_at places) chosen base (n + 1) ≡ first ++ last =
    ap (λ (m : ℕ). runs_where (run_at places) chosen base m) {x = n + 1} {y = suc n} (omega arith) ∙ runs_more (run_at places) chosen base n in
    record {
      len = length-set acts count (run_of (run_at places (base + 32 * n) bits)) ∙ h.len;
      counted = omega (arith, h.counted);
      written = subst (λ (z : List Run). AddsRuns base code initial from now (count + 1) z (only_acts (puts_where chosen base (take (32 * (n + 1)) bytes))))
          (sym all)
          (subst (λ (z : List Entry). AddsRuns base code initial from now (count + 1) (first ++ last) z) (sym both)
          (adds_both_runs base code initial acts now from count (count + 1) first last (only_acts before) (only_acts here) h.written
          (one_bundle places marks base code n acts count bits le are lt)));
    }

-- all bundles have been looked at
pub run_all : (places : Places) (marks : ℕ → Mark) (base : ℕ) (code : List ℕ) (initial : List NcAct) (from n : ℕ) (acts : List NcAct)
    (count : ℕ) → 32 * n ≡ length code → HasRunUpTo places marks base code initial from n acts count
    → AddsRuns base code initial from acts count (runs_where (run_at places) (picks places marks base) base (length code / 32))
    (only_acts (puts_where (picks places marks base) base (bytes_for places code)))
run_all places marks base code initial from n acts count e h =
    let bytes : List ℕ = bytes_for places code in
    let all : take (32 * n) bytes ≡ bytes = ap (λ (k : ℕ). take k bytes) (e ∙ sym (bytes_long places code)) ∙ take-length bytes in
    subst (λ (k : ℕ). AddsRuns base code initial from acts count (runs_where (run_at places) (picks places marks base) base k)
    (only_acts (puts_where (picks places marks base) base bytes))) {x = n} {y = length code / 32} (omega (arith, e))
    (subst (λ (z : List ℕ). AddsRuns base code initial from acts count (runs_where (run_at places) (picks places marks base) base n)
    (only_acts (puts_where (picks places marks base) base z))) all h.written)
