-- Puts of one bundle, and after those of others.
use Rattle.std.proofs.Common.{◌≡◌, ℕ, zero, suc, ◌+◌, ◌*◌, ◌%◌, ◌==◌, ◌<◌, ◌≤◌, Bool, true, false, not, List, ◌++◌, length, get_or, set, take, drop}
use Rattle.std.proofs.Common.{ap, arith, sym, subst, ◌∙◌}
use Rattle.std.proofs.lemmas.List.{length-append, map-append, ext_get_or}
use Rattle.nc_vet.proofs.Offered.{bundle_size, bundle_byte}
use Rattle.nc_acts.specs.declared.acts.Act.{Act}
use Rattle.nc_acts.specs.declared.acts.Act.TheVariants.{Put}
use Rattle.nc_acts.specs.declared.acts.Entry.{Entry}
use Rattle.nc_acts.specs.declared.acts.Entry.TheVariants.{Did}
use Rattle.nc_acts.specs.Acts.{puts_where, is_start, is_inside}
use Rattle.nc_acts.specs.Log.{only_acts}
use Rattle.nc_acts.proofs.Offered.{is_start_false}
use Rattle.nc_host_acts.specs.declared.act.NcAct.{NcAct}
use Rattle.nc_host_acts.specs.Shown.{act_of}
use Rattle.nc_host_acts.specs.Written.{AddsEntries}
use Rattle.nc_host_acts.specs.machinery.Writing.{HasPutUpTo}
use Rattle.nc_host_acts.proofs.writing.PutLists.{puts_within}
use Rattle.nc_host_acts.proofs.writing.WriteSteps.{put_none, put_next, pass_next, put_all, next_fits, adds_both}

-- places that don't pass are passed over
pub passed_all : (chosen : ℕ → Bool) (at : ℕ) (bytes : List ℕ) (initial : List NcAct) (from n j : ℕ) (acts : List NcAct) (count : ℕ)
    → n + j ≤ length bytes → ((i : ℕ) → i < j → chosen (at + (n + i)) ≡ false)
    → HasPutUpTo chosen at bytes initial from n acts count → HasPutUpTo chosen at bytes initial from (n + j) acts count
passed_all chosen at bytes initial from n zero acts count fits none h =
    subst (λ (k : ℕ). HasPutUpTo chosen at bytes initial from k acts count) {x = n} {y = n + zero} (omega arith) h
passed_all chosen at bytes initial from n (suc j) acts count fits none h =
    subst (λ (k : ℕ). HasPutUpTo chosen at bytes initial from k acts count) {x = n + j + 1} {y = n + suc j} (omega arith)
    (pass_next chosen at bytes initial from (n + j) acts count
    (passed_all chosen at bytes initial from n j acts count (omega (arith, fits)) (λ i lt. none i (omega (arith, lt))) h)
    (omega (arith, fits)) (none j (omega arith)))

-- ---- the bytes of a bundle

-- 32 bytes that are those of the code from a place on are its bundle there
pub bundle_is : (code bytes : List ℕ) (i : ℕ) → i + 32 ≤ length code → length bytes ≡ 32
    → ((k : ℕ) → k < 32 → get_or bytes k 0 ≡ get_or code (i + k) 0) → take 32 (drop i code) ≡ bytes
bundle_is code bytes i fits long same =
    ext_get_or 0 (take 32 (drop i code)) bytes (bundle_size code i fits ∙ sym long)
    (λ k lt.
    let short : k < 32 = omega (arith, lt, bundle_size code i fits) in
    bundle_byte code i k short ∙ sym (same k short))

-- ---- one bundle

-- the first place of a bundle is its start
start_there : (at : ℕ) → at % 32 ≡ 0 → is_start (at + 0) ≡ true
start_there at start = ap (λ (n : ℕ). n == 0) {x = (at + 0) % 32} {y = 0} (omega (arith, start))

-- the places of a bundle behind its start are inside it
pub inside_there : (at k : ℕ) → at % 32 ≡ 0 → 0 < k → k < 32 → is_inside (at + k) ≡ true
inside_there at k start some lt = ap not (is_start_false (at + k) (λ e. omega (arith, e, start, some, lt)))

-- there is room for the put of a bundle's first byte
pub start_fits : (at : ℕ) (bytes : List ℕ) (initial : List NcAct) (from : ℕ) → at % 32 ≡ 0 → length bytes ≡ 32
    → from + length (puts_where is_start at bytes) ≤ length initial → from < length initial
start_fits at bytes initial from start long room =
    next_fits is_start at bytes initial from 0 initial from (put_none is_start at bytes initial from) (omega (arith, long)) (start_there at start) room

-- the put of its first byte is all that a bundle has at starts
pub start_put : (at : ℕ) (bytes : List ℕ) (initial : List NcAct) (from : ℕ) → at % 32 ≡ 0 → length bytes ≡ 32
    → from + length (puts_where is_start at bytes) ≤ length initial
    → HasPutUpTo is_start at bytes initial from 32 (set initial from (act_of (Put at (get_or bytes 0 0)))) (from + 1)
start_put at bytes initial from start long room =
    let lt : 0 < length bytes = omega (arith, long) in
    let one = put_next is_start at bytes initial from 0 initial from (put_none is_start at bytes initial from) lt (start_there at start)
    (start_fits at bytes initial from start long room) in
    passed_all is_start at bytes initial from 1 31 (set initial from (act_of (Put at (get_or bytes 0 0)))) (from + 1) (omega (arith, long))
    (λ i i-lt. ap (λ (b : Bool). b) (is_start_false (at + (1 + i)) (λ e. omega (arith, e, start, i-lt))))
    (subst (λ (k : ℕ). HasPutUpTo is_start at bytes initial from 1 (set initial from (act_of (Put k (get_or bytes 0 0)))) (from + 1))
    {x = at + 0} {y = at} (omega arith) one)

-- where only the other bytes of a bundle are put, its first byte is passed over
pub start_passed : (at : ℕ) (bytes : List ℕ) (initial : List NcAct) (from : ℕ) → at % 32 ≡ 0 → length bytes ≡ 32
    → HasPutUpTo is_inside at bytes initial from 1 initial from
start_passed at bytes initial from start long =
    pass_next is_inside at bytes initial from 0 initial from (put_none is_inside at bytes initial from) (omega (arith, long))
    (ap not (start_there at start))

-- ---- one bundle after others

-- there is room for the puts of one more bundle
pub part_fits : (chosen inner : ℕ → Bool) (base at n : ℕ) (bytes others : List ℕ) (initial : List NcAct) (from : ℕ) (acts : List NcAct) (count : ℕ)
    → puts_where chosen base (take (32 * (n + 1)) bytes) ≡ puts_where chosen base (take (32 * n) bytes) ++ puts_where inner at others
    → HasPutUpTo chosen base bytes initial from (32 * n) acts count → from + length (puts_where chosen base bytes) ≤ length initial
    → count + length (puts_where inner at others) ≤ length acts
part_fits chosen inner base at n bytes others initial from acts count both h room =
    omega (
      arith,
      h.len,
      h.counted,
      room,
      puts_within chosen base bytes (32 * (n + 1)),
      ap (λ (z : List Act). length z) both,
      length-append (puts_where chosen base (take (32 * n) bytes)) (puts_where inner at others),
    )

-- the puts of one more bundle follow those of the bundles before
pub part_next : (chosen inner : ℕ → Bool) (base at n : ℕ) (bytes others : List ℕ) (initial : List NcAct) (from : ℕ) (acts now : List NcAct)
    (count m : ℕ) → length others ≡ 32
    → puts_where chosen base (take (32 * (n + 1)) bytes) ≡ puts_where chosen base (take (32 * n) bytes) ++ puts_where inner at others
    → HasPutUpTo chosen base bytes initial from (32 * n) acts count → HasPutUpTo inner at others acts count 32 now m
    → HasPutUpTo chosen base bytes initial from (32 * (n + 1)) now m
part_next chosen inner base at n bytes others initial from acts now count m long both h more =
    let all = put_all inner at others acts count 32 now m (sym long) more in
    let first : List Act = puts_where chosen base (take (32 * n) bytes) in
    let last : List Act = puts_where inner at others in
    let added : AddsEntries initial from now m (only_acts first ++ only_acts last) =
    adds_both initial acts now from count m (only_acts first) (only_acts last) h.written all.written in
    let entries : only_acts (puts_where chosen base (take (32 * (n + 1)) bytes)) ≡ only_acts first ++ only_acts last =
    ap (λ (z : List Act). only_acts z) both ∙ map-append Did first last in
    record {
      len = all.len ∙ h.len;
      counted = omega (arith, all.counted, h.counted, ap (λ (z : List Act). length z) both, length-append first last);
      written = subst (λ (z : List Entry). AddsEntries initial from now m z) (sym entries) added;
    }
