-- The whole log of a creation, and of a deletion.
use Rattle.std.proofs.Common.{◌≡◌, ℕ, ◌+◌, ◌-◌, ◌<◌, ◌≤◌, Bool, true, false, List, [], ◌∷◌, ◌++◌, length, replicate, set, refl, ap, arith, sym, subst}
use Rattle.std.proofs.Common.{◌∙◌}
use Rattle.std.proofs.lemmas.List.{length-replicate, length-set}
use Rattle.nc_decode.specs.declared.instruction.Mark.{Mark}
use Rattle.nc_text.specs.Marks.{mark_at}
use Rattle.nc_acts.specs.declared.acts.Act.{Act}
use Rattle.nc_acts.specs.declared.acts.Act.TheVariants.{MarkSpan, Bump}
use Rattle.nc_acts.specs.declared.acts.Entry.{Entry}
use Rattle.nc_acts.specs.declared.acts.Entry.TheVariants.{Did, Serialized}
use Rattle.nc_acts.specs.Acts.{puts_where, is_start, is_inside, is_marked_at}
use Rattle.nc_acts.specs.Log.{only_acts, log_of_create, log_of_delete}
use Rattle.nc_host_acts.specs.declared.act.NcAct.{NcAct}
use Rattle.nc_host_acts.specs.Shown.{entry_of}
use Rattle.nc_host_acts.specs.Standing.{AreMarksAt}
use Rattle.nc_host_acts.specs.Written.{HoldsLog, AddsEntries}
use Rattle.nc_host_acts.specs.machinery.Writing.{HasPutUpTo, mark_if, marks_if}
use Rattle.nc_host_acts.proofs.writing.PutLists.{puts_of_both, puts_same}
use Rattle.nc_host_acts.proofs.writing.WriteSteps.{put_all, adds_one, adds_both}

-- nothing is written yet
none_written : (acts : List NcAct) → HoldsLog acts acts 0 []
none_written acts = record { buffer = refl; counted = refl }

-- each byte of a chunk is put once
pub both_of_create : (base : ℕ) (code : List ℕ)
    → length (puts_where is_inside base code) + length (puts_where is_start base code) ≡ length code
both_of_create base code = omega (arith, puts_of_both is_start base code)

-- each place of a chunk gets one stop
pub both_of_delete : (marks : ℕ → Mark) (base len : ℕ)
    → length (puts_where (marks_if true marks base) base (replicate {A = ℕ} len 244))
    + length (puts_where (marks_if false marks base) base (replicate {A = ℕ} len 244)) ≡ len
both_of_delete marks base len =
    puts_of_both (marks_if true marks base) base (replicate {A = ℕ} len 244) ∙ length-replicate {A = ℕ} len 244

pub record WroteFirst (chosen : ℕ → Bool) (base : ℕ) (bytes : List ℕ) (acts now : List NcAct) (count : ℕ) : Type 0 where
  pub len : length now ≡ length acts
  pub counted : count ≡ length (puts_where chosen base bytes)
  pub written : AddsEntries acts 0 now count (only_acts (puts_where chosen base bytes))

pub first_written : (chosen : ℕ → Bool) (base : ℕ) (bytes : List ℕ) (acts now : List NcAct) (n count : ℕ) → n ≡ length bytes
    → HasPutUpTo chosen base bytes acts 0 n now count → WroteFirst chosen base bytes acts now count
first_written chosen base bytes acts now n count e h =
    let all = put_all chosen base bytes acts 0 n now count e h in
    record { len = all.len; counted = omega (arith, all.counted); written = all.written }

-- an entry is added with those that are added after it
then_entry : (acts next last : List NcAct) (n m k : ℕ) (a : Entry) (rest : List Entry) → next ≡ set acts n (entry_of a) → m ≡ n + 1
    → n < length acts → AddsEntries next m last k rest → AddsEntries acts n last k (a ∷ rest)
then_entry acts next last n m k a rest e f lt more =
    adds_both acts next last n m k (a ∷ []) rest (rw (e, f) (adds_one acts n a lt)) more

-- the log of a creation
pub creation_written : (base : ℕ) (code : List ℕ) (acts acts1 acts2 acts3 acts4 : List NcAct) (n1 n2 n3 n4 : ℕ)
    → HasPutUpTo is_inside base code acts 0 (length code) acts1 n1 → acts2 ≡ set acts1 n1 (entry_of Serialized) → n2 ≡ n1 + 1
    → acts3 ≡ set acts2 n2 (entry_of (Did (MarkSpan base (length code)))) → n3 ≡ n2 + 1
    → HasPutUpTo is_start base code acts3 n3 (length code) acts4 n4 → length code + 2 ≤ length acts
    → HoldsLog acts acts4 (length code + 2) (log_of_create base code)
creation_written base code acts acts1 acts2 acts3 acts4 n1 n2 n3 n4 h1 e2 m2 e3 m3 h4 room =
    let both = both_of_create base code in
    let one = first_written is_inside base code acts acts1 (length code) n1 refl h1 in
    let rest = put_all is_start base code acts3 n3 (length code) acts4 n4 refl h4 in
    let long2 = ap (λ (z : List NcAct). length z) e2 ∙ length-set acts1 n1 (entry_of Serialized) in
    let lt1 : n1 < length acts1 = omega (arith, one.len, one.counted, room, both) in
    let lt2 : n2 < length acts2 = omega (arith, one.len, one.counted, room, both, m2, long2) in
    let starts : List Entry = only_acts (puts_where is_start base code) in
    let marked : AddsEntries acts2 n2 acts4 n4 (Did (MarkSpan base (length code)) ∷ starts) =
    then_entry acts2 acts3 acts4 n2 n3 n4 (Did (MarkSpan base (length code))) starts e3 m3 lt2 rest.written in
    let serialized = then_entry acts1 acts2 acts4 n1 n2 n4 Serialized (Did (MarkSpan base (length code)) ∷ starts) e2 m2 lt1 marked in
    let all : HoldsLog acts acts4 n4 (log_of_create base code) =
    adds_both acts acts1 acts4 0 n1 n4 (only_acts (puts_where is_inside base code)) (Serialized ∷ Did (MarkSpan base (length code)) ∷ starts)
    one.written serialized acts [] (none_written acts) in
    subst (λ (n : ℕ). HoldsLog acts acts4 n (log_of_create base code)) {x = n4} {y = length code + 2}
    (omega (arith, rest.counted, m2, m3, one.counted, both)) all

-- a place is marked by a chunk's marks as by those of the text in which they stand
pub stands_so : (marked : Bool) (marks : ℕ → Mark) (text : List Mark) (base len k : ℕ) → AreMarksAt text base len marks → k < len
    → marks_if marked marks base (base + k) ≡ mark_if marked (mark_at text (base + k))
stands_so marked marks text base len k h lt =
    let here : base + k - base ≡ k = omega arith in
    ap (λ (n : ℕ). mark_if marked (marks n)) here ∙ ap (λ (z : Mark). mark_if marked z) (sym (h k lt))

-- the stops by a chunk's marks are those by the marks of the text in which they stand
pub same_stops : (marked : Bool) (marks : ℕ → Mark) (text : List Mark) (base len : ℕ) → AreMarksAt text base len marks
    → puts_where (marks_if marked marks base) base (replicate {A = ℕ} len 244)
    ≡ puts_where (λ at. mark_if marked (mark_at text at)) base (replicate {A = ℕ} len 244)
same_stops marked marks text base len h =
    puts_same (marks_if marked marks base) (λ at. mark_if marked (mark_at text at)) base (replicate {A = ℕ} len 244)
    (λ k lt. stands_so marked marks text base len k h (omega (arith, lt, length-replicate {A = ℕ} len 244)))

-- the log of a deletion
pub deletion_written : (marks : ℕ → Mark) (text : List Mark) (base len : ℕ) (acts acts1 acts2 acts3 acts4 : List NcAct) (n1 n2 n3 : ℕ)
    → HasPutUpTo (marks_if true marks base) base (replicate {A = ℕ} len 244) acts 0 len acts1 n1
    → acts2 ≡ set acts1 n1 (entry_of Serialized) → n2 ≡ n1 + 1
    → HasPutUpTo (marks_if false marks base) base (replicate {A = ℕ} len 244) acts2 n2 len acts3 n3
    → acts4 ≡ set acts3 n3 (entry_of (Did Bump)) → len + 2 ≤ length acts → AreMarksAt text base len marks
    → HoldsLog acts acts4 (len + 2) (log_of_delete text base len)
deletion_written marks text base len acts acts1 acts2 acts3 acts4 n1 n2 n3 h1 e2 m2 h3 e4 room stand =
    let bytes : List ℕ = replicate {A = ℕ} len 244 in
    let ones : List Act = puts_where (marks_if true marks base) base bytes in
    let others : List Act = puts_where (marks_if false marks base) base bytes in
    let end : len ≡ length bytes = sym (length-replicate {A = ℕ} len 244) in
    let both = both_of_delete marks base len in
    let one = first_written (marks_if true marks base) base bytes acts acts1 len n1 end h1 in
    let rest = put_all (marks_if false marks base) base bytes acts2 n2 len acts3 n3 end h3 in
    let long2 = ap (λ (z : List NcAct). length z) e2 ∙ length-set acts1 n1 (entry_of Serialized) in
    let many : n3 ≡ len + 1 = omega (arith, rest.counted, m2, one.counted, both) in
    let lt1 : n1 < length acts1 = omega (arith, one.len, one.counted, room, both) in
    let lt3 : n3 < length acts3 = omega (arith, many, rest.len, long2, one.len, room) in
    let last : AddsEntries acts3 n3 acts4 (n3 + 1) (Did Bump ∷ []) = rw e4 (adds_one acts3 n3 (Did Bump) lt3) in
    let stops = adds_both acts2 acts3 acts4 n2 n3 (n3 + 1) (only_acts others) (Did Bump ∷ []) rest.written last in
    let serialized = then_entry acts1 acts2 acts4 n1 n2 (n3 + 1) Serialized (only_acts others ++ Did Bump ∷ []) e2 m2 lt1 stops in
    let all : HoldsLog acts acts4 (n3 + 1) (only_acts ones ++ (Serialized ∷ (only_acts others ++ Did Bump ∷ []))) =
    adds_both acts acts1 acts4 0 n1 (n3 + 1) (only_acts ones) (Serialized ∷ (only_acts others ++ Did Bump ∷ [])) one.written serialized acts []
    (none_written acts) in
    let same : only_acts ones ++ (Serialized ∷ (only_acts others ++ Did Bump ∷ [])) ≡ log_of_delete text base len =
    ap (λ (z : List Act). only_acts z ++ (Serialized ∷ (only_acts others ++ Did Bump ∷ []))) (same_stops true marks text base len stand)
    ∙ ap (λ (z : List Act). only_acts (puts_where (is_marked_at text) base bytes) ++ (Serialized ∷ (only_acts z ++ Did Bump ∷ [])))
    (same_stops false marks text base len stand) in
    subst (λ (n : ℕ). HoldsLog acts acts4 n (log_of_delete text base len)) {x = n3 + 1} {y = len + 2} (omega (arith, many))
    (subst (λ (z : List Entry). HoldsLog acts acts4 (n3 + 1) z) same all)
