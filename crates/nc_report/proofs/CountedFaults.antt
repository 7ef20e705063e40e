-- Faults that are counted, place by place.
use Rattle.std.proofs.Common.{◌≡◌, ℕ, zero, suc, ◌+◌, ◌≤◌, Bool, List, [], ◌∷◌, ◌++◌, cond, sym, ◌∙◌, ap, arith, ◌*◌, Option, Some, None}
use Rattle.std.specs.List.{count_by, range_with_len}
use Rattle.std.proofs.Math.Nat.{add-zero, zero-add}
use Rattle.std.proofs.lemmas.List.Sums.{sum_by_push, count_by-le-length}
use Rattle.std.proofs.lemmas.List.FromFn.{length-range_with_len}
use Rattle.nc_vet.specs.declared.fault.VetFault.{VetFault}
use Rattle.nc_vet.specs.declared.fault.VetFault.TheVariants.{BadBase, BadLength, OutOfRange, NotPermitted, Crosses, Bare, BadTarget, OutOfMemory}
use Rattle.nc_reading.specs.declared.class.Class.{Class}
use Rattle.nc_report.specs.declared.totals.Counts.{Counts}
use Rattle.nc_report.specs.Further.{fault_at}
use Rattle.nc_report.specs.Totals.{is_crosses, is_not_permitted, is_bare, is_bad_target, counts_to, total}
use Rattle.nc_report.specs.machinery.CountedFault.{counted}

-- a range parts
pub range_append : (a m n : ℕ) → range_with_len a (m + n) ≡ range_with_len a m ++ range_with_len (a + m) n
range_append a zero n = ap (range_with_len a) (omega arith) ∙ ap (λ (b : ℕ). range_with_len b n) (omega arith)
range_append a (suc m) n =
    ap (range_with_len a) {y = suc (m + n)} (omega arith)
    ∙ ap (λ (ks : List ℕ). a ∷ ks) (range_append (a + 1) m n)
    ∙ ap (λ (b : ℕ). a ∷ (range_with_len (a + 1) m ++ range_with_len b n)) (omega arith)

-- a range goes on by its next number
pub range_to : (n : ℕ) → range_with_len 0 (n + 1) ≡ range_with_len 0 n ++ n ∷ []
range_to n = range_append 0 n 1 ∙ ap (λ (k : ℕ). range_with_len 0 n ++ k ∷ []) (zero-add n)

-- with one number more, one more is counted if it passes
pub count_more : (p : ℕ → Bool) (n : ℕ) → count_by p (range_with_len 0 (n + 1)) ≡ count_by p (range_with_len 0 n) + cond (p n) 1 0
count_more p n = ap (λ (ks : List ℕ). count_by p ks) (range_to n) ∙ sum_by_push (λ (k : ℕ). cond (p k) 1 0) (range_with_len 0 n) n

-- of the first n numbers at most n are counted
pub count_small : (p : ℕ → Bool) (n : ℕ) → count_by p (range_with_len 0 n) ≤ n
count_small p n = omega (arith, count_by-le-length p (range_with_len 0 n), length-range_with_len 0 n)

-- the numbers by their values
abbrev four : ℕ → ℕ → ℕ → ℕ → Counts
four a b c d = record { crosses = a; not_permitted = b; bare = c; bad_target = d }

same_four : (a b c d e f g h : ℕ) → a ≡ e → b ≡ f → c ≡ g → d ≡ h → four a b c d ≡ four e f g h
same_four a b c d e f g h p q r s =
    ap (λ (x : ℕ). four x b c d) p ∙ ap (λ (x : ℕ). four e x c d) q ∙ ap (λ (x : ℕ). four e f x d) r ∙ ap (λ (x : ℕ). four e f g x) s

-- the counts with one more for each test that a fault passes
abbrev counted_by : Counts → Option VetFault → Counts
counted_by counts x =
    four (counts.crosses + cond (is_crosses x) 1 0) (counts.not_permitted + cond (is_not_permitted x) 1 0)
    (counts.bare + cond (is_bare x) 1 0) (counts.bad_target + cond (is_bad_target x) 1 0)

counted_is : (counts : Counts) (x : Option VetFault) → counted counts x ≡ counted_by counts x
counted_is counts None = simp add-zero
counted_is counts (Some BadBase) = simp add-zero
counted_is counts (Some BadLength) = simp add-zero
counted_is counts (Some OutOfRange) = simp add-zero
counted_is counts (Some OutOfMemory) = simp add-zero
counted_is counts (Some (NotPermitted at)) = simp add-zero
counted_is counts (Some (Crosses at)) = simp add-zero
counted_is counts (Some (Bare at)) = simp add-zero
counted_is counts (Some (BadTarget at)) = simp add-zero

-- the counts up to a place, with what is found there, are those up to the next place
pub counts_more : (base limit : ℕ) (code : List ℕ) (classes : List Class) (k : ℕ)
    → counted (counts_to base limit code classes k) (fault_at base limit code classes k) ≡ counts_to base limit code classes (k + 1)
counts_more base limit code classes k =
    let more = λ (test : Option VetFault → Bool). sym (count_more (λ (n : ℕ). test (fault_at base limit code classes n)) k) in
    counted_is (counts_to base limit code classes k) (fault_at base limit code classes k)
    ∙ same_four _ _ _ _ _ _ _ _ (more is_crosses) (more is_not_permitted) (more is_bare) (more is_bad_target)

-- at the first places no more faults of each kind are counted than there are places
pub total_small : (base limit : ℕ) (code : List ℕ) (classes : List Class) (k : ℕ) → total (counts_to base limit code classes k) ≤ 4 * k
total_small base limit code classes k =
    let few = λ (test : Option VetFault → Bool). count_small (λ (n : ℕ). test (fault_at base limit code classes n)) k in
    omega (arith, few is_crosses, few is_not_permitted, few is_bare, few is_bad_target)
