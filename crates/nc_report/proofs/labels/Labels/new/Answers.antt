use Rattle.std.proofs.Common.{◌≡◌, ◌+◌, Bool, true, false, List, [], ◌∷◌, leb, leb-true, leb-false, rules, sym, subst, arith, MatchBool}
use Rattle.std.specs.List.{IsAllAdjacentAnswer}
use Rattle.std.proofs.lemmas.List.Sorted.{IsNonDecreasingBy-from_all_adjacent}
use Rattle.std.proofs.lemmas.Fn.{always_returns_same}
use Rattle.nc_report.specs.declared.labels.Label.{Label}
use Rattle.nc_report.specs.Labels.{LabelsAscend}
use Rattle.nc_report.proofs.labels.Labels.new.Goals as goal

-- whether each address and the next are in order tells whether all ascend
ascending_by : (labels : List Label) (test : Bool) → IsAllAdjacentAnswer (λ (x y : Label) (b : Bool). b ≡ leb x.address y.address) labels test
    → MatchBool test (LabelsAscend labels) (LabelsAscend labels → ⊥)
ascending_by labels true h =
    IsNonDecreasingBy-from_all_adjacent (λ (l : Label). l.address) labels (λ k d lt. leb-true _ _ (sym (h k d lt)))
ascending_by [] false (k, lt, falls) = λ rises. absurd (omega (arith, lt))
ascending_by (label ∷ labels) false (k, lt, falls) = λ rises.
    let higher = leb-false _ _ (sym (falls label)) in
    omega (arith, higher, rises k (k + 1) label (omega arith) lt)

pub returns-then-not-is_sorted_by-clause-none : goal.returns-then-not-is_sorted_by-clause-none
returns-then-not-is_sorted_by-clause-none c =
    let xs = c.deref.result.now in
    let answer = ascending_by xs c.is_sorted_by.result
    (c.is_sorted_by.ensures.cases (λ (x y : Label). leb x.address y.address) (always_returns_same _ _ _ (λ a r q k. search rules))) in
    subst (λ (z : List Label). LabelsAscend z → ⊥) c.deref.ensures.value
    (subst (λ (b : Bool). MatchBool b (LabelsAscend xs) (LabelsAscend xs → ⊥)) c.if-not-is_sorted_by.true answer)

pub invariant_of-result : goal.invariant_of-result
invariant_of-result c =
    let xs = c.deref.result.now in
    let answer = ascending_by xs c.is_sorted_by.result
    (c.is_sorted_by.ensures.cases (λ (x y : Label). leb x.address y.address) (always_returns_same _ _ _ (λ a r q k. search rules))) in
    subst LabelsAscend c.deref.ensures.value
    (subst (λ (b : Bool). MatchBool b (LabelsAscend xs) (LabelsAscend xs → ⊥)) c.if-not-is_sorted_by.false answer)
