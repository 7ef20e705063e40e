use Rattle.std.proofs.Common.{◌≡◌, ◌<◌, ◌-◌, List, length, slice_index_or, Some, None, leb, rules, sym, subst, ◌∙◌, ap, arith}
use Rattle.std.proofs.lemmas.List.Sorted.{IsPartitionedBy-leb, IsPartitionPoint-from_clause}
use Rattle.nc_report.specs.declared.labels.Label.{Label}
use Rattle.nc_report.specs.Labels.{LabelsAscend, label_of}
use Rattle.nc_report.proofs.LabelLookups.{Divides, element, none_found, last_found}
use Rattle.nc_report.proofs.labels.Labels.of.Goals as goal

pub returns-then-count-eq0 : goal.returns-then-count-eq0
returns-then-count-eq0 c =
    let xs = c.deref.result.now in
    let at = c.args.at in
    let ascend = subst LabelsAscend (sym c.deref.ensures.value) c.self.invariant in
    let divides : Divides xs at c.partition_point-count.result = (
      c.partition_point-count.ensures.bound,
      IsPartitionPoint-from_clause (λ (l : Label). leb l.address at) xs c.partition_point-count.result c.partition_point-count.ensures.partitioned
          (IsPartitionedBy-leb (λ (l : Label). l.address) xs at ascend) (λ a r f' k. search rules),
    ) in
    let inside = c.deref.ensures.value in
    let view = c.self.view_is in
    let same : xs ≡ c.args.self.now = cc in
    subst (λ (ls : List Label). None ≡ label_of ls at) same (none_found xs at c.partition_point-count.result divides (omega (arith, c.if-count-eq0.true)))

pub returns : goal.returns
returns c =
    let xs = c.deref.result.now in
    let at = c.args.at in
    let ascend = subst LabelsAscend (sym c.deref.ensures.value) c.self.invariant in
    let divides : Divides xs at c.partition_point-count.result = (
      c.partition_point-count.ensures.bound,
      IsPartitionPoint-from_clause (λ (l : Label). leb l.address at) xs c.partition_point-count.result c.partition_point-count.ensures.partitioned
          (IsPartitionedBy-leb (λ (l : Label). l.address) xs at ascend) (λ a r f' k. search rules),
    ) in
    let inside = c.deref.ensures.value in
    let view = c.self.view_is in
    let same : xs ≡ c.args.self.now = cc in
    let found = last_found xs at c.partition_point-count.result divides (omega (arith, c.if-count-eq0.false)) in
    let x = c.index.result.now in
    let last = c.partition_point-count.result - 1 in
    let within : last < length xs = omega (arith, c.partition_point-count.ensures.bound, c.if-count-eq0.false) in
    let item : x ≡ slice_index_or xs last x = c.index.ensures ∙ ap (λ (ls : List Label). slice_index_or ls last x) (sym inside) in
    let there : Some x ≡ label_of xs at = element xs last x within item ∙ sym found in
    subst (λ (ls : List Label). Some x ≡ label_of ls at) same there
