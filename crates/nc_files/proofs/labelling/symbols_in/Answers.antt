use Rattle.std.proofs.Common.{◌≡◌, ◌+◌, ◌-◌, ◌≤◌, ℕ, List, length, take, drop, ltb, rules, sym, subst, ap, ◌∙◌, arith}
use Rattle.std.proofs.lemmas.List.{take_rest}
use Rattle.std.proofs.lemmas.List.Sorted.{IsPartitionPoint-from_clause, IsPartitionedBy-ltb, IsNonDecreasingBy-drop}
use Rattle.nc_elf.specs.declared.symbols.Symbol.{Symbol}
use Rattle.nc_elf.specs.Symbols.{AreAscending}
use Rattle.nc_files.proofs.Labelled.{ArePartedAt, in_segment}
use Rattle.nc_files.proofs.labelling.symbols_in.Goals as goal

pub returns : goal.returns
returns c =
    let symbols = c.args.symbols.now in
    let segment = c.args.segment in
    let start = c.partition_point-start.result in
    let count = c.partition_point-count.result in
    let first : ArePartedAt symbols segment.address start =
    IsPartitionPoint-from_clause (λ (s : Symbol). ltb s.address segment.address) symbols start
    c.partition_point-start.ensures.partitioned (IsPartitionedBy-ltb (λ (s : Symbol). s.address) symbols segment.address c.requires)
    (λ a r q k. search rules) in
    let whole = take_rest symbols start in
    let rest = take (length symbols - start) (drop start symbols) in
    let rises : AreAscending rest =
    subst AreAscending (sym whole) (IsNonDecreasingBy-drop (λ (s : Symbol). s.address) start symbols c.requires) in
    let end = c.from.result + c.from-2.result in
    let last : ArePartedAt rest end count =
    IsPartitionPoint-from_clause (λ (s : Symbol). ltb s.address end) rest count
    c.partition_point-count.ensures.partitioned (IsPartitionedBy-ltb (λ (s : Symbol). s.address) rest end rises)
    (λ a r q k. search rules) in
    let is : end ≡ segment.address + segment.len = omega (arith, c.from.ensures, c.from-2.ensures) in
    let there : ArePartedAt (drop start symbols) (segment.address + segment.len) count =
    subst (λ (n : ℕ). ArePartedAt (drop start symbols) n count) is (subst (λ (z : List Symbol). ArePartedAt z end count) whole last) in
    ap (λ (z : List Symbol). take count z) whole
    ∙ in_segment symbols segment start count c.partition_point-start.ensures.bound
    (subst (λ (z : List Symbol). count ≤ length z) whole c.partition_point-count.ensures.bound) first there
