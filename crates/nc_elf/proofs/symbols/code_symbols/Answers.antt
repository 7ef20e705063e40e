use Rattle.std.proofs.Common.{List, rules, subst}
use Rattle.std.proofs.lemmas.List.Sorted.{IsNonDecreasingBy-from_sort_by_key, All-permutation, answers_always}
use Rattle.std.proofs.lemmas.Result.{IfOk-from_err}
use Rattle.nc_elf.specs.declared.sections.SymbolSections.{SymbolSections}
use Rattle.nc_elf.specs.declared.symbols.Symbol.{Symbol}
use Rattle.nc_elf.specs.Symbols.{symbols_of, AreSorted, IsNamed}
use Rattle.nc_elf.proofs.OneTable.{same_sections}
use Rattle.nc_elf.proofs.symbols.code_symbols.Goals as goal

pub returns-in_err-sort_by_key-clause-ascending : goal.returns-in_err-sort_by_key-clause-ascending
returns-in_err-sort_by_key-clause-ascending c = IfOk-from_err _ _ c.from_residual-in_err-sort_by_key.ensures.0

pub returns-clause-symbols : goal.returns-clause-symbols
returns-clause-symbols c =
    let file = c.args.file.now in
    let sorted : AreSorted c.in_ok-symbols.symbols.items c.sort_by_key.new.self.items = record {
      same = c.sort_by_key.ensures.permutation;
      ascending = IsNonDecreasingBy-from_sort_by_key (λ (s : Symbol). s.address) _ c.in_ok-sort_by_key.ensures.sorted (λ a r q k. search rules);
      stable = c.sort_by_key.ensures.stable (λ (s : Symbol). s.address) (answers_always _ _ _ (λ f a r g h. search rules));
    } in
    record {
      sorted = λ t found. subst (λ (s : SymbolSections). AreSorted (symbols_of file s) c.sort_by_key.new.self.items)
          (same_sections file c.in-Some.sections t c.in-Some.ensures.some found)
          (subst (λ (xs : List Symbol). AreSorted xs c.sort_by_key.new.self.items) c.in_ok-symbols.ensures.listed sorted);
      none = λ without. absurd (without (c.in-Some.sections, c.in-Some.ensures.some));
    }

pub returns-clause-named : goal.returns-clause-named
returns-clause-named c =
    All-permutation (IsNamed c.args.file.now) _ _ c.sort_by_key.ensures.permutation c.in_ok-symbols.ensures.named

pub returns-clause-ascending : goal.returns-clause-ascending
returns-clause-ascending c =
    IsNonDecreasingBy-from_sort_by_key (λ (s : Symbol). s.address) _ c.in_ok-sort_by_key.ensures.sorted (λ a r q k. search rules)
