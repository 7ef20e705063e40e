use Rattle.std.proofs.Common.{List, sym, subst}
use Rattle.std.specs.Prelude.{All}
use Rattle.std.proofs.lemmas.List.Elements.{All-filter}
use Rattle.std.proofs.lemmas.List.Kept.{IsNonDecreasingBy-filter}
use Rattle.nc_elf.specs.declared.symbols.Symbol.{Symbol}
use Rattle.nc_elf.specs.Symbols.{AreAscending, IsNamed}
use Rattle.nc_files.specs.Parts.{is_in}
use Rattle.nc_files.proofs.Labelled.{labels_ascend}
use Rattle.nc_files.proofs.labelling.labels_of.Goals as goal

pub list_labels-requires : goal.list_labels-requires
list_labels-requires c =
    let file = c.args.file.now in
    subst (λ (z : List Symbol). All (IsNamed file) z) (sym c.symbols_in.ensures)
    (All-filter (is_in c.args.segment) (IsNamed file) c.args.symbols.now c.requires.named)

pub unreachable-requires : goal.unreachable-requires
unreachable-requires c =
    let some = c.symbols_in.result.now in
    let rises = subst AreAscending (sym c.symbols_in.ensures)
    (IsNonDecreasingBy-filter (λ (s : Symbol). s.address) (is_in c.args.segment) c.args.symbols.now c.requires.ascending) in
    c.in-None.ensures.none (labels_ascend c.in_ok-list.list.items some c.args.file.now c.in_ok-list.ensures rises)
