use Rattle.std.proofs.Common.{◌≡◌, List, [], ◌∷◌, ◌++◌, true, false, All, ap, sym, ◌∙◌, subst}
use Rattle.std.proofs.lemmas.List.Elements.{All-push}
use Rattle.std.proofs.lemmas.Result.{IfOk-from_err}
use Rattle.nc_elf.specs.declared.entries.SymbolEntry.{SymbolEntry}
use Rattle.nc_elf.specs.declared.symbols.Symbol.{Symbol}
use Rattle.nc_elf.specs.Symbols.{symbol_entry, is_listed, symbol_of, IsNamed}
use Rattle.nc_elf.specs.machinery.Pass.{first_symbols}
use Rattle.nc_elf.proofs.Listed.{more_listed, more_unlisted}
use Rattle.nc_elf.proofs.symbols.list_symbols.Goals as goal
use Rattle.nc_elf.proofs.symbols.list_symbols.Goals.{in-Some+in_ok-push, in_default}

pub returns-in_err-push-clause-listed : goal.returns-in_err-push-clause-listed
returns-in_err-push-clause-listed c = IfOk-from_err _ _ c.from_residual.ensures.0

pub returns-in_err-push-clause-named : goal.returns-in_err-push-clause-named
returns-in_err-push-clause-named c = IfOk-from_err _ _ c.from_residual.ensures.0

pub loop-number-preserved : goal.loop-number-preserved
loop-number-preserved c =
    let file = c.args.file.now in
    let t = c.args.sections in
    let i = c.loop-number.number in
    let known = c.loop-number.invariant in
    let read = c.symbol_entry-entry.ensures in
    elim c.match-listed_symbol.branch [
      | in-Some+in_ok-push w ↦
          let listed : is_listed file t.names (symbol_entry file t.symbols i) ≡ true =
          ap (λ (e : SymbolEntry). is_listed file t.names e) (sym read) ∙ w.in-Some.ensures.some.0 in
          let made : w.in-Some.symbol ≡ symbol_of file t.names (symbol_entry file t.symbols i) =
          w.in-Some.ensures.some.1 ∙ ap (λ (e : SymbolEntry). symbol_of file t.names e) read in
          let more = more_listed file t i listed in
          let pushed = w.in_ok-push.ensures.items in
          let items : c.match-listed_symbol.symbols.items ≡ c.loop-number.symbols.items ++ w.in-Some.symbol ∷ [] = cc in
          record {
            listed =
                items ∙ ap (λ (xs : List Symbol). xs ++ w.in-Some.symbol ∷ []) known.listed
                ∙ ap (λ (s : Symbol). first_symbols file t i ++ s ∷ []) made ∙ sym more;
            named =
                subst (λ (xs : List Symbol). All (IsNamed file) xs) (sym items)
                (All-push (IsNamed file) _ _ known.named w.in-Some.ensures.named);
          }
      | in_default w ↦
          let unlisted : is_listed file t.names (symbol_entry file t.symbols i) ≡ false =
          ap (λ (e : SymbolEntry). is_listed file t.names e) (sym read) ∙ w.in_default.ensures.none in
          let same = more_unlisted file t i unlisted in
          let items : c.match-listed_symbol.symbols.items ≡ c.loop-number.symbols.items = cc in
          record {
            listed = items ∙ known.listed ∙ sym same;
            named = subst (λ (xs : List Symbol). All (IsNamed file) xs) (sym items) known.named;
          }
    ]
