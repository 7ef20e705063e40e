-- The symbols of the first entries that are listed.
use Rattle.std.proofs.Common.{◌≡◌, ℕ, ◌+◌, List, [], ◌∷◌, ◌++◌, map, filter, cond, Bool, true, false, ap, ◌∙◌, arith, append-nil}
use Rattle.std.specs.List.{range_with_len}
use Rattle.std.proofs.lemmas.List.{map-append}
use Rattle.std.proofs.lemmas.List.FromFn.{filter_of_map_range_with_len_more}
use Rattle.nc_elf.specs.declared.sections.SymbolSections.{SymbolSections}
use Rattle.nc_elf.specs.declared.entries.SymbolEntry.{SymbolEntry}
use Rattle.nc_elf.specs.Symbols.{symbol_entry, is_listed, symbol_of}
use Rattle.nc_elf.specs.machinery.Pass.{first_symbols}

-- the listed entries among the first ones, and one more entry
more_entries : (file : List ℕ) (t : SymbolSections) (i : ℕ) (b : Bool) → is_listed file t.names (symbol_entry file t.symbols i) ≡ b
    → filter (is_listed file t.names) (map (λ j. symbol_entry file t.symbols j) (range_with_len 0 (i + 1)))
    ≡ filter (is_listed file t.names) (map (λ j. symbol_entry file t.symbols j) (range_with_len 0 i))
    ++ cond b (symbol_entry file t.symbols i ∷ []) []
more_entries file t i b e =
    filter_of_map_range_with_len_more (is_listed file t.names) (λ j. symbol_entry file t.symbols j) 0 i i (omega arith)
    ∙ ap (λ (x : Bool). filter (is_listed file t.names) (map (λ j. symbol_entry file t.symbols j) (range_with_len 0 i))
    ++ cond x (symbol_entry file t.symbols i ∷ []) []) e

-- a listed entry adds its symbol
pub more_listed : (file : List ℕ) (t : SymbolSections) (i : ℕ) → is_listed file t.names (symbol_entry file t.symbols i) ≡ true
    → first_symbols file t (i + 1) ≡ first_symbols file t i ++ symbol_of file t.names (symbol_entry file t.symbols i) ∷ []
more_listed file t i e =
    ap (λ (es : List SymbolEntry). map (symbol_of file t.names) es) (more_entries file t i true e)
    ∙ map-append (symbol_of file t.names) _ (symbol_entry file t.symbols i ∷ [])

-- an entry that isn't listed adds nothing
pub more_unlisted : (file : List ℕ) (t : SymbolSections) (i : ℕ) → is_listed file t.names (symbol_entry file t.symbols i) ≡ false
    → first_symbols file t (i + 1) ≡ first_symbols file t i
more_unlisted file t i e =
    ap (λ (es : List SymbolEntry). map (symbol_of file t.names) es) (more_entries file t i false e ∙ append-nil _)
