-- A file has one table of symbols with its names.
use Rattle.std.proofs.Common.{◌≡◌, ℕ, List, ap, sym, ◌∙◌}
use Rattle.nc_elf.specs.declared.sections.SectionHeader.{SectionHeader}
use Rattle.nc_elf.specs.declared.sections.SymbolSections.{SymbolSections}
use Rattle.nc_elf.specs.Sections.{section_header, AreSymbolSections}

-- two sections with the symbols and their names, as one
both : SectionHeader → SectionHeader → SymbolSections
both h k = record { symbols = h; names = k }

-- the sections with the symbols and their names are determined
pub same_sections : (file : List ℕ) (s t : SymbolSections) → AreSymbolSections file s → AreSymbolSections file t → s ≡ t
unfolding both
same_sections file s t a b =
    let one = a.symbols in
    let other = b.symbols in
    let first : s.symbols ≡ t.symbols = cc in
    let names : s.names ≡ t.names = a.names ∙ ap (λ (h : SectionHeader). section_header file h.link) first ∙ sym b.names in
    ap (λ (h : SectionHeader). both h s.names) first ∙ ap (λ (h : SectionHeader). both t.symbols h) names
