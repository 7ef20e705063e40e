use Rattle.std.proofs.Common.{◌≡◌, Some, true, ap, sym, ◌∙◌, arith}
use Rattle.nc_elf.specs.declared.sections.SectionHeader.{SectionHeader}
use Rattle.nc_elf.specs.Sections.{e_shnum, section_header, is_symbol_table}
use Rattle.nc_elf.proofs.Finds.{find_here, find_nowhere}
use Rattle.nc_elf.proofs.sections.symbol_table.Goals as goal

pub returns-then-is_symbol_table : goal.returns-then-is_symbol_table
returns-then-is_symbol_table c =
    let file = c.args.file.now in
    let i = c.loop-number.number in
    let read = c.section_header-header.ensures in
    let passes : is_symbol_table (section_header file i) ≡ true =
    ap (λ (h : SectionHeader). is_symbol_table h) (sym read) ∙ sym c.is_symbol_table.ensures ∙ c.if-is_symbol_table.true in
    ap (λ (h : SectionHeader). Some h) read
    ∙ sym (find_here is_symbol_table (λ j. section_header file j) 0 (e_shnum file) i (omega arith)
    (omega (arith, c.loop-number-test.true, c.section_count-number-end.ensures)) (λ j m l. c.loop-number.invariant j l) passes)

pub returns : goal.returns
returns c =
    let file = c.args.file.now in
    sym (find_nowhere is_symbol_table (λ j. section_header file j) 0 (e_shnum file)
    (λ j m l. c.loop-number.invariant j (omega (arith, l, c.loop-number-test.false, c.section_count-number-end.ensures))))
