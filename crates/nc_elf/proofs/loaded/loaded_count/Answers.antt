use Rattle.std.proofs.Common.{◌≡◌, List, length, ap, sym, ◌∙◌, arith}
use Rattle.std.proofs.lemmas.List.{length_push}
use Rattle.nc_elf.specs.declared.loaded.NcSegment.{NcSegment}
use Rattle.nc_elf.specs.declared.program.ProgramHeader.{ProgramHeader}
use Rattle.nc_elf.specs.Segments.{program_header, is_present, loaded_of}
use Rattle.nc_elf.specs.machinery.Pass.{first_loaded}
use Rattle.nc_elf.proofs.Loadable.{more_loaded, more_absent}
use Rattle.nc_elf.proofs.loaded.loaded_count.Goals as goal
use Rattle.nc_elf.proofs.loaded.loaded_count.Goals.{then-is_present, else-is_present}

pub loop-number-preserved : goal.loop-number-preserved
loop-number-preserved c =
    let file = c.args.file.now in
    let i = c.loop-number.number in
    let asked : is_present (program_header file i) ≡ c.is_present.result =
    sym (ap (λ (h : ProgramHeader). is_present h) c.program_header.ensures) ∙ sym c.is_present.ensures in
    let known = c.loop-number.invariant in
    elim c.if-is_present.branch [
      | then-is_present w ↦
          let more = ap (λ (xs : List NcSegment). length xs) (more_loaded file i (asked ∙ w.if-is_present.true)) in
          let longer = length_push (first_loaded file i) (loaded_of (program_header file i)) in
          record { counted = omega (arith, more, longer, known.counted); few = omega (arith, known.few) }
      | else-is_present w ↦
          let same = ap (λ (xs : List NcSegment). length xs) (more_absent file i (asked ∙ w.if-is_present.false)) in
          record { counted = omega (arith, same, known.counted); few = omega (arith, known.few) }
    ]
