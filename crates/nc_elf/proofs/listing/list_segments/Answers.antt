use Rattle.std.proofs.Common.{◌≡◌, ℕ, ap, sym, ◌∙◌, arith}
use Rattle.nc_elf.specs.declared.program.ProgramHeader.{ProgramHeader}
use Rattle.nc_elf.specs.Header.{e_phnum}
use Rattle.nc_elf.specs.Segments.{program_header, is_code, segment_of}
use Rattle.nc_elf.specs.machinery.Pass.{first_segments}
use Rattle.nc_elf.proofs.Lists.{more_code, more_other}
use Rattle.nc_elf.proofs.listing.list_segments.Goals as goal
use Rattle.nc_elf.proofs.listing.list_segments.Goals.{then-is_code+in_ok-push, else-is_code}

pub loop-number-preserved : goal.loop-number-preserved
loop-number-preserved c =
    let file = c.args.file.now in
    let i = c.loop-number.number in
    let read = c.program_header-header.ensures in
    let asked : is_code (program_header file i) ≡ c.is_code.result =
    sym (ap (λ (h : ProgramHeader). is_code h) read) ∙ sym c.is_code.ensures in
    elim c.if-is_code.branch [
      | then-is_code+in_ok-push w ↦
          let more = more_code file i (asked ∙ w.if-is_code.true) in
          let pushed = w.in_ok-push.ensures.items in
          let made = w.segment.ensures ∙ ap (λ (h : ProgramHeader). segment_of h) read in
          cc
      | else-is_code w ↦
          let same = more_other file i (asked ∙ w.if-is_code.false) in
          cc
    ]

pub returns : goal.returns
returns c =
    let all : c.loop-number.number ≡ e_phnum c.args.file.now = omega arith in
    c.loop-number.invariant ∙ ap (λ (n : ℕ). first_segments c.args.file.now n) all
