use Rattle.std.proofs.Common.{◌≡◌, ℕ, ◌+◌, ap, subst, sym, ◌∙◌, true}
use Rattle.std.proofs.lemmas.Bool.{false≢true}
use Rattle.nc_elf.specs.declared.program.ProgramHeader.{ProgramHeader}
use Rattle.nc_elf.specs.Segments.{program_header, is_load}
use Rattle.nc_elf.specs.machinery.Pass.{IsFloor}
use Rattle.nc_elf.proofs.Floors.{floor_at_end, floor_stays, more_good}
use Rattle.nc_elf.proofs.checks.check_segments.Goals as goal
use Rattle.nc_elf.proofs.checks.check_segments.Goals.{then-is_load+in_default, else-is_load}

pub loop-number-preserved : goal.loop-number-preserved
loop-number-preserved c =
    let file = c.args.file.now in
    let i = c.loop-number.number in
    let known = c.loop-number.invariant in
    let read = c.program_header-header.ensures in
    let asked : is_load (program_header file i) ≡ c.is_load.result =
    sym (ap (λ (h : ProgramHeader). is_load h) read) ∙ sym c.is_load.ensures in
    elim c.if-is_load.branch [
      | then-is_load+in_default w ↦
          let loaded : is_load (program_header file i) ≡ true = asked ∙ w.if-is_load.true in
          let end : c.if-is_load.floor ≡ (program_header file i).address + (program_header file i).memory_len =
          w.floor-is ∙ w.end-floor.ensures ∙ ap (λ (h : ProgramHeader). h.address + h.memory_len) read in
          record {
            good = more_good file i known.good (λ _. w.in_default.ensures.none);
            floor = subst (λ (x : ℕ). IsFloor file (i + 1) x) (sym end) (floor_at_end file i _ known.floor loaded w.in_default.ensures.none);
          }
      | else-is_load w ↦
          let skipped : is_load (program_header file i) ≡ true → ⊥ = λ l. false≢true (sym (asked ∙ w.if-is_load.false) ∙ l) in
          record {
            good = more_good file i known.good (λ l. absurd (skipped l));
            floor = subst (λ (x : ℕ). IsFloor file (i + 1) x) (sym w.floor-is) (floor_stays file i _ known.floor skipped);
          }
    ]
