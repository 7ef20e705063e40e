use Rattle.std.proofs.Common.{◌≡◌, ℕ, ◌+◌, ◌≤◌, List, length, refl, ap, sym, subst, arith, rules}
use Rattle.std.proofs.lemmas.Bool.{false≢true}
use Rattle.nc_elf.specs.declared.program.ProgramHeader.{ProgramHeader}
use Rattle.nc_elf.specs.Segments.{program_header, EndBy, IsInFile}
use Rattle.nc_elf.specs.machinery.Pass.{IsFloor}
use Rattle.nc_elf.proofs.checks.segment_fault.Goals as goal

-- what was read ends in the file
in_file : (file : List ℕ) (i : ℕ) (h : ProgramHeader) → h ≡ program_header file i → h.offset + h.file_len ≤ length file
    → IsInFile file (program_header file i)
in_file file i h e k = subst (λ (h : ProgramHeader). IsInFile file h) e k

-- a segment at the floor or above is after the others
after : (file : List ℕ) (i floor : ℕ) (h : ProgramHeader) → h ≡ program_header file i → IsFloor file i floor → floor ≤ h.address
    → EndBy file i (program_header file i).address
after file i floor h e f k = (f.least (program_header file i).address).1 (omega (arith, ap (λ (h : ProgramHeader). h.address) e))

-- a segment that is after the others is at the floor or above
above : (file : List ℕ) (i floor : ℕ) (h : ProgramHeader) → h ≡ program_header file i → IsFloor file i floor
    → EndBy file i (program_header file i).address → floor ≤ h.address
above file i floor h e f k = omega (arith, ap (λ (h : ProgramHeader). h.address) e, (f.least (program_header file i).address).0 k)

pub returns-then-not-is_in_file-clause-some : goal.returns-then-not-is_in_file-clause-some
returns-then-not-is_in_file-clause-some c = λ k.
    false≢true
    (c.if-not-is_in_file.ensures.1 (subst (λ (h : ProgramHeader). IsInFile c.args.file.now h) (sym c.program_header-header.ensures) k))

pub returns-then-header-clause-some : goal.returns-then-header-clause-some
returns-then-header-clause-some c = (in_file _ _ _ c.program_header-header.ensures (c.if-not-is_in_file.ensures.0 refl), search rules)

pub returns-then-end-gt-TOP-clause-some : goal.returns-then-end-gt-TOP-clause-some
returns-then-end-gt-TOP-clause-some c =
    (in_file _ _ _ c.program_header-header.ensures (c.if-not-is_in_file.ensures.0 refl), search rules, search rules)

pub returns-then-header-floor-clause-some : goal.returns-then-header-floor-clause-some
returns-then-header-floor-clause-some c = (
  in_file _ _ _ c.program_header-header.ensures (c.if-not-is_in_file.ensures.0 refl),
  search rules,
  search rules,
  λ k. omega (arith, above _ _ _ _ c.program_header-header.ensures c.requires.floor k),
)

pub returns-then-is_writable-clause-some : goal.returns-then-is_writable-clause-some
returns-then-is_writable-clause-some c = (
  in_file _ _ _ c.program_header-header.ensures (c.if-not-is_in_file.ensures.0 refl),
  search rules,
  search rules,
  after _ _ _ _ c.program_header-header.ensures c.requires.floor c.if-header-floor.false,
  search rules,
)

pub returns-then-header-2-clause-some : goal.returns-then-header-2-clause-some
returns-then-header-2-clause-some c = (
  in_file _ _ _ c.program_header-header.ensures (c.if-not-is_in_file.ensures.0 refl),
  search rules,
  search rules,
  after _ _ _ _ c.program_header-header.ensures c.requires.floor c.if-header-floor.false,
  search rules,
  search rules,
)

pub returns-clause-none : goal.returns-clause-none
returns-clause-none c =
    record {
      in_file = in_file _ _ _ c.program_header-header.ensures (c.if-not-is_in_file.ensures.0 refl);
      in_memory = search rules;
      below_top = search rules;
      after_others = after _ _ _ _ c.program_header-header.ensures c.requires.floor c.if-header-floor.false;
      constant = search rules;
      filled = search rules;
    }
