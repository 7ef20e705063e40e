use Rattle.std.proofs.Common.{◌≡◌, ◌<◌, ◌≤◌, ℕ, ◌+◌, ◌-◌, ◌++◌, true, List, length, drop, ap, sym, subst, ◌∙◌, arith}
use Rattle.std.proofs.lemmas.Grind.{common_steps}
use Rattle.std.proofs.lemmas.List.{length_push}
use Rattle.nc_elf.specs.declared.loaded.NcSegment.{NcSegment}
use Rattle.nc_elf.specs.declared.program.ProgramHeader.{ProgramHeader}
use Rattle.nc_elf.specs.Header.{e_phnum}
use Rattle.nc_elf.specs.Segments.{program_header, is_present, loaded_of}
use Rattle.nc_elf.specs.machinery.Pass.{first_loaded}
use Rattle.nc_elf.proofs.Loadable.{more_loaded, more_absent, no_fewer, write_next}
use Rattle.nc_elf.proofs.loaded.write_loaded.Goals as goal
use Rattle.nc_elf.proofs.loaded.write_loaded.Goals.{then-is_present, else-is_present}

-- one segment more still fits where all do
one_fits : (file : List ℕ) (i count : ℕ) (h : ProgramHeader) → h ≡ program_header file i → is_present h ≡ true → i < e_phnum file
    → count ≡ length (first_loaded file i) → count < length (first_loaded file (e_phnum file))
one_fits file i count h read here lt counted =
    let asked : is_present (program_header file i) ≡ true = sym (ap (λ (h : ProgramHeader). is_present h) read) ∙ here in
    let more = ap (λ (xs : List NcSegment). length xs) (more_loaded file i asked) in
    let longer = length_push (first_loaded file i) (loaded_of (program_header file i)) in
    let last : i + 1 + (e_phnum file - (i + 1)) ≡ e_phnum file = omega arith in
    let all : length (first_loaded file (i + 1)) ≤ length (first_loaded file (e_phnum file)) =
    subst (λ (n : ℕ). length (first_loaded file (i + 1)) ≤ length (first_loaded file n)) last (no_fewer file (i + 1) (e_phnum file - (i + 1))) in
    omega (arith, more, longer, all, counted)

pub offset_bounds-room-count : goal.offset_bounds-room-count
offset_bounds-room-count c = grind (arith, common_steps)

pub bounds-room-count : goal.bounds-room-count
bounds-room-count c =
    let few = one_fits c.args.file.now c.loop-number.number c.loop-number.count c.program_header-header.result
    c.program_header-header.ensures (sym c.is_present.ensures ∙ c.if-is_present.true)
    (omega (arith, c.loop-number-test.true, c.header_count-number-end.ensures)) c.loop-number.invariant.counted in
    omega (arith, few, c.requires.fits, c.loop-number.auto.room)

pub overflow_add-count : goal.overflow_add-count
overflow_add-count c = grind (arith, common_steps)

pub loop-number-preserved : goal.loop-number-preserved
loop-number-preserved c =
    let file = c.args.file.now in
    let old = c.args.room.now in
    let i = c.loop-number.number in
    let read = c.program_header-header.ensures in
    let asked : is_present (program_header file i) ≡ c.is_present.result =
    sym (ap (λ (h : ProgramHeader). is_present h) read) ∙ sym c.is_present.ensures in
    let known = c.loop-number.invariant in
    elim c.if-is_present.branch [
      | then-is_present w ↦
          let here = asked ∙ w.if-is_present.true in
          let more = ap (λ (xs : List NcSegment). length xs) (more_loaded file i here) in
          let longer = length_push (first_loaded file i) (loaded_of (program_header file i)) in
          let few = one_fits file i c.loop-number.count c.program_header-header.result read (sym c.is_present.ensures ∙ w.if-is_present.true)
          (omega (arith, c.loop-number-test.true, c.header_count-number-end.ensures)) known.counted in
          record {
            counted = omega (arith, w.count-is, known.counted, more, longer);
            written = w.room-is
                ∙ write_next file old c.loop-number.room i c.loop-number.count w.loaded.result here
                (w.loaded.ensures ∙ ap (λ (h : ProgramHeader). loaded_of h) read) known.counted known.written
                (omega (arith, few, c.requires.fits, c.loop-number.auto.room));
          }
      | else-is_present w ↦
          let same = more_absent file i (asked ∙ w.if-is_present.false) in
          record {
            counted = omega (arith, w.count-is, known.counted, ap (λ (xs : List NcSegment). length xs) same);
            written = w.room-is ∙ (known.written ∙ ap (λ (xs : List NcSegment). xs ++ drop (length xs) old) (sym same));
          }
    ]

pub returns : goal.returns
returns c =
    let all : c.loop-number.number ≡ e_phnum c.args.file.now = omega arith in
    c.loop-number.invariant.written
    ∙ ap (λ (n : ℕ). first_loaded c.args.file.now n ++ drop (length (first_loaded c.args.file.now n)) c.args.room.now) all
