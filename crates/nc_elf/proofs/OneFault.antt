-- A file has one fault, or is well-formed.
use Rattle.std.proofs.Common.{◌≡◌, ◌≢◌, ℕ, inl, inr, List, refl, ap, ◌∙◌, subst}
use Rattle.std.proofs.lemmas.Bool.{cases_order}
use Rattle.nc_elf.specs.declared.fault.ElfFault.{ElfFault}
use Rattle.nc_elf.specs.declared.fault.ElfFault.TheVariants.{NotElf, ShortHeader, Elf64, OtherFormat, OtherMachine, Unlinked}
use Rattle.nc_elf.specs.declared.fault.ElfFault.TheVariants.{OtherType, BadTable, BadSegment, NoCode, OutOfMemory}
use Rattle.nc_elf.specs.declared.fault.SegmentFault.{SegmentFault}
use Rattle.nc_elf.specs.declared.fault.SegmentFault.TheVariants.{BeyondFile, BeyondMemory, Wraps, OutOfOrder, WritableCode, UnfilledCode}
use Rattle.nc_elf.specs.Header.{HasTable}
use Rattle.nc_elf.specs.Segments.{IsGoodSegment, IsWellFormed}
use Rattle.nc_elf.specs.Faults.{HasSegmentFault, IsFirstBad, HasHeaderFault, HasElfFault}

-- a segment with a fault isn't good
not_good : (file : List ℕ) (i : ℕ) (f : SegmentFault) → HasSegmentFault file i f → IsGoodSegment file i → ⊥
not_good file i BeyondFile h g = h g.in_file
not_good file i BeyondMemory h g = h.1 g.in_memory
not_good file i Wraps h g = h.2 g.below_top
not_good file i OutOfOrder h g = h.3 g.after_others
not_good file i WritableCode h g = h.4 g.constant
not_good file i UnfilledCode h g = h.5 g.filled

-- a segment has one fault
same_why : (file : List ℕ) (i : ℕ) (f g : SegmentFault) → HasSegmentFault file i f → HasSegmentFault file i g → f ≡ g
same_why file i BeyondFile BeyondFile h k = refl
same_why file i BeyondFile g h k = absurd (h k.0)
same_why file i f BeyondFile h k = absurd (k h.0)
same_why file i BeyondMemory BeyondMemory h k = refl
same_why file i BeyondMemory g h k = absurd (h.1 k.1)
same_why file i f BeyondMemory h k = absurd (k.1 h.1)
same_why file i Wraps Wraps h k = refl
same_why file i Wraps g h k = absurd (h.2 k.2)
same_why file i f Wraps h k = absurd (k.2 h.2)
same_why file i OutOfOrder OutOfOrder h k = refl
same_why file i OutOfOrder g h k = absurd (h.3 k.3)
same_why file i f OutOfOrder h k = absurd (k.3 h.3)
same_why file i WritableCode WritableCode h k = refl
same_why file i WritableCode g h k = absurd (h.4 k.4)
same_why file i f WritableCode h k = absurd (k.4 h.4)
same_why file i UnfilledCode UnfilledCode h k = refl

-- the first loaded segment with a fault is one, and it has one fault
same_bad : (file : List ℕ) (i j : ℕ) (f g : SegmentFault) → IsFirstBad file i f → IsFirstBad file j g → BadSegment i f ≡ BadSegment j g
same_bad file i j f g h k =
    elim (cases_order i j) [
      | inl e ↦
          ap (λ (n : ℕ). BadSegment n f) e
          ∙ ap (λ (s : SegmentFault). BadSegment j s) (same_why file j f g (subst (λ (n : ℕ). HasSegmentFault file n f) e h.why) k.why)
      | inr (inl l) ↦ absurd (not_good file i f h.why (k.before.each i l h.loaded))
      | inr (inr l) ↦ absurd (not_good file j g k.why (h.before.each j l k.loaded))
    ]

-- a header has one fault
same_header : (file : List ℕ) (f g : ElfFault) → HasHeaderFault file f → HasHeaderFault file g → f ≡ g
same_header file f (BadSegment i g) h k = absurd k
same_header file f NoCode h k = absurd k
same_header file f OutOfMemory h k = absurd k
same_header file (BadSegment i f) g h k = absurd h
same_header file NoCode g h k = absurd h
same_header file OutOfMemory g h k = absurd h
same_header file NotElf NotElf h k = refl
same_header file NotElf g h k = absurd (h k.0)
same_header file f NotElf h k = absurd (k h.0)
same_header file ShortHeader ShortHeader h k = refl
same_header file ShortHeader g h k = absurd (h.1 k.1)
same_header file f ShortHeader h k = absurd (k.1 h.1)
same_header file Elf64 Elf64 h k = refl
same_header file Elf64 OtherFormat h k = absurd (k.2 h.2)
same_header file OtherFormat Elf64 h k = absurd (h.2 k.2)
same_header file Elf64 g h k = cc (h.2, k.2.size)
same_header file f Elf64 h k = cc (k.2, h.2.size)
same_header file OtherFormat OtherFormat h k = refl
same_header file OtherFormat g h k = absurd (h.3 k.2)
same_header file f OtherFormat h k = absurd (k.3 h.2)
same_header file OtherMachine OtherMachine h k = refl
same_header file OtherMachine g h k = absurd (h.3 k.3)
same_header file f OtherMachine h k = absurd (k.3 h.3)
same_header file Unlinked Unlinked h k = refl
same_header file Unlinked g h k = absurd (k.4 h.4)
same_header file f Unlinked h k = absurd (h.4 k.4)
same_header file OtherType OtherType h k = refl
same_header file OtherType g h k = absurd (h.5 k.5)
same_header file f OtherType h k = absurd (k.5 h.5)
same_header file BadTable BadTable h k = refl

-- a header with a fault has no table
no_table : (file : List ℕ) (f : ElfFault) → HasHeaderFault file f → HasTable file → ⊥
no_table file NotElf h t = h t.linked.x86.elf32.whole.elf
no_table file ShortHeader h t = h.1 t.linked.x86.elf32.whole
no_table file Elf64 h t = cc (h.2, t.linked.x86.elf32.size)
no_table file OtherFormat h t = h.3 t.linked.x86.elf32
no_table file OtherMachine h t = h.3 t.linked.x86
no_table file Unlinked h t = elim t.linked.linked [ inl e ↦ cc (h.4, e) | inr e ↦ cc (h.4, e) ]
no_table file OtherType h t = h.5 t.linked
no_table file BadTable h t = h.6 t
no_table file (BadSegment i f) h t = h
no_table file NoCode h t = h
no_table file OutOfMemory h t = h

-- a well-formed file has no fault
pub none_well_formed : (file : List ℕ) (f : ElfFault) → IsWellFormed file → HasElfFault file f → f ≢ OutOfMemory → ⊥
none_well_formed file (BadSegment i f) w h n = not_good file i f h.why (w.good.each i h.listed h.loaded)
none_well_formed file NoCode w h n = h.2 w.code
none_well_formed file OutOfMemory w h n = n refl
none_well_formed file f w h n = no_table file f h w.table

-- a file has one fault
one_fault : (file : List ℕ) (f g : ElfFault) → HasElfFault file f → HasElfFault file g → f ≢ OutOfMemory → g ≢ OutOfMemory → f ≡ g
one_fault file OutOfMemory g h k n m = absurd (n refl)
one_fault file f OutOfMemory h k n m = absurd (m refl)
one_fault file (BadSegment i f) (BadSegment j g) h k n m = same_bad file i j f g h k
one_fault file (BadSegment i f) NoCode h k n m = absurd (not_good file i f h.why (k.1.each i h.listed h.loaded))
one_fault file NoCode (BadSegment j g) h k n m = absurd (not_good file j g k.why (h.1.each j k.listed k.loaded))
one_fault file NoCode NoCode h k n m = refl
one_fault file (BadSegment i f) g h k n m = absurd (no_table file g k h.table)
one_fault file f (BadSegment j g) h k n m = absurd (no_table file f h k.table)
one_fault file NoCode g h k n m = absurd (no_table file g k h.0)
one_fault file f NoCode h k n m = absurd (no_table file f h k.0)
one_fault file f g h k n m = same_header file f g h k

-- the fault that was found is the one that is due
pub found_is_due : (file : List ℕ) (f g : ElfFault) → HasElfFault file f → HasElfFault file g → g ≢ OutOfMemory → f ≡ g
found_is_due file OutOfMemory g h k m = absurd (none_well_formed file g h k m)
found_is_due file f g h k m = one_fault file f g h k (λ e. cc e) m
