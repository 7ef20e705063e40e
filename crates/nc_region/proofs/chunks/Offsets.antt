-- A valid chunk is closed by itself.
use Rattle.std.proofs.Common.{◌≡◌, ℕ, ◌+◌, ◌-◌, ◌<◌, ◌≤◌, ◌⊎◌, List, [], ◌∷◌, length, get_or, drop, replicate, Option, Some, inl, inr}
use Rattle.std.proofs.Common.{arith, ◌∙◌, sym, ap, subst, ⊎_elim, zero, suc, add-zero}
use Rattle.std.proofs.lemmas.Bool.{cases_lt}
use Rattle.std.proofs.lemmas.List.{length-drop, length-append, length-replicate, get_or-replicate, get_or_append_left}
use Rattle.std.proofs.lemmas.List.{get_or-append_right, drop-drop}
use Rattle.nc_decode.specs.declared.instruction.Instr.{Instr}
use Rattle.nc_decode.specs.declared.instruction.Flow.{Flow}
use Rattle.nc_decode.specs.declared.instruction.Flow.TheVariants.{Next, Branch, Jump, Call, IndirectJump, IndirectCall, Stop}
use Rattle.nc_decode.specs.declared.instruction.Mark.{Mark}
use Rattle.nc_decode.specs.declared.instruction.Mark.TheVariants.{Unmarked}
use Rattle.nc_decode.specs.Front.{first_instruction}
use Rattle.nc_decode.proofs.Offered.{has_its_length}
use Rattle.nc_text.specs.Machine.{IsMaskedFor}
use Rattle.nc_decode.specs.Transfers.{target}
use Rattle.nc_decode.specs.Bundles.{IsInOneBundle}
use Rattle.nc_text.specs.Marks.{Admits}
use Rattle.nc_region.proofs.chunks.Instructions.{IsReading, NoneCrosses, FollowsMask, PairsHold, IsDirect, TargetsHold, mark_by, marks_of}

-- What stands at a marked offset of a chunk that begins at base: an instruction, which may be executed there, whose
-- targets are good, and behind which the chunk ends or stands a mark that fits.
pub record Stands (good : ℕ → Type 0) (base : ℕ) (bytes : List ℕ) (marks : List Mark) (k : ℕ) (masked : Option ℕ) : Type 0 where
  pub i : Instr
  pub is : first_instruction (drop k bytes) ≡ Some i
  pub short : k + i.len ≤ length bytes
  pub fits : IsInOneBundle (base + k) i.len
  pub may : IsMaskedFor i.flow i.reg masked
  pub behind : (k + i.len ≡ length bytes) ⊎ Admits (get_or marks (k + i.len) Unmarked) i.masks
  pub targets : IsDirect i.flow → good (target i (base + k))

-- a state that an instruction's mark admits has the mask that the instruction needs
may_from_mark : (flow : Flow) (register : ℕ) (masked : Option ℕ) → Admits (mark_by flow register) masked → IsMaskedFor flow register masked
may_from_mark Next register masked m = tt
may_from_mark Branch register masked m = tt
may_from_mark Jump register masked m = tt
may_from_mark Call register masked m = tt
may_from_mark IndirectJump register masked m = m
may_from_mark IndirectCall register masked m = m
may_from_mark Stop register masked m = tt

-- the mark of an instruction that follows the mask it needs admits what is masked
mark_from_pair : (flow : Flow) (register : ℕ) (before : Option ℕ) (at : ℕ) → FollowsMask flow register before at
    → Admits (mark_by flow register) before
mark_from_pair Next register before at m = tt
mark_from_pair Branch register before at m = tt
mark_from_pair Jump register before at m = tt
mark_from_pair Call register before at m = tt
mark_from_pair IndirectJump register before at m = m.0
mark_from_pair IndirectCall register before at m = m.0
mark_from_pair Stop register before at m = tt

-- the marks behind those of the first instruction
pub marks_behind : (i : Instr) (rest : List Instr) (k : ℕ) → 1 ≤ i.len → i.len ≤ k
    → get_or (marks_of (i ∷ rest)) k Unmarked ≡ get_or (marks_of rest) (k - i.len) Unmarked
marks_behind i rest zero some far = absurd (omega (arith, some, far))
marks_behind i rest (suc k) some far =
    let e : k - (i.len - 1) ≡ suc k - i.len = omega (arith, some, far) in
    get_or-append_right (replicate (i.len - 1) Unmarked) (marks_of rest) (i.len - 1) k Unmarked (length-replicate (i.len - 1) Unmarked)
    (omega (arith, far)) ∙ ap (λ (n : ℕ). get_or (marks_of rest) n Unmarked) e

-- inside an instruction nothing is marked
pub marks_inside : (i : Instr) (rest : List Instr) (k : ℕ) → 1 ≤ k → k < i.len → get_or (marks_of (i ∷ rest)) k Unmarked ≡ Unmarked
marks_inside i rest zero some short = absurd (omega (arith, some))
marks_inside i rest (suc k) some short =
    get_or_append_left (replicate (i.len - 1) Unmarked) (marks_of rest) Unmarked k
    (omega (arith, short, length-replicate (i.len - 1) Unmarked))
    ∙ get_or-replicate (i.len - 1) k Unmarked Unmarked (omega (arith, short))

-- a chunk has as many marks as bytes
pub marks_long : (chunk : List Instr) (bytes : List ℕ) → IsReading bytes chunk → length (marks_of chunk) ≡ length bytes
marks_long [] bytes reading = sym (ap length reading)
marks_long (i ∷ rest) bytes reading =
    let own = has_its_length bytes i reading.0 in
    omega (
      arith,
      own.0,
      own.1,
      marks_long rest (drop i.len bytes) reading.1,
      length-drop i.len bytes,
      length-append (replicate (i.len - 1) Unmarked) (marks_of rest),
      length-replicate (i.len - 1) Unmarked,
    )

-- the first instruction of a reading
first_stands : (good : ℕ → Type 0) (base : ℕ) (before : Option ℕ) (i : Instr) (rest : List Instr) (bytes : List ℕ)
    → IsReading bytes (i ∷ rest) → NoneCrosses base (i ∷ rest) → PairsHold before base (i ∷ rest) → TargetsHold good base (i ∷ rest)
    → (masked : Option ℕ) → Admits (mark_by i.flow i.reg) masked → Stands good base bytes (marks_of (i ∷ rest)) 0 masked
first_stands good base before i [] bytes reading crossing pairs targets masked m =
    let own = has_its_length bytes i reading.0 in
    let none : length (drop i.len bytes) ≡ 0 = ap length reading.1 in
    record {
      i = i;
      is = reading.0;
      short = omega (arith, own.1);
      fits = omega (arith, crossing.0);
      may = may_from_mark i.flow i.reg masked m;
      behind = inl (omega (arith, own.1, none, length-drop i.len bytes));
      targets = λ direct. subst (λ (n : ℕ). good (target i n)) (sym (add-zero base)) (targets.0 direct);
    }
first_stands good base before i (j ∷ rest) bytes reading crossing pairs targets masked m =
    let own = has_its_length bytes i reading.0 in
    let e : 0 + i.len ≡ i.len = omega arith in
    let d : i.len - i.len ≡ 0 = omega arith in
    let at_next : get_or (marks_of (i ∷ j ∷ rest)) (0 + i.len) Unmarked ≡ mark_by j.flow j.reg =
    ap (λ (n : ℕ). get_or (marks_of (i ∷ j ∷ rest)) n Unmarked) e
    ∙ (marks_behind i (j ∷ rest) i.len own.0 (omega arith) ∙ ap (λ (n : ℕ). get_or (marks_of (j ∷ rest)) n Unmarked) d) in
    record {
      i = i;
      is = reading.0;
      short = omega (arith, own.1);
      fits = omega (arith, crossing.0);
      may = may_from_mark i.flow i.reg masked m;
      behind = inr (subst (λ (mark : Mark). Admits mark i.masks) (sym at_next)
          (mark_from_pair j.flow j.reg i.masks (base + i.len) pairs.1.0));
      targets = λ direct. subst (λ (n : ℕ). good (target i n)) (sym (add-zero base)) (targets.0 direct);
    }

-- what stands further on in a chunk, from what stands behind its first instruction
further : (good : ℕ → Type 0) (base : ℕ) (i : Instr) (rest : List Instr) (bytes : List ℕ) (k : ℕ) (masked : Option ℕ) → 1 ≤ i.len
    → i.len ≤ length bytes → i.len ≤ k → Stands good (base + i.len) (drop i.len bytes) (marks_of rest) (k - i.len) masked
    → Stands good base bytes (marks_of (i ∷ rest)) k masked
further good base i rest bytes k masked some whole far s =
    let back : i.len + (k - i.len) ≡ k = omega (arith, far) in
    let place : base + i.len + (k - i.len) ≡ base + k = omega (arith, far) in
    let long : length (drop i.len bytes) ≡ length bytes - i.len = length-drop i.len bytes in
    let e : k + s.i.len - i.len ≡ k - i.len + s.i.len = omega (arith, far) in
    record {
      i = s.i;
      is = subst (λ (n : ℕ). first_instruction (drop n bytes) ≡ Some s.i) back
          (sym (ap first_instruction (drop-drop (k - i.len) i.len bytes)) ∙ s.is);
      short = omega (arith, s.short, long, far, whole);
      fits = subst (λ (n : ℕ). IsInOneBundle n s.i.len) place s.fits;
      may = s.may;
      behind = elim s.behind [
        | inl end ↦ inl (omega (arith, end, long, far, whole))
        | inr m ↦ inr (subst (λ (mark : Mark). Admits mark s.i.masks)
            (sym (marks_behind i rest (k + s.i.len) some (omega (arith, far)) ∙ ap (λ (n : ℕ). get_or (marks_of rest) n Unmarked) e)) m)
      ];
      targets = λ direct. subst (λ (n : ℕ). good (target s.i n)) place (s.targets direct);
    }

-- what stands at a marked offset
pub stands_at : (good : ℕ → Type 0) (chunk : List Instr) (base : ℕ) (before : Option ℕ) (bytes : List ℕ) → IsReading bytes chunk
    → NoneCrosses base chunk → PairsHold before base chunk → TargetsHold good base chunk → (k : ℕ) (masked : Option ℕ)
    → Admits (get_or (marks_of chunk) k Unmarked) masked → Stands good base bytes (marks_of chunk) k masked
stands_at good [] base before bytes reading crossing pairs targets k masked m = absurd m
stands_at good (i ∷ rest) base before bytes reading crossing pairs targets zero masked m =
    first_stands good base before i rest bytes reading crossing pairs targets masked m
stands_at good (i ∷ rest) base before bytes reading crossing pairs targets (suc k) masked m =
    let own = has_its_length bytes i reading.0 in
    ⊎_elim
    (λ (short : suc k < i.len). absurd (subst (λ (mark : Mark). Admits mark masked) (marks_inside i rest (suc k) (omega arith) short) m))
    (λ (far : i.len ≤ suc k).
    further good base i rest bytes (suc k) masked own.0 own.1 far
    (stands_at good rest (base + i.len) i.masks (drop i.len bytes) reading.1 crossing.1 pairs.1 targets.1 (suc k - i.len) masked
    (subst (λ (mark : Mark). Admits mark masked) (marks_behind i rest (suc k) own.0 far) m)))
    (cases_lt (suc k) i.len)
