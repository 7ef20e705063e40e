-- Runs of the automaton read instructions.
use Rattle.std.proofs.Common.{◌≡◌, ℕ, suc, ◌+◌, ◌-◌, ◌<◌, ◌≤◌, Bool, true, false, List, [], ◌∷◌, ◌++◌, Option, Some, None, Ok, length, drop}
use Rattle.std.proofs.Common.{refl, sym, subst, ◌∙◌, ap, arith, inl, inr, ◌⊎◌, ◌==◌, ◌&&◌, nat_lt, ltb-true, All, eqb-true, not}
use Rattle.std.specs.Prelude.{IfSome, IsTrue, slice_index}
use Rattle.std.specs.Int.{w8, w32, cast_signed, from_le_bytes}
use Rattle.std.proofs.lemmas.List.{take_all}
use Rattle.nc_decode.specs.declared.automaton.TheConstants.{STATES, END, AFTER_SHORT, AFTER_NEAR, AFTER_PAIR}
use Rattle.nc_decode.specs.declared.instruction.Instr.{Instr}
use Rattle.nc_decode.specs.Automaton.{next_state, masked_at, LeadsToEnd, Ends, ReadsByStates, NoneIsPaired}
use Rattle.nc_decode.specs.machinery.Reading.{reading}
use Rattle.nc_decode.specs.Spelling.{Spells, masks_of}
use Rattle.nc_decode.specs.Transfers.{is_direct, is_indirect}
use Rattle.nc_base.proofs.Offered.{each_below}
use Rattle.nc_base.proofs.Offered.{each_below-at, both, not_is}
use Rattle.nc_decode.proofs.reading.SpelledIsRead.{bytes_from_all}
use Rattle.nc_decode.proofs.reading.Readings.{reading_spells}
use Rattle.nc_decode.proofs.fronts.Masks.{mask_masks}
use Rattle.nc_decode.proofs.stages.Stages.{Ended, plain, masked, by_short, by_near, paired, Stage, ended, stage_of, masked_by, after, begun}
use Rattle.nc_decode.proofs.stages.Stages.{next_stage, next_small}
use Rattle.nc_decode.proofs.stages.StageMeanings.{Meant, Finished, more}
use Rattle.nc_decode.proofs.stages.StageSteps.{IsInside, step, begun_meant}

-- ---- the numbers of the stages

-- the stage is no end
abbrev inside : Stage → Bool
inside (ended k) = false
inside _ = true

-- the register that is there, if any is
abbrev names : Option ℕ → ℕ → Bool
names (Some t) r = t == r
names None r = false

-- the stage is an end, and the number tells which
abbrev tells : Stage → ℕ → Bool
tells (ended plain) e = e == END
tells (ended (masked r)) e = nat_lt r 8 && names (masked_at e) r && not (e == AFTER_PAIR)
tells (ended by_short) e = e == AFTER_SHORT
tells (ended by_near) e = e == AFTER_NEAR
tells (ended paired) e = e == AFTER_PAIR
tells _ e = false

-- each state below END is inside an instruction
numbered_inside : each_below (λ s. inside (stage_of s)) END ≡ true
numbered_inside = refl

-- each state from END on is an end, and its number tells which
numbered_ends : each_below (λ j. tells (stage_of (END + j)) (END + j)) 11 ≡ true
numbered_ends = refl

-- what the test of a stage inside an instruction says
is_inside : (x : Stage) → inside x ≡ true → IsInside x
is_inside (ended k) e = absurd cc
is_inside _ e = tt

-- a state below END is inside an instruction
inside_at : (s : ℕ) → s < END → IsInside (stage_of s)
inside_at s lt = is_inside (stage_of s) (each_below-at (λ t. inside (stage_of t)) END s numbered_inside lt)

-- a state from END on tells what has been read
tells_at : (e : ℕ) → END ≤ e → e < STATES → tells (stage_of e) e ≡ true
tells_at e low high = let is : END + (e - END) ≡ e = omega (arith, low) in subst (λ (k : ℕ). tells (stage_of k) k ≡ true) is
    (each_below-at (λ j. tells (stage_of (END + j)) (END + j)) 11 (e - END) numbered_ends (omega (arith, low, high)))

-- an end, and what its number tells
record EndsAt (e : ℕ) : Type 0 where
  kind : Ended
  is : stage_of e ≡ ended kind
  told : tells (ended kind) e ≡ true

-- what an ending stage tells of its state
end_from : (e : ℕ) (x : Stage) → stage_of e ≡ x → tells x e ≡ true → EndsAt e
end_from e (ended k) is t = record { kind = k; is = is; told = t }
end_from e _ is t = absurd cc

-- a state from END on is an end, and its number tells which
end_at : (e : ℕ) → END ≤ e → e < STATES → EndsAt e
end_at e low high = end_from e (stage_of e) refl (tells_at e low high)

-- a register that the test finds is the one that is there
named : (o : Option ℕ) (r : ℕ) → names o r ≡ true → o ≡ Some r
named (Some t) r e = ap some_reg (eqb-true t r e)
  where
    some_reg : ℕ → Option ℕ
    some_reg k = Some k
named None r e = absurd cc

-- the register that the number tells
masked_same : (e : ℕ) (k : Ended) → tells (ended k) e ≡ true → (masked_by k ≡ masked_at e) × IfSome (masked_by k) (λ r. r < 8)
masked_same e plain t = let is : e ≡ END = eqb-true e END t in (rw is refl, tt)
masked_same e (masked r) t =
    let a = both (nat_lt r 8 && names (masked_at e) r) (not (e == AFTER_PAIR)) t in
    let b = both (nat_lt r 8) (names (masked_at e) r) a.0 in
    (sym (named (masked_at e) r b.1), ltb-true r 8 b.0)
masked_same e by_short t = let is : e ≡ AFTER_SHORT = eqb-true e AFTER_SHORT t in (rw is refl, tt)
masked_same e by_near t = let is : e ≡ AFTER_NEAR = eqb-true e AFTER_NEAR t in (rw is refl, tt)
masked_same e paired t = let is : e ≡ AFTER_PAIR = eqb-true e AFTER_PAIR t in (rw is refl, tt)

-- ---- what has been read

-- bytes that are read whole are one whole instruction
spelled_whole : (bytes : List ℕ) (i : Instr) → All (λ b. b < 256) bytes → reading bytes ≡ Ok i → i.len ≡ length bytes → Spells bytes i
spelled_whole bytes i fits read len = subst (λ (z : List ℕ). Spells z i) (take_all i.len bytes (omega (arith, len)))
    (reading_spells bytes i (bytes_from_all bytes fits) read).1

-- no truth value is both false and true
never : (b : Bool) → b ≡ false → IsTrue b → ⊥
never true e t = absurd cc
never false e t = absurd cc

-- the register of a stage after a mask
abbrev some_mask : ℕ → Option ℕ
some_mask r = Some r

-- no register, of a stage after no mask
abbrev no_mask : Option ℕ
no_mask = None

-- an instruction that is no indirect transfer ends in a state that tells neither a mask nor a pair
unmasked_ends : (m e to : ℕ) (bytes : List ℕ) (i : Instr) → e ≡ to → (to == AFTER_PAIR) ≡ false → masked_at to ≡ None → Spells bytes i
    → is_indirect i.flow ≡ false
    → (IsTrue (is_direct i.flow) → ((to ≡ AFTER_SHORT) × (i.rel ≡ cast_signed w8 (slice_index bytes (length bytes - 1))))
    ⊎ ((to ≡ AFTER_NEAR) × (4 ≤ length bytes) × (i.rel ≡ cast_signed w32 (from_le_bytes w32 (drop (length bytes - 4) bytes)))))
    → Ends m e bytes i
unmasked_ends m e to bytes i is other none spells indirect direct = subst (λ (x : ℕ). Ends m x bytes i) (sym is) (record {
  spells = spells;
  indirect = indirect ∙ sym other;
  direct = direct;
  masks = λ r h. absurd (let g : no_mask ≡ some_mask r = sym none ∙ h in cc);
  paired = λ p. absurd (let g : (AFTER_PAIR == AFTER_PAIR) ≡ false = ap (λ (x : ℕ). x == AFTER_PAIR) (sym p) ∙ other in cc);
})

-- what a finished instruction says is what its state tells
finished_ends : (m e : ℕ) (bytes : List ℕ) (k : Ended) → All (λ b. b < 256) bytes → tells (ended k) e ≡ true
    → Finished (masked_at m) k bytes → (i : Instr) × Ends m e bytes i
finished_ends m e bytes plain fits t f = (
  f.instr,
  unmasked_ends m e END bytes f.instr (eqb-true e END t) refl refl (spelled_whole bytes f.instr fits f.read f.len) f.kind.1
      (λ d. absurd (never (is_direct f.instr.flow) f.kind.0 d)),
)
finished_ends m e bytes (masked r) fits t f =
    let a = both (nat_lt r 8 && names (masked_at e) r) (not (e == AFTER_PAIR)) t in
    let b = both (nat_lt r 8) (names (masked_at e) r) a.0 in
    let is : masked_at e ≡ Some r = named (masked_at e) r b.1 in
    let other : (e == AFTER_PAIR) ≡ false = not_is (e == AFTER_PAIR) a.1 in
    let s = spelled_whole bytes f.instr fits f.read f.len in (
      f.instr,
      record {
        spells = s;
        indirect = f.kind.1 ∙ sym other;
        direct = λ d. absurd (never (is_direct f.instr.flow) f.kind.0 d);
        masks = λ q h. (
            let same : r ≡ q = one r q (sym is ∙ h) in
            ap (λ (i : Instr). i.masks) s.says ∙ ap masks_of (sym s.whole ∙ f.kind.2) ∙ mask_masks r f.kind.3 f.kind.4
            ∙ ap some_mask same);
        paired = λ p. absurd (let g : (AFTER_PAIR == AFTER_PAIR) ≡ false = ap (λ (x : ℕ). x == AFTER_PAIR) (sym p) ∙ other in cc);
      },
    )
  where
    one : (x y : ℕ) → some_mask x ≡ some_mask y → x ≡ y
    one x y h = cc
finished_ends m e bytes by_short fits t f = (
  f.instr,
  unmasked_ends m e AFTER_SHORT bytes f.instr (eqb-true e AFTER_SHORT t) refl refl (spelled_whole bytes f.instr fits f.read f.len)
      f.kind.0 (λ d. inl (refl, f.kind.1)),
)
finished_ends m e bytes by_near fits t f = (
  f.instr,
  unmasked_ends m e AFTER_NEAR bytes f.instr (eqb-true e AFTER_NEAR t) refl refl (spelled_whole bytes f.instr fits f.read f.len)
      f.kind.0 (λ d. inr (refl, f.kind.1, f.kind.2)),
)
finished_ends m e bytes paired fits t f =
    let is : e ≡ AFTER_PAIR = eqb-true e AFTER_PAIR t in (
      f.instr,
      record {
        spells = spelled_whole bytes f.instr fits f.read f.len;
        indirect = rw is f.kind.1;
        direct = λ d. absurd (never (is_direct f.instr.flow) f.kind.0 d);
        masks = λ r h. absurd (let g : masked_at AFTER_PAIR ≡ some_mask r = ap masked_at (sym is) ∙ h in cc);
        paired = λ p. (f.kind.2, f.kind.3, f.kind.4);
      },
    )

-- ---- the run

-- the bytes after the first of some bytes are bytes
behind_first : (b : ℕ) (bs : List ℕ) → All (λ x. x < 256) (b ∷ bs) → All (λ x. x < 256) bs
behind_first b bs fits k d lt = fits (suc k) d (omega (arith, lt))

-- the first of some bytes is a byte
first_fits : (b : ℕ) (bs : List ℕ) → All (λ x. x < 256) (b ∷ bs) → b < 256
first_fits b bs fits = fits 0 0 (omega arith)

-- the stage after the first byte
begins_at : (m b : ℕ) → END ≤ m → m < STATES → b < 256 → stage_of (next_state m b) ≡ begun (masked_at m) b
begins_at m b low high lt =
    let k = end_at m low high in
    next_stage m b high lt ∙ ap (λ (x : Stage). after x b) k.is ∙ ap (λ (o : Option ℕ). begun o b) (masked_same m k.kind k.told).0

-- the first byte after an instruction means what its stage says
begun_from : (m b : ℕ) → END ≤ m → m < STATES → b < 256 → Meant (masked_at m) (begun (masked_at m) b) (b ∷ [])
begun_from m b low high lt =
    let k = end_at m low high in
    let s = masked_same m k.kind k.told in
    begun_meant (masked_at m) b lt (subst (λ (o : Option ℕ). IfSome o (λ r. r < 8)) s.0 s.1)

-- from a stage to an end
led : (o : Option ℕ) (s e : ℕ) (pre bs : List ℕ) → s < END → All (λ b. b < 256) bs → Meant o (stage_of s) pre → LeadsToEnd s bs e
    → Meant o (stage_of e) (pre ++ bs) × (END ≤ e) × (e < STATES)
led o s e pre [] lt fits m l = absurd l
led o s e pre (b ∷ []) lt fits m l =
    let next = step o (stage_of s) b pre (first_fits b [] fits) (inside_at s lt) m in (
      subst (λ (x : Stage). Meant o x (pre ++ b ∷ [])) (sym (next_stage s b (omega (arith, lt)) (first_fits b [] fits))
          ∙ ap stage_of (sym l.0)) next,
      l.1,
      omega (arith, l.0, next_small s b),
    )
led o s e pre (b ∷ c ∷ bs) lt fits m l =
    let next = step o (stage_of s) b pre (first_fits b (c ∷ bs) fits) (inside_at s lt) m in
    let meant = subst (λ (x : Stage). Meant o x (pre ++ b ∷ []))
    (sym (next_stage s b (omega (arith, lt)) (first_fits b (c ∷ bs) fits))) next in
    let rest = led o (next_state s b) e (pre ++ b ∷ []) (c ∷ bs) l.0 (behind_first b (c ∷ bs) fits) meant l.1 in
    (subst (λ (z : List ℕ). Meant o (stage_of e) z) (more pre (c ∷ bs) b) rest.0, rest.1, rest.2)

-- from an end to the next
led_from_end : (m e : ℕ) (bs : List ℕ) → END ≤ m → m < STATES → All (λ b. b < 256) bs → LeadsToEnd m bs e → Meant (masked_at m) (stage_of e) bs
    × (END ≤ e) × (e < STATES)
led_from_end m e [] low high fits l = absurd l
led_from_end m e (b ∷ []) low high fits l = (
  subst (λ (x : Stage). Meant (masked_at m) x (b ∷ [])) (sym (begins_at m b low high (first_fits b [] fits)) ∙ ap stage_of (sym l.0))
      (begun_from m b low high (first_fits b [] fits)),
  l.1,
  omega (arith, l.0, next_small m b),
)
led_from_end m e (b ∷ c ∷ bs) low high fits l =
    led (masked_at m) (next_state m b) e (b ∷ []) (c ∷ bs) l.0 (behind_first b (c ∷ bs) fits)
    (subst (λ (x : Stage). Meant (masked_at m) x (b ∷ [])) (sym (begins_at m b low high (first_fits b (c ∷ bs) fits)))
    (begun_from m b low high (first_fits b (c ∷ bs) fits))) l.1

-- the law: bytes between two endings are an instruction
pub reads_by_states : ReadsByStates
reads_by_states m e bytes low high fits l =
    let w = led_from_end m e bytes low high fits l in
    let k = end_at e w.1 w.2 in
    finished_ends m e bytes k.kind fits k.told (subst (λ (x : Stage). Meant (masked_at m) x bytes) k.is w.0)

-- an instruction of one byte is no indirect transfer
one_byte : each_below (λ k. each_below (λ b. not (next_state (END + k) b == AFTER_PAIR)) 256) 11 ≡ true
unfolding next_state
one_byte = refl

-- the law: one byte is never an indirect transfer
pub none_is_paired : NoneIsPaired
none_is_paired m b low high lt e =
    let row : each_below (λ x. not (next_state (END + (m - END)) x == AFTER_PAIR)) 256 ≡ true = each_below-at
    (λ k. each_below (λ x. not (next_state (END + k) x == AFTER_PAIR)) 256) 11 (m - END) one_byte (omega (arith, low, high)) in
    let is : END + (m - END) ≡ m = omega (arith, low) in
    let other : (next_state m b == AFTER_PAIR) ≡ false = not_is _ (subst (λ (k : ℕ). not (next_state k b == AFTER_PAIR) ≡ true) is
    (each_below-at (λ x. not (next_state (END + (m - END)) x == AFTER_PAIR)) 256 b row lt)) in
    (let g : (AFTER_PAIR == AFTER_PAIR) ≡ false = ap (λ (x : ℕ). x == AFTER_PAIR) (sym e) ∙ other in cc)
