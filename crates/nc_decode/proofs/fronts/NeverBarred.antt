-- No spelling is barred.
use Rattle.std.proofs.Common.{◌≡◌, ℕ, ◌+◌, Bool, true, false, List, [], ◌∷◌, ◌++◌, Some, Result, Ok, Err, ◌==◌, ◌&&◌, ◌||◌, refl, sym}
use Rattle.std.proofs.Common.{subst, ◌∙◌, ap, inl, inr, eqb-true, append-nil, not}
use Rattle.std.specs.List.{list_any, list_all}
use Rattle.nc_decode.specs.declared.instruction.DecodeFault.{DecodeFault}
use Rattle.nc_decode.specs.declared.instruction.DecodeFault.TheVariants.{NotPermitted}
use Rattle.nc_decode.specs.declared.instruction.Instr.{Instr}
use Rattle.nc_decode.specs.declared.entry.Entry.{Entry}
use Rattle.nc_decode.specs.declared.entry.Shape.{Shape}
use Rattle.nc_decode.specs.declared.entry.Prefix.{Prefix}
use Rattle.nc_decode.specs.declared.entry.Prefix.TheVariants.{Absent as Unprefixed, Word, Repeat, RepeatNot, Lock}
use Rattle.nc_decode.specs.machinery.Entries.{opcode_entry}
use Rattle.nc_decode.specs.Rows.{mod_of, reg_of}
use Rattle.nc_decode.specs.machinery.Shapes.{forms_of, permits, entry_shape, shape_of, escapes, opcode_shape, escaped_shape}
use Rattle.nc_decode.specs.machinery.Shapes.{prefixed_shape, prefix_of}
use Rattle.nc_decode.specs.Spelling.{spelled, Spells}
use Rattle.nc_decode.specs.Barred.{overrides, leading, barred_opcodes, barred_escaped, among, first_passes, opens_barred, IsBarred}
use Rattle.nc_decode.proofs.opcodes.EntriesMatchRows.{prefix_byte, permits_at, coded_plain, each_prefix}
use Rattle.nc_base.proofs.Offered.{each, implies}
use Rattle.nc_base.proofs.Offered.{true_or_false, both, not_is, implied, chosen_true, chosen_false, cond_true, cond_false, either}
use Rattle.nc_decode.proofs.opcodes.PermittedIsListed.{permits_is, each_prefix-at}
use Rattle.nc_decode.proofs.reading.EntryReads.{entry_read}
use Rattle.nc_decode.proofs.reading.PrefixAndOpcode.{plain_is, prefix_is, prefixed_reads, plain_reads, far_plain}
use Rattle.nc_decode.proofs.reading.SpelledIsRead.{parts_read}

-- an opcode that no prefix permits
abbrev dead : Bool → ℕ → Bool
dead escaped o = each_prefix (λ p. forms_of p (opcode_entry escaped o) == 0)

-- an opcode of one byte that no prefix permits, and that isn't the escape 0F
abbrev dead_unprefixed : ℕ → Bool
dead_unprefixed o = dead false o && not (o == 0x0F)

-- the leading bytes are no opcodes
leading_dead : each dead_unprefixed leading ≡ true
unfolding opcode_entry forms_of
leading_dead = refl

-- the barred opcodes of one byte are permitted by no prefix, and are no prefixes
barred_dead : each (λ o. dead_unprefixed o && coded_plain (prefix_of o)) barred_opcodes ≡ true
unfolding opcode_entry forms_of prefix_of
barred_dead = refl

-- the barred opcodes of two bytes are permitted by no prefix
escaped_dead : each (dead true) barred_escaped ≡ true
unfolding opcode_entry forms_of
escaped_dead = refl

-- a test of each element holds of a number among them
each-among : (t : ℕ → Bool) (xs : List ℕ) (x : ℕ) → each t xs ≡ true → among xs x ≡ true → t x ≡ true
each-among t [] x e h = absurd cc
each-among t (y ∷ ys) x e h =
    elim (true_or_false (t y)) [
      | inl pass ↦ elim (either (x == y) (among ys x) h) [
        | inl same ↦ subst (λ (k : ℕ). t k ≡ true) (sym (eqb-true _ _ same)) pass
        | inr later ↦ each-among t ys x (chosen_true (t y) (each t ys) false true pass e) later
      ]
      | inr fail ↦ absurd (let f : false ≡ true = chosen_false (t y) (each t ys) false true fail e in cc)
    ]

-- the refusal of a shape
abbrev refused : Result Shape DecodeFault
refused = Err NotPermitted

-- the answer is no shape
abbrev Refuses : Result Shape DecodeFault → Type 0
Refuses x = (s : Shape) → x ≡ Ok s → ⊥

-- an entry with no form reads nothing
entry_dead : (p : Prefix) (n : ℕ) (e : Entry) (rest : List ℕ) → (forms_of p e == 0) ≡ true → Refuses (entry_shape p n e rest)
unfolding entry_shape
entry_dead p n e rest no_form s h = let f : refused ≡ Ok s = cond_true (forms_of p e == 0) refused _ (Ok s) no_form h in cc

-- a dead opcode of one byte reads nothing
opcode_dead : (p : Prefix) (n o : ℕ) (rest : List ℕ) → dead_unprefixed o ≡ true → Refuses (opcode_shape p n (o ∷ rest))
unfolding opcode_shape
opcode_dead p n o rest d s h =
    let b = both (dead false o) (not (o == 0x0F)) d in
    entry_dead p (n + 1) (opcode_entry false o) rest (each_prefix-at (λ q. forms_of q (opcode_entry false o) == 0) p b.0) s
    (cond_false (o == 0x0F) _ (entry_shape p (n + 1) (opcode_entry false o) rest) (Ok s) (not_is _ b.1) h)

-- a barred opcode after 0F reads nothing
escape_dead : (p : Prefix) (n : ℕ) (rest : List ℕ) → first_passes (among barred_escaped) rest ≡ true
    → Refuses (opcode_shape p n (0x0F ∷ rest))
unfolding opcode_shape escaped_shape
escape_dead p n [] d s h = absurd cc
escape_dead p n (o ∷ rest) d s h =
    elim (true_or_false (escapes p)) [
      | inl may ↦ entry_dead p (n + 1 + 1) (opcode_entry true o) rest
          (each_prefix-at (λ q. forms_of q (opcode_entry true o) == 0) p (each-among (dead true) barred_escaped o escaped_dead d)) s
          (cond_true (escapes p) (entry_shape p (n + 1 + 1) (opcode_entry true o) rest) refused (Ok s) may h)
      | inr may_not ↦ (let f : refused ≡ Ok s = cond_false (escapes p) (entry_shape p (n + 1 + 1) (opcode_entry true o) rest) refused
          (Ok s) may_not h in cc)
    ]

-- FF /3 and FF /5 are no forms of FF, after any prefix or none
far_forms : (p : Prefix) (b : Bool) → (permits_at (forms_of p (opcode_entry false 0xFF)) 3 b ≡ false)
    × (permits_at (forms_of p (opcode_entry false 0xFF)) 5 b ≡ false)
unfolding opcode_entry forms_of
far_forms Unprefixed true = (refl, refl)
far_forms Unprefixed false = (refl, refl)
far_forms Word true = (refl, refl)
far_forms Word false = (refl, refl)
far_forms Repeat true = (refl, refl)
far_forms Repeat false = (refl, refl)
far_forms RepeatNot true = (refl, refl)
far_forms RepeatNot false = (refl, refl)
far_forms Lock true = (refl, refl)
far_forms Lock false = (refl, refl)

-- FF /3 and FF /5 are permitted after no prefix
far : (p : Prefix) (m : ℕ) → ((reg_of m == 3) || (reg_of m == 5)) ≡ true → permits (forms_of p (opcode_entry false 0xFF)) m ≡ false
far p m h =
    permits_is (forms_of p (opcode_entry false 0xFF)) m
    ∙ elim (either (reg_of m == 3) (reg_of m == 5) h) [
      | inl is ↦ ap (λ (r : ℕ). permits_at (forms_of p (opcode_entry false 0xFF)) r (mod_of m == 3)) (eqb-true (reg_of m) 3 is)
          ∙ (far_forms p (mod_of m == 3)).0
      | inr is ↦ ap (λ (r : ℕ). permits_at (forms_of p (opcode_entry false 0xFF)) r (mod_of m == 3)) (eqb-true (reg_of m) 5 is)
          ∙ (far_forms p (mod_of m == 3)).1
    ]

-- FF has an operand
far_entry : (opcode_entry false 0xFF).operand ≡ true
unfolding opcode_entry
far_entry = refl

-- FF /3 and FF /5 read nothing
far_dead : (p : Prefix) (n : ℕ) (rest : List ℕ) → first_passes (λ m. (reg_of m == 3) || (reg_of m == 5)) rest ≡ true
    → Refuses (entry_shape p n (opcode_entry false 0xFF) rest)
far_dead p n [] d s h = absurd cc
far_dead p n (m ∷ rest) d s h =
    elim (entry_read p n (opcode_entry false 0xFF) (m ∷ rest) s h).1 [
      | inl bare ↦ (let f : true ≡ false = sym far_entry ∙ bare.0 in cc)
      | inr w ↦
          (let same : m ≡ w.1.modrm = cc_head m rest w.1.modrm w.1.tail w.1.parts in
          let f : true ≡ false = sym w.1.permitted ∙ ap (λ (x : ℕ). permits (forms_of p (opcode_entry false 0xFF)) x) (sym same)
          ∙ far p m d in cc)
    ]
  where
    cc_head : (x : ℕ) (xs : List ℕ) (y : ℕ) (ys : List ℕ) → x ∷ xs ≡ y ∷ ys → x ≡ y
    cc_head x xs y ys e = cc

-- after any prefix, FF is read by its entry
far_opcode : (p : Prefix) (n : ℕ) (rest : List ℕ) → opcode_shape p n (0xFF ∷ rest) ≡ entry_shape p (n + 1) (opcode_entry false 0xFF) rest
unfolding opcode_shape
far_opcode p n rest = refl

-- where a barred opcode stands, nothing is read
barred_refused : (p : Prefix) (n : ℕ) (rest : List ℕ) → opens_barred rest ≡ true → Refuses (opcode_shape p n rest)
barred_refused p n [] d s h = absurd cc
barred_refused p n (o ∷ rest) d s h =
    elim (either (among barred_opcodes o || ((o == 0x0F) && first_passes (among barred_escaped) rest))
    ((o == 0xFF) && first_passes (λ m. (reg_of m == 3) || (reg_of m == 5)) rest) d) [
      | inl first_two ↦ elim (either (among barred_opcodes o) ((o == 0x0F) && first_passes (among barred_escaped) rest) first_two) [
        | inl is ↦ opcode_dead p n o rest (both (dead_unprefixed o) (coded_plain (prefix_of o))
            (each-among (λ o. dead_unprefixed o && coded_plain (prefix_of o)) barred_opcodes o barred_dead is)).0 s h
        | inr is ↦
            (let b = both (o == 0x0F) (first_passes (among barred_escaped) rest) is in
            escape_dead p n rest b.1 s (subst (λ (k : ℕ). opcode_shape p n (k ∷ rest) ≡ Ok s) (eqb-true o 0x0F b.0) h))
      ]
      | inr is ↦
          (let b = both (o == 0xFF) (first_passes (λ m. (reg_of m == 3) || (reg_of m == 5)) rest) is in
          far_dead p (n + 1) rest b.1 s (sym (far_opcode p n rest)
          ∙ subst (λ (k : ℕ). opcode_shape p n (k ∷ rest) ≡ Ok s) (eqb-true o 0xFF b.0) h))
    ]

-- 0F is no prefix
escape_plain : prefix_of 0x0F ≡ Unprefixed
unfolding prefix_of
escape_plain = refl

-- no barred beginning is a prefix
barred_plain : (o : ℕ) (rest : List ℕ) → opens_barred (o ∷ rest) ≡ true → prefix_of o ≡ Unprefixed
barred_plain o rest d =
    elim (either (among barred_opcodes o || ((o == 0x0F) && first_passes (among barred_escaped) rest))
    ((o == 0xFF) && first_passes (λ m. (reg_of m == 3) || (reg_of m == 5)) rest) d) [
      | inl first_two ↦ elim (either (among barred_opcodes o) ((o == 0x0F) && first_passes (among barred_escaped) rest) first_two) [
        | inl is ↦ plain_is _ (both (dead_unprefixed o) (coded_plain (prefix_of o))
            (each-among (λ o. dead_unprefixed o && coded_plain (prefix_of o)) barred_opcodes o barred_dead is)).1
        | inr is ↦ ap prefix_of (eqb-true o 0x0F (both (o == 0x0F) (first_passes (among barred_escaped) rest) is).0) ∙ escape_plain
      ]
      | inr is ↦ ap prefix_of (eqb-true o 0xFF (both (o == 0xFF) (first_passes (λ m. (reg_of m == 3) || (reg_of m == 5)) rest) is).0)
          ∙ far_plain
    ]

-- the byte is no segment override, if it is a prefix
abbrev no_override : ℕ → Bool
no_override b = implies (not (coded_plain (prefix_of b))) (not (among overrides b))

-- no leading byte that is a prefix is a segment override
prefixes_override_nothing : each no_override leading ≡ true
unfolding prefix_of
prefixes_override_nothing = refl

-- after a prefix nothing barred is read
behind_prefix : (p : Prefix) (before rest : List ℕ) → list_all (among leading) before ≡ true
    → (list_any (among overrides) before || opens_barred rest) ≡ true → Refuses (opcode_shape p 1 (before ++ rest))
behind_prefix p [] rest leads because = barred_refused p 1 rest because
behind_prefix p (b ∷ before) rest leads because =
    opcode_dead p 1 b (before ++ rest) (each-among dead_unprefixed leading b leading_dead
    (both (among leading b) (list_all (among leading) before) leads).0)

-- nothing barred is read
pub shape_refused : (before rest : List ℕ) → list_all (among leading) before ≡ true
    → (list_any (among overrides) before || opens_barred rest) ≡ true → Refuses (shape_of (before ++ rest))
unfolding shape_of
shape_refused [] [] leads because s h = absurd cc
shape_refused [] (o ∷ rest) leads because s h =
    barred_refused Unprefixed 0 (o ∷ rest) because s (plain_reads (prefix_of o) (o ∷ rest) rest s (barred_plain o rest because) h)
shape_refused (b ∷ before) rest leads because s h =
    let l = both (among leading b) (list_all (among leading) before) leads in
    elim (prefix_is b) [
      | inl is ↦
          opcode_dead Unprefixed 0 b (before ++ rest) (each-among dead_unprefixed leading b leading_dead l.0) s
          (plain_reads (prefix_of b) (b ∷ (before ++ rest)) (before ++ rest) s is h)
      | inr w ↦
          (let not_plain : coded_plain (prefix_of b) ≡ false = named w.0 b w.1 w.2 in
          let not_over : among overrides b ≡ false = not_is _
          (implied (not (coded_plain (prefix_of b))) (not (among overrides b))
          (each-among no_override leading b prefixes_override_nothing l.0) (rw not_plain refl)) in
          behind_prefix w.0 before rest l.1 (drop_first (among overrides b) (list_any (among overrides) before)
          (opens_barred rest) not_over because) s
          (prefixed_reads w.0 b (b ∷ (before ++ rest)) (before ++ rest) s w.2
          (subst (λ (q : Prefix). prefixed_shape q (b ∷ (before ++ rest)) (before ++ rest) ≡ Ok s) w.1 h)))
    ]
  where
    named : (p : Prefix) (b : ℕ) → prefix_of b ≡ p → prefix_byte p ≡ Some b → coded_plain (prefix_of b) ≡ false
    named Unprefixed b is e = absurd cc
    named Word b is e = ap coded_plain is
    named Repeat b is e = ap coded_plain is
    named RepeatNot b is e = ap coded_plain is
    named Lock b is e = ap coded_plain is

    drop_first : (a b c : Bool) → a ≡ false → ((a || b) || c) ≡ true → (b || c) ≡ true
    drop_first false b c e h = h
    drop_first true b c e h = absurd cc

-- no whole instruction is barred
pub spelling_is_allowed : (x : List ℕ) (i : Instr) → Spells x i → IsBarred x → ⊥
spelling_is_allowed x i s b =
    let p = parts_read s.parts [] s.fit in
    shape_refused b.before b.rest b.leads b.because p.shape (ap shape_of (sym b.parts ∙ s.whole ∙ sym (append-nil (spelled s.parts)))
    ∙ p.fixed)
