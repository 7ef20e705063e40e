-- One instruction of a valid chunk exchanged for another that is as long: the chunk is valid, with the same marks.
use Rattle.std.proofs.Common.{◌≡◌, ℕ, ◌+◌, ◌-◌, ◌%◌, ◌/◌, Bool, true, false, cond, List, [], ◌∷◌, ◌++◌, length, replicate}
use Rattle.std.proofs.Common.{refl, sym, subst, ◌∙◌, ap, arith, inl, inr, append_assoc, append-nil}
use Rattle.std.specs.Prelude.{IsTrue}
use Rattle.nc_decode.specs.declared.instruction.Mark.{Mark}
use Rattle.nc_decode.specs.declared.instruction.Mark.TheVariants.{Unmarked, Plain, After}
use Rattle.nc_decode.specs.Spelling.{Spells}
use Rattle.nc_decode.specs.Transfers.{is_direct, is_indirect, target}
use Rattle.nc_decode.proofs.Offered.{spells_some}
use Rattle.nc_vet.specs.Chunk.{Piece, MarkedChunk, code_of, place, FollowsMask, IsEntry, IsTarget, IsValid, AreSound, AreTargets, IsLength}
use Rattle.nc_vet.specs.Chunk.{IsInRange, mark_of, instr_marks, marks_of}
use Rattle.nc_vet.proofs.Offered.{place-append, marks_of-append, split_none}
use Rattle.nc_region.specs.Patch.{GoesOnIndirectly}

-- of a list parted at two elements: they are the same, or one stands before the other
pub data Where (before after b a : List Piece) (n p : Piece) : Type 0 where
  Here : before ≡ b → n ≡ p → after ≡ a → Where before after b a n p
  Earlier : (m : List Piece) → before ≡ b ++ p ∷ m → a ≡ m ++ n ∷ after → Where before after b a n p
  Later : (m : List Piece) → b ≡ before ++ n ∷ m → after ≡ m ++ p ∷ a → Where before after b a n p

-- where a piece of a list stands beside another one
pub where_is : (before after b a : List Piece) (n p : Piece) → before ++ n ∷ after ≡ b ++ p ∷ a → Where before after b a n p
where_is [] after [] a n p e = let f : n ≡ p = cc in let g : after ≡ a = cc in Here refl f g
where_is [] after (x ∷ b) a n p e = let f : x ∷ b ≡ n ∷ b = (let h : n ≡ x = cc in rw h refl) in let g : after ≡ b ++ p ∷ a = cc in
    Later b f g
where_is (y ∷ before) after [] a n p e = let f : y ∷ before ≡ p ∷ before = (let h : y ≡ p = cc in rw h refl) in
    let g : a ≡ before ++ n ∷ after = cc in Earlier before f g
where_is (y ∷ before) after (x ∷ b) a n p e =
    let h : y ≡ x = cc in
    let tail : before ++ n ∷ after ≡ b ++ p ∷ a = cc in
    elim (where_is before after b a n p tail) [
      | Here f g k ↦ (let f2 : y ∷ before ≡ x ∷ b = rw (h, f) refl in Here f2 g k)
      | Earlier m f g ↦ (let f2 : y ∷ before ≡ x ∷ (b ++ p ∷ m) = rw (h, f) refl in Earlier m f2 g)
      | Later m f g ↦ (let f2 : x ∷ b ≡ y ∷ (before ++ n ∷ m) = rw (h, f) refl in Later m f2 g)
    ]

-- an instruction of a valid chunk, and the one that comes in its place
pub record Exchanges (c : MarkedChunk) (before after : List Piece) (o n : Piece) : Type 0 where
  pub valid : IsValid c
  pub parts : valid.pieces ≡ before ++ o ∷ after
  pub spells : Spells n.bytes n.instr
  pub as_long : length o.bytes ≡ length n.bytes
  pub transfer : is_indirect n.instr.flow ≡ is_indirect o.instr.flow
  pub register : IsTrue (is_indirect o.instr.flow) → n.instr.reg ≡ o.instr.reg
  pub mask : GoesOnIndirectly after → n.instr.masks ≡ o.instr.masks
  pub good : IsTrue (is_direct n.instr.flow) → IsTarget c.base c.limit valid.pieces (target n.instr (c.base + place before))

-- an instruction exchanged for one as long leaves the places behind it
pub same_place : (before m : List Piece) (o n : Piece) → length o.bytes ≡ length n.bytes
    → place (before ++ o ∷ m) ≡ place (before ++ n ∷ m)
same_place before m o n e =
    place-append before (o ∷ m) ∙ (ap (λ (k : ℕ). place before + k) (place-append (o ∷ []) m
    ∙ (ap (λ (k : ℕ). k + place m) (one o ∙ (e ∙ sym (one n))) ∙ sym (place-append (n ∷ []) m))) ∙ sym (place-append before (n ∷ m)))
  where
    one : (p : Piece) → place (p ∷ []) ≡ length p.bytes
    one p = ap (λ (z : List ℕ). length z) (append-nil p.bytes)

-- an instruction exchanged for one as long, indirect if it was, leaves the starts that are no second halves
entry_stays : (before after : List Piece) (o n : Piece) (at : ℕ) → length o.bytes ≡ length n.bytes
    → is_indirect n.instr.flow ≡ is_indirect o.instr.flow → IsEntry (before ++ o ∷ after) at → IsEntry (before ++ n ∷ after) at
entry_stays before after o n at len same e =
    elim (where_is before after e.before e.after o e.piece e.parts) [
      | Here f g k ↦ record {
        before = before;
        after = after;
        piece = n;
        parts = refl;
        here = ap place f ∙ e.here;
        first = same ∙ (ap (λ (z : Piece). is_indirect z.instr.flow) g ∙ e.first);
      }
      | Earlier m f g ↦ record {
        before = e.before;
        after = m ++ n ∷ after;
        piece = e.piece;
        parts =
            ap (λ (z : List Piece). z ++ n ∷ after) f ∙ append_assoc e.before (e.piece ∷ m) (n ∷ after);
        here = e.here;
        first = e.first;
      }
      | Later m f g ↦ record {
        before = before ++ n ∷ m;
        after = e.after;
        piece = e.piece;
        parts =
            ap (λ (z : List Piece). before ++ n ∷ z) g ∙ sym (append_assoc before (n ∷ m) (e.piece ∷ e.after));
        here =
            sym (same_place before m o n len) ∙ (ap place (sym f) ∙ e.here);
        first = e.first;
      }
    ]

-- an instruction exchanged for one as long, indirect if it was, leaves the good targets
pub target_stays : (base limit : ℕ) (before after : List Piece) (o n : Piece) (to : ℕ) → length o.bytes ≡ length n.bytes
    → is_indirect n.instr.flow ≡ is_indirect o.instr.flow → IsTarget base limit (before ++ o ∷ after) to
    → IsTarget base limit (before ++ n ∷ after) to
target_stays base limit before after o n to len same (inl t) =
    inl (t.0, t.1, omega (arith, t.2, same_place before after o n len), entry_stays before after o n t.0 len same t.3)
target_stays base limit before after o n to len same (inr (inl under, start, below)) = inr (inl under, start, below)
target_stays base limit before after o n to len same (inr (inr past, start, below)) =
    inr (inr (omega (arith, past, same_place before after o n len)), start, below)

-- the mask in front of a further instruction stays
mask_stays : (before : List Piece) (o n x : Piece) (m : List Piece) (reg : ℕ) → length o.bytes ≡ length n.bytes
    → FollowsMask (before ++ o ∷ x ∷ m) reg → FollowsMask (before ++ n ∷ x ∷ m) reg
mask_stays before o n x m reg len f =
    elim (where_is before (x ∷ m) f.earlier [] o f.mask f.last) [
      | Here a b c ↦ absurd cc
      | Earlier k a b ↦ absurd (split_none k (x ∷ m) o b)
      | Later k a b ↦ record {
        earlier = before ++ n ∷ k;
        mask = f.mask;
        last = ap (λ (z : List Piece). before ++ n ∷ z) b ∙ sym (append_assoc before (n ∷ k) (f.mask ∷ []));
        masks = f.masks;
        together = ap (λ (j : ℕ). j / 32) (sym (same_place before k o n len) ∙ ap place (sym a))
            ∙ (f.together ∙ ap (λ (j : ℕ). j / 32) (same_place before (x ∷ m) o n len));
      }
    ]

-- the mark of an instruction by what it says
mark_same : (a b : Bool) (r s : ℕ) → a ≡ b → (b ≡ true → r ≡ s) → cond a (After r) Plain ≡ cond b (After s) Plain
mark_same true true r s e f = ap After (f refl)
mark_same false false r s e f = refl
mark_same true false r s e f = absurd cc
mark_same false true r s e f = absurd cc

-- an instruction exchanged for one as long, with the same register if it is indirect, leaves the marks
same_marks : (before after : List Piece) (o n : Piece) → o.instr.len ≡ n.instr.len → is_indirect n.instr.flow ≡ is_indirect o.instr.flow
    → (IsTrue (is_indirect o.instr.flow) → n.instr.reg ≡ o.instr.reg)
    → marks_of (before ++ o ∷ after) ≡ marks_of (before ++ n ∷ after)
same_marks before after o n len same reg =
    marks_of-append before (o ∷ after) ∙ (ap (λ (z : List Mark). marks_of before ++ (z ++ marks_of after)) one
    ∙ sym (marks_of-append before (n ∷ after)))
  where
    one : instr_marks o.instr ≡ instr_marks n.instr
    one = ap (λ (x : Mark). x ∷ replicate (o.instr.len - 1) Unmarked)
        (sym (mark_same (is_indirect n.instr.flow) (is_indirect o.instr.flow) n.instr.reg o.instr.reg same reg))
        ∙ ap (λ (k : ℕ). mark_of n.instr ∷ replicate (k - 1) Unmarked) len

-- the chunk with a new instruction in place of one
abbrev pub exchanged : MarkedChunk → List Piece → List Piece → Piece → MarkedChunk
exchanged c before after n = record { base = c.base; limit = c.limit; code = code_of (before ++ n ∷ after); marks = c.marks }

-- the code with the new instruction is as long
pub code_long : (c : MarkedChunk) (before after : List Piece) (o n : Piece) → Exchanges c before after o n
    → length (code_of (before ++ n ∷ after)) ≡ length c.code
code_long c before after o n x = sym (same_place before after o n x.as_long)
    ∙ (ap place (sym x.parts) ∙ ap (λ (z : List ℕ). length z) (sym x.valid.parts))

-- where an instruction of the new chunk stands in the old one
earlier_parts : (c : MarkedChunk) (before after b m : List Piece) (o n p : Piece) (x : Exchanges c before after o n) → before ≡ b ++ p ∷ m
    → x.valid.pieces ≡ b ++ p ∷ (m ++ o ∷ after)
earlier_parts c before after b m o n p x f = x.parts ∙ (ap (λ (z : List Piece). z ++ o ∷ after) f ∙ append_assoc b (p ∷ m) (o ∷ after))

-- the pieces after the exchanged one
later_parts : (c : MarkedChunk) (before after m a : List Piece) (o n p : Piece) (x : Exchanges c before after o n) → after ≡ m ++ p ∷ a
    → x.valid.pieces ≡ (before ++ o ∷ m) ++ p ∷ a
later_parts c before after m a o n p x g = x.parts
    ∙ (ap (λ (z : List Piece). before ++ o ∷ z) g ∙ sym (append_assoc before (o ∷ m) (p ∷ a)))

-- a mask directly before what follows stays one where it is exchanged for one of the same register
mask_kept : (before : List Piece) (o n : Piece) (reg : ℕ) → length o.bytes ≡ length n.bytes → n.instr.masks ≡ o.instr.masks
    → FollowsMask (before ++ o ∷ []) reg → FollowsMask (before ++ n ∷ []) reg
mask_kept before o n reg len masks f =
    elim (where_is before [] f.earlier [] o f.mask f.last) [
      | Here a b c ↦ record {
        earlier = before;
        mask = n;
        last = refl;
        masks = masks ∙ (ap (λ (z : Piece). z.instr.masks) b ∙ f.masks);
        together = ap (λ (z : List Piece). place z / 32) a ∙ (f.together ∙ ap (λ (j : ℕ). j / 32) (same_place before [] o n len));
      }
      | Earlier k a b ↦ absurd (split_none k [] o b)
      | Later k a b ↦ absurd (split_none k [] f.mask b)
    ]

-- a pair behind the exchanged instruction stays one
paired_later : (c : MarkedChunk) (before after m a : List Piece) (o n p : Piece) (x : Exchanges c before after o n) → after ≡ m ++ p ∷ a
    → IsTrue (is_indirect p.instr.flow) → FollowsMask (before ++ n ∷ m) p.instr.reg
paired_later c before after [] a o n p x g indirect =
    mask_kept before o n p.instr.reg x.as_long (x.mask (subst GoesOnIndirectly (sym g) indirect))
    (x.valid.sound.paired (before ++ o ∷ []) a p (later_parts c before after [] a o n p x g) indirect)
paired_later c before after (y ∷ m) a o n p x g indirect =
    mask_stays before o n y m p.instr.reg x.as_long
    (x.valid.sound.paired (before ++ o ∷ y ∷ m) a p (later_parts c before after (y ∷ m) a o n p x g) indirect)

-- the new instruction is the second half of a pair where the old one is
paired_here : (c : MarkedChunk) (before after : List Piece) (o n : Piece) (x : Exchanges c before after o n)
    → IsTrue (is_indirect n.instr.flow) → FollowsMask before n.instr.reg
paired_here c before after o n x indirect =
    let old : IsTrue (is_indirect o.instr.flow) = sym x.transfer ∙ indirect in
    subst (FollowsMask before) (sym (x.register old)) (x.valid.sound.paired before after o x.parts old)

-- a good target stays one
target_new : (c : MarkedChunk) (before after : List Piece) (o n : Piece) (x : Exchanges c before after o n) (to : ℕ)
    → IsTarget c.base c.limit x.valid.pieces to → IsTarget c.base c.limit (before ++ n ∷ after) to
target_new c before after o n x to t = target_stays c.base c.limit before after o n to x.as_long x.transfer
    (subst (λ (z : List Piece). IsTarget c.base c.limit z to) x.parts t)

-- the exchanged pieces keep the rules of bundles and pairs
pub exchanged_sound : (c : MarkedChunk) (before after : List Piece) (o n : Piece) → Exchanges c before after o n
    → AreSound (before ++ n ∷ after)
exchanged_sound c before after o n x =
    let v = x.valid in
    record {
      spelled = λ b a p e. elim (where_is before after b a n p e) [
        | Here f g k ↦ subst (λ (z : Piece). Spells z.bytes z.instr) g x.spells
        | Earlier m f g ↦ v.sound.spelled b (m ++ o ∷ after) p (earlier_parts c before after b m o n p x f)
        | Later m f g ↦ v.sound.spelled (before ++ o ∷ m) a p (later_parts c before after m a o n p x g)
      ];
      inside = λ b a p e. elim (where_is before after b a n p e) [
        | Here f g k ↦ (let i = v.sound.inside before after o x.parts in
            omega (arith, i, x.as_long, ap place f, ap (λ (z : Piece). length z.bytes) g))
        | Earlier m f g ↦ v.sound.inside b (m ++ o ∷ after) p (earlier_parts c before after b m o n p x f)
        | Later m f g ↦ (let i = v.sound.inside (before ++ o ∷ m) a p (later_parts c before after m a o n p x g) in
            omega (arith, i, ap place f, same_place before m o n x.as_long))
      ];
      paired = λ b a p e indirect. elim (where_is before after b a n p e) [
        | Here f g k ↦ subst (λ (z : List Piece). FollowsMask z p.instr.reg) f
            (subst (λ (z : Piece). FollowsMask before z.instr.reg) g
            (paired_here c before after o n x (subst (λ (z : Piece). IsTrue (is_indirect z.instr.flow)) (sym g) indirect)))
        | Earlier m f g ↦ v.sound.paired b (m ++ o ∷ after) p (earlier_parts c before after b m o n p x f) indirect
        | Later m f g ↦ subst (λ (z : List Piece). FollowsMask z p.instr.reg) (sym f) (paired_later c before after m a o n p x g indirect)
      ];
    }

-- after an exchange each direct transfer goes to a good target
pub exchanged_targets : (c : MarkedChunk) (before after : List Piece) (o n : Piece) → Exchanges c before after o n
    → AreTargets c.base c.limit (before ++ n ∷ after)
exchanged_targets c before after o n x = λ b a p e direct. elim (where_is before after b a n p e) [
  | Here f g k ↦
      target_new c before after o n x (target p.instr (c.base + place b))
      (subst (λ (z : List Piece). IsTarget c.base c.limit x.valid.pieces (target p.instr (c.base + place z))) f
      (subst (λ (z : Piece). IsTarget c.base c.limit x.valid.pieces (target z.instr (c.base + place before))) g
      (x.good (subst (λ (z : Piece). IsTrue (is_direct z.instr.flow)) (sym g) direct))))
  | Earlier m f g ↦ target_new c before after o n x (target p.instr (c.base + place b))
      (x.valid.targets b (m ++ o ∷ after) p (earlier_parts c before after b m o n p x f) direct)
  | Later m f g ↦
      target_new c before after o n x (target p.instr (c.base + place b))
      (subst (λ (k : ℕ). IsTarget c.base c.limit x.valid.pieces (target p.instr (c.base + k))) (same_place before m o n x.as_long
      ∙ ap place (sym f)) (x.valid.targets (before ++ o ∷ m) a p (later_parts c before after m a o n p x g) direct))
]

-- after an exchange the chunk's marks are those of its pieces
pub exchanged_marks : (c : MarkedChunk) (before after : List Piece) (o n : Piece) → Exchanges c before after o n
    → c.marks ≡ marks_of (before ++ n ∷ after)
exchanged_marks c before after o n x = x.valid.marks_are
    ∙ (ap (λ (z : List Piece). marks_of z) x.parts
    ∙ same_marks before after o n (old_len ∙ (x.as_long ∙ sym new_len)) x.transfer x.register)
  where
    old_len : o.instr.len ≡ length o.bytes
    old_len = (spells_some o.bytes o.instr (x.valid.sound.spelled before after o x.parts)).0

    new_len : n.instr.len ≡ length n.bytes
    new_len = (spells_some n.bytes n.instr x.spells).0

-- the code has whole bundles
pub exchanged_length : (c : MarkedChunk) (before after : List Piece) (o n : Piece) → Exchanges c before after o n
    → IsLength (length (code_of (before ++ n ∷ after)))
exchanged_length c before after o n x =
    let long = code_long c before after o n x in
    (omega (arith, long, x.valid.length_is.0), ap (λ (k : ℕ). k % 32) long ∙ x.valid.length_is.1)

-- the chunk stays below the guard
pub exchanged_range : (c : MarkedChunk) (before after : List Piece) (o n : Piece) → Exchanges c before after o n
    → IsInRange c.base c.limit (length (code_of (before ++ n ∷ after)))
exchanged_range c before after o n x = (x.valid.range.0, omega (arith, code_long c before after o n x, x.valid.range.1))

-- the exchanged chunk is valid
abbrev pub exchanged_valid : (c : MarkedChunk) (before after : List Piece) (o n : Piece) → Exchanges c before after o n
    → IsValid (exchanged c before after n)
exchanged_valid c before after o n x =
    record {
      base_is = x.valid.base_is;
      length_is = exchanged_length c before after o n x;
      range = exchanged_range c before after o n x;
      pieces = before ++ n ∷ after;
      parts = refl;
      sound = exchanged_sound c before after o n x;
      targets = exchanged_targets c before after o n x;
      marks_are = exchanged_marks c before after o n x;
    }
