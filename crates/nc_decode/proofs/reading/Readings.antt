-- What is read, what is cut short, and what is spelled.
use Rattle.std.proofs.Common.{◌≡◌, ℕ, zero, suc, ◌+◌, ◌-◌, ◌<◌, ◌≤◌, Bool, true, false, List, [], ◌∷◌, ◌++◌, length, take, drop, Result}
use Rattle.std.proofs.Common.{Ok, Err, refl, sym, subst, ◌∙◌, ap, arith, inl, inr, ◌⊎◌, append_assoc, ltb-false, nat_lt, append-nil}
use Rattle.std.proofs.Common.{lt-ltb, le-ltb}
use Rattle.std.specs.Prelude.{option_to_list, IfOk}
use Rattle.std.proofs.Math.Seq.{take-append-add}
use Rattle.std.proofs.lemmas.List.{length-take-le, length-append, take-append-drop, take-append-le}
use Rattle.std.proofs.lemmas.Bool.{cases_lt}
use Rattle.nc_decode.specs.declared.instruction.DecodeFault.{DecodeFault}
use Rattle.nc_decode.specs.declared.instruction.DecodeFault.TheVariants.{Truncated, NotPermitted}
use Rattle.nc_decode.specs.declared.instruction.Instr.{Instr}
use Rattle.nc_decode.specs.declared.entry.Shape.{Shape}
use Rattle.nc_decode.specs.declared.entry.Prefix.{Prefix}
use Rattle.nc_decode.specs.machinery.Shapes.{◌>>=◌, shape_of}
use Rattle.nc_decode.specs.Spelling.{spelled, Spells, IsProperFront, IsAtFront}
use Rattle.nc_decode.specs.machinery.Reading.{whole_of, reading}
use Rattle.nc_decode.proofs.opcodes.EntriesMatchRows.{prefix_byte}
use Rattle.nc_base.proofs.Offered.{true_or_false, cond_is_true, cond_is_false, cond_true, cond_false}
use Rattle.nc_decode.proofs.reading.PrefixAndOpcode.{code, header}
use Rattle.nc_decode.proofs.reading.EntryReads.{IsBytes, bind_ok}
use Rattle.nc_decode.proofs.reading.ReadIsSpelled.{instr_at, shape_spells}
use Rattle.nc_decode.proofs.reading.SpellingParts.{prefix_at, spelled_len}
use Rattle.nc_decode.proofs.reading.MoreBytes.{shape_grows}
use Rattle.nc_decode.proofs.reading.SpelledIsRead.{parts_read}
use Rattle.nc_decode.proofs.reading.Completions.{shape_completes}

-- the answer that bytes are missing
abbrev cut : Result Instr DecodeFault
cut = Err Truncated

-- the answer with an instruction
abbrev ok : Instr → Result Instr DecodeFault
ok i = Ok i

-- an instruction whose bytes are all there, with its shape
pub record IsWhole (bytes : List ℕ) (i : Instr) : Type 0 where
  pub shape : Shape
  pub fixed : shape_of bytes ≡ Ok shape
  pub long : shape.head + shape.number_len ≤ length bytes
  pub is : i ≡ instr_at bytes shape

-- an instruction that was read by a shape has all its bytes there, and is that of the shape
whole_is : (bytes : List ℕ) (s : Shape) (i : Instr) → whole_of bytes s ≡ Ok i → (s.head + s.number_len ≤ length bytes)
    × (i ≡ instr_at bytes s)
unfolding whole_of
whole_is bytes s i h =
    elim (true_or_false (nat_lt (length bytes) (s.head + s.number_len))) [
      | inl short ↦ absurd (let f : cut ≡ ok i = cond_true (nat_lt (length bytes) (s.head + s.number_len)) cut _ (ok i) short h in cc)
      | inr long ↦
          (let f : ok (instr_at bytes s) ≡ ok i = cond_false (nat_lt (length bytes) (s.head + s.number_len)) cut _ (ok i) long h in
          (ltb-false _ _ long, cc))
    ]

-- what is read is whole
pub reading_whole : (bytes : List ℕ) (i : Instr) → reading bytes ≡ Ok i → IsWhole bytes i
unfolding reading
reading_whole bytes i h =
    let b = bind_ok (shape_of bytes) (whole_of bytes) i h in
    let w = whole_is bytes b.0 i b.2 in
    record { shape = b.0; fixed = b.1; long = w.0; is = w.1 }

-- what is whole is read
pub reads_whole : (bytes : List ℕ) (s : Shape) → shape_of bytes ≡ Ok s → s.head + s.number_len ≤ length bytes
    → reading bytes ≡ Ok (instr_at bytes s)
unfolding reading whole_of
reads_whole bytes s h long =
    ap (λ (x : Result Shape DecodeFault). x >>= whole_of bytes) h
    ∙ cond_is_false (nat_lt (length bytes) (s.head + s.number_len)) cut (ok (instr_at bytes s)) (le-ltb _ _ long)

-- what isn't whole is cut short
pub reads_short : (bytes : List ℕ) (s : Shape) → shape_of bytes ≡ Ok s → length bytes < s.head + s.number_len
    → reading bytes ≡ Err Truncated
unfolding reading whole_of
reads_short bytes s h short =
    ap (λ (x : Result Shape DecodeFault). x >>= whole_of bytes) h
    ∙ cond_is_true (nat_lt (length bytes) (s.head + s.number_len)) cut (ok (instr_at bytes s)) (lt-ltb _ _ short)

-- where the shape is cut short, so is the reading
pub reads_cut : (bytes : List ℕ) → shape_of bytes ≡ Err Truncated → reading bytes ≡ Err Truncated
unfolding reading
reads_cut bytes h = ap (λ (x : Result Shape DecodeFault). x >>= whole_of bytes) h

-- what is read is spelled
pub reading_spells : (bytes : List ℕ) (i : Instr) → IsBytes bytes → reading bytes ≡ Ok i → (i.len ≤ length bytes)
    × Spells (take i.len bytes) i
reading_spells bytes i fits h =
    let w = reading_whole bytes i h in
    subst (λ (x : Instr). (x.len ≤ length bytes) × Spells (take x.len bytes) x) (sym w.is)
    (w.long, shape_spells bytes w.shape fits w.fixed w.long)

-- what is spelled is read, whatever follows
pub spells_read : (x r : List ℕ) (i : Instr) → Spells x i → (reading (x ++ r) ≡ Ok i) × (i.len ≡ length x)
spells_read x r i s =
    let p = parts_read s.parts r s.fit in
    let len : p.shape.head + p.shape.number_len ≤ length (spelled s.parts ++ r) = omega
    (arith, p.len, length-append (spelled s.parts) r) in (
      ap (λ (y : List ℕ). reading (y ++ r)) s.whole ∙ reads_whole (spelled s.parts ++ r) p.shape p.fixed len ∙ ap ok (p.says ∙ sym s.says),
      ap (λ (y : Instr). y.len) s.says ∙ ap (λ (y : List ℕ). length y) (sym s.whole),
    )

-- a proper front of an instruction is read as cut short
pub front_read : (bytes : List ℕ) → IsProperFront bytes → reading bytes ≡ Err Truncated
front_read bytes f =
    let p = parts_read f.spells.parts [] f.spells.fit in
    let whole : spelled f.spells.parts ++ [] ≡ bytes ++ f.more = append-nil (spelled f.spells.parts) ∙ sym f.spells.whole in
    let fixed : shape_of (bytes ++ f.more) ≡ Ok p.shape = ap shape_of (sym whole) ∙ p.fixed in
    let len : p.shape.head + p.shape.number_len ≡ length (bytes ++ f.more) = p.len ∙ ap (λ (y : List ℕ). length y) (sym f.spells.whole) in
    elim (shape_grows bytes f.more) [
      | inl short ↦ reads_cut bytes short
      | inr as_before ↦ reads_short bytes p.shape (sym as_before ∙ fixed)
          (omega (arith, len, length-append bytes f.more, some_more f.more f.some))
    ]
  where
    some_more : (m : List ℕ) → (m ≡ [] → ⊥) → 0 < length m
    some_more [] h = absurd (h refl)
    some_more (x ∷ m) h = omega arith

-- ---- a completion

-- a list of n zero bytes
zeros : ℕ → List ℕ
zeros zero = []
zeros (suc n) = 0 ∷ zeros n

-- a list of n zero bytes has n elements
length-zeros : (n : ℕ) → length (zeros n) ≡ n
unfolding zeros
length-zeros zero = refl
length-zeros (suc n) = ap (λ (k : ℕ). suc k) (length-zeros n)

-- zeros are bytes
zeros_fit : (n : ℕ) → IsBytes (zeros n)
unfolding zeros
zeros_fit zero i = omega arith
zeros_fit (suc n) zero = omega arith
zeros_fit (suc n) (suc i) = zeros_fit n i

-- bytes with bytes after them are bytes
both_fit : (a b : List ℕ) → IsBytes a → IsBytes b → IsBytes (a ++ b)
both_fit [] b p q i = q i
both_fit (x ∷ a) b p q zero = p 0
both_fit (x ∷ a) b p q (suc i) = both_fit a b (λ k. p (suc k)) q i

-- bytes with more after them from which an instruction is read, where none is read from the bytes
front_from : (b m : List ℕ) (i : Instr) → IsBytes b → IsBytes m → reading b ≡ Err Truncated → reading (b ++ m) ≡ Ok i → IsProperFront b
front_from b m i p q short whole =
    let s = reading_spells (b ++ m) i (both_fit b m p q) whole in
    elim (cases_lt (length b) i.len) [
      | inl lt ↦
          (let e : i.len ≡ length b + (i.len - length b) = omega arith in
          let parts : take i.len (b ++ m) ≡ b ++ take (i.len - length b) m = ap (λ (n : ℕ). take n (b ++ m)) e
          ∙ take-append-add b m (i.len - length b) in
          let some_is : (take (i.len - length b) m ≡ [] → ⊥) = λ none. (
          let l : length (take i.len (b ++ m)) ≡ i.len = length-take-le i.len (b ++ m) s.0 in
          let k : length (take i.len (b ++ m)) ≡ length (b ++ take (i.len - length b) m) = ap (λ (y : List ℕ). length y) parts in
          let j : length (take (i.len - length b) m) ≡ 0 = ap (λ (y : List ℕ). length y) none in
          omega (arith, l, k, j, length-append b (take (i.len - length b) m))) in
          record { more = take (i.len - length b) m; instr = i; some = some_is; spells = subst (λ (y : List ℕ). Spells y i) parts s.1 })
      | inr le ↦
          absurd (
          let cut_is : take i.len (b ++ m) ≡ take i.len b = take-append-le i.len b m le in
          let r = spells_read (take i.len b) (drop i.len b) i (subst (λ (y : List ℕ). Spells y i) cut_is s.1) in
          let again : reading b ≡ ok i = ap reading (sym (take-append-drop i.len b)) ∙ r.0 in
          let f : cut ≡ ok i = sym short ∙ again in cc)
    ]

-- a refusal of an instruction
abbrev instr_err : DecodeFault → Result Instr DecodeFault
instr_err d = Err d

-- a refusal of a shape
abbrev shape_err : DecodeFault → Result Shape DecodeFault
shape_err d = Err d

-- a shape cut short
abbrev shape_cut : Result Shape DecodeFault
shape_cut = Err Truncated

-- where an instruction is said to be cut short, its shape is too
err_is : (d : DecodeFault) (x : Instr → Result Instr DecodeFault) → instr_err d ≡ cut → shape_err d ≡ shape_cut
err_is d x h = let e : d ≡ Truncated = cc in ap shape_err e

-- where an answer that comes of a shape is cut short, there is a shape, or the shape is cut short
by_shape : (b : List ℕ) (x : Result Shape DecodeFault) → shape_of b ≡ x → (x >>= whole_of b) ≡ cut
    → ((s : Shape) × (shape_of b ≡ Ok s)) ⊎ (shape_of b ≡ Err Truncated)
by_shape b (Ok s) e h = inl (s, e)
by_shape b (Err d) e h = inr (e ∙ err_is d ok h)

-- where a reading is cut short, there is a shape, or the shape is cut short
read_or_cut : (b : List ℕ) → reading b ≡ Err Truncated → ((s : Shape) × (shape_of b ≡ Ok s)) ⊎ (shape_of b ≡ Err Truncated)
unfolding reading
read_or_cut b h = by_shape b (shape_of b) refl h

-- what a shape fixes, more bytes leave
still : (b m : List ℕ) (s : Shape) → shape_of b ≡ Ok s → shape_of (b ++ m) ≡ Ok s
still b m s h = elim (shape_grows b m) [
  | inl short ↦ absurd (let f : shape_cut ≡ Ok s = sym short ∙ h in cc)
  | inr same ↦ same ∙ h
]

-- what is read as cut short is a proper front
pub reading_front : (b : List ℕ) → IsBytes b → reading b ≡ Err Truncated → IsProperFront b
unfolding zeros
reading_front b p short = elim (read_or_cut b short) [
  | inl w ↦ completed b [] w.0 p (zeros_fit 0) short (ap shape_of (append-nil b) ∙ w.1)
  | inr c ↦ (let d = shape_completes b p c in completed b d.more d.shape p d.fits short d.done)
]
  where
    completed : (b m : List ℕ) (s : Shape) → IsBytes b → IsBytes m → reading b ≡ Err Truncated → shape_of (b ++ m) ≡ Ok s → IsProperFront b
    completed b m s p q short fixed =
        let z : List ℕ = zeros (s.head + s.number_len) in
        let long : s.head + s.number_len ≤ length (b ++ (m ++ zeros (s.head + s.number_len))) = omega (
          arith,
          length-append b (m ++ zeros (s.head + s.number_len)),
          length-append m (zeros (s.head + s.number_len)),
          length-zeros (s.head + s.number_len),
        ) in
        let fixed2 : shape_of (b ++ (m ++ zeros (s.head + s.number_len))) ≡ Ok s = ap shape_of
        (sym (append_assoc b m (zeros (s.head + s.number_len)))) ∙ still (b ++ m) (zeros (s.head + s.number_len)) s fixed in
        front_from b (m ++ zeros (s.head + s.number_len)) (instr_at (b ++ (m ++ zeros (s.head + s.number_len))) s) p
        (both_fit m (zeros (s.head + s.number_len)) q (zeros_fit (s.head + s.number_len))) short
        (reads_whole (b ++ (m ++ zeros (s.head + s.number_len))) s fixed2 long)

-- ---- the three answers

-- what is read is at the front
pub found_from : (bytes : List ℕ) (i : Instr) → IsBytes bytes → reading bytes ≡ Ok i → IsAtFront bytes i
found_from bytes i fits h =
    let s = reading_spells bytes i fits h in
    record { front = take i.len bytes; rest = drop i.len bytes; parts = sym (take-append-drop i.len bytes); spells = s.1 }

-- what is at the front is read
pub found_by : (bytes : List ℕ) (i : Instr) → IsAtFront bytes i → reading bytes ≡ Ok i
found_by bytes i f = ap reading f.parts ∙ (spells_read f.front f.rest i f.spells).0

-- the refusal
abbrev refused : Result Instr DecodeFault
refused = Err NotPermitted

-- bytes that are refused have no instruction at their front, and are no proper front
pub refused_from : (bytes : List ℕ) → reading bytes ≡ Err NotPermitted → ((i : Instr) → IsAtFront bytes i → ⊥) × (IsProperFront bytes → ⊥)
refused_from bytes h =
    (λ i f. (let g : refused ≡ ok i = sym h ∙ found_by bytes i f in cc), λ f. (let g : refused ≡ cut = sym h ∙ front_read bytes f in cc))

-- bytes that have no instruction at their front, and are no proper front, are refused
pub refused_by : (bytes : List ℕ) → IsBytes bytes → ((i : Instr) → IsAtFront bytes i → ⊥) × (IsProperFront bytes → ⊥)
    → reading bytes ≡ Err NotPermitted
refused_by bytes fits none = go (reading bytes) refl
  where
    go : (x : Result Instr DecodeFault) → reading bytes ≡ x → reading bytes ≡ Err NotPermitted
    go (Ok i) e = absurd (none.0 i (found_from bytes i fits e))
    go (Err Truncated) e = absurd (none.1 (reading_front bytes fits e))
    go (Err NotPermitted) e = e

-- ---- the length

-- prefix and opcode have a byte
header_some : (p : Prefix) (escaped : Bool) (o : ℕ) → 0 < length (header p escaped o)
header_some p true o = omega (arith, length-append (option_to_list (prefix_byte p)) (code true o))
header_some p false o = omega (arith, length-append (option_to_list (prefix_byte p)) (code false o))

-- a whole instruction has a byte, and its length
pub spells_some : (x : List ℕ) (i : Instr) → Spells x i → (i.len ≡ length x) × (0 < i.len)
spells_some x i s =
    let w = prefix_at s.parts s.parts.prefix s.fit.prefix in
    let len = (spells_read x [] i s).1 in
    let all : length x ≡ length (spelled s.parts) = ap (λ (y : List ℕ). length y) s.whole in
    (len, omega (arith, len, all, spelled_len s.parts w.0 w.1, header_some w.0 s.parts.row.escaped s.parts.opcode))

-- what is read has a byte, and no more than there are
pub reading_sized : (bytes : List ℕ) (i : Instr) → IsBytes bytes → reading bytes ≡ Ok i → (0 < i.len) × (i.len ≤ length bytes)
reading_sized bytes i fits h =
    let s = reading_spells bytes i fits h in ((spells_some (take i.len bytes) i s.1).1, s.0)

-- an instruction that a reading answers has a byte, and no more than there are
pub result_sized : (bytes : List ℕ) (x : Result Instr DecodeFault) → IsBytes bytes → x ≡ reading bytes
    → IfOk x (λ i. (0 < i.len) × (i.len ≤ length bytes))
result_sized bytes (Ok i) fits h = reading_sized bytes i fits (sym h)
result_sized bytes (Err d) fits h = tt
