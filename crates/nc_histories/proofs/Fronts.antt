-- The first events of lists of events: of two that are joined, and of puts.
use Rattle.std.proofs.Common.{◌≡◌, ℕ, ◌+◌, ◌-◌, ◌<◌, ◌≤◌, ◌⊎◌, Bool, true, false, cond, List, [], ◌∷◌, ◌++◌, length, get_or, set, inl, inr, arith}
use Rattle.std.proofs.Common.{refl, ◌∙◌, sym, ap, subst, append-nil}
use Rattle.std.proofs.lemmas.List.{length-append, get_or_append_left}
use Rattle.nc_region.specs.schedules.World.{World}
use Rattle.nc_region.specs.schedules.Events.{Event, Puts}
use Rattle.nc_acts.specs.declared.acts.Act.TheVariants.{Put}
use Rattle.nc_acts.specs.Acts.{puts_where}
use Rattle.nc_histories.specs.Calls.{Details}
use Rattle.nc_histories.proofs.Entries.{events_of}
use Rattle.nc_histories.proofs.Putting.{MayLay}
use Rattle.nc_histories.proofs.StaysWhole.{PutsWhole}

-- two lists that are joined to the same one: the first ends within the other, or goes on behind it
pub split_joined : {X : Type 0} (p q xs ys : List X) → p ++ q ≡ xs ++ ys
    → ((r : List X) × (xs ≡ p ++ r) × (r ++ ys ≡ q)) ⊎ ((r : List X) × (p ≡ xs ++ r) × (r ++ q ≡ ys))
split_joined [] q xs ys is = inl (xs, refl, sym is)
split_joined (x ∷ p) q [] ys is = inr (x ∷ p, refl, is)
split_joined (x ∷ p) q (y ∷ xs) ys is =
    let first : x ≡ y = cc in
    let rest : p ++ q ≡ xs ++ ys = cc in
    elim (split_joined p q xs ys rest) [
      | inl f ↦ (let same : xs ≡ p ++ f.0 = f.1 in inl (f.0, cc, f.2))
      | inr f ↦ (let same : p ≡ xs ++ f.0 = f.1 in inr (f.0, cc, f.2))
    ]

-- the events are the puts of some of the first bytes at chosen places
pub record AreFirstPuts (d : Details) (chosen : ℕ → Bool) (at : ℕ) (bytes : List ℕ) (events : List Event) : Type 0 where
  pub some : List ℕ
  pub more : List ℕ
  pub parts : bytes ≡ some ++ more
  pub own : events ≡ events_of d (puts_where chosen at some)

-- all puts of some bytes
abbrev pub all_puts : (d : Details) (chosen : ℕ → Bool) (at : ℕ) (bytes : List ℕ)
    → AreFirstPuts d chosen at bytes (events_of d (puts_where chosen at bytes))
all_puts d chosen at bytes = record { some = bytes; more = []; parts = sym (append-nil bytes); own = refl }

-- the first puts from a place on are those of some bytes, if so they are from the next place on
first_put : (d : Details) (chosen : ℕ → Bool) (at byte : ℕ) (rest : List ℕ) (x : Event) (p q : List Event)
    → ((r : List Event) → r ++ q ≡ events_of d (puts_where chosen (at + 1) rest) → AreFirstPuts d chosen (at + 1) rest r)
    → (b : Bool) → chosen at ≡ b
    → x ∷ (p ++ q) ≡ events_of d (cond b (Put at byte ∷ puts_where chosen (at + 1) rest) (puts_where chosen (at + 1) rest))
    → AreFirstPuts d chosen at (byte ∷ rest) (x ∷ p)
first_put d chosen at byte rest x p q next true here same =
    let first : x ≡ Puts at byte = cc in
    let others : p ++ q ≡ events_of d (puts_where chosen (at + 1) rest) = cc in
    let f = next p others in
    record {
      some = byte ∷ f.some;
      more = f.more;
      parts = ap (λ (z : List ℕ). byte ∷ z) f.parts;
      own = ap (λ (e : Event). e ∷ p) first
          ∙ (ap (λ (z : List Event). Puts at byte ∷ z) f.own
          ∙ ap (λ (b : Bool). events_of d (cond b (Put at byte ∷ puts_where chosen (at + 1) f.some) (puts_where chosen (at + 1) f.some)))
          (sym here));
    }
first_put d chosen at byte rest x p q next false here same =
    let f = next (x ∷ p) same in
    record {
      some = byte ∷ f.some;
      more = f.more;
      parts = ap (λ (z : List ℕ). byte ∷ z) f.parts;
      own = f.own
          ∙ ap (λ (b : Bool). events_of d (cond b (Put at byte ∷ puts_where chosen (at + 1) f.some) (puts_where chosen (at + 1) f.some)))
          (sym here);
    }

-- the first of some puts at chosen places are those of some of the first bytes
pub first_puts : (d : Details) (chosen : ℕ → Bool) (at : ℕ) (bytes : List ℕ) (p q : List Event)
    → p ++ q ≡ events_of d (puts_where chosen at bytes) → AreFirstPuts d chosen at bytes p
first_puts d chosen at bytes [] q is = record { some = []; more = bytes; parts = refl; own = refl }
first_puts d chosen at [] (x ∷ p) q is = absurd (let bad : x ∷ (p ++ q) ≡ [] = is in cc)
first_puts d chosen at (byte ∷ rest) (x ∷ p) q is =
    first_put d chosen at byte rest x p q (λ r same. first_puts d chosen (at + 1) rest r q same) (chosen at) refl is

-- some of the first bytes are no more than all
pub no_more : (bytes some more : List ℕ) → bytes ≡ some ++ more → length some ≤ length bytes
no_more bytes some more parts = omega (arith, length-append some more, ap (λ (z : List ℕ). length z) parts)

-- an index of one of the first bytes is one of all
pub fewer : (bytes some more : List ℕ) → bytes ≡ some ++ more → (count : ℕ) → count < length some → count < length bytes
fewer bytes some more parts count lt = omega (arith, lt, length-append some more, ap (λ (z : List ℕ). length z) parts)

-- each of the first bytes is one of all
pub same_byte : (bytes some more : List ℕ) → bytes ≡ some ++ more → (count : ℕ) → count < length some
    → get_or bytes count 0 ≡ get_or some count 0
same_byte bytes some more parts count lt =
    ap (λ (z : List ℕ). get_or z count 0) parts ∙ get_or_append_left some more 0 count lt

-- some of the first bytes may be put where all may
pub may_lay_some : (w : World) (chosen : ℕ → Bool) (base : ℕ) (bytes some more : List ℕ) (V : List ℕ → Type 0) → bytes ≡ some ++ more
    → MayLay w chosen base bytes V → MayLay w chosen base some V
may_lay_some w chosen base bytes some more V parts may =
    record {
      low = may.low;
      good = may.good;
      put = λ view count lt chosen_there inside v.
          subst (λ (b : ℕ). V (set view (base + count - 65536) b)) (same_byte bytes some more parts count lt)
          (may.put view count (fewer bytes some more parts count lt) chosen_there inside v);
      whole = λ view text count lt chosen_there inside within v t.
          subst (λ (b : ℕ). PutsWhole w.marked.marks view text (base + count) b) (same_byte bytes some more parts count lt)
          (may.whole view text count (fewer bytes some more parts count lt) chosen_there inside within v t);
    }
