-- What is a view, and which views a put leaves.
use Rattle.std.proofs.Common.{◌⊎◌, ◌≡◌, ◌≢◌, ℕ, ◌+◌, ◌-◌, ◌<◌, ◌≤◌, List, [], ◌∷◌, length, get_or, set, inl, inr, arith, refl, ◌∙◌, sym, subst}
use Rattle.std.proofs.lemmas.Bool.Decides.{eqb_tells}
use Rattle.std.proofs.lemmas.List.{length-set, get_or-set_same, get_or-set_other}
use Rattle.std.proofs.lemmas.Grind.{same_number_lists}
use Rattle.nc_text.specs.Places.{InRegion, byte_at}
use Rattle.nc_region.specs.schedules.Views.{WasSeen, IsView}
use Rattle.nc_region.specs.schedules.World.{World, IsViewOf}
use Rattle.nc_region.specs.schedules.Events.{Event, Steps, Enters, Exits, Takes, Sees, Stores, Leaves, Puts, Serializes, Marks, Bumps, Retires, Frees}
use Rattle.nc_region.specs.schedules.Events.{Looks, after}

-- the text as it stands is a view
pub as_it_stands : (text : List ℕ) (earlier : List (List ℕ)) → IsView text earlier text
as_it_stands text earlier = record { as_long = refl; seen = λ at inside. inl refl }

-- where nothing was put since the last serialization, the text as it stands is the only view
pub only_as_it_stands : (text view : List ℕ) → IsView text [] view → view ≡ text
only_as_it_stands text view v =
    same_number_lists view text v.as_long (λ k lt.
    let here : 65536 + k - 65536 ≡ k = omega arith in
    let same : byte_at view (65536 + k) ≡ byte_at text (65536 + k) = elim (v.seen (65536 + k) (omega arith, omega (arith, lt, v.as_long))) [
      | inl is ↦ sym is
      | inr none ↦ absurd none
    ] in
    subst (λ (n : ℕ). get_or view n 0 ≡ get_or text n 0) here same)

-- what was seen at another place than the one where a byte was put was seen before
seen_beside : (text : List ℕ) (earlier : List (List ℕ)) (at byte place seen : ℕ) → 65536 ≤ at → 65536 ≤ place → place ≢ at
    → WasSeen (set text (at - 65536) byte ∷ text ∷ earlier) place seen → WasSeen (text ∷ earlier) place seen
seen_beside text earlier at byte place seen low from other (inl now) =
    inl (sym (get_or-set_other text (at - 65536) (place - 65536) byte 0 (λ e. other (omega (arith, e, low, from)))) ∙ now)
seen_beside text earlier at byte place seen low from other (inr before) = before

-- what was seen where a byte was put is that byte, or was seen before
seen_here : (text : List ℕ) (earlier : List (List ℕ)) (at byte seen : ℕ) → InRegion text at → seen ≢ byte
    → WasSeen (set text (at - 65536) byte ∷ text ∷ earlier) at seen → WasSeen (text ∷ earlier) at seen
seen_here text earlier at byte seen inside other (inl now) =
    absurd (other (sym now ∙ get_or-set_same text (at - 65536) byte 0 (omega (arith, inside.0, inside.1))))
seen_here text earlier at byte seen inside other (inr before) = before

-- a view after a put that has another byte at the place of the put was one before
still_view : (text : List ℕ) (earlier : List (List ℕ)) (at byte : ℕ) (view : List ℕ) → InRegion text at
    → IsView (set text (at - 65536) byte) (text ∷ earlier) view → byte_at view at ≢ byte → IsView text earlier view
still_view text earlier at byte view inside v other =
    record {
      as_long = v.as_long ∙ length-set text (at - 65536) byte;
      seen = λ place within.
          let there = v.seen place (within.0, omega (arith, within.1, length-set text (at - 65536) byte)) in
          elim (eqb_tells place at) [
            | inl same ↦
                subst (λ (p : ℕ). WasSeen (text ∷ earlier) p (byte_at view p)) (sym same.1)
                (seen_here text earlier at byte (byte_at view at) inside other
                (subst (λ (p : ℕ). WasSeen (set text (at - 65536) byte ∷ text ∷ earlier) p (byte_at view p)) same.1 there))
            | inr apart ↦ seen_beside text earlier at byte place (byte_at view place) inside.0 within.0 apart.1 there
          ];
    }

-- a view after a put, with the byte that stood at the place of the put before, is a view as before
undone_view : (text : List ℕ) (earlier : List (List ℕ)) (at byte : ℕ) (view : List ℕ) → InRegion text at
    → IsView (set text (at - 65536) byte) (text ∷ earlier) view → IsView text earlier (set view (at - 65536) (byte_at text at))
undone_view text earlier at byte view inside v =
    let long = v.as_long ∙ length-set text (at - 65536) byte in
    record {
      as_long = length-set view (at - 65536) (byte_at text at) ∙ long;
      seen = λ place within.
          let there = v.seen place (within.0, omega (arith, within.1, length-set text (at - 65536) byte)) in
          elim (eqb_tells place at) [
            | inl same ↦
                subst (λ (p : ℕ). WasSeen (text ∷ earlier) p (byte_at (set view (at - 65536) (byte_at text at)) p)) (sym same.1)
                (inl (sym (get_or-set_same view (at - 65536) (byte_at text at) 0 (omega (arith, inside.0, inside.1, long)))))
            | inr apart ↦
                subst (λ (b : ℕ). WasSeen (text ∷ earlier) place b)
                (sym (get_or-set_other view (at - 65536) (place - 65536) (byte_at text at) 0
                (λ e. apart.1 (omega (arith, e, inside.0, within.0)))))
                (seen_beside text earlier at byte place (byte_at view place) inside.0 within.0 apart.1 there)
          ];
    }

-- a byte set back and then again is as it was
set_again : (view : List ℕ) (at other byte : ℕ) → 65536 ≤ at → at - 65536 < length view → byte_at view at ≡ byte
    → set (set view (at - 65536) other) (at - 65536) byte ≡ view
set_again view at other byte low inside is =
    let once = length-set view (at - 65536) other in
    let twice = length-set (set view (at - 65536) other) (at - 65536) byte in
    same_number_lists (set (set view (at - 65536) other) (at - 65536) byte) view (twice ∙ once) (λ k lt.
    elim (eqb_tells k (at - 65536)) [
      | inl same ↦
          subst (λ (n : ℕ). get_or (set (set view (at - 65536) other) (at - 65536) byte) n 0 ≡ get_or view n 0) (sym same.1)
          (get_or-set_same (set view (at - 65536) other) (at - 65536) byte 0 (omega (arith, once, inside)) ∙ sym is)
      | inr apart ↦
          get_or-set_other (set view (at - 65536) other) (at - 65536) k byte 0 apart.1
          ∙ get_or-set_other view (at - 65536) k other 0 apart.1
    ])

-- What holds of every view, and of every view with the byte that is put, holds of every view afterwards.
pub views_after_put : (P : List ℕ → Type 0) (text : List ℕ) (earlier : List (List ℕ)) (at byte : ℕ) → InRegion text at
    → ((view : List ℕ) → IsView text earlier view → P view)
    → ((view : List ℕ) → IsView text earlier view → P (set view (at - 65536) byte))
    → (view : List ℕ) → IsView (set text (at - 65536) byte) (text ∷ earlier) view → P view
views_after_put P text earlier at byte inside before put view v =
    let long = v.as_long ∙ length-set text (at - 65536) byte in
    elim (eqb_tells (byte_at view at) byte) [
      | inl same ↦
          subst P (set_again view at (byte_at text at) byte inside.0 (omega (arith, inside.0, inside.1, long)) same.1)
          (put (set view (at - 65536) (byte_at text at)) (undone_view text earlier at byte view inside v))
      | inr other ↦ before view (still_view text earlier at byte view inside v other.1)
    ]

-- what is a view where nothing is read any more that stood before was one while it might be
pub serialized_view : (text : List ℕ) (earlier : List (List ℕ)) (view : List ℕ) → IsView text [] view → IsView text earlier view
serialized_view text earlier view v =
    record { as_long = v.as_long; seen = λ at inside. elim (v.seen at inside) [ inl here ↦ inl here | inr none ↦ absurd none ] }

-- a byte that one of two views has at a place was seen there if those of both were
seen_in_either : (texts : List (List ℕ)) (at one other byte : ℕ) → WasSeen texts at one → WasSeen texts at other
    → (byte ≡ one) ⊎ (byte ≡ other) → WasSeen texts at byte
seen_in_either texts at one other byte a b (inl is) = subst (WasSeen texts at) (sym is) a
seen_in_either texts at one other byte a b (inr is) = subst (WasSeen texts at) (sym is) b

-- a mixture of two views is a view
pub mixed : (text : List ℕ) (earlier : List (List ℕ)) (one other view : List ℕ) → IsView text earlier one → IsView text earlier other
    → length view ≡ length text
    → ((at : ℕ) → InRegion text at → (byte_at view at ≡ byte_at one at) ⊎ (byte_at view at ≡ byte_at other at))
    → IsView text earlier view
mixed text earlier one other view a b long each =
    record {
      as_long = long;
      seen = λ at inside.
          seen_in_either (text ∷ earlier) at (byte_at one at) (byte_at other at) (byte_at view at) (a.seen at inside) (b.seen at inside)
          (each at inside);
    }

-- a view stays one while a byte is put
put_lasts : (text : List ℕ) (earlier : List (List ℕ)) (at byte : ℕ) (view : List ℕ) → IsView text earlier view
    → IsView (set text (at - 65536) byte) (text ∷ earlier) view
put_lasts text earlier at byte view v =
    let long = length-set text (at - 65536) byte in
    record {
      as_long = v.as_long ∙ sym long;
      seen = λ place inside. inr (v.seen place (inside.0, omega (arith, inside.1, long)));
    }

-- a view stays one through every event but a serialization
pub lasts : (w : World) (event : Event) (view : List ℕ) → event ≢ Serializes → IsViewOf w view → IsViewOf (after w event) view
lasts w (Steps k next) view ne v = v
lasts w (Enters k at) view ne v = v
lasts w (Exits k) view ne v = v
lasts w (Takes k) view ne v = v
lasts w (Sees k) view ne v = v
lasts w (Stores k) view ne v = v
lasts w (Leaves k) view ne v = v
lasts w (Puts at byte) view ne v = put_lasts w.marked.bytes w.earlier at byte view v
lasts w Serializes view ne v = absurd (ne refl)
lasts w (Marks at marks) view ne v = v
lasts w Bumps view ne v = v
lasts w (Retires base len) view ne v = v
lasts w (Frees span) view ne v = v
lasts w (Looks k) view ne v = v
