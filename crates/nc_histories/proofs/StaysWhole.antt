-- What a view has at a marked place stood there whole: after a put, after a serialization, and after each event of a list.
use Rattle.std.proofs.Common.{◌≡◌, ℕ, ◌+◌, ◌-◌, ◌<◌, ◌⊎◌, List, [], ◌∷◌, ◌++◌, length, set, Some, inl, inr, arith, refl, ◌∙◌, sym, ap, subst}
use Rattle.std.specs.Prelude.{Contains}
use Rattle.std.proofs.lemmas.List.{length-set}
use Rattle.std.proofs.lemmas.List.Elements.{Contains-append_right}
use Rattle.nc_decode.specs.declared.instruction.Instr.{Instr}
use Rattle.nc_decode.specs.declared.instruction.Mark.{Mark}
use Rattle.nc_text.specs.Places.{InRegion, byte_at, instruction_at}
use Rattle.nc_text.specs.Machine.{State}
use Rattle.nc_text.specs.Marks.{IsMarked}
use Rattle.nc_text.proofs.Offered.{KeepsBytes, same_instruction}
use Rattle.nc_region.specs.schedules.Views.{IsView}
use Rattle.nc_region.specs.schedules.World.{World}
use Rattle.nc_region.specs.schedules.Events.{Event, after, world_after}
use Rattle.nc_region.proofs.Offered.{only_as_it_stands, views_after_put}
use Rattle.nc_histories.specs.Whole.{StoodWhole}

-- what views have at marked places stood there whole
abbrev pub AllStoodWhole : List Mark → List ℕ → List (List ℕ) → Type 0
AllStoodWhole marks text earlier = (now : State) → IsMarked marks now → StoodWhole text earlier now.place

-- where nothing was put since the last serialization, what views have at marked places stood there whole
pub whole_serialized : (marks : List Mark) (text : List ℕ) → AllStoodWhole marks text []
whole_serialized marks text = λ now m view i v is.
    let same : view ≡ text = only_as_it_stands text view v in (
      text,
      (0, omega arith, refl),
      subst (λ (z : List ℕ). instruction_at z now.place ≡ Some i) same is,
      λ k lt. ap (λ (z : List ℕ). byte_at z (now.place + k)) (sym same),
    )

-- An instruction that a view has at a marked place once a byte is put was there before, with the same bytes; or the byte is its
-- first one, and its bytes stand in the text now.
abbrev pub PutsWhole : List Mark → List ℕ → List ℕ → ℕ → ℕ → Type 0
PutsWhole marks view text at byte =
    (now : State) (i : Instr) → IsMarked marks now → instruction_at (set view (at - 65536) byte) now.place ≡ Some i
    → ((instruction_at view now.place ≡ Some i) × KeepsBytes view (set view (at - 65536) byte) now.place i.len)
    ⊎ ((now.place ≡ at) × KeepsBytes (set view (at - 65536) byte) (set text (at - 65536) byte) now.place i.len)

-- what views have at marked places has still stood there whole after a byte that puts instructions whole
pub whole_after_put : (marks : List Mark) (text : List ℕ) (earlier : List (List ℕ)) (at byte : ℕ) → InRegion text at
    → ((view : List ℕ) → IsView text earlier view → PutsWhole marks view text at byte)
    → AllStoodWhole marks text earlier → AllStoodWhole marks (set text (at - 65536) byte) (text ∷ earlier)
whole_after_put marks text earlier at byte inside puts whole = λ now m view i v is.
    views_after_put
    (λ view. (i : Instr) → instruction_at view now.place ≡ Some i
    → (one : List ℕ) × Contains (set text (at - 65536) byte ∷ text ∷ earlier) one × (instruction_at one now.place ≡ Some i)
    × ((k : ℕ) → k < i.len → byte_at one (now.place + k) ≡ byte_at view (now.place + k)))
    text earlier at byte inside
    (λ view v i is. let r = whole now m view i v is in (r.0, later r.0 r.1, r.2, r.3))
    (λ view v i is.
    elim (puts view v now i m is) [
      | inl kept ↦ (let r = whole now m view i v kept.0 in (r.0, later r.0 r.1, r.2, λ k lt. r.3 k lt ∙ sym (kept.1 k lt)))
      | inr here ↦
          let long : length (set text (at - 65536) byte) ≡ length (set view (at - 65536) byte) =
          length-set text (at - 65536) byte ∙ (sym v.as_long ∙ sym (length-set view (at - 65536) byte)) in
          let within : InRegion (set view (at - 65536) byte) now.place =
          (m.0, omega (arith, here.0, inside.1, v.as_long, length-set view (at - 65536) byte)) in (
            set text (at - 65536) byte,
            (0, omega arith, refl),
            same_instruction (set view (at - 65536) byte) (set text (at - 65536) byte) now.place i long within is here.1,
            here.1,
          )
    ])
    view v i is
  where
    later : (one : List ℕ) → Contains (text ∷ earlier) one → Contains (set text (at - 65536) byte ∷ text ∷ earlier) one
    later one has = Contains-append_right (set text (at - 65536) byte ∷ []) (text ∷ earlier) one has

-- ---- events

-- what views of the world have at marked places stood there whole
abbrev pub IsWholeIn : World → Type 0
IsWholeIn w = AllStoodWhole w.marked.marks w.marked.bytes w.earlier

-- what views have at marked places stood there whole before these events and after each of them
abbrev pub StaysWhole : World → List Event → Type 0
StaysWhole w [] = IsWholeIn w
StaysWhole w (event ∷ events) = IsWholeIn w × StaysWhole (after w event) events

-- events over which views stay whole begin in a world where they are
pub whole_first : (w : World) (events : List Event) → StaysWhole w events → IsWholeIn w
whole_first w [] whole = whole
whole_first w (event ∷ events) whole = whole.0

-- events over which views stay whole do so up to any of them
pub whole_front : (w : World) (events later : List Event) → StaysWhole w (events ++ later) → StaysWhole w events
whole_front w [] later whole = whole_first w later whole
whole_front w (event ∷ events) later whole = (whole.0, whole_front (after w event) events later whole.1)

-- events over which views stay whole leave them so after some of them
pub whole_between : (w : World) (events later : List Event) → StaysWhole w (events ++ later) → IsWholeIn (world_after w events)
whole_between w [] later whole = whole_first w later whole
whole_between w (event ∷ events) later whole = whole_between (after w event) events later whole.1

-- events over which views stay whole do so with later ones that do
pub whole_append : (w : World) (events later : List Event) → StaysWhole w events
    → (IsWholeIn (world_after w events) → StaysWhole (world_after w events) later) → StaysWhole w (events ++ later)
whole_append w [] later whole go = go whole
whole_append w (event ∷ events) later whole go = (whole.0, whole_append (after w event) events later whole.1 go)
