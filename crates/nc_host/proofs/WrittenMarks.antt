-- Marks, or places, written into the front of a buffer, one after the other.
use Rattle.std.proofs.Common.{◌≡◌, ℕ, ◌+◌, ◌<◌, List, [], ◌∷◌, ◌++◌, length, get_or, set, take, Some, ap, arith, sym, subst, ◌∙◌}
use Rattle.std.specs.Prelude.{map, slice_get}
use Rattle.std.proofs.lemmas.List.{length-map, map-append, length-take-le, take_more}
use Rattle.std.proofs.lemmas.Option.{get_or_from_slice_get}
use Rattle.nc_decode.specs.declared.instruction.Mark.{Mark}
use Rattle.nc_host_acts.specs.Shown.{over}
use Rattle.nc_base.proofs.Offered.{over_one_more}
use Rattle.nc_host.specs.Shown.{mark_number}

-- a mark written behind the first ones in a buffer is one more of them
pub write_mark : (marks : List Mark) (old now : List ℕ) (i : ℕ) (m : Mark) → slice_get marks i ≡ Some m → i < length marks
    → now ≡ over (map mark_number (take i marks)) old → i < length now
    → set now i (mark_number m) ≡ over (map mark_number (take (i + 1) marks)) old
write_mark marks old now i m here lt is fits =
    let xs : List ℕ = map mark_number (take i marks) in
    let long : length xs ≡ i = length-map (take i marks) mark_number ∙ length-take-le i marks (omega (arith, lt)) in
    let more : map mark_number (take (i + 1) marks) ≡ xs ++ mark_number m ∷ [] =
    ap (map mark_number) (take_more marks i m lt)
    ∙ (map-append mark_number (take i marks) (get_or marks i m ∷ [])
    ∙ ap (λ (z : Mark). xs ++ mark_number z ∷ []) (get_or_from_slice_get marks i m m here)) in
    ap (λ (z : List ℕ). set z i (mark_number m)) is
    ∙ (ap (λ (k : ℕ). set (over xs old) k (mark_number m)) (sym long)
    ∙ (over_one_more xs old (mark_number m) (subst (λ (z : List ℕ). length xs < length z) is (omega (arith, fits, long)))
    ∙ ap (λ (z : List ℕ). over z old) (sym more)))

-- a place written behind the first ones in a buffer is one more of them
pub write_place : (places old now : List ℕ) (i : ℕ) → i < length places → now ≡ over (take i places) old → i < length now
    → set now i (get_or places i 0) ≡ over (take (i + 1) places) old
write_place places old now i lt is fits =
    let xs : List ℕ = take i places in
    let long : length xs ≡ i = length-take-le i places (omega (arith, lt)) in
    ap (λ (z : List ℕ). set z i (get_or places i 0)) is
    ∙ (ap (λ (k : ℕ). set (over xs old) k (get_or places i 0)) (sym long)
    ∙ (over_one_more xs old (get_or places i 0) (subst (λ (z : List ℕ). length xs < length z) is (omega (arith, fits, long)))
    ∙ ap (λ (z : List ℕ). over z old) (sym (take_more places i 0 lt))))
