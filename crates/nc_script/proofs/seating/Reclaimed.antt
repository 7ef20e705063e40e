-- The reply to a reclaim of a session is the script's.
use Rattle.std.proofs.Common.{◌≡◌, ◌≢◌, ℕ, ◌<◌, ◌≤◌, ◌^◌, min, List, length, map, get_or, Option, Some, None}
use Rattle.std.proofs.Common.{sym, ap, ◌∙◌}
use Rattle.std.proofs.Common.{subst, arith}
use Rattle.std.specs.Prelude.{Any}
use Rattle.std.proofs.lemmas.List.{get_or_default}
use Rattle.std.proofs.lemmas.List.Elements.{All-from_get_or}
use mathlib.Core.Logic.{dite}
use native.Mathlib.Decide.{ℕ_discrete}
use Rattle.nc_gens.specs.Rule.{left_word}
use Rattle.nc_gens.specs.Seen.{PassState, least_number}
use Rattle.nc_text.specs.Places.{limit_of}
use Rattle.nc_list.specs.declared.chunk.Chunk.{Chunk}
use Rattle.nc_region.specs.Region.{Region}
use Rattle.nc_region.specs.Deletion as region
use Rattle.nc_region.specs.Deletion.{IsReclaimed}
use Rattle.nc_script.specs.Requests.{Reclaim}
use Rattle.nc_script.specs.Script.{ScriptSeat, Staying, Left}
use Rattle.nc_script.specs.Reuse.{LetsFree, number_of, kept_by}
use Rattle.nc_output.specs.Verdicts.{with_line_end}
use Rattle.nc_script.specs.Replies.{freed_reply}
use Rattle.nc_script.specs.machinery.Session.{SeatsState, script_chunk, SeatFits, Follows}
use Rattle.nc_script.specs.machinery.Seats.{HasMetAt, HaveMet, IsOnlyKeeper}
use Rattle.nc_script.proofs.chunks.Fitting.{AreStamped}
use Rattle.nc_script.proofs.chunks.FreedChunks.{kept_chunks, freed_count, kept_stamped}
use Rattle.nc_gens.proofs.Offered.{least_below}
use Rattle.nc_script.proofs.seating.Reclaims.{least_is}

-- some member, by its index
any_at : {X : Type 0} (P : X → Type 0) (xs : List X) (k : ℕ) (e : X) → k < length xs → P (get_or xs k e) → Any P xs
any_at P xs k e l h = (k, get_or xs k e, l, get_or_default xs k (get_or xs k e) e l, h)

-- a seat's bound is at least its number and the number freed by before; its number isn't above the generation
fits_low : (generation freed : ℕ) (p : Option PassState) (b : ℕ) (s : ScriptSeat) → SeatFits generation freed p b s
    → (freed ≤ b) × (number_of s ≤ b) × (number_of s ≤ generation)
fits_low generation freed (Some p) b (Staying n) h = (omega (arith, h.1, h.3), omega (arith, h.1), h.2)
fits_low generation freed (Some p) b (Left n) h = absurd h
fits_low generation freed None b (Staying n) h = absurd h
fits_low generation freed None b (Left n) h = (h.2, h.0, h.1)

-- a seat that is there allows what its bound allows, since it met the keeper afterwards
met_allows : (generation freed a : ℕ) (p q : Option PassState) (b found after : ℕ) (s : ScriptSeat) → generation ≤ 2 ^ 62
    → SeatFits generation freed p b s → HasMetAt p found q after → (found ≢ left_word → a ≤ found) → LetsFree a s
met_allows generation freed a (Some p) (Some q) b found after (Staying n) small h m low =
    let up : found ≤ n = omega (arith, m.0, h.0) in
    let least = low (λ e. omega (arith, e, up, h.2, small)) in omega (arith, least, up)
met_allows generation freed a (Some p) None b found after (Staying n) small h m low = absurd m
met_allows generation freed a None q b found after (Staying n) small h m low = absurd h
met_allows generation freed a p q b found after (Left n) small h m low = tt

-- a seat that met the keeper fits the number freed by
met_fits : (generation freed a now : ℕ) (p q : Option PassState) (b found after : ℕ) (s : ScriptSeat) → now ≡ generation
    → SeatFits generation freed p b s → b ≤ found → HasMetAt p found q after → LetsFree a s → a ≤ found → SeatFits now a q after s
met_fits generation freed a now (Some p) (Some q) b found after (Staying n) same h up m allowed low =
    (m.2 ∙ h.0, m.1 ∙ h.0, omega (arith, h.2, same), allowed)
met_fits generation freed a now (Some p) None b found after (Staying n) same h up m allowed low = absurd m
met_fits generation freed a now None q b found after (Staying n) same h up m allowed low = absurd h
met_fits generation freed a now (Some p) q b found after (Left n) same h up m allowed low = absurd h
met_fits generation freed a now None (Some q) b found after (Left n) same h up m allowed low = absurd m
met_fits generation freed a now None None b found after (Left n) same h up m allowed low =
    (omega (arith, h.0, up, m), omega (arith, h.1, same), omega (arith, low, m))

-- a reclaim, after which each pass met the keeper
pub reclaimed_follows : (old mid new : Region) (before after : SeatsState) (count : ℕ) → IsReclaimed old mid count
    → HaveMet before.passes mid.keeper.numbers.bounds after.passes new.keeper.numbers.bounds → IsOnlyKeeper mid new
    → Follows Reclaim (record { region = old; seats = before }) (with_line_end (freed_reply count)) (record { region = new; seats = after })
reclaimed_follows old mid new before after count r met only seats freed fits =
    let generation = old.keeper.numbers.generation in
    let seen = mid.keeper.numbers.generation in
    let found = mid.keeper.numbers.bounds in
    let least = least_number mid.keeper.numbers in
    let a = min least seen in
    let text = old.marked.bytes in
    let seen_is : seen ≡ generation = r.looked.generation in
    let now_is : new.keeper.numbers.generation ≡ generation = only.generation ∙ seen_is in
    let long : length found ≡ length seats = r.looked.raised.0 ∙ fits.seats_fit.bounds_long in
    let each = λ (i : ℕ) (l : i < length seats).
    fits_low generation freed (get_or before.passes i None) (get_or old.keeper.numbers.bounds i 0) (get_or seats i (Left 0))
    (fits.seats_fit.each i l) in
    let up = λ (i : ℕ) (l : i < length seats). r.looked.raised.1 i (omega (arith, l, fits.seats_fit.bounds_long)) in
    let none_below : freed ≤ least =
    least_is (λ n. freed ≤ n) seen found (omega (arith, fits.current, seen_is))
    (All-from_get_or (λ n. freed ≤ n) found 0 (λ k l. let l' : k < length seats = omega (arith, l, long) in omega (
      arith,
      (each k l').0,
      up k l',
    ))) in
    let some_number : Any (λ seat. number_of seat ≤ min least seen) seats =
    least_is (λ n. Any (λ seat. number_of seat ≤ min n seen) seats) seen found
    (any_at (λ seat. number_of seat ≤ min seen seen) seats 0 (Left 0) fits.seats_fit.some
    (omega (arith, (each 0 fits.seats_fit.some).2, seen_is)))
    (All-from_get_or (λ n. Any (λ seat. number_of seat ≤ min n seen) seats) found 0
    (λ k l.
    let l' : k < length seats = omega (arith, l, long) in
    any_at (λ seat. number_of seat ≤ min (get_or found k 0) seen) seats k (Left 0) l'
    (omega (arith, (each k l').1, (each k l').2, up k l', seen_is)))) in
    let low = λ (i : ℕ) (l : i < length seats) (ne : get_or found i 0 ≢ left_word).
    let under = least_below seen found i (omega (arith, l, long)) ne in
    let all_under : a ≤ get_or found i 0 = omega (arith, under) in all_under in
    let allowed = λ (i : ℕ) (l : i < length seats).
    met_allows generation freed a (get_or before.passes i None) (get_or after.passes i None) (get_or old.keeper.numbers.bounds i 0)
    (get_or found i 0) (get_or new.keeper.numbers.bounds i 0) (get_or seats i (Left 0)) fits.in_range (fits.seats_fit.each i l)
    (met.each i (omega (arith, l, fits.seats_fit.passes_long))) (low i l) in
    let under = λ (i : ℕ) (l : i < length seats).
    dite (ℕ_discrete (get_or found i 0) left_word) (λ e. let small : a ≤ get_or found i 0 = omega
    (arith, e, seen_is, fits.in_range) in small) (low i l) in
    let bytes_are : new.marked.bytes ≡ text = ap (λ (x : Region). x.marked.bytes) only.others ∙ r.bytes in
    let chunks_are : new.chunks ≡ region.kept least old.chunks = ap (λ (x : Region). x.chunks) only.others ∙ r.chunks in
    let stamped = subst (λ (n : ℕ). AreStamped n old.chunks) (sym seen_is) fits.stamps in
    let shown : map (script_chunk new.marked.bytes) new.chunks ≡ kept_by a (map (script_chunk text) old.chunks) =
    ap (λ (bs : List ℕ). map (script_chunk bs) new.chunks) bytes_are
    ∙ (ap (λ (cs : List Chunk). map (script_chunk text) cs) chunks_are ∙ sym (kept_chunks text least seen old.chunks stamped)) in (
      seats,
      a,
      record {
        a = a;
        number = record {
          rises = omega (arith, none_below, fits.current, seen_is);
          least = some_number;
          current = omega (arith, seen_is);
          allowed = All-from_get_or (LetsFree a) seats (Left 0) allowed;
        };
        reply_is = ap (λ (n : ℕ). with_line_end (freed_reply n)) (r.count_is ∙ sym (freed_count text least seen old.chunks stamped));
        new_is = λ j. record { limit = limit_of (bytes_are j); chunks = shown j; generation = now_is j; seats = seats; freed = a };
      },
      record {
        in_range = omega (arith, now_is, fits.in_range);
        current = omega (arith, now_is, seen_is);
        stamps = subst (λ (cs : List Chunk). AreStamped new.keeper.numbers.generation cs) (sym chunks_are)
            (kept_stamped new.keeper.numbers.generation _ old.chunks (subst (λ (n : ℕ). AreStamped n old.chunks)
            (sym now_is) fits.stamps));
        seats_fit = record {
          some = fits.seats_fit.some;
          passes_long = met.passes_long ∙ fits.seats_fit.passes_long;
          bounds_long = met.bounds_long ∙ long;
          each = λ i l.
              met_fits generation freed a new.keeper.numbers.generation (get_or before.passes i None) (get_or after.passes i None)
              (get_or old.keeper.numbers.bounds i 0) (get_or found i 0) (get_or new.keeper.numbers.bounds i 0) (get_or seats i
              (Left 0)) now_is
              (fits.seats_fit.each i l) (up i l) (met.each i (omega (arith, l, fits.seats_fit.passes_long))) (allowed i l) (under i l);
        };
      },
    )
