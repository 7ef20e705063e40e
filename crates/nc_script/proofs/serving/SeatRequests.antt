-- The replies to a check-in, a leave and a reclaim of a session are the script's.
use Rattle.std.proofs.Common.{◌≡◌, ℕ, List, get_or, set, Option, Some, None, inl, inr, refl, sym, ap, ◌∙◌, subst}
use Rattle.std.proofs.Common.{arith}
use Rattle.std.specs.Prelude.{codes}
use Rattle.std.proofs.lemmas.List.{set-get_or}
use Rattle.nc_gens.specs.Seen.{PassState}
use Rattle.nc_region.specs.Region.{Region}
use Rattle.nc_script.specs.Serving.{IsNoSeat}
use Rattle.nc_script.specs.Requests.{Request, CheckIn, Leave}
use Rattle.nc_script.specs.Script.{ScriptSeat, Staying, Left}
use Rattle.nc_output.specs.Verdicts.{with_line_end, refused_words}
use Rattle.nc_script.specs.machinery.Session.{SeatsState, SessionState, script_of, SeatsFit, FitsSession, Follows}
use Rattle.nc_script.specs.machinery.Seats.{HasPass, HasNoPass, HasCheckedAt}
use Rattle.nc_script.proofs.chunks.Fitting.{AreStamped}
use Rattle.nc_script.proofs.seating.SeatStates.{seats_set, seat_there, seat_gone}

-- the reply to a check-in of a seat that is there is `ok`
pub checked_follows : (seat : ℕ) (old : SeatsState) (before : Region) (new : SeatsState) (after : Region)
    → HasCheckedAt seat old.passes before new.passes after
    → Follows (CheckIn seat) (record { region = before; seats = old }) (with_line_end (codes "ok")) (record { region = after; seats = new })
checked_follows seat old before new after h seats freed fits =
    let generation = before.keeper.numbers.generation in
    let (n, there, inside, here) = seat_there generation freed old.passes before.keeper.numbers.bounds seats seat h.pass fits.seats_fit
    h.there in
    let next = set seats seat (Staying generation) in
    let now = h.checked.generation in
    let bounds : after.keeper.numbers.bounds ≡ set before.keeper.numbers.bounds seat generation =
    h.checked.bounds ∙ ap (λ (k : ℕ). set before.keeper.numbers.bounds k generation) h.seated in
    let same_marked = ap (λ (r : Region). r.marked) h.others in
    let same_chunks = ap (λ (r : Region). r.chunks) h.others in (
      next,
      freed,
      inl (record {
        there = (n, there);
        reply_is = refl;
        new_is = ap (λ (r : Region). script_of r next freed) h.others
            ∙ ap (λ (g : ℕ). record (script_of before next freed) { generation = g }) now;
      }),
      record {
        in_range = omega (arith, now, fits.in_range);
        current = omega (arith, now, fits.current);
        stamps = subst (λ (g : ℕ). AreStamped g after.chunks) (sym now) (subst (AreStamped generation) (sym same_chunks) fits.stamps);
        seats_fit = subst (λ (g : ℕ). SeatsFit g freed new.passes after.keeper.numbers.bounds next) (sym now)
            (subst (λ (bs : List ℕ). SeatsFit generation freed new.passes bs next) (sym bounds)
            (subst (λ (ps : List (Option PassState)). SeatsFit generation freed ps (set before.keeper.numbers.bounds seat generation) next)
            (sym h.passes)
            (seats_set generation freed old.passes before.keeper.numbers.bounds seats seat (Some h.now) generation
            (Staying generation) inside
            (h.checked.word, refl, omega arith, fits.current) fits.seats_fit)));
      },
    )

-- the reply to a leave of a seat that is there is `ok`
pub left_follows : (seat : ℕ) (old : SeatsState) (region : Region) (new : SeatsState) (p : PassState) → HasPass old.passes seat p
    → new.passes ≡ set old.passes seat None
    → Follows (Leave seat) (record { region = region; seats = old }) (with_line_end (codes "ok")) (record { region = region; seats = new })
left_follows seat old region new p has gone seats freed fits =
    let generation = region.keeper.numbers.generation in
    let bounds = region.keeper.numbers.bounds in
    let (n, there, inside, here) = seat_there generation freed old.passes bounds seats seat p fits.seats_fit has in
    let next = set seats seat (Left n) in (
      next,
      freed,
      inl (record { number = n; there = there; reply_is = refl; new_is = refl }),
      record {
        in_range = fits.in_range;
        current = fits.current;
        stamps = fits.stamps;
        seats_fit = subst (λ (ps : List (Option PassState)). SeatsFit generation freed ps bounds next) (sym gone)
            (subst (λ (bs : List ℕ). SeatsFit generation freed (set old.passes seat None) bs next) (set-get_or bounds seat 0)
            (seats_set generation freed old.passes bounds seats seat None (get_or bounds seat 0) (Left n) inside
            (omega (arith, here.1), here.2, omega (arith, here.1, here.3)) fits.seats_fit));
      },
    )

-- a seat without a pass is one that the script doesn't have, or that has left
no_seat : (seat : ℕ) (state : SessionState) → HasNoPass state.seats.passes seat → (seats : List ScriptSeat) (freed : ℕ)
    → FitsSession state seats freed → IsNoSeat seat (script_of state.region seats freed) (with_line_end (refused_words (codes "NoSeat")))
    (script_of state.region seats freed)
no_seat seat state none seats freed fits = record {
  none = seat_gone state.region.keeper.numbers.generation freed state.seats.passes state.region.keeper.numbers.bounds seats seat
      fits.seats_fit none;
  reply_is = refl;
  same = refl;
}

-- a seat without a pass can't check in
pub no_seat_checks_in : (seat : ℕ) (state : SessionState) → HasNoPass state.seats.passes seat
    → Follows (CheckIn seat) state (with_line_end (refused_words (codes "NoSeat"))) state
no_seat_checks_in seat state none seats freed fits = (seats, freed, inr (no_seat seat state none seats freed fits), fits)

-- a seat without a pass can't leave
pub no_seat_leaves : (seat : ℕ) (state : SessionState) → HasNoPass state.seats.passes seat
    → Follows (Leave seat) state (with_line_end (refused_words (codes "NoSeat"))) state
no_seat_leaves seat state none seats freed fits = (seats, freed, inr (no_seat seat state none seats freed fits), fits)

-- two states of sessions are one
abbrev pub IsSame : SessionState → SessionState → Type 0
IsSame a b = a ≡ b

-- a session with the same parts
same_state : (before after : Region) (old new : SeatsState) → after ≡ before → new.table ≡ old.table → new.passes ≡ old.passes
    → IsSame (record { region = before; seats = old }) (record { region = after; seats = new })
same_state before after old new region table passes = λ j. record {
  region = sym region j;
  seats = record { table = sym table j; passes = sym passes j };
}

-- a reply that leaves a state as it is leads to each state with the same parts
pub follows_same : (request : Request) (before after : Region) (old new : SeatsState) (reply : List ℕ) → after ≡ before
    → new.table ≡ old.table → new.passes ≡ old.passes
    → Follows request (record { region = before; seats = old }) reply (record { region = before; seats = old })
    → Follows request (record { region = before; seats = old }) reply (record { region = after; seats = new })
follows_same request before after old new reply region table passes =
    subst (Follows request (record { region = before; seats = old }) reply) (same_state before after old new region table passes)
