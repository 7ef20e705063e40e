-- Worlds with one seat, whose thread goes along a path.
use Rattle.std.proofs.Common.{◌≡◌, ℕ, ◌-◌, List, [], ◌∷◌, ◌++◌, length, map, Some, None, refl, ◌∙◌, sym, ap, subst}
use Rattle.std.proofs.lemmas.List.{length-replicate, length-set}
use Rattle.nc_text.specs.Machine.{State, state, Step, Joined}
use Rattle.nc_text.specs.MarkedText.{MarkedText, with_byte, with_marks}
use Rattle.nc_gens.specs.declared.view.KeeperNumbers.{KeeperNumbers}
use Rattle.nc_gens.specs.Rule.{first_keeper_numbers}
use Rattle.nc_region.specs.schedules.Spans.{RetiredSpan}
use Rattle.nc_region.specs.schedules.World.{World, Seat, first_seat, first_world, seat_at}
use Rattle.nc_region.specs.schedules.Events.{Event, Steps, Enters, Puts, Serializes, Marks, after, world_after}
use Rattle.nc_region.proofs.Offered.{as_it_stands}
use Rattle.nc_histories.specs.Interleaving.{writers, ThreadsMay}
use Rattle.nc_histories.specs.Example.{last_of}
use Rattle.nc_histories.proofs.lives.TextEvents.{AreOfText}

-- a world up to this limit, whose keeper has these numbers and whose one seat is in this state
pub record Stage (limit : ℕ) (keeper : KeeperNumbers) (seat : Seat) (w : World) : Type 0 where
  pub marked : MarkedText
  pub earlier : List (List ℕ)
  pub retired : List RetiredSpan
  pub is : w ≡ record { marked = marked; earlier = earlier; retired = retired; keeper = keeper; seats = seat ∷ [] }
  pub as_long : length marked.bytes ≡ limit - 65536

-- the first world, as a stage
pub first_stage : (limit : ℕ) → Stage limit (first_keeper_numbers 1) first_seat (first_world limit 1)
first_stage limit = record {
  marked = (first_world limit 1).marked;
  earlier = [];
  retired = [];
  is = refl;
  as_long = length-replicate (limit - 65536) 244;
}

-- events that change only the text
pub stage_of_text : (limit : ℕ) (keeper : KeeperNumbers) (seat : Seat) (w : World) (events : List Event) → AreOfText events
    → Stage limit keeper seat w → Stage limit keeper seat (world_after w events)
stage_of_text limit keeper seat w [] t s = s
stage_of_text limit keeper seat w (Puts at byte ∷ events) t s =
    stage_of_text limit keeper seat (after w (Puts at byte)) events t
    (record {
      marked = with_byte s.marked at byte;
      earlier = s.marked.bytes ∷ s.earlier;
      retired = s.retired;
      is = ap (λ (x : World). after x (Puts at byte)) s.is;
      as_long = length-set s.marked.bytes (at - 65536) byte ∙ s.as_long;
    })
stage_of_text limit keeper seat w (Serializes ∷ events) t s =
    stage_of_text limit keeper seat (after w Serializes) events t
    (record {
      marked = s.marked;
      earlier = [];
      retired = s.retired;
      is = ap (λ (x : World). after x Serializes) s.is;
      as_long = s.as_long;
    })
stage_of_text limit keeper seat w (Marks at marks ∷ events) t s =
    stage_of_text limit keeper seat (after w (Marks at marks)) events t
    (record {
      marked = with_marks s.marked at marks;
      earlier = s.earlier;
      retired = s.retired;
      is = ap (λ (x : World). after x (Marks at marks)) s.is;
      as_long = s.as_long;
    })
stage_of_text limit keeper seat w (event ∷ events) t s = absurd t

-- the seat while its thread is inside, in this state
abbrev pub seat_in : State → Seat
seat_in now = record first_seat { inside = Some now }

-- a stage after the thread has entered
pub stage_entered : (limit : ℕ) (keeper : KeeperNumbers) (at : ℕ) (w : World) → Stage limit keeper first_seat w
    → Stage limit keeper (seat_in (state at None)) (after w (Enters 0 at))
stage_entered limit keeper at w s = record {
  marked = s.marked;
  earlier = s.earlier;
  retired = s.retired;
  is = ap (λ (x : World). after x (Enters 0 at)) s.is;
  as_long = s.as_long;
}

-- ---- a thread that goes along a path

-- a stage after one step of the thread
stage_step : (limit : ℕ) (keeper : KeeperNumbers) (now next : State) (w : World) → Stage limit keeper (seat_in now) w
    → Stage limit keeper (seat_in next) (after w (Steps 0 next))
stage_step limit keeper now next w s = record {
  marked = s.marked;
  earlier = s.earlier;
  retired = s.retired;
  is = ap (λ (x : World). after x (Steps 0 next)) s.is;
  as_long = s.as_long;
}

-- a stage after all steps of the thread along a path
pub stage_gone : (limit : ℕ) (keeper : KeeperNumbers) (now : State) (w : World) (path : List State)
    → Stage limit keeper (seat_in now) w → Stage limit keeper (seat_in (last_of now path)) (world_after w (map (Steps 0) path))
stage_gone limit keeper now w [] s = s
stage_gone limit keeper now w (next ∷ rest) s =
    stage_gone limit keeper next (after w (Steps 0 next)) rest (stage_step limit keeper now next w s)

-- no step of the thread is the writer's
pub own_gone : (path : List State) (more : List Event) → writers (map (Steps 0) path ++ more) ≡ writers more
own_gone [] more = refl
own_gone (next ∷ rest) more = own_gone rest more

-- the thread may take the steps of a path where the text is the one that the path goes through
pub may_go : (limit : ℕ) (keeper : KeeperNumbers) (text : List ℕ) (now : State) (w : World) (path : List State) (more : List Event)
    → Stage limit keeper (seat_in now) w → w.marked.bytes ≡ text → Joined text now path
    → ThreadsMay (world_after w (map (Steps 0) path)) more → ThreadsMay w (map (Steps 0) path ++ more)
may_go limit keeper text now w [] more s same joined may = may
may_go limit keeper text now w (next ∷ rest) more s same joined may = (
  (λ e. (
    now,
    ap (λ (x : World). (seat_at x 0).inside) s.is,
    (w.marked.bytes, as_it_stands w.marked.bytes w.earlier, subst (λ (z : List ℕ). Step z now next) (sym same) joined.0),
  )),
  may_go limit keeper text next (after w (Steps 0 next)) rest more (stage_step limit keeper now next w s) same joined.1 may,
)
