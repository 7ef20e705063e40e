-- The writer's events among those of the threads.
use Rattle.std.specs.Prelude.{◌≡◌, ⊤, Bool, true, false, List, [], ◌∷◌, filter}
use Rattle.nc_region.specs.schedules.World.{World}
use Rattle.nc_region.specs.schedules.Events.{Event, Puts, Serializes, Marks, Bumps, Retires, Frees, Looks, ThreadMay, after}

-- the event is the writer's, not a thread's
abbrev pub is_writers : Event → Bool
is_writers (Puts at byte) = true
is_writers Serializes = true
is_writers (Marks at marks) = true
is_writers Bumps = true
is_writers (Retires base len) = true
is_writers (Frees span) = true
is_writers (Looks k) = true
is_writers _ = false

-- the writer's events among these, in the same order
abbrev pub writers : List Event → List Event
writers events = filter is_writers events

-- an event of the keeper that affects no text and no chunk: the generation is raised for no span, or a seat's word is
-- looked at
abbrev pub IsKeepers : Event → Type 0
IsKeepers Bumps = ⊤
IsKeepers (Looks k) = ⊤
IsKeepers event = ⊥

-- the event isn't a look at a seat's word
abbrev pub IsNoLook : Event → Type 0
IsNoLook (Looks k) = ⊥
IsNoLook event = ⊤

-- Each event of a thread is one that `ThreadMay` of nc_region allows where it happens. Nothing is required of the writer's
-- events.
abbrev pub ThreadsMay : World → List Event → Type 0
ThreadsMay w [] = ⊤
ThreadsMay w (event ∷ events) = (is_writers event ≡ false → ThreadMay w event) × ThreadsMay (after w event) events
