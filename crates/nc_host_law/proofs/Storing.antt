-- What changes a host's memory.
use Rattle.std.proofs.Common.{◌≡◌, ℕ, ◌-◌, ◌⊎◌, inl, inr, false, List, ◌∷◌, set, refl, ap}
use Rattle.nc_region.specs.schedules.World.{World}
use Rattle.nc_region.specs.schedules.Events.{Event, Steps, Enters, Exits, Takes, Sees, Stores, Leaves, Puts, Serializes, Marks, Bumps, Retires, Frees}
use Rattle.nc_region.specs.schedules.Events.{Looks, after}
use Rattle.nc_histories.specs.Interleaving.{is_writers}
use Rattle.nc_host_law.specs.Hosts.{Host, IsHostStep, Runs, Makes, Restarts, Calls, Asks}
use Rattle.nc_host_law.proofs.Interleaving.{thread_seats}

-- a thread's event changes no byte
thread_keeps : (w : World) (event : Event) → is_writers event ≡ false → (after w event).marked.bytes ≡ w.marked.bytes
thread_keeps w event is = ap (λ (x : World). x.marked.bytes) (thread_seats w event is)

-- the memory is as it was, or the next event that was pending was a store, which was made in it
abbrev pub Changed : List Event → List Event → World → World → Type 0
Changed pending rest old new =
    (new.marked.bytes ≡ old.marked.bytes)
    ⊎ ((at : ℕ) × (byte : ℕ) × (pending ≡ Puts at byte ∷ rest) × (new.marked.bytes ≡ set old.marked.bytes (at - 65536) byte))

-- the next pending event leaves the memory, or is a store and is made in it
due_changes : (w : World) (event : Event) (pending rest : List Event) → pending ≡ event ∷ rest → Changed pending rest w (after w event)
due_changes w (Puts at byte) pending rest is = inr (at, byte, is, refl)
due_changes w (Steps k next) pending rest is = inl refl
due_changes w (Enters k at) pending rest is = inl refl
due_changes w (Exits k) pending rest is = inl refl
due_changes w (Takes k) pending rest is = inl refl
due_changes w (Sees k) pending rest is = inl refl
due_changes w (Stores k) pending rest is = inl refl
due_changes w (Leaves k) pending rest is = inl refl
due_changes w Serializes pending rest is = inl refl
due_changes w (Marks at marks) pending rest is = inl refl
due_changes w Bumps pending rest is = inl refl
due_changes w (Retires base len) pending rest is = inl refl
due_changes w (Frees span) pending rest is = inl refl
due_changes w (Looks k) pending rest is = inl refl

-- a world that is this one
world_is : (old new : Host) (w : World) → new.world ≡ w → Changed old.pending new.pending old.world w → Changed old.pending new.pending old.world new.world
world_is old new w is changed = rw is changed

-- a step of a host leaves the memory, or makes in it the store that was pending next
pub stores : (seats : ℕ) (old new : Host) → IsHostStep seats old new → Changed old.pending new.pending old.world new.world
stores seats old new (Runs event is may same) =
    world_is old new (after old.world event) (ap (λ (h : Host). h.world) same) (inl (thread_keeps old.world event is))
stores seats old new (Makes event is same) =
    world_is old new (after old.world event) (ap (λ (h : Host). h.world) same) (due_changes old.world event old.pending new.pending is)
stores seats old new (Restarts by_host same) = world_is old new old.world (ap (λ (h : Host). h.world) same) (inl refl)
stores seats old new (Calls none call same) = world_is old new old.world (ap (λ (h : Host). h.world) same) (inl refl)
stores seats old new (Asks begun region same) = world_is old new old.world (ap (λ (h : Host). h.world) same) (inl refl)
