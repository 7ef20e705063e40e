-- Refused calls, which leave the region as it was but for pages, and the world as it was but for its seats.
use Rattle.std.proofs.Common.{◌≡◌, Bool, List, [], ◌∷◌, refl, ◌∙◌, sym, ap}
use Rattle.nc_vet.specs.Chunk.{MarkedChunk}
use Rattle.nc_region.specs.declared.fault.CreateFault.{CreateFault}
use Rattle.nc_region.specs.declared.fault.CreateFault.TheVariants.{WrongLimit, Occupied, OutOfMemory}
use Rattle.nc_region.specs.schedules.World.{World}
use Rattle.nc_region.specs.schedules.Events.{Event, Steps, Enters, Exits, Takes, Sees, Stores, Leaves, Puts, Serializes, Marks, Bumps, Retires, Frees}
use Rattle.nc_region.specs.schedules.Events.{Looks, after, world_after}
use Rattle.nc_region.specs.Region.{Region, IsRefused}
use Rattle.nc_histories.specs.Interleaving.{writers}
use Rattle.nc_histories.specs.Histories.{IsRefusal, OfRefusedCreation, OfRefusedPatch, OfRefusedDeletion, Turn}

-- an equal region is the same but for pages
pub same_but_pages : (old new : Region) → new ≡ old → new ≡ record old { made = new.made }
same_but_pages old new same = same ∙ ap (λ (z : List Bool). record old { made = z }) (sym (ap (λ (r : Region). r.made) same))

-- a refused creation leaves the region as it was but for pages
pub refused_same : (old new : Region) (v : MarkedChunk) (fault : CreateFault) → IsRefused old new v fault
    → new ≡ record old { made = new.made }
refused_same old new v WrongLimit same = same_but_pages old new same
refused_same old new v Occupied same = same_but_pages old new same
refused_same old new v OutOfMemory pages = pages.0

-- a refused call leaves the region as it was but for pages
pub refusal_same : (old new : Region) (own : List Event) → IsRefusal old new own → new ≡ record old { made = new.made }
refusal_same old new own (OfRefusedCreation v fault due is none) = refused_same old new v fault is
refusal_same old new own (OfRefusedPatch at bytes fault due same none) = same_but_pages old new same
refusal_same old new own (OfRefusedDeletion base fault due same none) = same_but_pages old new same

-- a refused call has no event
pub refusal_silent : (old new : Region) (own : List Event) → IsRefusal old new own → own ≡ []
refusal_silent old new own (OfRefusedCreation v fault due is none) = none
refusal_silent old new own (OfRefusedPatch at bytes fault due same none) = none
refusal_silent old new own (OfRefusedDeletion base fault due same none) = none

-- threads by themselves change nothing of a world but its seats
pub only_seats : (w : World) (events : List Event) → writers events ≡ []
    → world_after w events ≡ record w { seats = (world_after w events).seats }
only_seats w [] own = refl
only_seats w (Steps k next ∷ events) own = only_seats (after w (Steps k next)) events own
only_seats w (Enters k at ∷ events) own = only_seats (after w (Enters k at)) events own
only_seats w (Exits k ∷ events) own = only_seats (after w (Exits k)) events own
only_seats w (Takes k ∷ events) own = only_seats (after w (Takes k)) events own
only_seats w (Sees k ∷ events) own = only_seats (after w (Sees k)) events own
only_seats w (Stores k ∷ events) own = only_seats (after w (Stores k)) events own
only_seats w (Leaves k ∷ events) own = only_seats (after w (Leaves k)) events own
only_seats w (Puts at byte ∷ events) own = absurd (let no : Puts at byte ∷ writers events ≡ [] = own in cc)
only_seats w (Serializes ∷ events) own = absurd (let no : Serializes ∷ writers events ≡ [] = own in cc)
only_seats w (Marks at marks ∷ events) own = absurd (let no : Marks at marks ∷ writers events ≡ [] = own in cc)
only_seats w (Bumps ∷ events) own = absurd (let no : Bumps ∷ writers events ≡ [] = own in cc)
only_seats w (Retires base len ∷ events) own = absurd (let no : Retires base len ∷ writers events ≡ [] = own in cc)
only_seats w (Frees span ∷ events) own = absurd (let no : Frees span ∷ writers events ≡ [] = own in cc)
only_seats w (Looks k ∷ events) own = absurd (let no : Looks k ∷ writers events ≡ [] = own in cc)

-- a turn whose call was refused
pub refused_turn : (w : World) (old : Region) (turn : Turn) → IsRefusal old turn.region (writers turn.events)
    → (writers turn.events ≡ []) × (turn.region ≡ record old { made = turn.region.made })
    × (world_after w turn.events ≡ record w { seats = (world_after w turn.events).seats })
refused_turn w old turn is =
    let none = refusal_silent old turn.region (writers turn.events) is in (
      none,
      refusal_same old turn.region (writers turn.events) is,
      only_seats w turn.events none,
    )
