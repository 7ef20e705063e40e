-- Which steps on the words of the table, the generation and a word for each seat, the events of a world are.
use Rattle.std.specs.Prelude.{List, [], ◌∷◌}
use Rattle.std.specs.List.{flat_map}
use Rattle.nc_gens.specs.declared.view.WordStep.{WordStep}
use Rattle.nc_gens.specs.declared.view.WordStep.TheVariants.{TookGeneration, SawGeneration, StoredSince, StoredLeft, AddedOne, TookWord}
use Rattle.nc_region.specs.schedules.Events.{Event, Takes, Sees, Stores, Leaves, Bumps, Retires, Looks}

-- the steps on the words that an event is: at most one
abbrev pub word_step : Event → List WordStep
word_step (Takes k) = TookGeneration k ∷ []
word_step (Sees k) = SawGeneration k ∷ []
word_step (Stores k) = StoredSince k ∷ []
word_step (Leaves k) = StoredLeft k ∷ []
word_step Bumps = AddedOne ∷ []
word_step (Retires base len) = AddedOne ∷ []
word_step (Looks k) = TookWord k ∷ []
word_step event = []

-- the steps on the words among these events, in their order
abbrev pub word_steps : List Event → List WordStep
word_steps events = flat_map word_step events
