-- Walks through a text: the states through which a list of choices leads, and how the walk ends.
use Rattle.std.specs.Prelude.{◌≡◌, ℕ, ◌-◌, ◌%◌, ◌<◌, ◌≤◌, ◌==◌, ⊤, List, [], ◌∷◌, map, Some, None, IsTrue, IsSomeAnd, if◌then◌else◌}
use Rattle.nc_decode.specs.declared.instruction.Instr.{Instr}
use Rattle.nc_decode.specs.declared.instruction.Flow.{Flow}
use Rattle.nc_decode.specs.declared.instruction.Flow.TheVariants.{Branch, IndirectJump, IndirectCall}
use Rattle.nc_decode.specs.declared.instruction.Flow.TheVariants as flow
use Rattle.nc_decode.specs.Bundles.{IsBundleStart}
use Rattle.nc_decode.specs.Transfers.{is_indirect, behind, target}
use Rattle.nc_text.specs.Places.{InRegion, limit_of, instruction_at}
use Rattle.nc_text.specs.Machine.{State, state, Step, AllSafe}
use Rattle.nc_region.specs.declared.fault.WalkFault.{WalkFault}
use Rattle.nc_region.specs.declared.fault.WalkFault.TheVariants.{NotBundle, OutOfMemory}
use Rattle.nc_region.specs.declared.trace.End.{End}
use Rattle.nc_region.specs.declared.trace.End.TheVariants.{Stop, Trampoline, Beyond, More}

-- the bundle start that a choice names: the choice with its low five bits cleared
abbrev pub bundle_of : ℕ → ℕ
bundle_of choice = choice - choice % 32

-- The choice picks this step of the instruction: at a branch 0 falls through and any other choice goes to the target; an
-- indirect transfer goes to the bundle start that the choice names. Any other instruction has at most one step.
abbrev pub Picks : Flow → Instr → State → ℕ → State → Type 0
Picks Branch i now choice next = next ≡ state (if choice == 0 then behind i now.place else target i now.place) None
Picks IndirectJump i now choice next = next ≡ state (bundle_of choice) None
Picks IndirectCall i now choice next = next ≡ state (bundle_of choice) None
Picks _ i now choice next = ⊤

-- one step of the machine, picked by a choice
pub record Moves (text : List ℕ) (now : State) (choice : ℕ) (next : State) : Type 0 where
  pub instr : Instr
  pub is : instruction_at text now.place ≡ Some instr
  pub step : Step text now next
  pub picked : Picks instr.flow instr now choice next

-- the state is at an instruction of the region that goes nowhere
abbrev pub StopsAt : List ℕ → State → Type 0
StopsAt text now = InRegion text now.place × IsSomeAnd (instruction_at text now.place) (λ i. i.flow ≡ flow.Stop)

-- the state is neither in the trampoline zone nor at an instruction that goes nowhere
abbrev pub GoesOn : List ℕ → State → Type 0
GoesOn text now = (0x10000 ≤ now.place) × ¬ StopsAt text now

-- the choice takes an indirect transfer to the limit or above it
abbrev pub LeavesBy : List ℕ → State → ℕ → Type 0
LeavesBy text now choice = IsSomeAnd (instruction_at text now.place) (λ i. IsTrue (is_indirect i.flow))
    × (limit_of text ≤ bundle_of choice)

-- How a walk ends in a state with these choices left: in the trampoline zone, at an instruction that goes nowhere, for
-- lack of a choice, or by an indirect transfer to the limit or above it; the first of these that applies.
abbrev pub EndsBy : List ℕ → State → List ℕ → End → Type 0
EndsBy text now choices Trampoline = now.place < 0x10000
EndsBy text now choices Stop = StopsAt text now
EndsBy text now choices More = GoesOn text now × (choices ≡ [])
EndsBy text now [] Beyond = ⊥
EndsBy text now (choice ∷ choices) Beyond = GoesOn text now × LeavesBy text now choice

-- from a state, these choices lead through these states to this end
abbrev pub Walks : List ℕ → State → List ℕ → List State → End → Type 0
Walks text now choices [] end = EndsBy text now choices end
Walks text now [] (next ∷ rest) end = ⊥
Walks text now (choice ∷ choices) (next ∷ rest) end = GoesOn text now × Moves text now choice next × Walks text next choices rest end

-- The trace of a walk from a place with nothing masked: the places of its states, and its end. At a branch the choice 0
-- falls through and any other goes to the target; an indirect transfer goes to the bundle start that the choice names. The
-- end is the first that applies: in the zone, at an instruction that goes nowhere, no choice left, or a transfer to the
-- limit or above.
pub record IsTrace (text : List ℕ) (start : ℕ) (choices places : List ℕ) (end : End) : Type 0 where
  pub states : List State
  pub walks : Walks text (state start None) choices states end
  pub places_are : places ≡ start ∷ map (λ (s : State). s.place) states

-- these choices have no other trace
abbrev pub IsOnlyTrace : List ℕ → ℕ → List ℕ → List ℕ → End → Type 0
IsOnlyTrace text start choices places end =
    (others : List ℕ) (last : End) → IsTrace text start choices others last → (others ≡ places) × (last ≡ end)

-- on every walk by these choices to this end, each state is safe
abbrev pub IsSafeWalk : List ℕ → ℕ → List ℕ → End → Type 0
IsSafeWalk text start choices end =
    (states : List State) → Walks text (state start None) choices states end → AllSafe text (state start None ∷ states)

-- a walk may begin at this place: it is a bundle start of the region
abbrev pub IsWalkStart : List ℕ → ℕ → Type 0
IsWalkStart text start = InRegion text start × IsBundleStart start

-- when `walk` may return each fault: `NotBundle` if no walk may begin at this place, `OutOfMemory` only if one may
abbrev pub MayRefuseWalk : List ℕ → ℕ → WalkFault → Type 0
MayRefuseWalk text start NotBundle = ¬ IsWalkStart text start
MayRefuseWalk text start OutOfMemory = IsWalkStart text start
