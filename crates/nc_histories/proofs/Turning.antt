-- What the events of a patch keep, if puts and serializations keep it.
use Rattle.std.proofs.Common.{ℕ, ◌+◌, Bool, true, false, cond, List, [], ◌∷◌, ◌++◌, length, sym, subst, append_assoc}
use Rattle.nc_vet.specs.Chunk.{Piece}
use Rattle.nc_region.specs.schedules.Events.{Event, Puts, Serializes}
use Rattle.nc_acts.specs.declared.acts.Act.TheVariants.{Put}
use Rattle.nc_acts.specs.Acts.{puts_where}
use Rattle.nc_region.specs.Patch.{any_place, stands_there}
use Rattle.nc_histories.specs.Calls.{Details, no_details}
use Rattle.nc_histories.proofs.Entries.{events_of, instruction_events, events_of_instructions}

module _ (P : List Event → Type 0) (put : (at byte : ℕ) (more : List Event) → P more → P (Puts at byte ∷ more))
    (serialized : (more : List Event) → P more → P (Serializes ∷ more)) where
  -- puts before other events keep P
  pub puts_keep : (d : Details) (chosen : ℕ → Bool) (at : ℕ) (bytes : List ℕ) (more : List Event) → P more
      → P (events_of d (puts_where chosen at bytes) ++ more)
  puts_keep d chosen at [] more p = p
  puts_keep d chosen at (byte ∷ rest) more p = go (chosen at) (puts_keep d chosen (at + 1) rest more p)
    where
      go : (b : Bool) → P (events_of d (puts_where chosen (at + 1) rest) ++ more)
          → P (events_of d (cond b (Put at byte ∷ puts_where chosen (at + 1) rest) (puts_where chosen (at + 1) rest)) ++ more)
      go true q = put at byte (events_of d (puts_where chosen (at + 1) rest) ++ more) q
      go false q = q

  -- an instruction of a patch, before other events, keeps P
  instruction_keeps : (at : ℕ) (bytes : List ℕ) (more : List Event) → P more → P (instruction_events at bytes ++ more)
  instruction_keeps at [] more p = p
  instruction_keeps at (byte ∷ []) more p = put at byte more p
  instruction_keeps at (byte ∷ next ∷ rest) more p =
      let events : List Event = events_of no_details (puts_where any_place (at + 1) (next ∷ rest)) in
      put at 244 (Serializes ∷ ((events ++ (Serializes ∷ Puts at byte ∷ [])) ++ more)) (serialized ((events ++ (Serializes ∷ Puts at byte ∷ [])) ++ more)
      (subst P (sym (append_assoc events (Serializes ∷ Puts at byte ∷ []) more))
      (puts_keep no_details any_place (at + 1) (next ∷ rest) (Serializes ∷ Puts at byte ∷ more)
      (serialized (Puts at byte ∷ more) (put at byte more p)))))

  -- an instruction of a patch, put or left as it stands, keeps P before other events
  turn_keeps : (b : Bool) (at : ℕ) (bytes : List ℕ) (more : List Event) → P more → P (cond b [] (instruction_events at bytes) ++ more)
  turn_keeps true at bytes more p = p
  turn_keeps false at bytes more p = instruction_keeps at bytes more p

  -- all instructions of a patch keep P
  pub patch_keeps : P [] → (text : List ℕ) (at : ℕ) (news : List Piece) → P (events_of_instructions text at news)
  patch_keeps none text at [] = none
  patch_keeps none text at (n ∷ ns) =
      turn_keeps (stands_there text at n.bytes) at n.bytes (events_of_instructions text (at + length n.bytes) ns)
      (patch_keeps none text (at + length n.bytes) ns)
