-- The text of a script's replies: single spaces, decimal numbers, lower-case hexadecimal digits. Line ends are added elsewhere.
use Rattle.std.specs.Prelude.{ℕ, List, ◌∷◌, ◌++◌, Option, Some, None, codes}
use Rattle.std.specs.List.{flat_map}
use Rattle.std.specs.Fmt.{decimal}
use Rattle.hex.specs.Hex.{encode_lower}
use Rattle.nc_output.specs.Verdicts.{address_digits}
use Rattle.nc_region.specs.declared.trace.End.{End}
use Rattle.nc_region.specs.declared.trace.End.TheVariants.{Stop, Trampoline, Beyond, More}
use Rattle.nc_region.specs.declared.fault.ModifyFault.{ModifyFault}
use Rattle.nc_region.specs.declared.fault.ModifyFault.TheVariants as patch
use Rattle.nc_region.specs.declared.fault.ModifyFault.TheVariants.{BadSpan, NotLive, Boundaries, PairTouched}
use Rattle.nc_region.specs.declared.fault.DeleteFault.{DeleteFault}
use Rattle.nc_region.specs.declared.fault.DeleteFault.TheVariants.{NoChunk, GensFull}
use Rattle.nc_script.specs.Script.{ScriptChunkState, Live, Retired, ScriptChunk}

-- whether a chunk is live, with its bytes, or retired, with its length and stamp
abbrev pub state_words : ScriptChunkState → List ℕ
state_words (Live bytes) = codes " live " ++ encode_lower bytes
state_words (Retired length stamp) = codes " retired " ++ (decimal length ++ (32 ∷ decimal stamp))

-- a chunk of the list: a space, its base and its state
abbrev pub chunk_words : ScriptChunk → List ℕ
chunk_words chunk = 32 ∷ (address_digits chunk.base ++ state_words chunk.state)

-- every chunk of the list, in order
abbrev pub dump_reply : List ScriptChunk → List ℕ
dump_reply chunks = codes "dump" ++ flat_map chunk_words chunks

-- one chunk, as in the list; or `none`, if there is no chunk
abbrev pub chunk_reply : Option ScriptChunk → List ℕ
chunk_reply None = codes "none"
chunk_reply (Some chunk) = codes "chunk" ++ chunk_words chunk

-- the places of a walk, each after a space
abbrev pub places_words : List ℕ → List ℕ
places_words places = flat_map (λ place. 32 ∷ address_digits place) places

-- the name of the fault with which a patch is refused
abbrev pub patch_words : ModifyFault → List ℕ
patch_words BadSpan = codes "BadSpan"
patch_words NotLive = codes "NotLive"
patch_words patch.NotPermitted = codes "NotPermitted"
patch_words Boundaries = codes "Boundaries"
patch_words PairTouched = codes "PairTouched"
patch_words patch.BadTarget = codes "BadTarget"

-- the name of the fault with which a deletion is refused
abbrev pub deletion_words : DeleteFault → List ℕ
deletion_words NoChunk = codes "NoChunk"
deletion_words GensFull = codes "GensFull"

-- the stamp of a deleted chunk
abbrev pub stamp_reply : ℕ → List ℕ
stamp_reply stamp = codes "stamp " ++ decimal stamp

-- the number of chunks that were freed
abbrev pub freed_reply : ℕ → List ℕ
freed_reply count = codes "freed " ++ decimal count

-- the word for the end of a walk
abbrev pub end_word : End → List ℕ
end_word Stop = codes " stop"
end_word Trampoline = codes " trampoline"
end_word Beyond = codes " beyond"
end_word More = codes " more"

-- the places of a walk, and the word for its end
abbrev pub walk_reply : List ℕ → End → List ℕ
walk_reply places end = codes "walk" ++ (places_words places ++ end_word end)
