-- Entries, and the chunks for which they stand.
use Rattle.std.specs.Prelude.{◌≡◌, ℕ, Bool, true, false, nat_eq, if◌then◌else◌, refl}
use Rattle.std.proofs.Common.{sym, ap}
use Rattle.std.proofs.lemmas.Bool.{eqb-true}
use Rattle.nc_list.specs.declared.entry.Entry.TheInside.{Inside}
use Rattle.nc_list.specs.declared.chunk.Chunk.{Chunk}
use Rattle.nc_list.specs.declared.chunk.ChunkState.{ChunkState}
use Rattle.nc_list.specs.declared.chunk.ChunkState.TheVariants.{Live, Retired}

-- the state that a stamp stands for
abbrev pub state_of : ℕ → ChunkState
state_of stamp = if nat_eq stamp 18446744073709551615 then Live else Retired stamp

-- the stamp of a state
abbrev pub stamp_of : ChunkState → ℕ
stamp_of Live = 18446744073709551615
stamp_of (Retired stamp) = stamp

-- the chunk that an entry stands for
abbrev pub chunk_of : Inside → Chunk
chunk_of e = record { base = e.base; length = e.length; state = state_of e.stamp }

-- the entry of a chunk
abbrev pub inside_of : Chunk → Inside
inside_of c = record { base = c.base; length = c.length; stamp = stamp_of c.state }

-- the stamp comes back
stamp_back : (stamp : ℕ) {b : Bool} → nat_eq stamp 18446744073709551615 ≡ b → stamp_of (if b then Live else Retired stamp) ≡ stamp
stamp_back stamp {b = true} is = sym (eqb-true stamp 18446744073709551615 is)
stamp_back stamp {b = false} is = refl

-- an entry comes back from the chunk that it stands for
pub entry_back : (e : Inside) → inside_of (chunk_of e) ≡ e
entry_back e = ap (λ (s : ℕ). record { base = e.base; length = e.length; stamp = s }) (stamp_back e.stamp refl)
