-- A chunk that is valid by one profile is valid by each larger one.
use Rattle.std.proofs.Common.{ℕ, ◌≤◌, List, arith}
use Rattle.nc_decode.specs.Bundles.{IsLimitUpTo}
use Rattle.nc_decode.specs.Profiles.{Profile, first_profile, profile}
use Rattle.nc_decode.proofs.Offered.{IsPartOf, first_is_part, spelled_by_more}
use Rattle.nc_vet.specs.Chunk.{Piece, AreSoundBy, MarkedChunk, IsValidBy}
use Rattle.nc_vet.specs.Laws.{KeepsValid}

-- a lawful limit stays one
limit_by_more : (most more limit : ℕ) → most ≤ more → IsLimitUpTo most limit → IsLimitUpTo more limit
limit_by_more most more limit le h = (h.0, h.1, omega (arith, le, h.2))

-- sound instructions stay sound
sound_by_more : (v w : Profile) (pieces : List Piece) → IsPartOf v w → AreSoundBy v pieces → AreSoundBy w pieces
sound_by_more v w pieces part s = record {
  spelled = λ before after p h. spelled_by_more v w p.bytes p.instr part (s.spelled before after p h);
  inside = s.inside;
  paired = s.paired;
}

-- a valid chunk stays valid
valid_by_more : (v w : Profile) (c : MarkedChunk) → IsPartOf v w → IsValidBy v c → IsValidBy w c
valid_by_more v w c part valid = record {
  base_is = valid.base_is;
  length_is = valid.length_is;
  range = (limit_by_more v.most_bundles w.most_bundles c.limit part.sizes valid.range.0, valid.range.1);
  pieces = valid.pieces;
  parts = valid.parts;
  sound = sound_by_more v w valid.pieces part valid.sound;
  targets = valid.targets;
  marks_are = valid.marks_are;
}

-- each chunk that was valid by the first profile is valid now
pub kept_valid : KeepsValid
kept_valid = λ c valid. valid_by_more first_profile profile c first_is_part valid
