-- The parameters that may change between versions, as a value: the permitted instructions and the largest region.
use Rattle.std.specs.Prelude.{ℕ, List}
use Rattle.nc_decode.specs.declared.bundles.TheConstants.{MAX_BUNDLES}
use Rattle.nc_decode.specs.Rows.{Row, PrefixRow, rows, prefix_rows, first_rows, first_prefix_rows}

-- the parameters that may change between versions: the opcode table, the prefix table, and the most bundles of a region
pub record Profile : Type 0 where
  pub rows : List Row
  pub prefix_rows : List PrefixRow
  pub most_bundles : ℕ

-- the first profile, which never changes
abbrev pub first_profile : Profile
first_profile = record { rows = first_rows; prefix_rows = first_prefix_rows; most_bundles = 524288 }

-- the current profile
abbrev pub profile : Profile
profile = record { rows = rows; prefix_rows = prefix_rows; most_bundles = MAX_BUNDLES }
