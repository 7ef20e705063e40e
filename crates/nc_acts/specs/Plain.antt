-- A text beside a keeper.
use Rattle.std.specs.Prelude.{Bool, List}
use Rattle.nc_text.specs.MarkedText.{MarkedText}
use Rattle.nc_gens.specs.Seen.{KeeperState}
use Rattle.nc_acts.specs.declared.acts.Entry.{Entry}

-- a `PlainOf` as contracts see it: bytes and marks, which pages are made, the keeper, and the entries logged so far
pub record PlainState : Type 0 where
  pub marked : MarkedText
  pub made : List Bool
  pub keeper : KeeperState
  pub entries : List Entry
