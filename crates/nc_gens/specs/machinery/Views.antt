-- The initial views, and the views that splits and joins make.
use Rattle.std.specs.Prelude.{ℕ, ◌+◌, true, false, []}
use Rattle.nc_gens.specs.declared.view.View.{View}
use Rattle.nc_gens.specs.Rule.{first_pass_numbers, first_keeper_numbers}

-- the keeper's view once it has given out the passes of the seats below i
abbrev pub giving_view : ℕ → ℕ → View
giving_view seats i = record {
  seats = seats;
  is_pass = false;
  seat = 0;
  pass = first_pass_numbers;
  pass_trail = [];
  is_keeper = true;
  keeper = first_keeper_numbers seats;
  keeper_trail = [];
  given = i;
}

-- the first view: no pass is given out yet
abbrev pub first_view : ℕ → View
first_view seats = giving_view seats 0

-- the keeper's view after it has given out the next pass
abbrev pub given_one_more : View → View
given_one_more v = record v { given = v.given + 1 }

-- the view of the pass that the keeper gives out next
abbrev pub new_pass_view : View → View
new_pass_view v = record v {
  is_pass = true;
  seat = v.given;
  pass = first_pass_numbers;
  pass_trail = [];
  is_keeper = false;
}

-- the view without its pass
abbrev pub without_pass : View → View
without_pass v = record v { is_pass = false }

-- the view without the keeper
abbrev pub without_keeper : View → View
without_keeper v = record v { is_keeper = false }

-- the view with the pass of the other view
abbrev pub with_pass_of : View → View → View
with_pass_of v other = record v { is_pass = other.is_pass; seat = other.seat; pass = other.pass; pass_trail = other.pass_trail }

-- the view with neither pass nor keeper
abbrev pub spent_view : View
spent_view = record (giving_view 0 0) { is_keeper = false }
