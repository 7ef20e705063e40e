-- The rule of the words, and the effect of each step on the numbers. Word 0 is the generation, and word i + 1 is the word of seat i. Steps
-- on the words need a token, and each token has a view, which is its knowledge of the words.
use Rattle.std.specs.Prelude.{◌≡◌, ◌≢◌, ℕ, ◌+◌, ◌-◌, ◌^◌, ◌<◌, ◌≤◌, ◌⊎◌, true, List, length, replicate, slice_index, slice_set}
use mathlib.Core.Option.{some}
use lib.ListN.{get_elem?}
use Rattle.atomic_table.specs.Table.{State}
use Rattle.nc_gens.specs.declared.view.PassNumbers.{PassNumbers}
use Rattle.nc_gens.specs.declared.view.KeeperNumbers.{KeeperNumbers}
use Rattle.nc_gens.specs.declared.view.View.{View}

-- the word of a seat that has left: all bits one
abbrev pub left_word : ℕ
left_word = 2 ^ 64 - 1

-- the last generation
abbrev pub last_generation : ℕ
last_generation = 2 ^ 62

-- The effect of a step on the numbers of a pass, or of the keeper

-- the numbers of a pass after it has loaded generation `n` and taken it as its `since`
abbrev pub generation_taken : ℕ → PassNumbers → PassNumbers
generation_taken n p = record p { since = n; seen = n; loads = p.loads + 1 }

-- the numbers of a pass after it has loaded generation `n`, with its `since` unchanged
abbrev pub generation_seen : ℕ → PassNumbers → PassNumbers
generation_seen n p = record p { seen = n; loads = p.loads + 1 }

-- the numbers of a pass after it has stored its `since` in its own word
abbrev pub since_stored : PassNumbers → PassNumbers
since_stored p = record p { word = p.since }

-- the numbers of a pass after it has stored "left" in its own word
abbrev pub left_stored : PassNumbers → PassNumbers
left_stored p = record p { word = left_word }

-- the keeper's numbers after it has added one to the generation
abbrev pub generation_raised : KeeperNumbers → KeeperNumbers
generation_raised k = record k { generation = k.generation + 1 }

-- the keeper's numbers after it has loaded `n` from the word of seat `i` as its bound
abbrev pub word_taken : ℕ → ℕ → KeeperNumbers → KeeperNumbers
word_taken i n k = record k { bounds = slice_set k.bounds i n; looks = slice_set k.looks i (slice_index k.looks i + 1) }

-- the initial numbers of a pass, all 0
abbrev pub first_pass_numbers : PassNumbers
first_pass_numbers = record { word = 0; since = 0; seen = 0; loads = 0 }

-- the initial numbers of the keeper: the generation and the bound of each seat are 0
abbrev pub first_keeper_numbers : ℕ → KeeperNumbers
first_keeper_numbers seats = record { generation = 0; bounds = replicate seats 0; looks = replicate seats 0 }

-- The relation between a view and the words. `at` is the index of the view in the list of all views, and `owner` gives, for each word, the
-- index of the one view that may store it.

module _ (words : List ℕ) (owner : ℕ → ℕ) (at : ℕ) where
  -- the pass of a seat: it knows its own word, which is "left" or at most `since`; `since` is at most the generation
  pub record FitsPass (seat : ℕ) (p : PassNumbers) : Type 0 where
    pub inside : seat + 1 < length words
    pub owns : owner (seat + 1) ≡ at
    pub own_word : slice_index words (seat + 1) ≡ p.word
    pub published : p.word ≢ left_word → p.word ≤ p.since
    pub saw : p.since ≤ p.seen
    pub current : p.seen ≤ slice_index words 0

  -- the keeper, which has given out the passes of the seats below `given`: it knows the generation; each bound is at most the seat's word,
  -- and "left" only if the word is
  pub record FitsKeeper (given : ℕ) (k : KeeperNumbers) : Type 0 where
    pub owns : owner 0 ≡ at
    pub generation_is : slice_index words 0 ≡ k.generation
    pub wide : length words ≡ length k.bounds + 1
    pub below : (i : ℕ) → i < length k.bounds → slice_index k.bounds i ≤ slice_index words (i + 1)
    pub held_for_left : (i : ℕ) → i < length k.bounds → slice_index k.bounds i ≡ left_word → slice_index words (i + 1) ≡ left_word
    pub not_given : (i : ℕ) → given ≤ i → i < length k.bounds → (owner (i + 1) ≡ at) × (slice_index words (i + 1) ≡ 0)

  -- the words fit what a view knows: that of its pass if it has one, and that of the keeper if it is in this view
  pub record FitsView (v : View) : Type 0 where
    pub pass : v.is_pass ≡ true → FitsPass v.seat v.pass
    pub keeper : v.is_keeper ≡ true → FitsKeeper v.given v.keeper

-- the keeper is in this view
abbrev pub HasKeeper : View → Type 0
HasKeeper v = v.is_keeper ≡ true

-- the pass of seat i is in this view, or the keeper in this view hasn't given it out yet
abbrev pub HasSeat : ℕ → View → Type 0
HasSeat i v = ((v.is_pass ≡ true) × (v.seat ≡ i)) ⊎ ((v.is_keeper ≡ true) × (v.given ≤ i))

-- the list has a view at this index, and P holds for it
abbrev pub StandsAt : List View → ℕ → (View → Type 0) → Type 0
StandsAt views at P = (v : View) × (get_elem? views at ≡ some v) × P v

-- the rule: the generation is at most the last one, the keeper and each seat's pass are in some view, and each view fits
pub record Ruled (s : State (Unit {0}) View) : Type 0 where
  pub owner : ℕ → ℕ
  pub in_range : slice_index s.words 0 ≤ last_generation
  pub has_keeper : StandsAt s.views (owner 0) HasKeeper
  pub has_seat : (i : ℕ) → i + 1 < length s.words → StandsAt s.views (owner (i + 1)) (HasSeat i)
  pub each_view : (j : ℕ) (v : View) → get_elem? s.views j ≡ some v → FitsView s.words owner j v
