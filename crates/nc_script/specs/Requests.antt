-- The requests that lines make, and the words that they consist of.
use Rattle.std.specs.Prelude.{ℕ, ◌+◌, ◌-◌, ◌*◌, Bool, ◌&&◌, List, [], ◌∷◌, Option, Some, None, if◌then◌else◌, codes, nat_le}
use Rattle.std.specs.Option.{option_map, option_and_then}
use Rattle.nc_lines.specs.Lines.{words_in, is_long}
use Rattle.nc_lines.specs.Words.{address_in, placed_in}
use Rattle.nc_script.specs.Queries.{is_word, query_in}
use Rattle.nc_script.specs.declared.query.Query as kind
use Rattle.nc_script.specs.declared.query.Query.TheVariants.{ChunkAt}

-- a request that a line of a script makes
pub data Request : Type 0 where
  Create : (at : ℕ) (bytes : List ℕ) → Request
  Modify : (at : ℕ) (bytes : List ℕ) → Request
  Delete : (base : ℕ) → Request
  CheckIn : (seat : ℕ) → Request
  Leave : (seat : ℕ) → Request
  Reclaim : Request
  Walk : (start : ℕ) (choices : List ℕ) → Request
  Query : (query : kind.Query) → Request

-- the addresses that these words denote, if each denotes one
abbrev pub addresses_in : List (List ℕ) → Option (List ℕ)
addresses_in [] = Some []
addresses_in (word ∷ words) = option_and_then (λ a. option_map (λ rest. a ∷ rest) (addresses_in words)) (address_in word)

-- the value of a decimal digit
abbrev pub digit_in : ℕ → Option ℕ
digit_in b = if nat_le 48 b && nat_le b 57 then Some (b - 48) else None

-- the value of decimal digits, from the value of all but the last one, and the last one
abbrev pub next_digit : Option ℕ → ℕ → Option ℕ
next_digit value b = option_and_then (λ high. option_map (λ low. 10 * high + low) (digit_in b)) value

-- the seat that a word denotes: one to three decimal digits
abbrev pub seat_in : List ℕ → Option ℕ
seat_in (a ∷ []) = digit_in a
seat_in (a ∷ b ∷ []) = next_digit (digit_in a) b
seat_in (a ∷ b ∷ c ∷ []) = next_digit (next_digit (digit_in a) b) c
seat_in _ = None

-- the request made by the words after `create`: an address and bytes
abbrev pub create_in : List (List ℕ) → Option Request
create_in words = option_map (λ placed. Create placed.0 placed.1) (placed_in words)

-- the request made by the words after `modify`: an address and bytes
abbrev pub modify_in : List (List ℕ) → Option Request
modify_in words = option_map (λ placed. Modify placed.0 placed.1) (placed_in words)

-- the request made by the words after `delete`: an address
abbrev pub delete_in : List (List ℕ) → Option Request
delete_in (base ∷ []) = option_map Delete (address_in base)
delete_in _ = None

-- the request made by the words after `checkin` or `leave`: a seat
abbrev pub of_seat_in : (ℕ → Request) → List (List ℕ) → Option Request
of_seat_in request (seat ∷ []) = option_map request (seat_in seat)
of_seat_in request _ = None

-- the request made by the words after `walk`: an address and any number of choices
abbrev pub walk_in : List (List ℕ) → Option Request
walk_in (start ∷ choices) = option_and_then (λ a. option_map (Walk a) (addresses_in choices)) (address_in start)
walk_in [] = None

-- the request made by the words after `chunk`: an address
abbrev pub chunk_at_in : List (List ℕ) → Option Request
chunk_at_in (at ∷ []) = option_map (λ a. Query (ChunkAt a)) (address_in at)
chunk_at_in _ = None

-- this request, if no words follow its own
abbrev pub single_in : Request → List (List ℕ) → Option Request
single_in request [] = Some request
single_in request (word ∷ words) = None

-- the request made by the word of a query, if no words follow it
abbrev pub single_query_in : List ℕ → List (List ℕ) → Option Request
single_query_in word words = option_and_then (λ query. single_in (Query query) words) (query_in word)

-- the request made by the words of a line, if they make one; `chunk` makes one only where queries are taken
abbrev pub request_of : (queries : Bool) → List (List ℕ) → Option Request
request_of queries [] = None
request_of queries (word ∷ words) =
    if is_word word (codes "create") then create_in words
    else if is_word word (codes "modify") then modify_in words
    else if is_word word (codes "delete") then delete_in words
    else if is_word word (codes "checkin") then of_seat_in CheckIn words
    else if is_word word (codes "leave") then of_seat_in Leave words
    else if is_word word (codes "reclaim") then single_in Reclaim words
    else if is_word word (codes "walk") then walk_in words
    else if queries && is_word word (codes "chunk") then chunk_at_in words
    else single_query_in word words

-- the request made by a line; a line that is too long or has no such form makes none, and is a bad line
abbrev pub request_in : (queries : Bool) → List ℕ → Option Request
request_in queries line = if is_long line then None else request_of queries (words_in line)
