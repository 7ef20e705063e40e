-- The requests that the words of a text make, read of the text.
use Rattle.std.proofs.Common.{◌≡◌, ◌≢◌, ◌++◌, ◌+◌, ◌<◌, ◌≤◌, ◌==◌, ◌&&◌, ℕ, zero, suc, Bool, true, false, List, [], ◌∷◌, Option, Some, None, length, take, drop}
use Rattle.std.proofs.Common.{slice_index, refl, sym, ap, ◌∙◌, subst, append_assoc, arith}
use Rattle.std.proofs.lemmas.List.{drop_more, take_all, take-append-drop}
use Rattle.std.proofs.lemmas.List.Elements.{All-nil, All-cons}
use Rattle.std.proofs.lemmas.List.Splits.{slice_split_at, slice_split_none}
use Rattle.std.specs.Prelude.{codes, if◌then◌else◌}
use Rattle.std.specs.List.{All}
use Rattle.std.specs.Option.{option_map, option_and_then}
use Rattle.nc_output.proofs.Offered.{eqb_no}
use Rattle.nc_lines.specs.Lines.{line_limit, words_in}
use Rattle.nc_lines.specs.Words.{address_in, first_address_in}
use Rattle.nc_lines.proofs.Offered.{words_some, of_one, of_one-text, address_in-spaced}
use Rattle.nc_script.specs.Queries.{is_word, query_in}
use Rattle.nc_script.specs.Requests.{Request, Delete, Reclaim, Walk, Query, addresses_in, delete_in, chunk_at_in, digit_in, next_digit, of_seat_in}
use Rattle.nc_script.specs.Requests.{request_in, request_of, seat_in, single_in, walk_in}
use Rattle.nc_script.specs.declared.query.Query.TheVariants.{ChunkAt}

-- ---- one word

one_delete : (words : List (List ℕ)) → delete_in words ≡ of_one (λ word. option_map Delete (address_in word)) words
one_delete [] = refl
one_delete (word ∷ []) = refl
one_delete (word ∷ next ∷ words) = refl

-- the request of a text after `delete`
pub delete_text : (text : List ℕ) → delete_in (words_in text) ≡ option_map Delete (address_in text)
delete_text text =
    one_delete (words_in text)
    ∙ of_one-text (λ word. option_map Delete (address_in word)) text (λ front back. ap (option_map Delete) (address_in-spaced front back))

-- a query of the chunk at an address
abbrev query_at : ℕ → Request
query_at at = Query (ChunkAt at)

one_chunk : (words : List (List ℕ)) → chunk_at_in words ≡ of_one (λ word. option_map query_at (address_in word)) words
one_chunk [] = refl
one_chunk (word ∷ []) = refl
one_chunk (word ∷ next ∷ words) = refl

-- the request of a text after `chunk`
pub chunk_text : (text : List ℕ) → chunk_at_in (words_in text) ≡ option_map (λ (at : ℕ). Query (ChunkAt at)) (address_in text)
chunk_text text =
    one_chunk (words_in text)
    ∙ of_one-text (λ word. option_map query_at (address_in word)) text (λ front back. ap (option_map query_at) (address_in-spaced front back))

-- a step that gives nothing, after whatever comes before it
nothing_after : {A B : Type 0} (o : Option A) (step : A → Option B) → ((a : A) → step a ≡ None) → option_and_then step o ≡ None
nothing_after None step h = refl
nothing_after (Some a) step h = h a

-- no seat is read of a text with a space
seat_in-spaced : (front back : List ℕ) → seat_in (front ++ 32 ∷ back) ≡ None
seat_in-spaced [] [] = refl
seat_in-spaced [] (b ∷ []) = refl
seat_in-spaced [] (b ∷ c ∷ []) = refl
seat_in-spaced [] (b ∷ c ∷ d ∷ back) = refl
seat_in-spaced (a ∷ []) [] = nothing_after (digit_in a) _ (λ high. refl)
seat_in-spaced (a ∷ []) (c ∷ []) = ap (λ (o : Option ℕ). next_digit o c) (nothing_after (digit_in a) _ (λ high. refl))
seat_in-spaced (a ∷ []) (c ∷ d ∷ back) = refl
seat_in-spaced (a ∷ b ∷ []) [] = nothing_after (next_digit (digit_in a) b) _ (λ high. refl)
seat_in-spaced (a ∷ b ∷ []) (d ∷ back) = refl
seat_in-spaced (a ∷ b ∷ c ∷ []) back = refl
seat_in-spaced (a ∷ b ∷ c ∷ d ∷ front) back = refl

one_seat : (request : ℕ → Request) (words : List (List ℕ)) → of_seat_in request words ≡ of_one (λ word. option_map request (seat_in word)) words
one_seat request [] = refl
one_seat request (word ∷ []) = refl
one_seat request (word ∷ next ∷ words) = refl

-- the request of a text after `checkin` or `leave`
pub seat_text : (request : ℕ → Request) (text : List ℕ) → of_seat_in request (words_in text) ≡ option_map request (seat_in text)
seat_text request text =
    one_seat request (words_in text)
    ∙ of_one-text (λ word. option_map request (seat_in word)) text (λ front back. ap (option_map request) (seat_in-spaced front back))

-- ---- words that no others may follow

-- a text has words, so it makes no request of one word
single_text : (request : Request) (text : List ℕ) → single_in request (words_in text) ≡ None
single_text request text =
    let (word, words, e) = words_some text in
    ap (single_in request) e

-- a choice by a test that fails
passed : {X : Type 0} (b : Bool) (x y z : X) → b ≡ false → y ≡ z → (if b then x else y) ≡ z
passed true x y z fails e = absurd cc
passed false x y z _ e = e

-- a choice between nothing and nothing
neither : {X : Type 0} (b : Bool) (x y : Option X) → x ≡ None → y ≡ None → (if b then x else y) ≡ None
neither true x y e f = e
neither false x y e f = f

-- a text makes no request after a word that wants none
pub none_with : (queries : Bool) (word text : List ℕ) → is_word word (codes "create") ≡ false → is_word word (codes "modify") ≡ false
    → is_word word (codes "delete") ≡ false → is_word word (codes "checkin") ≡ false → is_word word (codes "leave") ≡ false
    → is_word word (codes "walk") ≡ false → (queries && is_word word (codes "chunk")) ≡ false
    → None ≡ request_of queries (word ∷ words_in text)
none_with queries word text create modify delete checkin leave walk chunk =
    sym (passed _ _ _ None create (passed _ _ _ None modify (passed _ _ _ None delete (passed _ _ _ None checkin (passed _ _ _ None leave
    (neither _ _ _ (single_text Reclaim text) (passed _ _ _ None walk (passed _ _ _ None chunk
    (nothing_after (query_in word) _ (λ query. single_text (Query query) text))))))))))

-- ---- addresses

-- what is made of the first address and of the words after it
made_after : {X : Type 0} (make : ℕ → List (List ℕ) → Option X) (o : Option ℕ) (words : List (List ℕ))
    → option_and_then (λ a. make a words) o ≡ option_and_then (λ (f : ℕ × List (List ℕ)). make f.0 f.1) (option_map (λ a. (a, words)) o)
made_after make None words = refl
made_after make (Some a) words = refl

-- the addresses of some words, by the first one
addresses_first : (words : List (List ℕ)) (word : List ℕ) (others : List (List ℕ)) → words ≡ word ∷ others
    → addresses_in words
    ≡ option_and_then (λ (f : ℕ × List (List ℕ)). option_map (λ (rest : List ℕ). f.0 ∷ rest) (addresses_in f.1)) (first_address_in words)
addresses_first words word others e =
    ap addresses_in e
    ∙ made_after (λ a words. option_map (λ (rest : List ℕ). a ∷ rest) (addresses_in words)) (address_in word) others
    ∙ ap (λ (ws : List (List ℕ)). option_and_then (λ (f : ℕ × List (List ℕ)). option_map (λ (rest : List ℕ). f.0 ∷ rest) (addresses_in f.1))
    (first_address_in ws)) (sym e)

-- one address before others
one_first : (front new : List ℕ) (a : ℕ) (rest : Option (List ℕ)) → new ≡ front ++ a ∷ []
    → option_map (λ (z : List ℕ). front ++ z) (option_map (λ (z : List ℕ). a ∷ z) rest) ≡ option_map (λ (z : List ℕ). new ++ z) rest
one_first front new a None e = refl
one_first front new a (Some rest) e = ap Some (sym (append_assoc front (a ∷ []) rest) ∙ ap (λ (z : List ℕ). z ++ rest) (sym e))

-- the text begins with one more address
pub one_more : (all : Option (List ℕ)) (text : List ℕ) (a : ℕ) (after : List (List ℕ)) (front new : List ℕ)
    → Some (a, after) ≡ first_address_in (words_in text) → new ≡ front ++ a ∷ []
    → all ≡ option_map (λ (z : List ℕ). front ++ z) (addresses_in (words_in text))
    → all ≡ option_map (λ (z : List ℕ). new ++ z) (addresses_in after)
one_more all text a after front new is longer h =
    let (word, words, e) = words_some text in
    h
    ∙ ap (option_map (λ (z : List ℕ). front ++ z)) (addresses_first (words_in text) word words e
    ∙ ap (option_and_then (λ (f : ℕ × List (List ℕ)). option_map (λ (rest : List ℕ). f.0 ∷ rest) (addresses_in f.1))) (sym is))
    ∙ one_first front new a (addresses_in after) longer

-- the text begins with no address
pub none_here : (all : Option (List ℕ)) (text front : List ℕ) → None ≡ first_address_in (words_in text)
    → all ≡ option_map (λ (z : List ℕ). front ++ z) (addresses_in (words_in text)) → None ≡ all
none_here all text front is h =
    let (word, words, e) = words_some text in
    sym (h
    ∙ ap (option_map (λ (z : List ℕ). front ++ z)) (addresses_first (words_in text) word words e
    ∙ ap (option_and_then (λ (f : ℕ × List (List ℕ)). option_map (λ (rest : List ℕ). f.0 ∷ rest) (addresses_in f.1))) (sym is)))

-- the request of words after `walk`, by the first address
walk_words : (words : List (List ℕ))
    → walk_in words ≡ option_and_then (λ (f : ℕ × List (List ℕ)). option_map (Walk f.0) (addresses_in f.1)) (first_address_in words)
walk_words [] = refl
walk_words (start ∷ choices) = made_after (λ a words. option_map (Walk a) (addresses_in words)) (address_in start) choices

-- the request of a text after `walk`
pub walk_text : (text : List ℕ) (first : Option (ℕ × List (List ℕ))) → first ≡ first_address_in (words_in text)
    → walk_in (words_in text) ≡ option_and_then (λ (f : ℕ × List (List ℕ)). option_map (Walk f.0) (addresses_in f.1)) first
walk_text text first is =
    walk_words (words_in text)
    ∙ ap (option_and_then (λ (f : ℕ × List (List ℕ)). option_map (Walk f.0) (addresses_in f.1))) (sym is)

-- ---- the first word of a line

-- no byte of a front is a space where none before its end is
front_unspaced : (line : List ℕ) (end : ℕ) → ((k : ℕ) → k < end → slice_index line k ≢ 32) → All (λ b. (b == 32) ≡ false) (take end line)
front_unspaced line zero none = All-nil (λ b. (b == 32) ≡ false)
front_unspaced [] (suc end) none = All-nil (λ b. (b == 32) ≡ false)
front_unspaced (b ∷ line) (suc end) none =
    All-cons (λ c. (c == 32) ≡ false) b (take end line) (eqb_no b 32 (none 0 (omega arith)))
    (front_unspaced line end (λ k below. none (suc k) (omega arith)))

-- a line is its first word, up to the first space, and those after it
pub line_words : (line : List ℕ) (end : ℕ) → end < length line → slice_index line end ≡ 32
    → ((k : ℕ) → k < end → slice_index line k ≢ 32) → words_in line ≡ take end line ∷ words_in (drop (end + 1) line)
line_words line end within space none =
    ap words_in (sym (take-append-drop end line)
    ∙ ap (λ (t : List ℕ). take end line ++ t) (drop_more line end 0 within ∙ ap (λ (b : ℕ). b ∷ drop (end + 1) line) space))
    ∙ slice_split_at (λ (b : ℕ). b == 32) (take end line) 32 (drop (end + 1) line) (front_unspaced line end none) refl

-- a line without a space is one word
pub line_word : (line : List ℕ) → ((k : ℕ) → k < length line → slice_index line k ≢ 32) → words_in line ≡ line ∷ []
line_word line none =
    slice_split_none (λ (b : ℕ). b == 32) line
    (subst (All (λ b. (b == 32) ≡ false)) (take_all (length line) line (omega arith)) (front_unspaced line (length line) none))

-- the request of a line that isn't too long is that of its words
pub short_request : (queries : Bool) (line : List ℕ) → length line ≤ line_limit
    → request_in queries line ≡ request_of queries (words_in line)
short_request queries line short = grind (arith)
