-- The first word of a text, and the words after it: an address, or a word by itself.
use Rattle.std.proofs.Common.{◌≡◌, ◌+◌, ◌++◌, ◌<◌, ◌≤◌, ◌==◌, ◌&&◌, ◌⊎◌, inl, inr, ⊎_elim, ℕ, Bool, true, false, cond, List, [], ◌∷◌}
use Rattle.std.proofs.Common.{Option, Some, None, is_some, eqb-true, Result, Ok, Err, length, take, drop, get_or, slice_index, refl, sym, ap, ◌∙◌, arith}
use Rattle.std.proofs.Math.Seq.{get_or-append_seam, take-append_seam}
use Rattle.std.proofs.lemmas.Bool.{and_right}
use Rattle.std.proofs.lemmas.List.{drop_more, length-append, take-append-drop}
use Rattle.std.proofs.lemmas.List.Elements.{All-head, All-nil, All-cons, All-tail}
use Rattle.std.proofs.lemmas.List.Splits.{join_with_byte-slice_split, slice_split_at, slice_split_none}
use Rattle.std.specs.List.{All, AllPass, join_with_byte, onto_first}
use Rattle.std.specs.Int.{w32, from_be_bytes}
use Rattle.std.specs.Option.{option_map, option_and_then}
use Rattle.std.specs.Result.{result_ok}
use Rattle.hex.specs.Hex.{decode_of, decode_sized, is_hex_digit}
use Rattle.memchr.specs.Find.{IsFirstByte, is_byte}
use Rattle.hex.specs.declared.error.FromHexError.{FromHexError}
use Rattle.hex.proofs.HexLemmas.{decode_of-ok, decode_sized-ok, decode_sized-twice}
use Rattle.nc_output.proofs.Offered.{eqb_no}
use Rattle.nc_lines.specs.Lines.{words_in}
use Rattle.nc_lines.specs.Words.{address_in, bytes_in, placed_in, first_address_in}
use Rattle.nc_lines.proofs.Cuts.{either_some}

-- ---- words

-- a byte before some words has a first word
onto_first-some : (b : ℕ) (words : List (List ℕ)) → (word : List ℕ) × (others : List (List ℕ)) × onto_first b words ≡ word ∷ others
onto_first-some b [] = (b ∷ [], [], refl)
onto_first-some b (word ∷ words) = (b ∷ word, words, refl)

-- a text has a first word
pub words_some : (text : List ℕ) → (word : List ℕ) × (others : List (List ℕ)) × words_in text ≡ word ∷ others
words_some [] = ([], [], refl)
words_some (b ∷ text) =
    either_some (b == 32) ([] ∷ words_in text) (onto_first b (words_in text)) ([], words_in text, refl) (onto_first-some b (words_in text))

-- what words make, joined
joined : (word : List ℕ) (words : List (List ℕ)) (text : List ℕ) → join_with_byte 32 (word ∷ words) ≡ text
    → ((words ≡ []) × (text ≡ word)) ⊎ ((rest : List ℕ) × (text ≡ word ++ 32 ∷ rest))
joined word [] text e = inl (refl, sym e)
joined word (next ∷ words) text e = inr (join_with_byte 32 (next ∷ words), sym e)

-- a text is its one word, or its first word with a space after it
pub first_word : (text word : List ℕ) (words : List (List ℕ)) → words_in text ≡ word ∷ words
    → ((words ≡ []) × (text ≡ word)) ⊎ ((rest : List ℕ) × (text ≡ word ++ 32 ∷ rest))
first_word text word words e = joined word words text (ap (join_with_byte 32) (sym e) ∙ join_with_byte-slice_split 32 text)

-- what is read of one word, and of no other number of words
abbrev pub of_one : {X : Type 0} → (List ℕ → Option X) → List (List ℕ) → Option X
of_one read [] = None
of_one read (word ∷ []) = read word
of_one read (word ∷ next ∷ words) = None

-- what is read of the only one of some words
one_joined : {X : Type 0} (read : List ℕ → Option X) (text word : List ℕ) (words : List (List ℕ))
    → ((front back : List ℕ) → read (front ++ 32 ∷ back) ≡ None) → join_with_byte 32 (word ∷ words) ≡ text
    → of_one read (word ∷ words) ≡ read text
one_joined read text word [] spaced e = ap read e
one_joined read text word (next ∷ words) spaced e = sym (spaced word (join_with_byte 32 (next ∷ words))) ∙ ap read e

-- what is read of the only word of a text is read of the text, where nothing is read of a text with a space
pub of_one-text : {X : Type 0} (read : List ℕ → Option X) (text : List ℕ) → ((front back : List ℕ) → read (front ++ 32 ∷ back) ≡ None)
    → of_one read (words_in text) ≡ read text
of_one-text read text spaced =
    let (word, words, e) = words_some text in
    ap (of_one read) e
    ∙ one_joined read text word words spaced (ap (join_with_byte 32) (sym e) ∙ join_with_byte-slice_split 32 text)

-- ---- digits

-- no text with a space is all digits
pub spaced_no : (front back : List ℕ) → AllPass is_hex_digit (front ++ 32 ∷ back) → ⊥
spaced_no [] back h = let no : false ≡ true = All-head (λ c. is_hex_digit c ≡ true) 32 back h in cc
spaced_no (c ∷ front) back h = spaced_no front back (All-tail (λ c. is_hex_digit c ≡ true) c (front ++ 32 ∷ back) h)

-- no text with a space is decoded
spaced_result : (front back : List ℕ) (r : Result (List ℕ) FromHexError) → decode_of (front ++ 32 ∷ back) ≡ r → result_ok r ≡ None
spaced_result front back (Ok bytes) e = absurd (spaced_no front back (decode_of-ok (front ++ 32 ∷ back) bytes e).1)
spaced_result front back (Err error) e = refl

-- a choice between nothing and what is read, where neither length nor dash tells
choose_none : {X : Type 0} (first second : Bool) (x : X) (read : Option X) → second ≡ false → read ≡ None
    → cond first None (cond second (Some x) read) ≡ None
choose_none true second x read apart e = refl
choose_none false second x read apart e = ap (λ (b : Bool). cond b (Some x) read) apart ∙ e

-- a text with a space is not the dash
spaced_dash : (front back : List ℕ)
    → ((length (front ++ 32 ∷ back) == 1) && (slice_index (front ++ 32 ∷ back) 0 == 45)) ≡ false
spaced_dash [] back = and_right (length (32 ∷ back) == 1) false refl
spaced_dash (c ∷ front) back =
    ap (λ (b : Bool). b && (c == 45)) (eqb_no (length (c ∷ (front ++ 32 ∷ back))) 1 (λ e. absurd (omega (arith, length-append front (32 ∷ back), e))))

-- no bytes are read of a text with a space
pub bytes_in-spaced : (front back : List ℕ) → bytes_in (front ++ 32 ∷ back) ≡ None
bytes_in-spaced front back =
    choose_none (length (front ++ 32 ∷ back) == 0) _ [] _ (spaced_dash front back) (spaced_result front back _ refl)

-- what is decoded into room for four bytes, of a word of another length or of eight bytes
sized_len : (word : List ℕ) (r : Result (List ℕ) FromHexError) → decode_sized word 4 ≡ r
    → (option_map (from_be_bytes w32) (result_ok r) ≡ None) ⊎ (length word ≡ 8)
sized_len word (Ok bytes) e = inr (decode_sized-ok word 4 bytes e)
sized_len word (Err error) e = inl refl

-- no address is read of a text with a space
sized_spaced : (front back : List ℕ) (r : Result (List ℕ) FromHexError) → decode_sized (front ++ 32 ∷ back) 4 ≡ r
    → option_map (from_be_bytes w32) (result_ok r) ≡ None
sized_spaced front back (Ok bytes) e =
    let word = front ++ 32 ∷ back in
    absurd (spaced_no front back (decode_of-ok word bytes (sym (decode_sized-twice word 4 (decode_sized-ok word 4 bytes e)) ∙ e)).1)
sized_spaced front back (Err error) e = refl

pub address_in-spaced : (front back : List ℕ) → address_in (front ++ 32 ∷ back) ≡ None
address_in-spaced front back = sized_spaced front back (decode_sized (front ++ 32 ∷ back) 4) refl

-- a word that is an address has eight digits
pub address_len : (word : List ℕ) → (address_in word ≡ None) ⊎ (length word ≡ 8)
address_len word = sized_len word (decode_sized word 4) refl

-- an address has digits alone
sized_digits : (word : List ℕ) (r : Result (List ℕ) FromHexError) (a : ℕ) → decode_sized word 4 ≡ r
    → option_map (from_be_bytes w32) (result_ok r) ≡ Some a → AllPass is_hex_digit word
sized_digits word (Ok bytes) a e some =
    (decode_of-ok word bytes (sym (decode_sized-twice word 4 (decode_sized-ok word 4 bytes e)) ∙ e)).1
sized_digits word (Err error) a e some = cc

address_digits : (word : List ℕ) (a : ℕ) → address_in word ≡ Some a → AllPass is_hex_digit word
address_digits word a e = sized_digits word (decode_sized word 4) a refl e

-- a digit is no space
digit_unspaced : (c : ℕ) → is_hex_digit c ≡ true → (c == 32) ≡ false
digit_unspaced c h = eqb_no c 32 (λ e. let no : false ≡ true = ap is_hex_digit (sym e) ∙ h in cc)

-- digits are no spaces
digits_unspaced : (word : List ℕ) → AllPass is_hex_digit word → All (λ c. (c == 32) ≡ false) word
digits_unspaced [] h = All-nil (λ c. (c == 32) ≡ false)
digits_unspaced (c ∷ word) h =
    All-cons (λ c. (c == 32) ≡ false) c word
    (digit_unspaced c (All-head (λ c. is_hex_digit c ≡ true) c word h))
    (digits_unspaced word (All-tail (λ c. is_hex_digit c ≡ true) c word h))

-- ---- an address first

-- what is made of no address
none_made : {X : Type 0} (o : Option ℕ) (make : ℕ → X) → o ≡ None → option_map make o ≡ None
none_made o make e = ap (option_map make) e

-- a text whose first word can't be an address has none first
pub first_none : (text : List ℕ)
    → ((word : List ℕ) → length word ≡ 8 → ((text ≡ word) ⊎ ((rest : List ℕ) × (text ≡ word ++ 32 ∷ rest))) → address_in word ≡ None)
    → first_address_in (words_in text) ≡ None
first_none text refused =
    let (word, words, e) = words_some text in
    ap first_address_in e
    ∙ none_made (address_in word) (λ (a : ℕ). (a, words))
    (⊎_elim (λ (none : address_in word ≡ None). none)
    (λ (eight : length word ≡ 8). refused word eight (⊎_elim
    (λ (h : (words ≡ []) × (text ≡ word)). inl h.1)
    (λ (h : (rest : List ℕ) × (text ≡ word ++ 32 ∷ rest)). inr h)
    (first_word text word words e)))
    (address_len word))

-- a text that is too short for more than an address has one first where it is one
pub first_short_none : (text : List ℕ) → length text ≤ 8 → address_in text ≡ None → first_address_in (words_in text) ≡ None
first_short_none text short none =
    first_none text (λ word eight whole.
    ⊎_elim
    (λ (same : text ≡ word). ap address_in (sym same) ∙ none)
    (λ (h : (rest : List ℕ) × (text ≡ word ++ 32 ∷ rest)). absurd (omega (arith, ap length h.1, length-append word (32 ∷ h.0))))
    whole)

-- a text that goes on after eight bytes, but not by a space, has no address first
pub first_long_none : (text : List ℕ) → 8 < length text → (slice_index text 8 ≡ 32 → ⊥) → first_address_in (words_in text) ≡ None
first_long_none text long apart =
    first_none text (λ word eight whole.
    ⊎_elim
    (λ (same : text ≡ word). absurd (omega (arith, ap length same)))
    (λ (h : (rest : List ℕ) × (text ≡ word ++ 32 ∷ rest)). absurd (apart
    (ap (λ (t : List ℕ). get_or t 8 0) h.1 ∙ ap (λ (n : ℕ). get_or (word ++ 32 ∷ h.0) n 0) (sym eight) ∙ get_or-append_seam word 32 h.0 0)))
    whole)

-- a text whose first eight bytes are no address has none first
pub first_part_none : (text : List ℕ) → 8 < length text → address_in (take 8 text) ≡ None → first_address_in (words_in text) ≡ None
first_part_none text long none =
    first_none text (λ word eight whole.
    ⊎_elim
    (λ (same : text ≡ word). absurd (omega (arith, ap length same)))
    (λ (h : (rest : List ℕ) × (text ≡ word ++ 32 ∷ rest)).
    ap address_in (sym (ap (take 8) h.1 ∙ ap (λ (n : ℕ). take n (word ++ 32 ∷ h.0)) (sym eight) ∙ take-append_seam word (32 ∷ h.0))) ∙ none)
    whole)

-- an address by itself is the only word
pub first_whole : (text : List ℕ) (a : ℕ) → address_in text ≡ Some a → first_address_in (words_in text) ≡ Some (a, [])
first_whole text a is =
    ap first_address_in (slice_split_none (λ (b : ℕ). b == 32) text (digits_unspaced text (address_digits text a is)))
    ∙ ap (option_map (λ (n : ℕ). (n, []))) is

-- an address with a space after it is the first word, and what follows are the others
pub first_part : (text : List ℕ) (a : ℕ) → 8 < length text → slice_index text 8 ≡ 32 → address_in (take 8 text) ≡ Some a
    → first_address_in (words_in text) ≡ Some (a, words_in (drop 9 text))
first_part text a long space is =
    let parts : text ≡ take 8 text ++ 32 ∷ drop 9 text =
    sym (take-append-drop 8 text)
    ∙ ap (λ (t : List ℕ). take 8 text ++ t) (drop_more text 8 0 long ∙ ap (λ (b : ℕ). b ∷ drop 9 text) space) in
    ap (λ (t : List ℕ). first_address_in (words_in t)) parts
    ∙ ap first_address_in (slice_split_at (λ (b : ℕ). b == 32) (take 8 text) 32 (drop 9 text)
    (digits_unspaced (take 8 text) (address_digits (take 8 text) a is)) refl)
    ∙ ap (option_map (λ (n : ℕ). (n, words_in (drop 9 text)))) is

-- ---- an address and bytes

-- what two words denote, by the address of the first
abbrev placed_after : Option (ℕ × List (List ℕ)) → Option (ℕ × List ℕ)
placed_after first = option_and_then (λ f. option_map (λ found. (f.0, found)) (of_one bytes_in f.1)) first

none_after : (o : Option ℕ) (words : List (List ℕ)) → of_one bytes_in words ≡ None
    → None ≡ placed_after (option_map (λ (a : ℕ). (a, words)) o)
none_after None words e = refl
none_after (Some a) words e = sym (ap (option_map (λ (found : List ℕ). (a, found))) e)

bytes_after : (o : Option ℕ) (bytes : List ℕ)
    → option_and_then (λ a. option_map (λ found. (a, found)) (bytes_in bytes)) o ≡ placed_after (option_map (λ (a : ℕ). (a, bytes ∷ [])) o)
bytes_after None bytes = refl
bytes_after (Some a) bytes = refl

placed_first : (words : List (List ℕ)) → placed_in words ≡ placed_after (first_address_in words)
placed_first [] = refl
placed_first (word ∷ []) = none_after (address_in word) [] refl
placed_first (at ∷ bytes ∷ []) = bytes_after (address_in at) bytes
placed_first (word ∷ next ∷ more ∷ words) = none_after (address_in word) (next ∷ more ∷ words) refl

-- an address first, and the bytes that the rest of the text denotes
pub placed_some : (text rest : List ℕ) (a : ℕ) → Some (a, words_in rest) ≡ first_address_in (words_in text)
    → placed_in (words_in text) ≡ option_map (λ found. (a, found)) (bytes_in rest)
placed_some text rest a e =
    placed_first (words_in text) ∙ ap placed_after (sym e)
    ∙ ap (option_map (λ (found : List ℕ). (a, found))) (of_one-text bytes_in rest bytes_in-spaced)

-- no bytes are read of a text with a space at some place
bytes_in-space_at : (rest : List ℕ) (i : ℕ) → i < length rest → slice_index rest i ≡ 32 → bytes_in rest ≡ None
bytes_in-space_at rest i below space =
    let parts : rest ≡ take i rest ++ 32 ∷ drop (i + 1) rest =
    sym (take-append-drop i rest)
    ∙ ap (λ (t : List ℕ). take i rest ++ t) (drop_more rest i 0 below ∙ ap (λ (b : ℕ). b ∷ drop (i + 1) rest) space) in
    ap bytes_in parts ∙ bytes_in-spaced (take i rest) (drop (i + 1) rest)

-- an address first, and then more than one word
pub placed_spaced : (text rest : List ℕ) (a : ℕ) (space : Option ℕ) → Some (a, words_in rest) ≡ first_address_in (words_in text)
    → IsFirstByte (is_byte 32) rest space → is_some space ≡ true → placed_in (words_in text) ≡ None
placed_spaced text rest a None e first found = cc
placed_spaced text rest a (Some i) e first found =
    placed_some text rest a e
    ∙ ap (option_map (λ (bytes : List ℕ). (a, bytes))) (bytes_in-space_at rest i first.0.high (eqb-true _ 32 first.1))
