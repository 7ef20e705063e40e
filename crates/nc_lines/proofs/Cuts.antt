-- Lines of bytes that are cut at their ends, and what is kept of a line.
use Rattle.std.proofs.Common.{◌≡◌, ◌≢◌, ◌++◌, ◌+◌, ◌<◌, ◌≤◌, ◌-◌, min, ℕ, zero, suc, slice_index, Bool, true, false, eqb, cond, List, [], ◌∷◌, length, take, refl}
use Rattle.std.proofs.Common.{sym, ap, ◌∙◌, append_assoc, append-nil, arith}
use Rattle.std.proofs.Common.{⊎_elim}
use Rattle.std.proofs.Math.Seq.{take-append-add}
use Rattle.std.proofs.lemmas.Bool.{cases_lt}
use Rattle.std.proofs.lemmas.List.{take_all, take-append-le, length-take, length-take-le, length-append}
use Rattle.std.specs.List.{flat_map}
use Rattle.nc_output.proofs.Offered.{eqb_no}
use Rattle.nc_lines.specs.Lines.{onto_line, lines_of, onto_ended, ended_lines}
use Rattle.nc_lines.specs.machinery.Progress.{IsOpen, AreOpen, ended}

-- what is after the last end is one line, or none
abbrev pub last_line : List ℕ → List (List ℕ)
last_line [] = []
last_line (b ∷ bytes) = (b ∷ bytes) ∷ []

-- a byte goes to the front of the last line
onto-last_line : (b : ℕ) (bytes : List ℕ) → onto_line b (last_line bytes) ≡ last_line (b ∷ bytes)
onto-last_line b [] = refl
onto-last_line b (c ∷ bytes) = refl

-- bytes without an end are one line, or none
pub lines_of-open : (part : List ℕ) → IsOpen part → lines_of part ≡ last_line part
lines_of-open [] h = refl
lines_of-open (b ∷ part) h =
    ap (λ (v : Bool). cond v ([] ∷ lines_of part) (onto_line b (lines_of part))) (eqb_no b 10 h.0)
    ∙ ap (onto_line b) (lines_of-open part h.1) ∙ onto-last_line b part

-- an ended line is the first one
lines_of-ended : (line more : List ℕ) → IsOpen line → lines_of (ended line ++ more) ≡ line ∷ lines_of more
lines_of-ended [] more h = refl
lines_of-ended (b ∷ line) more h =
    ap (λ (v : Bool). cond v ([] ∷ lines_of (ended line ++ more)) (onto_line b (lines_of (ended line ++ more)))) (eqb_no b 10 h.0)
    ∙ ap (onto_line b) (lines_of-ended line more h.1)

-- some bytes have a first line
onto_line-some : (b : ℕ) (lines : List (List ℕ)) → (line : List ℕ) × (others : List (List ℕ)) × onto_line b lines ≡ line ∷ others
onto_line-some b [] = (b ∷ [], [], refl)
onto_line-some b (line ∷ lines) = (b ∷ line, lines, refl)

-- a choice of two lists that have a first element has one
pub either_some : (v : Bool) (xs ys : List (List ℕ)) → ((first : List ℕ) × (others : List (List ℕ)) × xs ≡ first ∷ others)
    → ((first : List ℕ) × (others : List (List ℕ)) × ys ≡ first ∷ others)
    → (first : List ℕ) × (others : List (List ℕ)) × cond v xs ys ≡ first ∷ others
either_some true xs ys h k = h
either_some false xs ys h k = k

-- some bytes make some line
pub lines_of-some : (bytes : List ℕ) → 0 < length bytes → (line : List ℕ) × (others : List (List ℕ)) × lines_of bytes ≡ line ∷ others
lines_of-some [] h = absurd (omega arith)
lines_of-some (b ∷ bytes) h =
    either_some (eqb b 10) ([] ∷ lines_of bytes) (onto_line b (lines_of bytes)) ([], lines_of bytes, refl)
    (onto_line-some b (lines_of bytes))

-- after a part a byte is still to come
pub more_to_come : (part : List ℕ) (b : ℕ) (more : List ℕ) → 0 < length (part ++ (b ∷ more))
more_to_come part b more = omega (arith, length-append part (b ∷ more))

-- lines with their ends are the first lines of what they begin
pub lines_of-cut : (lines : List (List ℕ)) (more : List ℕ) → AreOpen lines
    → lines_of (flat_map ended lines ++ more) ≡ lines ++ lines_of more
lines_of-cut [] more h = refl
lines_of-cut (line ∷ lines) more h =
    ap lines_of (append_assoc (ended line) (flat_map ended lines) more)
    ∙ lines_of-ended line (flat_map ended lines ++ more) h.0
    ∙ ap (λ (ls : List (List ℕ)). line ∷ ls) (lines_of-cut lines more h.1)

-- no line ends in bytes without an end
ended_lines-open : (part : List ℕ) → IsOpen part → ended_lines part ≡ []
ended_lines-open [] h = refl
ended_lines-open (b ∷ part) h =
    ap (λ (v : Bool). cond v ([] ∷ ended_lines part) (onto_ended b (ended_lines part))) (eqb_no b 10 h.0)
    ∙ ap (onto_ended b) (ended_lines-open part h.1)

-- an ended line is the first one of those that end
ended_lines-ended : (line more : List ℕ) → IsOpen line → ended_lines (ended line ++ more) ≡ line ∷ ended_lines more
ended_lines-ended [] more h = refl
ended_lines-ended (b ∷ line) more h =
    ap (λ (v : Bool). cond v ([] ∷ ended_lines (ended line ++ more)) (onto_ended b (ended_lines (ended line ++ more)))) (eqb_no b 10 h.0)
    ∙ ap (onto_ended b) (ended_lines-ended line more h.1)

-- the lines that have ended are those before the part that is open
pub ended_lines-cut : (lines : List (List ℕ)) (part : List ℕ) → AreOpen lines → IsOpen part
    → ended_lines (flat_map ended lines ++ part) ≡ lines
ended_lines-cut [] part h o = ended_lines-open part o
ended_lines-cut (line ∷ lines) part h o =
    ap ended_lines (append_assoc (ended line) (flat_map ended lines) part)
    ∙ ended_lines-ended line (flat_map ended lines ++ part) h.0
    ∙ ap (λ (ls : List (List ℕ)). line ∷ ls) (ended_lines-cut lines part h.1 o)

-- the front of some bytes is a part where none of its bytes is an end
pub IsOpen-before : (bytes : List ℕ) (n : ℕ) → ((k : ℕ) → k < n → slice_index bytes k ≢ 10) → IsOpen (take n bytes)
IsOpen-before bytes zero none = tt
IsOpen-before [] (suc n) none = tt
IsOpen-before (b ∷ bytes) (suc n) none = (none 0 (omega arith), IsOpen-before bytes n (λ k below. none (suc k) (omega arith)))

-- a part goes on by bytes of which none is an end
pub IsOpen-append : (part more : List ℕ) → IsOpen part → IsOpen more → IsOpen (part ++ more)
IsOpen-append [] more h o = o
IsOpen-append (c ∷ part) more h o = (h.0, IsOpen-append part more h.1 o)

-- lines go on by one more
pub AreOpen-push : (lines : List (List ℕ)) (line : List ℕ) → AreOpen lines → IsOpen line → AreOpen (lines ++ line ∷ [])
AreOpen-push [] line h o = (o, tt)
AreOpen-push (l ∷ lines) line h o = (h.0, AreOpen-push lines line h.1 o)

-- the bytes of lines go on by those of one more
flat_map-push : (lines : List (List ℕ)) (line : List ℕ) → flat_map ended (lines ++ line ∷ []) ≡ flat_map ended lines ++ ended line
flat_map-push [] line = append-nil (ended line)
flat_map-push (l ∷ lines) line =
    ap (λ (xs : List ℕ). ended l ++ xs) (flat_map-push lines line) ∙ sym (append_assoc (ended l) (flat_map ended lines) (ended line))

-- an end after a part makes a line of it
pub cut-ended : (lines : List (List ℕ)) (part : List ℕ) → (flat_map ended lines ++ part) ++ 10 ∷ [] ≡ flat_map ended (lines ++ part ∷ [])
    ++ []
cut-ended lines part =
    append_assoc (flat_map ended lines) part (10 ∷ []) ∙ sym (flat_map-push lines part)
    ∙ sym (append-nil (flat_map ended (lines ++ part ∷ [])))

-- a line whose end is still to come, or comes next
pub lines_of-next : (lines : List (List ℕ)) (part more : List ℕ) → AreOpen lines → IsOpen part
    → lines_of ((flat_map ended lines ++ part) ++ 10 ∷ more) ≡ lines ++ (part ∷ lines_of more)
lines_of-next lines part more h o =
    ap lines_of (append_assoc (flat_map ended lines) part (10 ∷ more))
    ∙ lines_of-cut lines (part ++ 10 ∷ more) h
    ∙ ap (λ (ls : List (List ℕ)). lines ++ ls) (ap lines_of (sym (append_assoc part (10 ∷ []) more)) ∙ lines_of-ended part more o)

-- ---- what is kept

-- a part of which at most n bytes are kept has at most n bytes
pub kept_is_short : (n : ℕ) (kept part : List ℕ) → kept ≡ take (n + 1) part → length kept ≤ n → length part ≤ n
kept_is_short n kept part e l = omega (arith, ap length e ∙ length-take (n + 1) part)

-- what is kept and not too long is all of the part
pub kept_is_all : (n : ℕ) (kept part : List ℕ) → kept ≡ take (n + 1) part → length kept ≤ n → kept ≡ part
kept_is_all n kept part e l =
    let fits = kept_is_short n kept part e l in
    e ∙ take_all (n + 1) part (omega arith)

-- a part of which more than n bytes are kept has more than n bytes
pub kept_is_long : (n : ℕ) (kept part : List ℕ) → kept ≡ take (n + 1) part → n < length kept → n < length part
kept_is_long n kept part e l = omega (arith, ap length e ∙ length-take (n + 1) part)

-- k bytes of a list, or all of its bytes if it has fewer, are what `take k` takes
take-min : (k : ℕ) (xs : List ℕ) → take (min k (length xs)) xs ≡ take k xs
take-min k xs = ⊎_elim
    (λ (l : k < length xs). ap (λ (n : ℕ). take n xs) (omega arith))
    (λ (l : length xs ≤ k). take_all (min k (length xs)) xs (omega arith) ∙ sym (take_all k xs l))
    (cases_lt k (length xs))

-- what is kept goes on by as many bytes as there is room for
pub kept_append : (n : ℕ) (kept part more : List ℕ) (m : ℕ) → kept ≡ take n part → m ≡ min (n - length kept) (length more)
    → kept ++ take m more ≡ take n (part ++ more)
kept_append n kept part more m e c =
    ⊎_elim
    (λ (long : n < length part).
    let full : length kept ≡ n = ap length e ∙ length-take-le n part (omega arith) in
    let none : m ≡ 0 = omega (arith, c) in
    ap (λ (k : ℕ). kept ++ take k more) none ∙ append-nil kept ∙ e ∙ sym (take-append-le n part more (omega arith)))
    (λ (short : length part ≤ n).
    let whole : kept ≡ part = e ∙ take_all n part short in
    let room : n - length kept ≡ n - length part = ap (λ (xs : List ℕ). n - length xs) whole in
    let exact : length part + (n - length part) ≡ n = omega arith in
    ap (λ (k : ℕ). kept ++ take k more) c ∙ ap (λ (xs : List ℕ). kept ++ xs) (take-min (n - length kept) more)
    ∙ ap (λ (k : ℕ). kept ++ take k more) room ∙ ap (λ (xs : List ℕ). xs ++ take (n - length part) more) whole
    ∙ sym (take-append-add part more (n - length part)) ∙ ap (λ (k : ℕ). take k (part ++ more)) exact)
    (cases_lt n (length part))

-- where some bytes of a part are kept, the part has some
pub kept_some : (n : ℕ) (kept part : List ℕ) → kept ≡ take (n + 1) part → 0 < length kept → 0 < length part
kept_some n kept part e l = omega (arith, ap length e ∙ length-take (n + 1) part)
