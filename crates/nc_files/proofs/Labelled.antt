-- The symbols in a segment, and the labels that symbols are.
use Rattle.std.proofs.Common.{◌≡◌, ℕ, zero, suc, ◌+◌, ◌-◌, ◌<◌, ◌≤◌, Bool, true, false, ◌&&◌, List, [], ◌∷◌, length, map, filter, take, drop, get_or, cond, leb, ltb, ltb-true, ltb-false, lt-ltb, le-leb, refl, sym, ◌∙◌, ap, arith}
use Rattle.std.specs.List.Sorted.{IsPartitionPoint}
use Rattle.std.proofs.lemmas.Bool.{le-ltb, lt-leb}
use Rattle.std.proofs.lemmas.List.{length-map, length-drop, get_or-map, get_or-drop}
use Rattle.nc_elf.specs.declared.listing.Segment.{Segment}
use Rattle.nc_elf.specs.declared.symbols.Symbol.{Symbol}
use Rattle.nc_elf.specs.Symbols.{AreAscending}
use Rattle.nc_report.specs.declared.labels.Label.{Label}
use Rattle.nc_report.specs.Labels.{LabelsAscend}
use Rattle.nc_files.specs.Parts.{named, name_in, is_in}

-- where so many after the first ones pass, and no others, a filter takes these
between : {X : Type 0} (p : X → Bool) (xs : List X) (start n : ℕ) → start + n ≤ length xs
    → ((k : ℕ) (d : X) → k < start → p (get_or xs k d) ≡ false)
    → ((k : ℕ) (d : X) → start ≤ k → k < start + n → p (get_or xs k d) ≡ true)
    → ((k : ℕ) (d : X) → start + n ≤ k → k < length xs → p (get_or xs k d) ≡ false) → filter p xs ≡ take n (drop start xs)
between p [] zero zero le under within over = refl
between p [] zero (suc n) le under within over = absurd (omega (arith, le))
between p [] (suc start) n le under within over = absurd (omega (arith, le))
between p (x ∷ xs) zero zero le under within over =
    ap (λ (b : Bool). cond b (x ∷ filter p xs) (filter p xs)) (over 0 x (omega arith) (omega arith))
    ∙ between p xs zero zero (omega arith) (λ k d lt. absurd (omega (arith, lt))) (λ k d ge lt. absurd (omega (arith, lt)))
    (λ k d ge lt. over (suc k) d (omega arith) (omega (arith, lt)))
between p (x ∷ xs) zero (suc n) le under within over =
    ap (λ (b : Bool). cond b (x ∷ filter p xs) (filter p xs)) (within 0 x (omega arith) (omega arith))
    ∙ ap (λ (z : List _). x ∷ z)
    (between p xs zero n (omega (arith, le)) (λ k d lt. absurd (omega (arith, lt)))
    (λ k d ge lt. within (suc k) d (omega arith) (omega (arith, lt))) (λ k d ge lt. over (suc k) d (omega (arith, ge)) (omega (arith, lt))))
between p (x ∷ xs) (suc start) n le under within over =
    ap (λ (b : Bool). cond b (x ∷ filter p xs) (filter p xs)) (under 0 x (omega arith))
    ∙ between p xs start n (omega (arith, le)) (λ k d lt. under (suc k) d (omega (arith, lt)))
    (λ k d ge lt. within (suc k) d (omega (arith, ge)) (omega (arith, lt))) (λ k d ge lt. over (suc k) d (omega (arith, ge)) (omega (arith, lt)))

-- the first so many symbols are below an address, and no others
abbrev pub ArePartedAt : List Symbol → ℕ → ℕ → Type 0
ArePartedAt symbols at count = IsPartitionPoint (λ (s : Symbol). ltb s.address at ≡ true) (λ (s : Symbol). ltb s.address at ≡ false) symbols count

-- an address in a segment, below it, and above it
inside : (segment : Segment) (at : ℕ) → segment.address ≤ at → at < segment.address + segment.len
    → (leb segment.address at && ltb at (segment.address + segment.len)) ≡ true
inside segment at ge lt =
    ap (λ (b : Bool). b && ltb at (segment.address + segment.len)) (le-leb segment.address at ge) ∙ lt-ltb at (segment.address + segment.len) lt

beneath : (segment : Segment) (at : ℕ) → at < segment.address → (leb segment.address at && ltb at (segment.address + segment.len)) ≡ false
beneath segment at lt = ap (λ (b : Bool). b && ltb at (segment.address + segment.len)) (lt-leb segment.address at lt)

beyond : (segment : Segment) (at : ℕ) → segment.address ≤ at → segment.address + segment.len ≤ at
    → (leb segment.address at && ltb at (segment.address + segment.len)) ≡ false
beyond segment at ge over =
    ap (λ (b : Bool). b && ltb at (segment.address + segment.len)) (le-leb segment.address at ge)
    ∙ le-ltb at (segment.address + segment.len) over

-- the symbols in a segment are those from its first address up to its end
pub in_segment : (symbols : List Symbol) (segment : Segment) (start n : ℕ) → start ≤ length symbols → n ≤ length (drop start symbols)
    → ArePartedAt symbols segment.address start → ArePartedAt (drop start symbols) (segment.address + segment.len) n
    → take n (drop start symbols) ≡ filter (is_in segment) symbols
in_segment symbols segment start n le more first last =
    let there = λ (k : ℕ) (d : Symbol). get_or symbols k d in
    let from_start : (k : ℕ) (d : Symbol) → start ≤ k → get_or (drop start symbols) (k - start) d ≡ there k d =
    λ k d ge. get_or-drop start symbols (k - start) d ∙ ap (λ (j : ℕ). there j d) {x = start + (k - start)} {y = k} (omega (arith, ge)) in
    sym (between (is_in segment) symbols start n (omega (arith, le, more, length-drop start symbols))
    (λ k d lt. beneath segment (there k d).address (ltb-true _ _ (first.0 k d (omega arith) lt)))
    (λ k d ge lt. inside segment (there k d).address (ltb-false _ _ (first.1 k d ge (omega (arith, lt, more, length-drop start symbols))))
    (ltb-true _ _ (ap (λ (s : Symbol). ltb s.address (segment.address + segment.len)) (sym (from_start k d ge))
    ∙ last.0 (k - start) d (omega arith) (omega (arith, ge, lt)))))
    (λ k d ge lt. beyond segment (there k d).address (ltb-false _ _ (first.1 k d (omega (arith, ge)) lt))
    (ltb-false _ _ (ap (λ (s : Symbol). ltb s.address (segment.address + segment.len)) (sym (from_start k d (omega (arith, ge))))
    ∙ last.1 (k - start) d (omega (arith, ge)) (omega (arith, ge, lt, length-drop start symbols))))))

-- labels with the addresses and names of ascending symbols ascend
pub labels_ascend : (labels : List Label) (symbols : List Symbol) (file : List ℕ) → map named labels ≡ map (name_in file) symbols
    → AreAscending symbols → LabelsAscend labels
labels_ascend labels [] file same rises = λ i j d le lt.
    absurd (omega (arith, lt, length-map labels named, ap (λ (z : List (ℕ × List ℕ)). length z) same))
labels_ascend labels (symbol ∷ symbols) file same rises = λ i j d le lt.
    let all = symbol ∷ symbols in
    let long : length labels ≡ length all =
    sym (length-map labels named) ∙ ap (λ (z : List (ℕ × List ℕ)). length z) same ∙ length-map all (name_in file) in
    let address : (k : ℕ) → k < length labels → (get_or labels k d).address ≡ (get_or all k symbol).address =
    λ k small. ap (λ (x : ℕ × List ℕ). x.0)
    (sym (get_or-map named labels k d (0, []) small) ∙ ap (λ (z : List (ℕ × List ℕ)). get_or z k (0, [])) same
    ∙ get_or-map (name_in file) all k symbol (0, []) (omega (arith, small, long))) in
    omega (arith, address i (omega (arith, le, lt)), address j lt, rises i j symbol le (omega (arith, lt, long)))
