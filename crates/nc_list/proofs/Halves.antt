-- Rows cut in two and joined.
use Rattle.std.proofs.Common.{◌≡◌, ℕ, ◌+◌, ◌-◌, ◌<◌, ◌≤◌, List, [], ◌∷◌, ◌++◌, length, get_or, take, drop, map, refl, sym, ap, ◌∙◌, arith, subst}
use Rattle.std.proofs.lemmas.List.{length-append, length-take-le, length-drop, take_at, drop_at, take-append-drop}
use Rattle.nc_list.specs.declared.chunk.Chunk.{Chunk}
use Rattle.nc_base.specs.Each.{Each}
use Rattle.nc_list.specs.Stamps.{AreSince, BeginsAt}
use Rattle.nc_list.specs.Parts.{HaveSome, IsRow, AreParted, all_of, starts_of}
use Rattle.nc_base.proofs.Offered.{each_append, each_take, each_drop, each_map}
use Rattle.nc_list.proofs.LowerBounds.{since_both, begins_first}
use Rattle.nc_list.proofs.Parting.{starts_before}
use Rattle.nc_list.proofs.Pieces.{all_append, starts_append, starts_more, starts_less, starts_get, starts_low, starts_high}
use Rattle.nc_list.proofs.Rows.{begins_all}

-- the starts before a cut, and from it on
cut_starts : (parts : List (List Chunk)) (starts : List ℕ) (cut n : ℕ) → starts ≡ starts_of 0 parts → cut < length parts
    → n ≡ get_or starts cut 0 → starts ≡ starts_of 0 (take cut parts) ++ starts_of (0 + n) (drop cut parts)
cut_starts parts starts cut n are lt is =
    let count : 0 + length (all_of (take cut parts)) ≡ 0 + n =
    omega (arith, is, ap (λ (z : List ℕ). get_or z cut 0) are, starts_get 0 parts cut 0 lt) in
    are ∙ (ap (starts_of 0) (sym (take-append-drop cut parts))
    ∙ (starts_append 0 (take cut parts) (drop cut parts) ∙ ap (λ (m : ℕ). starts_of 0 (take cut parts) ++ starts_of m (drop cut parts)) count))

-- no start from a cut on is lower than the one at the cut
pub cut_enough : (parts : List (List Chunk)) (starts : List ℕ) (cut n : ℕ) → starts ≡ starts_of 0 parts → cut < length parts
    → n ≡ get_or starts cut 0 → Each (λ (m : ℕ). n ≤ m) (drop cut starts)
cut_enough parts starts cut n are lt is =
    subst (Each (λ (m : ℕ). n ≤ m))
    (sym (ap (drop cut) (cut_starts parts starts cut n are lt is)
    ∙ drop_at (starts_of 0 (take cut parts)) (starts_of (0 + n) (drop cut parts)) cut (starts_before parts cut lt)))
    (each_map (λ (m : ℕ). 0 + n ≤ m) (λ (m : ℕ). n ≤ m) (λ m h. omega (arith, h)) (starts_of (0 + n) (drop cut parts))
    (starts_low (0 + n) (drop cut parts)))

-- all chunks, at the cut
cut_all : (parts : List (List Chunk)) (cut : ℕ) → all_of parts ≡ all_of (take cut parts) ++ all_of (drop cut parts)
cut_all parts cut = ap all_of (sym (take-append-drop cut parts)) ∙ all_append (take cut parts) (drop cut parts)

-- parts of which there are some, each with a chunk, have a chunk
some_all : (parts : List (List Chunk)) → 0 < length parts → Each (λ (p : List Chunk). 0 < length p) parts → 0 < length (all_of parts)
some_all [] some each = absurd (omega (arith, some))
some_all (p ∷ parts) some each = omega (arith, each.0, length-append p (all_of parts))

begins_front : (first : ℕ) (xs ys : List Chunk) → 0 < length xs → BeginsAt first (xs ++ ys) → BeginsAt first xs
begins_front first [] ys some begins = absurd (omega (arith, some))
begins_front first (c ∷ xs) ys some begins = begins

-- the chunks before a cut are as many as the start there says
cut_count : (parts : List (List Chunk)) (starts : List ℕ) (cut n : ℕ) → starts ≡ starts_of 0 parts → cut < length parts
    → n ≡ get_or starts cut 0 → n ≡ length (all_of (take cut parts))
cut_count parts starts cut n are lt is = omega (arith, is, ap (λ (z : List ℕ). get_or z cut 0) are, starts_get 0 parts cut 0 lt)

pub cut_fits : (parts : List (List Chunk)) (starts : List ℕ) (count first oldest cut n : ℕ) → IsRow parts starts count first oldest
    → cut < length parts → n ≡ get_or starts cut 0 → n ≤ count
cut_fits parts starts count first oldest cut n row lt is =
    omega (
      arith,
      row.count_is,
      cut_count parts starts cut n row.starts_are lt is,
      ap (λ (z : List Chunk). length z) (cut_all parts cut),
      length-append (all_of (take cut parts)) (all_of (drop cut parts)),
    )

-- what is left of a row that is cut
pub row_cut : (parts : List (List Chunk)) (starts : List ℕ) (count first oldest cut n low : ℕ) → IsRow parts starts count first oldest
    → 0 < cut → cut < length parts → n ≡ get_or starts cut 0 → AreSince low (all_of (take cut parts))
    → IsRow (take cut parts) (take cut starts) n first low
row_cut parts starts count first oldest cut n low row pos lt is since =
    let each = each_take (λ (p : List Chunk). 0 < length p) cut parts (row.some (omega (arith, pos, lt))) in
    let some = some_all (take cut parts) (omega (arith, pos, length-take-le cut parts (omega (arith, lt)))) each in
    record {
      starts_are = ap (take cut) (cut_starts parts starts cut n row.starts_are lt is)
          ∙ take_at (starts_of 0 (take cut parts)) (starts_of (0 + n) (drop cut parts)) cut (starts_before parts cut lt);
      some = λ _. each;
      count_is = cut_count parts starts cut n row.starts_are lt is;
      begins = begins_front first (all_of (take cut parts)) (all_of (drop cut parts)) some (subst (BeginsAt first) (cut_all parts cut) row.begins);
      since = since;
    }

-- the parts that are cut off a row are a row
pub row_rest : (parts : List (List Chunk)) (starts : List ℕ) (count first oldest cut n front high : ℕ) → IsRow parts starts count first oldest
    → 0 < cut → cut < length parts → n ≡ get_or starts cut 0 → BeginsAt front (get_or (drop cut parts) 0 [])
    → AreSince high (all_of (drop cut parts)) → IsRow (drop cut parts) (map (λ (m : ℕ). m - n) (drop cut starts)) (count - n) front high
row_rest parts starts count first oldest cut n front high row pos lt is begins since =
    let each = each_drop (λ (p : List Chunk). 0 < length p) cut parts (row.some (omega (arith, pos, lt))) in
    let have : HaveSome (drop cut parts) = λ _. each in
    record {
      starts_are = ap (map (λ (m : ℕ). m - n)) (ap (drop cut) (cut_starts parts starts cut n row.starts_are lt is)
          ∙ drop_at (starts_of 0 (take cut parts)) (starts_of (0 + n) (drop cut parts)) cut (starts_before parts cut lt))
          ∙ starts_less 0 n (drop cut parts);
      some = have;
      count_is = omega (
        arith,
        row.count_is,
        cut_count parts starts cut n row.starts_are lt is,
        ap (λ (z : List Chunk). length z) (cut_all parts cut),
        length-append (all_of (take cut parts)) (all_of (drop cut parts)),
      );
      begins = begins_all (drop cut parts) front (omega (arith, lt, length-drop cut parts)) have begins;
      since = since;
    }

-- the chunks of a row cut between two parts are parted in two, neither without a chunk
pub row_parted : (parts : List (List Chunk)) (cut : ℕ) → HaveSome parts → 0 < cut → cut < length parts
    → AreParted (all_of parts) (all_of (take cut parts)) (all_of (drop cut parts))
row_parted parts cut have pos lt =
    let each = have (omega (arith, pos, lt)) in
    record {
      was = cut_all parts cut;
      lower_some = some_all (take cut parts) (omega (arith, pos, length-take-le cut parts (omega (arith, lt))))
          (each_take (λ (p : List Chunk). 0 < length p) cut parts each);
      upper_some = some_all (drop cut parts) (omega (arith, lt, length-drop cut parts)) (each_drop (λ (p : List Chunk). 0 < length p) cut parts each);
    }

-- two rows one behind the other, neither without a chunk
pub rows_joined : (lower upper : List (List Chunk)) (starts also : List ℕ) (count more first other oldest late low : ℕ)
    → IsRow lower starts count first oldest → IsRow upper also more other late → 0 < length (all_of lower) → 0 < length (all_of upper)
    → low ≤ oldest → low ≤ late → Each (λ (p : List Chunk). 0 < length p) lower → Each (λ (p : List Chunk). 0 < length p) upper
    → IsRow (lower ++ upper) (starts ++ map (λ (n : ℕ). n + count) also) (count + more) first low
rows_joined lower upper starts also count more first other oldest late low row next some also_some le behind each others = record {
  starts_are =
      ap (λ (z : List ℕ). z ++ map (λ (n : ℕ). n + count) also) row.starts_are
      ∙ (ap (λ (z : List ℕ). starts_of 0 lower ++ map (λ (n : ℕ). n + count) z) next.starts_are
      ∙ (ap (λ (z : List ℕ). starts_of 0 lower ++ z) (sym (starts_more 0 count upper))
      ∙ (ap (λ (n : ℕ). starts_of 0 lower ++ starts_of (0 + n) upper) row.count_is ∙ sym (starts_append 0 lower upper))));
  some = λ _. each_append (λ (p : List Chunk). 0 < length p) lower upper each others;
  count_is = omega (
    arith,
    row.count_is,
    next.count_is,
    ap (λ (z : List Chunk). length z) (all_append lower upper),
    length-append (all_of lower) (all_of upper),
  );
  begins = subst (BeginsAt first) (sym (all_append lower upper)) (begins_first first (all_of lower) (all_of upper) some row.begins);
  since = subst (AreSince low) (sym (all_append lower upper)) (since_both low oldest late (all_of lower) (all_of upper) le behind row.since next.since);
}

-- each start of a row plus a number is below a bound if the number of all chunks plus it is
pub starts_fit : (parts : List (List Chunk)) (starts : List ℕ) (count most : ℕ) → starts ≡ starts_of 0 parts
    → length (all_of parts) + count < most → Each (λ (n : ℕ). n + count < most) starts
starts_fit parts starts count most are few =
    subst (Each (λ (n : ℕ). n + count < most)) (sym are)
    (each_map (λ (n : ℕ). n ≤ 0 + length (all_of parts)) (λ (n : ℕ). n + count < most) (λ n h. omega (arith, h, few)) (starts_of 0 parts)
    (starts_high 0 parts))

-- each part of a row with a chunk has one
pub each_some : (parts : List (List Chunk)) → HaveSome parts → 0 < length (all_of parts) → Each (λ (p : List Chunk). 0 < length p) parts
each_some [] have some = tt
each_some (p ∷ []) have some = (omega (arith, some, length-append p []), tt)
each_some (p ∷ (q ∷ parts)) have some = have (omega arith)

-- a row without a part
pub no_row : (first oldest : ℕ) → IsRow [] [] 0 first oldest
no_row first oldest = record { starts_are = refl; some = λ several. absurd (omega (arith, several)); count_is = refl; begins = tt; since = tt }
