-- Where the listed segments lie.
use Rattle.std.proofs.Common.{◌≡◌, ℕ, List, true, arith, rules, All, AllPairs, IsTrue}
use Rattle.std.proofs.lemmas.Bool.{and_parts}
use Rattle.nc_elf.specs.Segments.{program_header, is_load, is_code, segment_of, AreGood, IsGoodSegment, IsPlaced, EndsBefore}
use Rattle.nc_elf.specs.machinery.Pass.{first_segments}
use Rattle.nc_elf.proofs.Lists.{each_named, pairs_named}

-- code is loaded
code_is_loaded : (file : List ℕ) (i : ℕ) → is_code (program_header file i) ≡ true → IsTrue (is_load (program_header file i))
code_is_loaded file i e = (and_parts _ _ (and_parts _ _ e).0).0

-- the segment of a header of code that has no fault
placed : (file : List ℕ) (i : ℕ) → IsGoodSegment file i → is_code (program_header file i) ≡ true → IsPlaced file (segment_of (program_header file i))
placed file i g e =
    record {
      some = search rules;
      in_file = g.in_file;
      below_top = omega (arith, g.in_memory, g.below_top);
    }

-- each listed segment is placed
pub all_placed : (file : List ℕ) (n : ℕ) → AreGood file n → All (IsPlaced file) (first_segments file n)
all_placed file n g =
    each_named is_code segment_of (IsPlaced file) file n (λ i l e. placed file i (g.each i l (code_is_loaded file i e)) e)

-- each listed segment ends where the later ones begin, or before
pub all_apart : (file : List ℕ) (n : ℕ) → AreGood file n → AllPairs EndsBefore (first_segments file n)
all_apart file n g =
    pairs_named is_code segment_of EndsBefore file n (λ i k lt within here there.
    omega (
      arith,
      (g.each k within (code_is_loaded file k there)).after_others.each i lt (code_is_loaded file i here),
      (g.each i (omega arith) (code_is_loaded file i here)).in_memory,
    ))
