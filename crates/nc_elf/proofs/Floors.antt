-- What one more program header adds: where the loaded segments end, and that they have no fault.
use Rattle.std.proofs.Common.{ℕ, ◌+◌, ◌≤◌, List, IsTrue, arith, below_more}
use Rattle.nc_elf.specs.Segments.{program_header, is_load, EndBy, AreGood, IsGoodSegment}
use Rattle.nc_elf.specs.machinery.Pass.{IsFloor}

-- what holds of the first segments, and of the next one if it is loaded
more_end : (file : List ℕ) (i at : ℕ) → EndBy file i at
    → (IsTrue (is_load (program_header file i)) → (program_header file i).address + (program_header file i).memory_len ≤ at)
    → EndBy file (i + 1) at
more_end file i at e h =
    record {
      each =
          below_more (λ j. IsTrue (is_load (program_header file j))
          → (program_header file j).address + (program_header file j).memory_len ≤ at) i e.each h;
    }

-- the first segments end where all do
fewer_end : (file : List ℕ) (i at : ℕ) → EndBy file (i + 1) at → EndBy file i at
fewer_end file i at e = record { each = λ j h l. e.each j (omega arith) l }

-- after a loaded segment that is after the others, the floor is its end
pub floor_at_end : (file : List ℕ) (i floor : ℕ) → IsFloor file i floor → IsTrue (is_load (program_header file i)) → IsGoodSegment file i
    → IsFloor file (i + 1) ((program_header file i).address + (program_header file i).memory_len)
floor_at_end file i floor f l g =
    record {
      least = λ at. (
        λ e. e.each i (omega arith) l,
        λ h. more_end file i at ((f.least at).1 (omega (arith, (f.least _).0 g.after_others))) (λ _. h),
      );
      bound = g.below_top;
    }

-- a segment that isn't loaded leaves the floor where it is
pub floor_stays : (file : List ℕ) (i floor : ℕ) → IsFloor file i floor → (IsTrue (is_load (program_header file i)) → ⊥)
    → IsFloor file (i + 1) floor
floor_stays file i floor f l =
    record {
      least = λ at. (
        λ e. (f.least at).0 (fewer_end file i at e),
        λ h. more_end file i at ((f.least at).1 h) (λ k. absurd (l k)),
      );
      bound = f.bound;
    }

-- segments have no fault with one more header that has none if it is loaded
pub more_good : (file : List ℕ) (i : ℕ) → AreGood file i → (IsTrue (is_load (program_header file i)) → IsGoodSegment file i)
    → AreGood file (i + 1)
more_good file i a g =
    record { each = below_more (λ j. IsTrue (is_load (program_header file j)) → IsGoodSegment file j) i a.each g }
