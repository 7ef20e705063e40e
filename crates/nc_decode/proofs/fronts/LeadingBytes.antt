-- The bytes before the first number that is none.
use Rattle.std.proofs.Common.{◌≡◌, ℕ, ◌<◌, Bool, true, false, List, [], ◌∷◌, ◌++◌, cond, refl, sym, ◌∙◌, ap, arith, inl, inr, nat_lt}
use Rattle.std.proofs.Common.{append-nil, ltb-true, lt-ltb, zero, suc}
use Rattle.nc_decode.specs.Front.{leading_bytes}
use Rattle.nc_base.proofs.Offered.{true_or_false, cond_is_true, cond_is_false}
use Rattle.nc_decode.proofs.reading.EntryReads.{IsBytes}

-- ---- the leading bytes

-- a byte in front is a leading byte
leading_more : (b : ℕ) (rest : List ℕ) → b < 256 → leading_bytes (b ∷ rest) ≡ b ∷ leading_bytes rest
leading_more b rest lt = cond_is_true (nat_lt b 256) (b ∷ leading_bytes rest) [] (lt-ltb _ _ lt)

-- bytes with a number in front that is a byte, or else no bytes, are bytes
fit_by : (t : Bool) (b : ℕ) (rest : List ℕ) → nat_lt b 256 ≡ t → IsBytes rest → IsBytes (cond t (b ∷ rest) [])
fit_by true b rest is fits zero = ltb-true _ _ is
fit_by true b rest is fits (suc i) = fits i
fit_by false b rest is fits i = omega arith

-- the leading bytes of a list of numbers are bytes
pub leading_fit : (xs : List ℕ) → IsBytes (leading_bytes xs)
leading_fit [] i = omega arith
leading_fit (b ∷ rest) i = fit_by (nat_lt b 256) b (leading_bytes rest) refl (leading_fit rest) i

-- the leading bytes of this list of numbers are a front of it
pub record IsLed (xs : List ℕ) : Type 0 where
  pub more : List ℕ
  pub parts : xs ≡ leading_bytes xs ++ more

-- the leading bytes of each list of numbers are a front of it
pub leading_front : (xs : List ℕ) → IsLed xs
leading_front [] = record { more = []; parts = refl }
leading_front (b ∷ rest) =
    elim (true_or_false (nat_lt b 256)) [
      | inl is ↦
          (let f = leading_front rest in
          record {
            more = f.more;
            parts = ap (λ (ys : List ℕ). b ∷ ys) f.parts
                ∙ ap (λ (ys : List ℕ). ys ++ f.more) (sym (cond_is_true (nat_lt b 256) (b ∷ leading_bytes rest) [] is));
          })
      | inr is_not ↦ record {
        more = b ∷ rest;
        parts = ap (λ (ys : List ℕ). ys ++ (b ∷ rest))
            (sym (cond_is_false (nat_lt b 256) (b ∷ leading_bytes rest) [] is_not));
      }
    ]

-- bytes in front are leading ones, whatever follows
pub leading_all : (front rest : List ℕ) → IsBytes front → leading_bytes (front ++ rest) ≡ front ++ leading_bytes rest
leading_all [] rest fits = refl
leading_all (b ∷ front) rest fits = leading_more b (front ++ rest) (fits 0)
    ∙ ap (λ (ys : List ℕ). b ∷ ys) (leading_all front rest (λ k. fits (suc k)))

-- bytes lead themselves
pub leading_whole : (bytes : List ℕ) → IsBytes bytes → leading_bytes bytes ≡ bytes
leading_whole bytes fits = ap leading_bytes (sym (append-nil bytes)) ∙ (leading_all bytes [] fits ∙ append-nil bytes)
