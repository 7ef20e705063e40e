-- Replies to lines that go on by one line.
use Rattle.std.proofs.Common.{◌++◌, ℕ, List, [], ◌∷◌, refl, sym, ap, ◌∙◌, subst, append_assoc, append-nil}
use Rattle.nc_lines.specs.Replying.{RepliesToLines}

-- replies to lines go on by the reply to one more
pub runs_more : {S : Type 0} (replies : S → List ℕ → List ℕ → S → Type 0) (old : S) (lines : List (List ℕ)) (reply : List ℕ) (mid : S)
    (line text : List ℕ) (new : S)
    → RepliesToLines replies old lines reply mid → replies mid line text new
    → RepliesToLines replies old (lines ++ line ∷ []) (reply ++ text) new
runs_more {S} replies old [] reply mid line text new h a = (
  new,
  text,
  [],
  subst (λ (m : S). replies m line text new) h.1 a,
  ap (λ (t : List ℕ). t ++ text) h.0 ∙ sym (append-nil text),
  (refl, refl),
)
runs_more replies old (l ∷ lines) reply mid line text new h a =
    let (next, first, rest, replied_so, e, runs) = h in (
      next,
      first,
      rest ++ text,
      replied_so,
      ap (λ (t : List ℕ). t ++ text) e ∙ append_assoc first rest text,
      runs_more replies next lines rest mid line text new runs a,
    )
