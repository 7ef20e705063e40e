-- What is kept of a line names the chunk that the line names.
use Rattle.std.proofs.Common.{◌≡◌, ◌<◌, ◌≤◌, ℕ, Bool, cond, List, Option, None, length, sym, ap, ◌∙◌, ⊎_elim}
use Rattle.std.proofs.lemmas.Bool.{lt-ltb, cases_lt}
use Rattle.nc_lines.specs.Lines.{is_long, kept_of, line_limit}
use Rattle.nc_lines.specs.Words.{chunk_in, placed_in}
use Rattle.nc_lines.specs.Lines.{words_in}
use Rattle.nc_lines.proofs.Cuts.{kept_is_all, kept_is_long}

-- what is read of lines that aren't too long is read of what is kept of them
pub read_of_kept : {X : Type 0} (read : List ℕ → Option X) (kept line : List ℕ) → kept ≡ kept_of line
    → cond (is_long kept) None (read kept) ≡ cond (is_long line) None (read line)
read_of_kept read kept line e =
    ⊎_elim
    (λ (long : line_limit < length kept).
    ap (λ (v : Bool). cond v None (read kept)) (lt-ltb _ _ long)
    ∙ sym (ap (λ (v : Bool). cond v None (read line)) (lt-ltb _ _ (kept_is_long line_limit kept line e long))))
    (λ (short : length kept ≤ line_limit). ap (λ (l : List ℕ). cond (is_long l) None (read l)) (kept_is_all line_limit kept line e short))
    (cases_lt line_limit (length kept))

-- the chunk that a line names is read of what is kept of the line
pub chunk_of_kept : (kept line : List ℕ) → kept ≡ kept_of line → chunk_in kept ≡ chunk_in line
chunk_of_kept kept line e = read_of_kept (λ (l : List ℕ). placed_in (words_in l)) kept line e
