-- What is kept of a line makes the request that the line makes.
use Rattle.std.proofs.Common.{◌≡◌, ℕ, Bool, List}
use Rattle.nc_lines.specs.Lines.{kept_of, words_in}
use Rattle.nc_lines.proofs.Offered.{read_of_kept}
use Rattle.nc_script.specs.Requests.{request_in, request_of}

-- a line's request is read of what is kept of the line, or the line is too long
pub request_of_kept : (queries : Bool) (kept line : List ℕ) → kept ≡ kept_of line → request_in queries kept ≡ request_in queries line
request_of_kept queries kept line e = read_of_kept (λ (l : List ℕ). request_of queries (words_in l)) kept line e
