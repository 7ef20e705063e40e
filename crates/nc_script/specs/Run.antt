-- The effects of a run of a script.
use Rattle.std.specs.Prelude.{◌≡◌, ◌≢◌, ◌⊎◌, ◌↔◌, ℕ, Bool, List, Option, Result, OnOk, IfErr, IfSome, IsErrOf}
use Rattle.std.specs.Io.KnownBytes.{Consumes, IsAtEnd}
use Rattle.nc_decode.specs.Bundles.{IsRegionSize}
use Rattle.nc_gens.specs.Seen.{AreSeats}
use Rattle.nc_lines.specs.declared.fault.ReplayFault.{ReplayFault}
use Rattle.nc_lines.specs.declared.fault.ReplayFault.TheVariants.{ReadFailed, WriteFailed, OutOfMemory, BadSize, BadSeats, BadWorkers}
use Rattle.nc_lines.specs.Lines.{lines_of, ended_lines}
use Rattle.nc_lines.specs.Replying.{IsComplete, IsBegun, IsCutShort}
use Rattle.nc_script.specs.Serving.{IsOnlyReply, new_script}
use Rattle.nc_script.specs.Script.{Script}

-- exactly the replies to these lines were written, beginning in the initial state
abbrev pub HasReplied : (queries : Bool) → (bundles seats : ℕ) → Option (List ℕ) → Option (List ℕ) → List (List ℕ) → Type 0
HasReplied queries bundles seats before after lines =
    (new : Script) × IsComplete (IsOnlyReply queries) (new_script bundles seats) new before after lines

-- The effect of a run of a script, by its result. Its `chunk` lines are requests if queries are taken, and else bad lines. The reader
-- was `reader` before it and is `left` after it; the writer was `writer` and is `after`. `remaining` gives the bytes that a reader has
-- left to read, and `contents` those that a writer has.
pub record HasRun {R W T : Type 0} (queries : Bool) (bundles seats : ℕ) (remaining : R → Option (List ℕ))
    (contents : W → Option (List ℕ)) (reader left : R) (writer after : W) (result : Result T ReplayFault) : Type 0 where
  -- The two numbers are checked first, in this order, before anything is read or written.
  pub bad_size : IsErrOf result BadSize ↔ ¬ IsRegionSize bundles
  pub bad_seats : IsErrOf result BadSeats ↔ (IsRegionSize bundles × ¬ AreSeats seats)
  pub no_workers : IfErr result (λ fault. fault ≢ BadWorkers)
  pub untouched : ¬ (IsRegionSize bundles × AreSeats seats) → (left ≡ reader) × (after ≡ writer)
  -- The whole input was read, and exactly the replies to its lines were written.
  pub ok : OnOk result (IfSome (remaining reader) (λ input.
      HasReplied queries bundles seats (contents writer) (contents after) (lines_of input)))
  pub read : OnOk result (IsAtEnd (remaining left))
  -- A prefix of the replies was written.
  pub write_failed : IsErrOf result WriteFailed → IfSome (remaining reader) (λ input.
      IsBegun (IsOnlyReply queries) (new_script bundles seats) (contents writer) (contents after) (lines_of input))
  -- Exactly the replies to the lines whose line end was read were written.
  pub read_failed : IsErrOf result ReadFailed → (front : List ℕ) × Consumes (remaining reader) (remaining left) front
      × HasReplied queries bundles seats (contents writer) (contents after) (ended_lines front)
  -- Exactly the replies to the lines before the one that failed were written, or there was no memory for the region, and nothing was
  -- read or written.
  pub out_of_memory : IsErrOf result OutOfMemory
      → ((left ≡ reader) × (after ≡ writer)) ⊎ IfSome (remaining reader) (λ input.
      IsCutShort (IsOnlyReply queries) (new_script bundles seats) (contents writer) (contents after) (lines_of input))
