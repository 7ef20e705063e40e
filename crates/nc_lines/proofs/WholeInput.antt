-- What a run says of its whole input.
use Rattle.std.proofs.Common.{◌++◌, ℕ, List, Option, Some, None, IfSome, Result, Ok, Err, sym, subst}
use Rattle.std.specs.Io.KnownBytes.{Consumes, IsAtEnd}
use Rattle.std.proofs.KnownBytes.{Consumes-whole}
use Rattle.nc_lines.specs.Lines.{lines_of, ended_lines}
use Rattle.nc_lines.specs.Replying.{IsComplete, IsBegun, IsCutShort, HasRepliedToAll}
use Rattle.nc_lines.specs.machinery.Progress.{Feeds, Finishes}
use Rattle.nc_lines.specs.declared.fault.ReplayFault.{ReplayFault}
use Rattle.nc_lines.specs.declared.fault.ReplayFault.TheVariants.{ReadFailed, WriteFailed, OutOfMemory, BadSize, BadSeats, BadWorkers}

-- what holds whatever is still to come holds of the input
known_more : (old new : Option (List ℕ)) (front : List ℕ) (P : List ℕ → Type 0) → Consumes old new front
    → ((more : List ℕ) → P (front ++ more)) → IfSome old P
known_more None new front P c h = tt
known_more (Some xs) None front P c h = absurd c
known_more (Some xs) (Some ys) front P c h = subst P (sym c) (h ys)

module _ {S : Type 0} (T : Type 0) (replies : S → List ℕ → List ℕ → S → Type 0) (start : S) (before old new : Option (List ℕ))
    (front : List ℕ) (consumed : Consumes old new front) (now : S) (after : Option (List ℕ)) where
  -- a run that ends as these bytes are taken
  pub fed_ends : (held kept : List ℕ) (fault : ReplayFault) → Feeds {T = T} replies start before front now after held kept (Err fault)
      → HasRepliedToAll {T = T} replies start now old new before after (Err fault)
  fed_ends held kept WriteFailed h = record {
    ok = tt;
    read = tt;
    write_failed = λ e. known_more old new front (λ input. IsBegun replies start before after (lines_of input)) consumed h;
    out_of_memory = λ e. absurd cc;
    read_failed = λ e. absurd cc;
    faults = (λ e. cc, λ e. cc, λ e. cc);
  }
  fed_ends held kept OutOfMemory h = record {
    ok = tt;
    read = tt;
    write_failed = λ e. absurd cc;
    out_of_memory = λ e. known_more old new front (λ input. IsCutShort replies start before after (lines_of input)) consumed h;
    read_failed = λ e. absurd cc;
    faults = (λ e. cc, λ e. cc, λ e. cc);
  }
  fed_ends held kept ReadFailed h = absurd h
  fed_ends held kept BadSize h = absurd h
  fed_ends held kept BadSeats h = absurd h
  fed_ends held kept BadWorkers h = absurd h

  -- a run that ends at the end of the input
  pub finished_ends : IsAtEnd new → (r : Result T ReplayFault) → Finishes replies start before front now after r
      → HasRepliedToAll replies start now old new before after r
  finished_ends at_end (Ok x) h = record {
    ok = Consumes-whole old new front (λ input. IsComplete replies start now before after (lines_of input)) consumed at_end h;
    read = at_end;
    write_failed = λ e. absurd cc;
    out_of_memory = λ e. absurd cc;
    read_failed = λ e. absurd cc;
    faults = tt;
  }
  finished_ends at_end (Err WriteFailed) h = record {
    ok = tt;
    read = tt;
    write_failed = λ e. Consumes-whole old new front (λ input. IsBegun replies start before after (lines_of input)) consumed at_end h;
    out_of_memory = λ e. absurd cc;
    read_failed = λ e. absurd cc;
    faults = (λ e. cc, λ e. cc, λ e. cc);
  }
  finished_ends at_end (Err OutOfMemory) h = record {
    ok = tt;
    read = tt;
    write_failed = λ e. absurd cc;
    out_of_memory = λ e.
        Consumes-whole old new front (λ input. IsCutShort replies start before after (lines_of input)) consumed at_end h;
    read_failed = λ e. absurd cc;
    faults = (λ e. cc, λ e. cc, λ e. cc);
  }
  finished_ends at_end (Err ReadFailed) h = absurd h
  finished_ends at_end (Err BadSize) h = absurd h
  finished_ends at_end (Err BadSeats) h = absurd h
  finished_ends at_end (Err BadWorkers) h = absurd h

  -- a run that ends as a read fails
  pub read_ends : IsComplete replies start now before after (ended_lines front)
      → HasRepliedToAll {T = T} replies start now old new before after (Err ReadFailed)
  read_ends replied = record {
    ok = tt;
    read = tt;
    write_failed = λ e. absurd cc;
    read_failed = λ e. (front, consumed, replied);
    out_of_memory = λ e. absurd cc;
    faults = (λ e. cc, λ e. cc, λ e. cc);
  }
