-- Lines that name chunks to be vetted only, and the replies with their verdicts.
use Rattle.std.specs.Prelude.{◌≡◌, ◌≢◌, ℕ, ◌⊎◌, List, MatchOption, Option, codes, take}
use Rattle.std.specs.List.{AllZip, flat_map}
use Rattle.std.specs.Io.KnownBytes.{Appends}
use Rattle.nc_vet.specs.Faults.{HasFault}
use Rattle.nc_vet.specs.declared.fault.VetFault.{VetFault}
use Rattle.nc_vet.specs.declared.fault.VetFault.TheVariants.{OutOfMemory}
use Rattle.nc_lines.specs.Lines.{bad_line}
use Rattle.nc_lines.specs.Words.{chunk_in}
use Rattle.nc_output.specs.Verdicts.{IsValidAt, with_line_end, refused_words, fault_words}

-- the reply to a chunk that is only vetted: `ok` if it is valid for this limit, else `refused` with its fault; lack of
-- memory is not a verdict
abbrev pub SaysVerdict : ℕ → ℕ → List ℕ → List ℕ → Type 0
SaysVerdict base limit bytes reply =
    (IsValidAt base limit bytes × (reply ≡ with_line_end (codes "ok")))
    ⊎ ((fault : VetFault) × HasFault base limit bytes fault × (fault ≢ OutOfMemory)
    × (reply ≡ with_line_end (refused_words (fault_words fault))))

-- the reply to a line: the verdict on the chunk that it names, or `bad line` if it names none
abbrev pub VetsLine : ℕ → List ℕ → List ℕ → Type 0
VetsLine limit line reply = MatchOption (chunk_in line) (reply ≡ bad_line) (λ placed. SaysVerdict placed.0 limit placed.1 reply)

-- the replies to these lines, concatenated in order
abbrev pub VetsLines : ℕ → List (List ℕ) → List ℕ → Type 0
VetsLines limit lines replies = (each : List (List ℕ)) × AllZip (VetsLine limit) lines each × (replies ≡ flat_map (λ reply. reply) each)

-- Exactly the replies to these lines were written: `ok` if the line names a valid chunk, `refused` and the fault if it
-- names any other chunk, else `bad line`. Lack of memory is not a verdict.
pub record HasVetted (limit : ℕ) (before after : Option (List ℕ)) (lines : List (List ℕ)) : Type 0 where
  pub replies : List ℕ
  pub verdicts : VetsLines limit lines replies
  pub written : Appends before after replies

-- a prefix of the replies to these lines was written
pub record HasBegunVetted (limit : ℕ) (before after : Option (List ℕ)) (lines : List (List ℕ)) : Type 0 where
  pub replies : List ℕ
  pub count : ℕ
  pub verdicts : VetsLines limit lines replies
  pub written : Appends before after (take count replies)
