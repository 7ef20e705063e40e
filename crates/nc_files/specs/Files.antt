-- What is written for files, one after the other, and the exit status.
use Rattle.std.specs.Prelude.{◌≡◌, ◌⊎◌, ℕ, Bool, true, false, ◌||◌, List, [], ◌∷◌, ◌++◌, if◌then◌else◌, ⊤}
use Rattle.std.specs.Borrow.{Bor}
use Rattle.nc_files.specs.declared.request.Request.{Request}
use Rattle.nc_files.specs.Reports.{ReportsFile}
use Rattle.nc_files.specs.declared.judging.Unjudged.{Unjudged}
use Rattle.nc_files.specs.declared.judging.Unjudged.TheVariants.{Unread, Unreported}

-- the file can't be read
abbrev pub IsUnread : Unjudged → Type 0
IsUnread (Unread reason) = ⊤
IsUnread (Unreported reason) = ⊥

-- What is written for a file of this name. If it isn't faulty, that is the report on it for some bytes, by which it is refused or not.
-- Nothing is written for a faulty file, which isn't refused.
abbrev pub PrintsFile : Request → List ℕ → Bool → Bool → List ℕ → Type 0
PrintsFile request name faulty refused text =
    ((faulty ≡ false) × ((code : List ℕ) × ReportsFile request name code refused text))
    ⊎ ((faulty ≡ true) × (refused ≡ false) × (text ≡ []))

-- what is written for files of these names, in order, and whether any of them is faulty, and any refused
abbrev pub PrintsFiles : Request → List (Bor (List ℕ)) → Bool → Bool → List ℕ → Type 0
PrintsFiles request [] faulty refused text = (faulty ≡ false) × (refused ≡ false) × (text ≡ [])
PrintsFiles request (file ∷ others) faulty refused text =
    (one_faulty more_faulty one_refused more_refused : Bool) × (first rest : List ℕ)
    × PrintsFile request file.now one_faulty one_refused first × PrintsFiles request others more_faulty more_refused rest
    × (faulty ≡ one_faulty || more_faulty) × (refused ≡ one_refused || more_refused) × (text ≡ first ++ rest)

-- the exit status, by whether any file is faulty, and any refused
abbrev pub exit_status : Bool → Bool → ℕ
exit_status faulty refused = if faulty then 2 else (if refused then 1 else 0)
