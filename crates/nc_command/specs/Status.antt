-- The exit status of the program if its work isn't done.
use Rattle.std.specs.Prelude.{ℕ}
use Rattle.clap.specs.Values.{kind_of}
use Rattle.clap.specs.declared.error.kind.ErrorKind.{ErrorKind}
use Rattle.clap.specs.declared.error.kind.ErrorKind.TheVariants.{DisplayHelp, DisplayVersion, OutOfMemory}
use Rattle.nc_command.specs.declared.halt.Halt.{Halt}
use Rattle.nc_command.specs.declared.halt.Halt.TheVariants.{Words, Fault}

-- the exit status for the words of the command line: 0 if they ask for help or the version, 1 if memory ran out, else 2
abbrev pub status_of_words : ErrorKind → ℕ
status_of_words DisplayHelp = 0
status_of_words DisplayVersion = 0
status_of_words OutOfMemory = 1
status_of_words _ = 2

-- the exit status if the program stops: 0 after help or the version, 2 for a fault of the command line, else 1
abbrev pub status_of : Halt → ℕ
status_of (Words error) = status_of_words (kind_of error)
status_of (Fault fault) = 1
