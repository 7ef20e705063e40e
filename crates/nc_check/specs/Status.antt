-- The exit status of the program if it stops before it has been through its files.
use Rattle.std.specs.Prelude.{ℕ}
use Rattle.clap.specs.Values.{kind_of}
use Rattle.clap.specs.declared.error.kind.ErrorKind.{ErrorKind}
use Rattle.clap.specs.declared.error.kind.ErrorKind.TheVariants.{DisplayHelp, DisplayVersion}
use Rattle.nc_check.specs.declared.halt.Halt.{Halt}
use Rattle.nc_check.specs.declared.halt.Halt.TheVariants.{Words, Files}

-- the exit status for the words of the command line: 0 if they ask for help or the version, else 2
abbrev pub words_status : ErrorKind → ℕ
words_status DisplayHelp = 0
words_status DisplayVersion = 0
words_status _ = 2

-- the exit status if the program stops: 0 after help or the version, else 2
abbrev pub halt_status : Halt → ℕ
halt_status (Words error) = words_status (kind_of error)
halt_status (Files failure) = 2
