-- Whether a writer failed because its reader is gone.
use Rattle.std.specs.Prelude.{◌≡◌, ◌↔◌, Bool, true, Result, Ok, Err}
use Rattle.std.specs.IoError.{error_kind}
use Rattle.std.specs.declared.io.Error.{Error}
use Rattle.std.specs.declared.io.ErrorKind.TheVariants.{BrokenPipe}

-- after an error, `new` says whether the reader is gone (`BrokenPipe`); otherwise it is as before
abbrev pub TellsClosed : {T : Type 0} → Result T Error → Bool → Bool → Type 0
TellsClosed (Ok value) old new = new ≡ old
TellsClosed (Err error) old new = (new ≡ true) ↔ (error_kind error ≡ BrokenPipe)
