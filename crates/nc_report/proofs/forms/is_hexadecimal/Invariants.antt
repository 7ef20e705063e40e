-- The bytes so far are hexadecimal text.
use Rattle.std.proofs.Common.{◌≡◌, true, take}
use Rattle.std.specs.List.{list_all}
use Rattle.nc_report.specs.Forms.{is_of_digits}
use Rattle.nc_report.proofs.forms.is_hexadecimal.Given as goal

abbrev pub invariant-loop-byte : goal.invariant-loop-byte
invariant-loop-byte l = list_all is_of_digits (take l.byte-index l.code) ≡ true
