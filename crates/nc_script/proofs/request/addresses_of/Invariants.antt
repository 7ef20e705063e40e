use Rattle.std.proofs.Common.{◌≡◌, ◌++◌, ◌+◌, Bor, List, Option, Some, None, length, ℕ}
use Rattle.std.specs.Option.{option_copied, option_map}
use Rattle.nc_lines.specs.Words.{words_after}
use Rattle.nc_script.specs.Requests.{addresses_in}
use Rattle.nc_script.proofs.request.addresses_of.Given as goal

-- the bytes of a text that may be missing, and one more where it is not
abbrev pub text_len : Option (Bor (List ℕ)) → ℕ
text_len None = 0
text_len (Some text) = length text.now + 1

-- the choices so far and those of the text that is left are all of them
abbrev pub invariant-loop-left : goal.invariant-loop-left
invariant-loop-left l =
    addresses_in (words_after (option_copied l.fn.rest)) ≡ option_map (λ more. l.choices.items ++ more)
    (addresses_in (words_after (option_copied l.left)))

abbrev pub decreases-loop-left : goal.decreases-loop-left
decreases-loop-left l = text_len l.left
