use Rattle.std.proofs.Common.{◌≡◌, take, map}
use Rattle.std.specs.Prelude.{string_bytes}
use Rattle.nc_cli.proofs.parsing.texts_of.Given as goal

-- the texts are those of the words so far
abbrev pub invariant-loop-word : goal.invariant-loop-word
invariant-loop-word l = map (λ text. text.now) l.texts.items ≡ map string_bytes (take l.word-index l.words)
