use Rattle.std.proofs.Common.{◌≡◌, ◌++◌, take}
use Rattle.nc_script.specs.Replies.{places_words}
use Rattle.nc_script.proofs.reply.push_places.Given as goal

-- the places so far are written
abbrev pub invariant-loop-place : goal.invariant-loop-place
invariant-loop-place l = l.out.items ≡ l.initial.out.items ++ places_words (take l.place-index l.places)
