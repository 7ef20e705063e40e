use Rattle.std.proofs.Common.{◌≡◌, ℕ, ◌+◌, ◌<◌, true, false, List, [], ◌∷◌, ◌++◌, length, get_or, set, take, refl, sym, ap, ◌∙◌, subst, arith}
use Rattle.std.proofs.lemmas.Grind.{common_steps}
use Rattle.std.proofs.lemmas.List.{length-set, length-take-le, drop-set-lt, take_more, take_more_set}
use Rattle.nc_list.specs.declared.chunk.Chunk.{Chunk}
use Rattle.nc_list.specs.Chunks.{is_due, freed}
use Rattle.nc_list.specs.Stamps.{AreSince}
use Rattle.nc_list.proofs.Taking.{gone_before, gone_taken, gone_on}
use Rattle.nc_list.proofs.LowerBounds.{since_last}
use Rattle.nc_list.proofs.Mapped.{rest_more, here_same}
use Rattle.nc_list.proofs.leaf.take_from.Goals as goal
use Rattle.nc_list.proofs.leaf.take_from.Goals.{then-is_due+then-count-room, else-is_due, else-is_due-via-then-is_due+else-count-room, else-is_due-via-else-is_due}

pub loop-i-init : goal.loop-i-init
loop-i-init c =
    let from : ℕ = c.count_kept-from.result.0 in
    let items : List Chunk = c.args.entries.now.items in
    record {
      long = refl;
      within = omega arith;
      room = refl;
      count = omega arith;
      rest = refl;
      gone = gone_before (length c.args.room.now) c.args.least (take from items)
          (subst (λ (z : List Chunk). freed c.args.least (take from z) ≡ []) c.deref.ensures.value c.count_kept-from.ensures.none);
      since = subst (λ (z : List Chunk). AreSince c.count_kept-from.result.1 (take from z)) c.deref.ensures.value c.count_kept-from.ensures.since;
    }

pub loop-i-preserved : goal.loop-i-preserved
loop-i-preserved c =
    let olds : List Chunk = c.args.entries.now.items in
    let items : List Chunk = c.loop-i.entries.items in
    let i : ℕ = c.loop-i.i in
    let to : ℕ = c.loop-i.to in
    let count : ℕ = c.loop-i.count in
    let room : List Chunk = c.loop-i.room in
    let most : ℕ = length c.args.room.now in
    let so = c.loop-i.invariant in
    let found : Chunk = c.index-entry.result.now in
    let within : i < length olds = omega (arith, c.loop-i-test.true, c.len-i-end.ensures, c.args.entries.now.ok.0) in
    let there : found ≡ get_or olds i found = c.index-entry.ensures ∙ here_same items olds i found so.rest in
    let more : take (i + 1) olds ≡ take i olds ++ found ∷ [] =
    take_more olds i found within ∙ ap (λ (d : Chunk). take i olds ++ d ∷ []) (sym there) in
    let many : length (take count room) ≡ count = length-take-le count room (omega (arith, so.count, so.room)) in
    elim c.if-is_due.branch [
      | then-is_due+then-count-room w ↦
          let due : is_due c.args.least found.state ≡ true = sym c.is_due.ensures ∙ w.if-is_due.true in
          let free : count < length room = w.if-count-room.true in
          let taken : take (count + 1) (set room count found) ≡ take count room ++ found ∷ [] = take_more_set room count found free in
          rw (w.entries-is, w.room-is, w.to-is, w.count-is, w.low-is) (record {
            long = so.long;
            within = omega (arith, so.within);
            room = length-set room count found ∙ so.room;
            count = omega (arith, free, so.room);
            rest = rest_more items olds i so.rest;
            gone = rw (more, taken) (gone_taken most c.args.least (take i olds) (take to items) (take count room) found due
                (omega (arith, many, free, so.room)) so.gone);
            since = so.since;
          })
      | else-is_due w ↦
          let why : length (take count room) < most → is_due c.args.least found.state ≡ false =
          elim w.else-is_due.branch [
            | else-is_due-via-then-is_due+else-count-room v ↦ λ free. absurd (omega (arith, free, many, so.room, v.if-count-room.false))
            | else-is_due-via-else-is_due v ↦ λ free. sym c.is_due.ensures ∙ v.if-is_due.false
          ] in
          let place : to < length items = omega (arith, so.within, within, so.long) in
          let next : take (to + 1) (set items to found) ≡ take to items ++ found ∷ [] = take_more_set items to found place in
          rw (w.entries-is, w.room-is, w.to-is, w.count-is, w.low-is) (record {
            long = length-set items to found ∙ so.long;
            within = omega (arith, so.within);
            room = so.room;
            count = so.count;
            rest = drop-set-lt (i + 1) items to found (omega (arith, so.within)) ∙ rest_more items olds i so.rest;
            gone = rw (more, next) (gone_on most c.args.least (take i olds) (take to items) (take count room) found why so.gone);
            since = subst (λ (z : List Chunk). AreSince w.min-low.result z) (sym next)
                (since_last w.min-low.result c.loop-i.low w.stamp.result found (take to items) (omega arith) (omega arith)
                w.stamp.ensures so.since);
          })
    ]

pub returns-clause-taken : goal.returns-clause-taken
returns-clause-taken c = grind (arith, common_steps)
