use Rattle.std.proofs.Common.{◌≡◌, ℕ, ◌+◌, false, List, [], ◌∷◌, ◌++◌, take, sym, ap, ◌∙◌, subst, arith}
use Rattle.std.proofs.lemmas.List.{take_more}
use Rattle.nc_list.specs.declared.chunk.Chunk.{Chunk}
use Rattle.nc_list.specs.Chunks.{is_due, freed}
use Rattle.nc_list.specs.Stamps.{AreSince}
use Rattle.nc_list.proofs.Taking.{none_more}
use Rattle.nc_list.proofs.LowerBounds.{since_last}
use Rattle.nc_list.proofs.leaf.count_kept.Goals as goal

pub loop-i-preserved : goal.loop-i-preserved
loop-i-preserved c =
    let items : List Chunk = c.args.entries.now in
    let i : ℕ = c.loop-i.i in
    let found : Chunk = c.index-entries-i.result in
    let so = c.loop-i.invariant in
    let more : take (i + 1) items ≡ take i items ++ found ∷ [] =
    take_more items i found c.loop-i-test.true ∙ ap (λ (d : Chunk). take i items ++ d ∷ []) (sym c.index-entries-i.is) in
    let not : is_due c.args.least found.state ≡ false = sym c.is_due.ensures ∙ c.if-is_due.false in
    record {
      none = ap (λ (z : List Chunk). freed c.args.least z) more ∙ none_more c.args.least (take i items) found so.none not;
      since = subst (λ (z : List Chunk). AreSince c.min-low.result z) (sym more)
          (since_last c.min-low.result c.loop-i.low c.stamp.result found (take i items) (omega (arith, c.min-low.ensures))
          (omega (arith, c.min-low.ensures)) c.stamp.ensures so.since);
    }

pub returns-then-is_due-clause-none : goal.returns-then-is_due-clause-none
returns-then-is_due-clause-none c = c.loop-i.invariant.none

pub returns-then-is_due-clause-since : goal.returns-then-is_due-clause-since
returns-then-is_due-clause-since c = c.loop-i.invariant.since
