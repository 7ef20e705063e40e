use Rattle.std.proofs.Common.{arith, ◌≡◌, ℕ, Bool, true, not, if◌then◌else◌, List, take, drop, sym, ap, ◌∙◌, subst}
use Rattle.std.proofs.lemmas.Grind.{common_steps}
use Rattle.std.specs.Result.{is_ok}
use Rattle.std.specs.List.{insert}
use Rattle.nc_list.specs.declared.chunk.Chunk.{Chunk}
use Rattle.nc_list.specs.Chunks.{Meets, live}
use Rattle.nc_list.specs.Parts.{IsPut, BeginTo, BeginAbove}
use Rattle.nc_list.proofs.Finding.{put_at}
use Rattle.nc_list.proofs.leaf.LeafPart.insert.Goals as goal
use Rattle.nc_list.proofs.leaf.LeafPart.insert.Goals.{Else-is_err}

-- the new chunk is put where it was inserted
put : (c : Else-is_err) → IsPut c.args.self.now c.insert.new.self.items (live c.args.base c.args.len)
put c =
    let items : List Chunk = c.self.inside.entries.items in
    let k : ℕ = c.count_near-k.result in
    let to : BeginTo c.args.base (take k items) = rw c.deref.ensures.value at c.count_near-k.ensures.below in
    let above : BeginAbove c.args.base (drop k items) = rw c.deref.ensures.value at c.count_near-k.ensures.above in
    let free : ¬ Meets c.args.base c.args.len items =
    subst (λ (z : List Chunk). ¬ Meets c.args.base c.args.len z) (sym c.self.view_is) c.requires.free in
    let done : is_ok c.insert.result ≡ true = c.is_err.ensures.negation ∙ ap not c.if-is_err.false in
    let now : c.insert.new.self.items ≡ insert items k (live c.args.base c.args.len) =
    c.insert.ensures.items ∙ (ap (λ (b : Bool). if b then insert items k c.live.result else items) done
    ∙ ap (λ (d : Chunk). insert items k d) c.live.ensures) in
    rw (now, ← c.self.view_is) (put_at items k c.args.base c.args.len c.requires.some to above free)

pub invariant_of-self-else-k-eq0 : goal.invariant_of-self-else-k-eq0
invariant_of-self-else-k-eq0 c = grind (arith, common_steps)

pub returns-then-k-eq0-clause-ok : goal.returns-then-k-eq0-clause-ok
returns-then-k-eq0-clause-ok c = put (goal.at.returns-then-k-eq0-clause-ok c).Else-is_err

pub returns-else-k-eq0-clause-ok : goal.returns-else-k-eq0-clause-ok
returns-else-k-eq0-clause-ok c = put (goal.at.returns-else-k-eq0-clause-ok c).Else-is_err
