use Rattle.std.proofs.Common.{◌≡◌, ℕ, ◌<◌, [], length, get_or, take, map, sym, arith, subst}
use Rattle.std.proofs.lemmas.Grind.{common_steps}
use Rattle.std.proofs.lemmas.List.{length-map}
use Rattle.nc_list.specs.Stamps.{AreSince}
use Rattle.nc_list.specs.Parts.{all_of}
use Rattle.nc_list.proofs.Pieces.{part_is, all_more}
use Rattle.nc_list.proofs.LowerBounds.{since_both}
use Rattle.nc_list.proofs.parts.oldest_of.Goals as goal

pub loop-k-preserved : goal.loop-k-preserved
loop-k-preserved g c =
    let parts = map g.T.Part.items c.args.parts.now in
    let k : ℕ = c.loop-k.k in
    let long : length parts ≡ length c.args.parts.now = length-map c.args.parts.now g.T.Part.items in
    let inside : k < length c.args.parts.now = omega (arith, c.loop-k-test.true) in
    let is = part_is g.T.Part.items c.args.parts.now k c.index-parts-k.result inside c.index-parts-k.is in
    subst (AreSince c.min-low.result) (sym (all_more parts k (omega (arith, inside, long))))
    (since_both c.min-low.result c.loop-k.low c.oldest.result (all_of (take k parts)) (get_or parts k []) (omega arith) (omega arith)
    c.loop-k.invariant (subst (AreSince c.oldest.result) is c.oldest.ensures))

pub returns : goal.returns
returns g c = grind (arith, common_steps)
