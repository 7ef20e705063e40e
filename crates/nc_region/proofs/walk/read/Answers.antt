use Rattle.std.proofs.Common.{◌≡◌, ℕ, ◌+◌, ◌<◌, length, get_or, set, arith, ◌∙◌, below_more}
use Rattle.std.proofs.lemmas.List.{get_or-set_same, get_or-set_other, length-set}
use Rattle.nc_text.specs.Places.{byte_at}
use Rattle.nc_region.proofs.walk.read.Goals as goal

pub loop-k-preserved : goal.loop-k-preserved
loop-k-preserved g c =
    let text = (g.A.Acts.marked c.args.acts.now).bytes in
    let k = c.loop-k.k in
    let at = c.args.at in
    let short : k < length c.loop-k.bytes = omega (arith, c.loop-k.invariant.as_long) in
    record {
      as_long = length-set c.loop-k.bytes k c.byte.result ∙ c.loop-k.invariant.as_long;
      read = below_more (λ (j : ℕ). get_or (set c.loop-k.bytes k c.byte.result) j 0 ≡ byte_at text (at + j)) k
          (λ j lt. get_or-set_other c.loop-k.bytes k j c.byte.result 0 (λ same. omega (arith, same, lt)) ∙ c.loop-k.invariant.read j lt)
          (get_or-set_same c.loop-k.bytes k c.byte.result 0 short ∙ c.byte.ensures);
    }
