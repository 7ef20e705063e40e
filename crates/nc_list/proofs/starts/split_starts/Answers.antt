use Rattle.std.proofs.Common.{ℕ, ◌-◌, ◌<◌, ◌≤◌, List, [], ◌∷◌, ◌++◌, length, get_or, take, drop, map, sym, ap, ◌∙◌, arith}
use Rattle.std.proofs.lemmas.Grind.{common_steps}
use Rattle.std.proofs.lemmas.List.{length-append, get_or_default}
use Rattle.nc_list.proofs.Mapped.{mapped_tail, each_from_index}
use Rattle.nc_list.proofs.starts.split_starts.Goals as goal

pub overflow_sub-index : goal.overflow_sub-index
overflow_sub-index c =
    let so = c.loop-i.invariant in
    let all = c.args.starts.now.items in
    let inside : c.loop-i.i < length all = omega (arith, c.loop-i-test.true, c.len-i-end.ensures, c.args.starts.now.ok.0) in
    omega (
      arith,
      c.index-before.ensures,
      c.index.ensures,
      get_or_default all c.args.cut c.index-before.result.now 0 c.requires.inside,
      get_or_default all c.loop-i.i c.index.result.now 0 inside,
      each_from_index (λ (n : ℕ). get_or all c.args.cut 0 ≤ n) all c.args.cut c.loop-i.i 0 so.from inside c.requires.enough,
    )

pub loop-i-preserved : goal.loop-i-preserved
loop-i-preserved c =
    let so = c.loop-i.invariant in
    let all = c.args.starts.now.items in
    let before : ℕ = c.index-before.result.now in
    let here : ℕ = c.index.result.now in
    let inside : c.loop-i.i < length all = omega (arith, c.loop-i-test.true, c.len-i-end.ensures, c.args.starts.now.ok.0) in
    record {
      from = omega (arith, so.from);
      room = rw c.push_reserved.ensures.capacity so.room;
      long = ap (λ (z : List ℕ). length z) c.push_reserved.ensures.items
          ∙ omega (arith, length-append c.loop-i.upper.items ((here - before) ∷ []), so.long, so.from);
      done = c.push_reserved.ensures.items
          ∙ (ap (λ (z : List ℕ). z ++ (here - before) ∷ []) so.done
          ∙ (ap (λ (n : ℕ). map (λ (m : ℕ). m - before) (take (c.loop-i.i - c.args.cut) (drop c.args.cut all)) ++ (n - before) ∷ [])
          (c.index.ensures ∙ get_or_default all c.loop-i.i here 0 inside)
          ∙ sym (mapped_tail (λ (n : ℕ). n - before) all c.args.cut c.loop-i.i 0 so.from inside)));
    }

pub returns : goal.returns
returns c = grind (arith, common_steps)
