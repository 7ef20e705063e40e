use Rattle.std.proofs.Common.{◌≡◌, ◌<◌, ◌++◌, ◌∷◌, [], List, length, take, arith, sym, ap, ◌∙◌, rules}
use Rattle.std.proofs.lemmas.Grind.{common_steps}
use Rattle.std.proofs.lemmas.List.{take_more}
use Rattle.std.proofs.lemmas.Option.{get_or_from_slice_get}
use Rattle.nc_decode.specs.declared.instruction.Mark.{Mark}
use Rattle.nc_decode.specs.declared.instruction.Mark.TheVariants.{Unmarked}
use Rattle.nc_region.proofs.create.listed.Goals as goal

pub loop-i-preserved : goal.loop-i-preserved
loop-i-preserved c =
    let all = c.args.vetted.now.marks in
    let i = c.loop-i.i in
    let lt : i < length all = rw (c.requires.as_long, ← c.code-i-end.ensures.value) c.loop-i-test.true in
    let items : c.push_reserved.new.self.items ≡ c.loop-i.marks.items ++ c.mark.result ∷ [] = search (rules, c.push_reserved.ensures.items) in
    record {
      front = items
          ∙ (ap (λ (front : List Mark). front ++ c.mark.result ∷ []) c.loop-i.invariant.front
          ∙ (ap (λ (m : Mark). take i all ++ m ∷ []) (sym (get_or_from_slice_get all i c.mark.result Unmarked c.mark.ensures.value))
          ∙ sym (take_more all i Unmarked lt)));
      within = let lt : i < length c.args.vetted.now.code = rw (← c.code-i-end.ensures.value) c.loop-i-test.true in omega (arith, lt);
      room = omega (arith, c.push_reserved.ensures.capacity, c.loop-i.invariant.room);
    }

pub returns : goal.returns
returns c = grind (arith, common_steps)
