use Rattle.std.proofs.Common.{arith, ◌≡◌, ◌++◌, ◌∷◌, List, [], ap, sym, ◌∙◌}
use Rattle.std.proofs.lemmas.Grind.{common_steps}
use Rattle.nc_gens.specs.Seen.{PassState}
use Rattle.nc_host_handles.specs.RegionHandle.{RegionHandleState}
use Rattle.nc_host_handles.proofs.region_handle.RegionHandle.seat.Goals as goal

pub invariant_of-self-in-Ok : goal.invariant_of-self-in-Ok
invariant_of-self-in-Ok c = grind (arith, common_steps)

pub push_reserved-requires : goal.push_reserved-requires
push_reserved-requires c = grind (arith, common_steps)

pub invariant_of-self-in-Err : goal.invariant_of-self-in-Err
invariant_of-self-in-Err c = grind (arith, common_steps)

pub returns-in-Ok-clause-given : goal.returns-in-Ok-clause-given
returns-in-Ok-clause-given c =
    let same : c.in-Ok.handle.value ≡ c.in-Some.pass = c.in-Ok.ensures.boxed in
    record {
      passes = ap (λ (h : RegionHandleState). h.passes) (sym c.self.view_is) ∙ c.in-Some.ensures.items ∙ ap (λ (p : PassState). c.pop.new.self.items ++ p ∷ []) (sym same);
      others = ap (λ (h : RegionHandleState). record h { passes = c.pop.new.self.items }) c.self.view_is;
    }

pub returns-in-Err-clause-unchanged : goal.returns-in-Err-clause-unchanged
returns-in-Err-clause-unchanged c =
    let same : c.in-Err.pass ≡ c.in-Some.pass = c.in-Err.ensures.back in
    let items : c.push_reserved.new.self.items ≡ c.self.inside.passes.items =
    c.push_reserved.ensures.items ∙ ap (λ (p : PassState). c.pop.new.self.items ++ p ∷ []) same ∙ sym c.in-Some.ensures.items in
    let held : List PassState → RegionHandleState = λ ps. record { region = c.self.inside.region; passes = ps; begun = c.self.inside.begun } in
    ap held items ∙ c.self.view_is
