use Rattle.std.proofs.Common.{◌≡◌, ◌≤◌, ◌^◌, List, [], ◌∷◌, ap, arith, rules}
use Rattle.std.specs.Prelude.{All}
use Rattle.std.proofs.lemmas.List.Elements.{All-nil, All-cons}
use Rattle.nc_gens.specs.Seen.{PassState, KeeperSteps}
use Rattle.nc_histories.specs.Steps.{word_steps}
use Rattle.nc_region.specs.Region.{Region}
use Rattle.nc_region.specs.schedules.Events.{Looks}
use Rattle.nc_histories.specs.Interleaving.{IsKeepers}
use Rattle.nc_histories.specs.Histories.{UsesKeeper}
use Rattle.nc_host_handles.specs.RegionHandle.{meetings}
use Rattle.std.proofs.lemmas.Grind.{common_steps}
use Rattle.nc_host_handles.proofs.Progress.{freed_given}
use Rattle.nc_host_handles.proofs.Reporting.{reclaims}
use Rattle.nc_host_handles.proofs.region_handle.RegionHandle.reclaim.Goals as goal

-- meetings are events of the keeper
all_keepers : (passes : List PassState) → All IsKeepers (meetings passes)
all_keepers [] = All-nil IsKeepers
all_keepers (p ∷ rest) =
    All-cons IsKeepers (Looks p.seat) (Looks p.seat ∷ meetings rest) tt (All-cons IsKeepers (Looks p.seat) (meetings rest) tt (all_keepers rest))

pub invariant_of-self : goal.invariant_of-self
invariant_of-self c = grind (arith, common_steps)

pub returns-clause-reclaimed : goal.returns-clause-reclaimed
returns-clause-reclaimed c =
    let same : c.attend.new.region ≡ record c.args.self.now.region { keeper = c.attend.new.region.keeper } = search rules in
    let low : c.attend.new.region.keeper.numbers.generation ≤ 2 ^ 62 = grind (arith, common_steps) in
    let steps : KeeperSteps c.args.self.now.region.keeper c.attend.new.region.keeper (word_steps (meetings c.args.self.now.passes)) =
    search rules in
    record {
      none = search rules;
      met = c.attend.new.region;
      keeper = search rules;
      generation = search rules;
      raised = search rules;
      unmet = search rules;
      meets = λ seats. UsesKeeper (ap (λ (r : Region). r.marked) same) (ap (λ (r : Region). r.chunks) same)
          (all_keepers c.args.self.now.passes) steps low;
      reclaimed = search rules;
      progress = freed_given c.args.self.now c.attend.new.region c.reclaim.new.region c.attend.new.passes c.reclaim.result (search rules)
          (search rules) (search rules) (search rules);
      call = c.reclaim.ensures.call;
      outside = grind (arith, common_steps);
      seats = grind (arith, common_steps);
      others = search rules;
    }

pub returns-clause-pending : goal.returns-clause-pending
returns-clause-pending c = λ seats. reclaims seats _ _ c.reclaim.result (returns-clause-reclaimed c)
