use Rattle.std.proofs.Common.{◌≡◌, Result, Ok, Err, OnOk, OnErr, true, false, sym, ◌∙◌}
use Rattle.std.specs.Result.{is_ok}
use Rattle.nc_acts.proofs.recorder.RecorderActs.bump.Goals as goal

-- what holds anyway holds where a call succeeds
if_ok : {T E : Type 0} (r : Result T E) (P : Type 0) → P → OnOk r P
if_ok (Ok x) P h = h
if_ok (Err y) P h = tt

-- what nothing is asked of
if_err : {T E : Type 0} (r : Result T E) (P : Type 0) → is_ok r ≡ true → OnErr r P
if_err (Ok x) P is = tt
if_err (Err y) P contrary = absurd (let differ : false ≡ true = contrary in let none : ⊥ = cc in none)

none_ok : {T E : Type 0} (r : Result T E) (P : Type 0) → is_ok r ≡ false → OnOk r P
none_ok (Ok x) P contrary = absurd (let differ : true ≡ false = contrary in let none : ⊥ = cc in none)
none_ok (Err y) P is = tt

pub returns-then-is_ok : goal.returns-then-is_ok
returns-then-is_ok g c =
    let acts = c.record.ensures.acts in
    let ok = sym c.is_ok.ensures.value ∙ c.if-is_ok.true in
    record {
      room = c.bump-drawn.ensures.room;
      stamp = c.bump-drawn.ensures.stamp;
      raised = rw acts c.bump-drawn.ensures.raised;
      logged = if_ok _ _ c.record.ensures.logged;
      handed_on = rw acts c.bump-drawn.ensures.logged;
      goes_on = if_ok _ _ c.record.ensures.goes_on;
      marked = rw acts c.bump-drawn.ensures.marked;
      made = rw acts c.bump-drawn.ensures.made;
      full = rw acts c.bump-drawn.ensures.full;
      unlogged = if_err _ _ ok;
      none_handed_on = if_err _ _ ok;
    }

pub returns-else-is_ok-clause-logged : goal.returns-else-is_ok-clause-logged
returns-else-is_ok-clause-logged g c = none_ok _ _ (sym c.is_ok.ensures.value ∙ c.if-is_ok.false)

pub returns-else-is_ok-clause-goes_on : goal.returns-else-is_ok-clause-goes_on
returns-else-is_ok-clause-goes_on g c = none_ok _ _ (sym c.is_ok.ensures.value ∙ c.if-is_ok.false)
