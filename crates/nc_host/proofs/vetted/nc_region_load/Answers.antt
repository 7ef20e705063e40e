use Rattle.std.proofs.Common.{arith, Some, ap, sym, inl, inr, ⊎_elim, ◌∙◌}
use Rattle.std.proofs.lemmas.Grind.{common_steps}
use Rattle.nc_host_handles.specs.RegionHandle.{RegionHandleState}
use Rattle.nc_host_handles.specs.declared.vetted_handle.VettedHandle.{VettedHandle}
use Rattle.nc_host.proofs.PutBack.{had_before, is_done}
use Rattle.nc_host.proofs.vetted.nc_region_load.Goals as goal

pub returns-in_default-take-clause-refused : goal.returns-in_default-take-clause-refused
returns-in_default-take-clause-refused c = grind (arith, common_steps)

pub returns-then-change-gt0-clause-created : goal.returns-then-change-gt0-clause-created
returns-then-change-gt0-clause-created c = grind (arith, common_steps)

pub returns-else-change-gt0-clause-created : goal.returns-else-change-gt0-clause-created
returns-else-change-gt0-clause-created c = λ e.
    let made = c.load_kept-change.ensures.created e in (
      c.take.ensures.left,
      (
        c.deref_mut-2.result.now,
        had_before c.in-Some.ensures.some c.deref_mut-2.ensures.value,
        (
          made.0,
          made.1,
          is_done _ c.in-Some-take.ensures.some c.deref_mut.ensures.value c.of-2.ensures made.2,
          made.3,
        ),
      ),
    )

pub returns-then-change-gt0-clause-untouched : goal.returns-then-change-gt0-clause-untouched
returns-then-change-gt0-clause-untouched c = λ lt.
    let same = c.load_kept-change.ensures.untouched lt in (
      same.0,
      c.of-then-change-gt0.ensures ∙ (ap (λ (k : VettedHandle). Some k) (same.1 ∙ c.deref_mut-2.ensures.value) ∙ sym c.in-Some.ensures.some),
    )

pub returns-then-change-gt0-clause-unchanged : goal.returns-then-change-gt0-clause-unchanged
returns-then-change-gt0-clause-unchanged c = λ lt.
    ⊎_elim
    (λ e. inl (c.of-2.ensures ∙ (ap (λ (h : RegionHandleState). Some h) (e ∙ c.deref_mut.ensures.value) ∙ sym c.in-Some-take.ensures.some)))
    (λ p. inr (
      p.0,
      (
        c.deref_mut-2.result.now,
        had_before c.in-Some.ensures.some c.deref_mut-2.ensures.value,
        (
          p.1.0,
          p.1.1,
          is_done _ c.in-Some-take.ensures.some c.deref_mut.ensures.value c.of-2.ensures p.1.2,
        ),
      ),
    ))
    (c.load_kept-change.ensures.unchanged lt)

pub returns-then-change-gt0-clause-refused : goal.returns-then-change-gt0-clause-refused
returns-then-change-gt0-clause-refused c = λ lt.
    let had = had_before c.in-Some-take.ensures.some c.deref_mut.ensures.value in
    let kept = had_before c.in-Some.ensures.some c.deref_mut-2.ensures.value in
    ⊎_elim (λ n. inl (n.0, n.1, inr (inr (c.deref_mut-2.result.now, kept, n.2))))
    (λ r. inr (c.deref_mut.result.now, c.deref_mut-2.result.now, r.0, had, kept, r.1, r.2))
    (c.load_kept-change.ensures.refused lt)
