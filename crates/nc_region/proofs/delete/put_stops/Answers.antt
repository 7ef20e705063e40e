use Rattle.std.proofs.Common.{ℕ, ◌∙◌, List, [], ◌∷◌, replicate, arith, ap, subst, append_assoc}
use Rattle.nc_acts.specs.declared.acts.Entry.{Entry}
use Rattle.nc_acts.specs.Acts.{puts_where, is_marked_at, is_unmarked_at}
use Rattle.nc_acts.specs.Log.{Logs, only_acts}
use Rattle.nc_text.specs.MarkedText.{MarkedText}
use Rattle.nc_acts.specs.declared.acts.Entry.TheVariants.{Did, Serialized}
use Rattle.nc_acts.specs.declared.acts.Act.TheVariants.{Bump}
use Rattle.nc_acts.proofs.Offered.{logs_more}
use Rattle.nc_region.proofs.delete.put_stops.Goals as goal

pub unreachable-requires : goal.unreachable-requires
unreachable-requires g c =
    let full = rw c.stop_span.ensures.keeper at c.in-Err.ensures.full.0 in
    omega (arith, full, c.requires.room)

pub returns-clause-bytes : goal.returns-clause-bytes
returns-clause-bytes g c =
    ap (λ (m : MarkedText). m.bytes) c.bump.ensures.marked ∙ ap (λ (m : MarkedText). m.bytes) c.stop_span.ensures.marked

pub returns-clause-marks : goal.returns-clause-marks
returns-clause-marks g c =
    ap (λ (m : MarkedText). m.marks) c.bump.ensures.marked ∙ ap (λ (m : MarkedText). m.marks) c.stop_span.ensures.marked

pub returns-clause-whole : goal.returns-clause-whole
returns-clause-whole g c = rw c.bump.ensures.marked c.stop_span.ensures.whole

pub returns-clause-stamp : goal.returns-clause-stamp
returns-clause-stamp g c = rw c.stop_span.ensures.keeper at c.in-Ok.ensures.stamp

pub returns-clause-made : goal.returns-clause-made
returns-clause-made g c = c.bump.ensures.made ∙ c.stop_span.ensures.made

pub returns-clause-keeper : goal.returns-clause-keeper
returns-clause-keeper g c = rw c.stop_span.ensures.keeper at c.in-Ok.ensures.raised

pub returns-clause-log : goal.returns-clause-log
returns-clause-log g c =
    let marks = (g.A.Acts.marked c.args.acts.now).marks in
    let stops = replicate {A = ℕ} c.args.len 244 in
    subst (λ (z : List Entry). Logs (g.A.Acts.logged c.args.acts.now) (g.A.Acts.logged c.bump.new.self) z)
    (append_assoc (only_acts (puts_where (is_marked_at marks) c.args.base stops))
    (Serialized ∷ only_acts (puts_where (is_unmarked_at marks) c.args.base stops)) (Did Bump ∷ []))
    (logs_more _ _ _ _ (Did Bump ∷ []) c.stop_span.ensures.logged c.in-Ok.ensures.logged)
