use Rattle.std.proofs.Common.{◌≡◌, ◌+◌, ◌-◌, ◌<◌, ℕ, List, length, take, drop, arith, sym, ap, ◌∙◌}
use Rattle.std.proofs.lemmas.Bool.{eqb-false}
use Rattle.nc_region.specs.Patch.{stands_there}
use Rattle.nc_base.proofs.Offered.{slice_rest}
use Rattle.nc_region.proofs.Offered.{stands_first}
use Rattle.nc_host_acts.proofs.replacing.+stands.Goals as goal

pub returns-then-code-from : goal.returns-then-code-from
returns-then-code-from t c = λ text base h.
    let bytes = c.args.bytes.now in
    let some = eqb-false (length bytes) 0 (sym c.is_empty.ensures ∙ c.if-is_empty.false) in
    let lt : 0 < length bytes = omega (arith, some) in
    let here = h c.args.from (omega (arith, some, c.requires.ends)) ∙ c.if-code-from.true in
    let on : stands_there text (base + (c.args.from + 1)) (take (length bytes - 1) (drop 1 bytes))
    ≡ stands_there text (base + c.args.from + 1) (drop 1 bytes) =
    ap (λ (z : List ℕ). stands_there text (base + (c.args.from + 1)) z) (slice_rest bytes 1)
    ∙ ap (λ (k : ℕ). stands_there text k (drop 1 bytes)) {x = base + (c.args.from + 1)} {y = base + c.args.from + 1} (omega arith) in
    c.stands.ensures text base h ∙ (on ∙ sym (stands_first text (base + c.args.from) bytes lt here))
