use Rattle.std.proofs.Common.{◌≡◌, ◌+◌, ℕ, List, length, None, arith, sym, ap, subst, ◌∙◌, eqb-true}
use Rattle.std.proofs.lemmas.Bool.{eqb-false}
use Rattle.std.specs.Result.{result_ok}
use Rattle.nc_decode.specs.Front.{first_instruction}
use Rattle.nc_vet.specs.Chunk.{Piece}
use Rattle.nc_region.specs.Patch.{log_of_patch}
use Rattle.nc_region.proofs.Offered.{none_of_none, not_found, parted}
use Rattle.nc_host_acts.specs.Written.{AddsEntries}
use Rattle.nc_host_acts.proofs.writing.WriteSteps.{adds_none}
use Rattle.nc_host_acts.proofs.writing.Replacements.{patch_added}
use Rattle.nc_host_acts.proofs.replacing.+write_patch.Goals as goal

pub returns-then-is_empty-clause-written : goal.returns-then-is_empty-clause-written
returns-then-is_empty-clause-written t c = λ text news h b.
    subst (λ (z : List Piece). AddsEntries c.args.acts.now c.args.count c.args.acts.now c.args.count (log_of_patch text (c.args.base + c.args.from) z))
    (sym (none_of_none c.args.new.now news (eqb-true _ _ (sym c.is_empty.ensures ∙ c.if-is_empty.true)) b))
    (adds_none c.args.acts.now c.args.count)

pub returns-in_default-clause-written : goal.returns-in_default-clause-written
returns-in_default-clause-written t c = λ text news h b.
    let none : first_instruction c.args.new.now ≡ None = sym c.decode.ensures.first ∙ ap result_ok c.in_default.is in
    let some = eqb-false (length c.args.new.now) 0 (sym c.is_empty.ensures ∙ c.if-is_empty.false) in
    absurd (not_found c.args.new.now (omega (arith, some)) none news b)

pub returns-clause-written : goal.returns-clause-written
returns-clause-written t c = λ text news h b.
    let is = sym c.decode.ensures.first ∙ ap result_ok c.in-Ok.is in
    let q = parted c.args.new.now news c.in-Ok.instr b is in
    let more : AddsEntries c.write_where_new-next.new.acts c.write_where_new-next.result c.write_patch.new.acts c.write_patch.result
    (log_of_patch text (c.args.base + c.args.from + c.in-Ok.instr.len) q.rest) =
    subst (λ (k : ℕ). AddsEntries c.write_where_new-next.new.acts c.write_where_new-next.result c.write_patch.new.acts c.write_patch.result
    (log_of_patch text k q.rest)) {x = c.args.base + (c.args.from + c.in-Ok.instr.len)} {y = c.args.base + c.args.from + c.in-Ok.instr.len}
    (omega arith) (c.write_patch.ensures.written text q.rest h q.behind) in
    patch_added text (c.args.base + c.args.from) c.args.new.now news c.in-Ok.instr q c.args.acts.now c.write_where_new-next.new.acts
    c.write_patch.new.acts c.args.count c.write_where_new-next.result c.write_patch.result (c.write_where_new-next.ensures.written text h) more
