use Rattle.std.proofs.Common.{◌≡◌, ◌+◌, ◌-◌, ◌%◌, ◌<◌, length, true, false, sym, ◌∙◌, arith}
use Rattle.std.proofs.lemmas.Option.{get_or_from_slice_get}
use Rattle.nc_decode.specs.declared.instruction.Mark.TheVariants.{Unmarked}
use Rattle.nc_vet.specs.Listed.{listed}
use Rattle.nc_vet.proofs.Judging.{other_byte, other_mark, none_read, no_bad_target_at, bad_target_at}
use Rattle.nc_vet.proofs.targets.has_bad_target_at.Goals as goal

pub returns-then-not-may_transfer-clause-good : goal.returns-then-not-may_transfer-clause-good
returns-then-not-may_transfer-clause-good c = λ r t.
    other_byte c.args.base c.args.limit c.args.code.now (listed c.args.code.now c.args.marks.now) c.args.at _ r
    (sym c.may_transfer.ensures ∙ c.if-not-may_transfer.true)

pub returns-then-not-is_plain-clause-good : goal.returns-then-not-is_plain-clause-good
returns-then-not-is_plain-clause-good c = λ r t.
    other_mark c.args.base c.args.limit c.args.code.now (listed c.args.code.now c.args.marks.now) c.args.at Unmarked r
    (λ plain. (let f : true ≡ false = sym (c.is_plain.ensures.1
    (sym (get_or_from_slice_get (listed c.args.code.now c.args.marks.now) c.args.at c.at.result Unmarked c.at.ensures) ∙ plain))
    ∙ c.if-not-is_plain.true in cc))

pub returns-in_default-clause-good : goal.returns-in_default-clause-good
returns-in_default-clause-good c = λ r t.
    none_read c.args.base c.args.limit c.args.code.now (listed c.args.code.now c.args.marks.now) c.args.at
    ((c.args.at + c.bundle_rest.result) - c.args.at) r (omega (arith, c.bundle_rest.ensures.rest))
    (λ i f. c.in_default.not-Ok i ((c.decode.ensures.found i).1 f))

pub returns-clause-bad : goal.returns-clause-bad
returns-clause-bad c = λ r t.
    let bad = c.has_bad_target.ensures.bad r.pieces r.marks_are r.sound.spelled t in
    let in_bundle : ((c.args.at + c.bundle_rest.result) - c.args.at) + c.args.at % 32 ≡ 32 = omega (arith, c.bundle_rest.ensures.rest) in
    let in_marks : c.args.at < length (listed c.args.code.now c.args.marks.now) = omega (arith, c.requires.each, c.requires.place) in
    let plain = get_or_from_slice_get (listed c.args.code.now c.args.marks.now) c.args.at c.at.result Unmarked c.at.ensures
    ∙ c.is_plain.ensures.0 c.if-not-is_plain.false in
    bad_target_at c.args.base c.args.limit c.args.code.now (listed c.args.code.now c.args.marks.now) c.args.at
    ((c.args.at + c.bundle_rest.result) - c.args.at) Unmarked c.in-Ok.instr r in_bundle in_marks plain
    ((c.decode.ensures.found c.in-Ok.instr).0 c.in-Ok.is) bad.0 bad.1

pub returns-clause-good : goal.returns-clause-good
returns-clause-good c = λ r t.
    no_bad_target_at c.args.base c.args.limit c.args.code.now (listed c.args.code.now c.args.marks.now) c.args.at
    ((c.args.at + c.bundle_rest.result) - c.args.at) c.in-Ok.instr r (omega (arith, c.bundle_rest.ensures.rest))
    ((c.decode.ensures.found c.in-Ok.instr).0 c.in-Ok.is)
    (c.has_bad_target.ensures.good r.pieces r.marks_are r.sound.spelled t)
