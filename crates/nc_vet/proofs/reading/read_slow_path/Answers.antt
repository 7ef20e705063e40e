use Rattle.std.proofs.Common.{rules, ◌≡◌, ℕ, ◌+◌, List, length, set, take, Option, replicate, arith, ap, subst, sym, ◌∙◌}
use Rattle.std.proofs.lemmas.List.{length-set, length-replicate, take_rest}
use Rattle.nc_decode.specs.declared.instruction.Mark.{Mark}
use Rattle.nc_decode.specs.declared.instruction.Mark.TheVariants.{Unmarked}
use Rattle.nc_vet.specs.machinery.Steps.{HasRead, MayFollow, NoneMayFollow, masked_after}
use Rattle.nc_vet.proofs.Growing.{begun, grown, grown_in, read_all}
use Rattle.nc_vet.proofs.Stuck.{stuck}
use Rattle.nc_vet.proofs.reading.read_slow_path.Goals as goal

pub loop-at-init : goal.loop-at-init
loop-at-init c =
    let marks : c.in-Ok.marks.items ≡ replicate (length c.args.code.now) Unmarked = c.in-Ok.ensures in
    record {
      in_code = omega arith;
      marks_len = ap (λ (z : List Mark). length z) marks ∙ length-replicate (length c.args.code.now) Unmarked;
      so_far = begun c.args.code.now c.in-Ok.marks.items marks;
    }

pub loop-at-preserved : goal.loop-at-preserved
loop-at-preserved c =
    let follows = subst (λ (z : List ℕ). MayFollow (take (c.bundle_rest-room.result) z) c.loop-at.masked c.in_ok-instr.instr)
    (take_rest c.args.code.now c.loop-at.at) c.in_ok-instr.ensures.found in
    let more = grown _ _ _ _ _ _ _ c.loop-at.invariant.so_far (omega arith) c.loop-at.invariant.in_code follows c.from-at.ensures in
    record {
      in_code = grown_in _ _ _ _ _ _ c.loop-at.invariant.in_code follows c.from-at.ensures;
      marks_len = length-set c.loop-at.marks.items c.loop-at.at c.mark_of.result ∙ c.loop-at.invariant.marks_len;
      so_far =
          subst (λ (m : Option ℕ). HasRead c.args.code.now (c.loop-at.at + c.from-at.result) m
          (set c.loop-at.marks.items c.loop-at.at c.mark_of.result)) (sym c.masked_after-masked.ensures)
          (subst (λ (m : Mark). HasRead c.args.code.now (c.loop-at.at + c.from-at.result)
          (masked_after c.in_ok-instr.instr (c.loop-at.at + c.from-at.result)) (set c.loop-at.marks.items c.loop-at.at m))
          (sym c.mark_of.ensures) more);
    }

pub returns : goal.returns
returns c = record { read = read_all _ _ _ _ c.loop-at.invariant.so_far (omega arith); stuck = tt }

pub returns-in_err-instr-clause-stuck : goal.returns-in_err-instr-clause-stuck
returns-in_err-instr-clause-stuck c =
    let none = subst (λ (z : List ℕ). NoneMayFollow (take (c.bundle_rest-room.result) z) c.loop-at.masked
    (c.args.base + c.loop-at.at) c.in_err-instr.field-0.0) (take_rest c.args.code.now c.loop-at.at) c.in_err-instr.ensures.refused in
    let ends = stuck c.args.base c.args.code.now c.loop-at.at
    (c.bundle_rest-room.result) c.loop-at.masked c.loop-at.marks.items c.in_err-instr.field-0.0 c.loop-at.invariant.so_far
    c.loop-at-test.true (omega arith) none in
    search (rules, ends)
