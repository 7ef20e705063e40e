use Rattle.std.proofs.lemmas.Option.{get_or_from_slice_get}
use Rattle.nc_decode.specs.declared.instruction.Mark.TheVariants.{Unmarked}
use Rattle.std.proofs.Common.{◌≡◌, ◌∙◌, sym, get_or, arith, ◌<◌, ◌≤◌, ◌-◌, length}
use Rattle.nc_vet.specs.Listed.{listed}
use Rattle.nc_vet.proofs.MarkedPlaces.{target_inside, plain_inside, target_outside, starts_outside}
use Rattle.nc_vet.proofs.targets.is_good.Goals as goal
use Rattle.nc_vet.proofs.targets.is_good.Goals.{else-base-to-via-then-base-to+else-to-base, else-base-to-via-else-base-to}

pub returns-then-to-base : goal.returns-then-to-base
returns-then-to-base c =
    let mark : get_or (listed c.args.code.now c.args.marks.now) (c.args.to - c.args.base) Unmarked ≡ c.at.result = get_or_from_slice_get
    (listed c.args.code.now c.args.marks.now) (c.args.to - c.args.base) c.at.result Unmarked c.at.ensures in
    let inside : c.args.to - c.args.base < length (listed c.args.code.now c.args.marks.now) = omega (arith, c.requires) in
    record {
      exact = λ pieces is s. (
        λ t. target_inside c.args.base c.args.limit c.args.to pieces (listed c.args.code.now c.args.marks.now) is s (omega arith) inside
            (mark ∙ c.is_plain.ensures.0 t),
        λ t. c.is_plain.ensures.1 (sym mark ∙ plain_inside c.args.base c.args.limit c.args.to pieces
            (listed c.args.code.now c.args.marks.now) is s (omega arith) inside t),
      );
    }

pub returns-else-base-to : goal.returns-else-base-to
returns-else-base-to c =
    let outside : c.args.base ≤ c.args.to → c.args.to - c.args.base < length (listed c.args.code.now c.args.marks.now) → ⊥
    = λ low lt. elim c.else-base-to.branch [
      | else-base-to-via-then-base-to+else-to-base w ↦ omega arith
      | else-base-to-via-else-base-to w ↦ omega arith
    ] in
    record {
      exact = λ pieces is s. (
        λ t. (let b = c.is_outside_target.ensures.0 t in
            target_outside c.args.base c.args.limit c.args.to pieces (listed c.args.code.now c.args.marks.now) is s outside b.0 b.1),
        λ t. c.is_outside_target.ensures.1 (starts_outside c.args.base c.args.limit c.args.to pieces
            (listed c.args.code.now c.args.marks.now) is s outside t),
      );
    }
