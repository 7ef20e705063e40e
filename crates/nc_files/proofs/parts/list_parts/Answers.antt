use Rattle.nc_elf.specs.Segments.{IsPlaced, bytes_of}
use Rattle.std.proofs.Common.{arith, map}
use Rattle.std.proofs.lemmas.Grind.{common_steps}
use Rattle.std.proofs.lemmas.Result.{IfOk-from_err}
use Rattle.nc_files.specs.Parts.{code_in, part_name, named, labels_of}
use Rattle.nc_files.proofs.Listed.{made_more, all_after, all_first}
use Rattle.nc_files.proofs.parts.list_parts.Goals as goal

pub part_of-requires-clause-in_file : goal.part_of-requires-clause-in_file
part_of-requires-clause-in_file c =
    (all_first (IsPlaced c.args.file.now.code.items) _ _ _ c.loop-segment.invariant.4 c.in-Some.ensures.steps.0).in_file

pub loop-segment-preserved : goal.loop-segment-preserved
loop-segment-preserved c =
    let file = c.args.file.now.code.items in
    let (bases, codes, labels, names, placed) = c.loop-segment.invariant in
    let next = c.in-Some.ensures.steps.0 in
    let pushed = c.in_ok-push.ensures.items in (
      made_more (λ s. s.address) (λ part. part.base) _ _ _ _ _ _ _ bases next pushed c.in_ok-part_of.ensures.base,
      made_more (bytes_of file) code_in _ _ _ _ _ _ _ codes next pushed c.in_ok-part_of.ensures.code,
      made_more (labels_of file c.args.symbols.now) (λ part. map named part.source.labels) _ _ _ _ _ _ _ labels next pushed
          c.in_ok-part_of.ensures.labels,
      made_more (λ s. part_name c.args.format c.args.file.now.name.items s.address) (λ part. part.source.name.items) _ _ _ _ _ _ _ names next
          pushed c.in_ok-part_of.ensures.name,
      all_after (IsPlaced file) _ _ _ placed next,
    )

pub returns-in_err-push-clause-names : goal.returns-in_err-push-clause-names
returns-in_err-push-clause-names c = IfOk-from_err _ _ c.from_residual-in_err-push.ensures.0

pub returns-clause-bases : goal.returns-clause-bases
returns-clause-bases c = grind (arith, common_steps)

pub returns-clause-codes : goal.returns-clause-codes
returns-clause-codes c = grind (arith, common_steps)

pub returns-clause-labels : goal.returns-clause-labels
returns-clause-labels c = grind (arith, common_steps)
