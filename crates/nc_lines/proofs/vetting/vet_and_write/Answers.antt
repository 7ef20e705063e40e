use Rattle.std.proofs.Common.{List, ℕ, length, sym, subst, take, arith, refl}
use Rattle.std.proofs.lemmas.Grind.{common_steps}
use Rattle.std.proofs.lemmas.Option.{IfSome_then}
use Rattle.std.proofs.lemmas.List.{take_all}
use Rattle.std.specs.Io.KnownBytes.{Appends}
use Rattle.std.proofs.KnownBytes.{Appends-kept}
use Rattle.nc_lines.specs.Lines.{lines_of}
use Rattle.nc_lines.specs.machinery.Batch.{HasGathered}
use Rattle.nc_lines.specs.Vetting.{HasVetted, HasBegunVetted}
use Rattle.nc_lines.proofs.VetReplies.{whole_reply}
use Rattle.nc_lines.proofs.vetting.vet_and_write.Goals as goal

pub returns-in-Err-clause-unwritten : goal.returns-in-Err-clause-unwritten
returns-in-Err-clause-unwritten g c = λ _. refl

pub returns-in-Err-write_out-clause-write_failed : goal.returns-in-Err-write_out-clause-write_failed
returns-in-Err-write_out-clause-write_failed g c = λ _.
    let front = c.in-Err-write_out.ensures.front in
    let vetted : (input : List ℕ) → HasGathered c.args.batch c.gather.new.batch (lines_of input)
    → HasBegunVetted c.args.batch.limit
    (g.W.Write.contents c.args.writer.now) (g.W.Write.contents c.write_out.new.writer) (lines_of input) = λ input h. record {
      replies = c.push_verdicts.new.out.items;
      count = front.0;
      verdicts = whole_reply c.args.batch c.gather.new.batch c.args.batch.limit
          (lines_of input) c.in-Ok-vet_all.verdicts.items c.new-out.result.items c.push_verdicts.new.out.items
          refl c.requires.empty.0 c.requires.empty.1 h c.in-Ok-vet_all.ensures.verdicts c.new-out.ensures.items
          c.in-Ok-push_verdicts.ensures;
      written = subst (λ (xs : List ℕ). Appends (g.W.Write.contents c.args.writer.now) (g.W.Write.contents c.write_out.new.writer)
          (take front.0 xs)) c.as_slice.ensures.value front.1;
    } in
    IfSome_then _ c.in-Ok.ensures.ok vetted

pub returns-in-Err-vet_all-clause-write_failed : goal.returns-in-Err-vet_all-clause-write_failed
returns-in-Err-vet_all-clause-write_failed g c = grind (arith, common_steps)

pub returns-in-Err-vet_all-clause-faults : goal.returns-in-Err-vet_all-clause-faults
returns-in-Err-vet_all-clause-faults g c = grind (arith, common_steps)

pub returns-in-Err-write_out-clause-unwritten : goal.returns-in-Err-write_out-clause-unwritten
returns-in-Err-write_out-clause-unwritten g c = grind (arith, common_steps)

pub returns-in-Ok-flush-clause-ok : goal.returns-in-Ok-flush-clause-ok
returns-in-Ok-flush-clause-ok g c =
    let vetted : (input : List ℕ) → HasGathered c.args.batch c.gather.new.batch (lines_of input)
    → HasVetted c.args.batch.limit
    (g.W.Write.contents c.args.writer.now) (g.W.Write.contents c.flush.new.self) (lines_of input) = λ input h. record {
      replies = c.push_verdicts.new.out.items;
      verdicts = whole_reply c.args.batch c.gather.new.batch c.args.batch.limit
          (lines_of input) c.in-Ok-vet_all.verdicts.items c.new-out.result.items c.push_verdicts.new.out.items
          refl c.requires.empty.0 c.requires.empty.1 h c.in-Ok-vet_all.ensures.verdicts c.new-out.ensures.items
          c.in-Ok-push_verdicts.ensures;
      written = Appends-kept (g.W.Write.contents c.args.writer.now) (g.W.Write.contents c.write_out.new.writer)
          (g.W.Write.contents c.flush.new.self) c.push_verdicts.new.out.items
          (subst (λ (xs : List ℕ). Appends (g.W.Write.contents c.args.writer.now) (g.W.Write.contents c.write_out.new.writer) xs)
          c.as_slice.ensures.value c.in-Ok-write_out.ensures.all) c.flush.ensures.bytes;
    } in
    IfSome_then _ c.in-Ok.ensures.ok vetted

pub returns-in-Ok-flush-clause-read : goal.returns-in-Ok-flush-clause-read
returns-in-Ok-flush-clause-read g c = grind (arith, common_steps)

pub returns-in-Ok-flush-clause-write_failed : goal.returns-in-Ok-flush-clause-write_failed
returns-in-Ok-flush-clause-write_failed g c = grind (arith, common_steps)

pub returns-clause-write_failed : goal.returns-clause-write_failed
returns-clause-write_failed g c = λ _.
    let bytes = c.push_verdicts.new.out.items in
    let vetted : (input : List ℕ) → HasGathered c.args.batch c.gather.new.batch (lines_of input)
    → HasBegunVetted c.args.batch.limit
    (g.W.Write.contents c.args.writer.now) (g.W.Write.contents c.flush.new.self) (lines_of input) = λ input h. record {
      replies = bytes;
      count = length bytes;
      verdicts = whole_reply c.args.batch c.gather.new.batch c.args.batch.limit
          (lines_of input) c.in-Ok-vet_all.verdicts.items c.new-out.result.items bytes
          refl c.requires.empty.0 c.requires.empty.1 h c.in-Ok-vet_all.ensures.verdicts c.new-out.ensures.items
          c.in-Ok-push_verdicts.ensures;
      written = subst (λ (xs : List ℕ). Appends (g.W.Write.contents c.args.writer.now) (g.W.Write.contents c.flush.new.self) xs)
          (sym (take_all (length bytes) bytes (omega arith)))
          (Appends-kept (g.W.Write.contents c.args.writer.now) (g.W.Write.contents c.write_out.new.writer)
          (g.W.Write.contents c.flush.new.self) c.push_verdicts.new.out.items
          (subst (λ (xs : List ℕ). Appends (g.W.Write.contents c.args.writer.now) (g.W.Write.contents c.write_out.new.writer) xs)
          c.as_slice.ensures.value c.in-Ok-write_out.ensures.all) c.flush.ensures.bytes);
    } in
    IfSome_then _ c.in-Ok.ensures.ok vetted
