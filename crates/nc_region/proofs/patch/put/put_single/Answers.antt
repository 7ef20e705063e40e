use Rattle.std.proofs.Common.{◌≡◌, cond, List, [], ◌++◌, sym, subst, ◌∙◌, ap, append-nil}
use Rattle.nc_vet.specs.Chunk.{Piece}
use Rattle.nc_text.specs.MarkedText.{MarkedText}
use Rattle.nc_acts.specs.declared.acts.Entry.{Entry}
use Rattle.nc_acts.specs.Log.{Logs}
use Rattle.nc_region.specs.Patch.{stands_there, log_of_instruction, log_of_patch}
use Rattle.nc_region.specs.Region.{HoldsValid}
use Rattle.nc_acts.proofs.Offered.{same_code}
use Rattle.nc_region.proofs.patching.Exchanged.{changed, changed_holds, changes_replace}
use Rattle.nc_region.proofs.patching.Turns.{turn}
use Rattle.nc_region.proofs.patching.OneInstruction.{IsOne, piece_of, only_one}
use Rattle.nc_region.proofs.patch.put.put_single.Goals as goal

pub put_where_new-requires : goal.put_where_new-requires
put_where_new-requires g c =
    let marked = g.A.Acts.marked c.args.acts.now in
    let patch = c.requires.patch in
    let i = c.requires.only.0 in
    let new = c.args.new.now in
    let o : IsOne c.args.new.now c.requires.only.0 = record { first = c.requires.only.1; only = c.requires.only.2 } in
    let w = turn marked c.args.chunk c.args.at new patch (piece_of new i) [] c.requires.whole (only_one new patch.run.news i o patch.run.bytes) in
    record {
      whole = c.requires.whole;
      ready = c.requires.ready;
      replacing = changes_replace marked c.args.chunk c.args.at patch.run.before (w.os ++ patch.run.after) w.o (piece_of new i) w.change;
    }

pub returns-clause-patched : goal.returns-clause-patched
returns-clause-patched g c =
    let marked = g.A.Acts.marked c.args.acts.now in
    let patch = c.requires.patch in
    let i = c.requires.only.0 in
    let new = c.args.new.now in
    let o : IsOne c.args.new.now c.requires.only.0 = record { first = c.requires.only.1; only = c.requires.only.2 } in
    let w = turn marked c.args.chunk c.args.at new patch (piece_of new i) [] c.requires.whole (only_one new patch.run.news i o patch.run.bytes) in
    let text = (g.A.Acts.marked c.args.acts.now).bytes in
    record {
      bytes = c.put_where_new.ensures.bytes;
      marks = c.put_where_new.ensures.marks;
      whole = c.put_where_new.ensures.whole;
      holds = subst (λ (m : MarkedText). HoldsValid m c.args.chunk)
          (sym (same_code (g.A.Acts.marked c.put_where_new.new.acts) (changed marked c.args.at new)
          c.put_where_new.ensures.bytes c.put_where_new.ensures.marks))
          (changed_holds marked c.args.chunk c.args.at patch.run.before (w.os ++ patch.run.after) w.o (piece_of new i) w.change);
      log = λ news b.
          (let one : log_of_patch text c.args.at news ≡ cond (stands_there text c.args.at new) [] (log_of_instruction c.args.at new) =
          ap (λ (z : List Piece). log_of_patch text c.args.at z) (only_one new news i o b)
          ∙ append-nil (cond (stands_there text c.args.at new) [] (log_of_instruction c.args.at new)) in
          subst (λ (z : List Entry). Logs (g.A.Acts.logged c.args.acts.now) (g.A.Acts.logged c.put_where_new.new.acts) z) (sym one)
          c.put_where_new.ensures.log);
    }
