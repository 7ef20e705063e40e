use Rattle.std.proofs.Common.{◌≡◌, ◌+◌, ◌<◌, ℕ, length, get_or, set, sym, subst, ◌∙◌, arith, if◌then◌else◌, slice_index, length-set}
use Rattle.std.proofs.lemmas.List.Edits.{fill_by_more}
use Rattle.nc_reading.specs.declared.class.Class.TheVariants.{Inside}
use Rattle.nc_reading.specs.Quiet.{is_quiet}
use Rattle.nc_reading.proofs.candidates.quiet_marks.Goals as goal

pub loop-k-preserved : goal.loop-k-preserved
loop-k-preserved c =
    let k = c.loop-k.k in
    let marks = c.loop-k.marks in
    let mark : ℕ → ℕ = λ j. if is_quiet (get_or c.args.classes.now (c.args.at + j) Inside) (slice_index c.args.code.now (c.args.at + j)) then 1 else 0 in
    let room : k < length marks = omega (arith, c.loop-k.invariant.long, c.loop-k-test.true) in
    record {
      marked = subst (λ (v : ℕ). (j : ℕ) → j < k + 1 → get_or (set marks k v) j 0 ≡ mark j) (sym c.quiet_mark.ensures)
          (fill_by_more mark marks k 0 room c.loop-k.invariant.marked);
      long = length-set marks k c.quiet_mark.result ∙ c.loop-k.invariant.long;
    }
