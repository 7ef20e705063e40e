use Rattle.std.proofs.Common.{ℕ, List, [], ◌∷◌, take, subst, sym, slice_index_or, arith}
use Rattle.std.specs.Borrow.{Bor}
use Rattle.std.proofs.lemmas.List.{take_more}
use Rattle.std.proofs.lemmas.Slice.Zip.{AllZip-long}
use Rattle.nc_files.specs.Reports.{FitsFile}
use Rattle.nc_files.specs.Outcomes.{HasPrinted}
use Rattle.nc_files.proofs.PlacedReports.{zip_at}
use Rattle.nc_files.proofs.PrintedFiles.{printed_append}
use Rattle.nc_files.proofs.checking.print_round.Goals as goal

pub unreachable-requires : goal.unreachable-requires
unreachable-requires g c =
    omega (
      arith,
      c.loop-number-test.true,
      c.in-None.ensures.lookup.3,
      AllZip-long (λ file place. FitsFile c.args.request.now file.now place) c.args.files.now c.args.places.now c.requires,
    )

pub print_place-requires : goal.print_place-requires
print_place-requires g c =
    zip_at (λ file place. FitsFile c.args.request.now file.now place) c.args.files.now c.args.places.now c.loop-number.number
    (record { ref_ptr = (0, 0); now = [] }) c.in-Some.place.now c.requires c.loop-number-test.true c.in-Some.ensures.lookup.1

pub loop-number-preserved : goal.loop-number-preserved
loop-number-preserved g c =
    let request = c.args.request.now in
    let files = c.args.files.now in
    let number = c.loop-number.number in
    let none : Bor (List ℕ) = record { ref_ptr = (0, 0); now = [] } in
    let file = slice_index_or files number none in
    subst (λ (fs : List (Bor (List ℕ))). HasPrinted request fs c.args.state.now.outcome c.print_place.new.state.outcome
    (g.W.Write.contents c.args.writer.now.writer) (g.W.Write.contents c.print_place.new.writer.writer))
    (sym (take_more files number none c.loop-number-test.true))
    (printed_append request (take number files) (file ∷ []) _ _ _ _ _ _ c.loop-number.invariant c.in_ok-print_place-in-Some.ensures)
