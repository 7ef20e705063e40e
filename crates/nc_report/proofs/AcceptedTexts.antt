-- What is written of an accepted source.
use Rattle.std.proofs.Common.{◌≡◌, ◌≢◌, ℕ, List, [], ◌++◌, length, refl, sym, subst, ◌∙◌, ap, append-nil}
use Rattle.nc_vet.specs.Chunk.{Piece, MarkedChunk, IsValid, AreSpelled, code_of}
use Rattle.nc_output.specs.declared.detail.Detail.{Detail}
use Rattle.nc_output.specs.declared.detail.Detail.TheVariants.{Brief, Usual, Calls}
use Rattle.nc_output.specs.declared.detail.Detail.TheVariants as detail
use Rattle.nc_output.specs.declared.detail.Style.{Style}
use Rattle.nc_report.specs.Outside.{OutsideRow, AreCalls, rows_text}
use Rattle.nc_report.specs.Report.{ok_text, end_of, accepted_text, ReportsAccepted}
use Rattle.nc_report.specs.machinery.Found.{HasInstructions, AddsCalls, AddsAccepted}
use Rattle.nc_output.proofs.Offered.{three_added}

-- an accepted source is reported
pub accepted : (chunk : MarkedChunk) (s : Style) (name old out : List ℕ) → AddsAccepted old out s name chunk → old ≡ []
    → ReportsAccepted chunk.base chunk.limit s name chunk.code out
accepted chunk s name old out a none = record {
  valid = (chunk.marks, a.valid);
  pieces = a.has.pieces;
  spelled = a.has.spelled;
  parts = a.has.parts;
  rows = a.rows;
  calls = a.calls;
  written = a.added
      ∙ ap (λ (z : List ℕ). z ++ accepted_text s.detail s.format chunk.base name (length chunk.code) a.count a.rows) none
      ∙ ap (λ (n : ℕ). accepted_text s.detail s.format chunk.base name (length chunk.code) n a.rows) a.has.counted;
}

-- in brief nothing is written of an accepted source
pub adds_none : (chunk : MarkedChunk) (s : Style) (name out : List ℕ) → IsValid chunk → s.detail ≡ Brief → AddsAccepted out out s name chunk
adds_none chunk s name out v e = record {
  valid = v;
  count = length v.pieces;
  has = record { pieces = v.pieces; spelled = v.sound.spelled; parts = v.parts; counted = refl };
  rows = [];
  calls = subst (λ (x : Detail). AreCalls x chunk.base v.pieces []) (sym e) refl;
  added = subst (λ (x : Detail). out ≡ out ++ accepted_text x s.format chunk.base name (length chunk.code) (length v.pieces) []) (sym e)
      (sym (append-nil out));
}

-- of an accepted source its verdict is written, and what is asked for of its transfers, unless in brief
pub adds_ok : (chunk : MarkedChunk) (s : Style) (name old mid late new : List ℕ) (count : ℕ) → HasInstructions chunk.code count → IsValid chunk
    → s.detail ≢ Brief → mid ≡ old ++ ok_text s.format chunk.base name (length chunk.code) count
    → ((pieces : List Piece) → AreSpelled pieces → chunk.code ≡ code_of pieces → AddsCalls s.detail s.format mid late chunk.base pieces)
    → new ≡ late ++ end_of s.format → AddsAccepted old new s name chunk
adds_ok chunk s name old mid late new count has v long e f g =
    let listed = f has.pieces has.spelled has.parts in
    record {
      valid = v;
      count = count;
      has = has;
      rows = listed.rows;
      calls = listed.calls;
      added = three_added old _ _ _ mid late new e listed.added g ∙ ap (λ (z : List ℕ). old ++ z) (whole s.detail long listed.rows);
    }
  where
    whole : (d : Detail) → d ≢ Brief → (rows : List OutsideRow)
        → ok_text s.format chunk.base name (length chunk.code) count ++ (rows_text d s.format rows ++ end_of s.format)
        ≡ accepted_text d s.format chunk.base name (length chunk.code) count rows
    whole Brief n rows = absurd (n refl)
    whole Usual n rows = refl
    whole Calls n rows = refl
    whole detail.All n rows = refl
