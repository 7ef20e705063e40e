-- Reports in the places of their files.
use Rattle.std.proofs.Common.{◌≡◌, ℕ, zero, suc, ◌<◌, List, [], ◌∷◌, length, get_or, arith, Option, Some, None, sym, subst}
use Rattle.std.specs.Borrow.{Bor}
use Rattle.std.specs.List.{AllZip}
use Rattle.std.proofs.lemmas.Option.{slice_get-get_or}
use Rattle.nc_files.specs.declared.request.Request.{Request}
use Rattle.nc_files.specs.Places.{FitsReport}
use Rattle.nc_files.specs.Reports.{ReportsOn, FitsFile}
use Rattle.nc_files.specs.declared.working.Report.{Report}

-- the report on the file of a number fits its place
pub report_fits : (request : Request) (files : List (Bor (List ℕ))) (n : ℕ) (d : Bor (List ℕ)) (report : Report) → n < length files
    → ReportsOn request (get_or files n d).now report → FitsReport request files n (Some report)
report_fits request files n d report below reported = (get_or files n d, slice_get-get_or files n d below, reported)

-- the first place has the report on the first file
fits_first : (request : Request) (file : Bor (List ℕ)) (files : List (Bor (List ℕ))) (place : Option Report)
    → FitsReport request (file ∷ files) 0 place → FitsFile request file.now place
fits_first request file files None h = tt
fits_first request file files (Some report) (other, is, reported) =
    let same : other ≡ file = cc in
    subst (λ (f : Bor (List ℕ)). ReportsOn request f.now report) same reported

-- a report in a place after the first one is that on a file after the first one
fits_next : (request : Request) (file : Bor (List ℕ)) (files : List (Bor (List ℕ))) (k : ℕ) (place : Option Report)
    → FitsReport request (file ∷ files) (suc k) place → FitsReport request files k place
fits_next request file files k None h = tt
fits_next request file files k (Some report) h = h

-- as many places as files, each with the report on its file
pub places_fit : (request : Request) (files : List (Bor (List ℕ))) (places : List (Option Report)) → length places ≡ length files
    → ((k : ℕ) → FitsReport request files k (get_or places k None)) → AllZip (λ file place. FitsFile request file.now place) files places
places_fit request [] [] long h = tt
places_fit request [] (place ∷ places) long h = absurd (omega (arith, long))
places_fit request (file ∷ files) [] long h = absurd (omega (arith, long))
places_fit request (file ∷ files) (place ∷ places) long h = (
  fits_first request file files place (h 0),
  places_fit request files places (omega (arith, long)) (λ k. fits_next request file files k (get_or places k None) (h (suc k))),
)

-- what holds of two lists side by side holds at each index
pub zip_at : {A B : Type 0} (R : A → B → Type 0) (xs : List A) (ys : List B) (k : ℕ) (d : A) (y : B) → AllZip R xs ys → k < length xs
    → y ≡ get_or ys k y → R (get_or xs k d) y
zip_at R [] ys k d y h below e = absurd (omega (arith, below))
zip_at R (a ∷ xs) [] k d y h below e = absurd h
zip_at R (a ∷ xs) (b ∷ ys) zero d y h below e = subst (λ z. R a z) (sym e) h.0
zip_at R (a ∷ xs) (b ∷ ys) (suc k) d y h below e = zip_at R xs ys k d y h.1 (omega (arith, below)) e
