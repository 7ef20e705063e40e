-- Reports that were printed, one after the other, and what was found about their files.
use Rattle.std.proofs.Common.{◌≡◌, ℕ, Bool, true, false, List, [], ◌∷◌, ◌++◌, refl, sym, subst, ◌∙◌, ap, append_assoc, append-nil, Option, inl, inr}
use Rattle.std.specs.Prelude.{◌||◌}
use Rattle.std.specs.Borrow.{Bor}
use Rattle.std.specs.Io.KnownBytes.{Appends}
use Rattle.std.proofs.KnownBytes.{Appends-nil}
use Rattle.std.proofs.lemmas.Bool.{or_right}
use Rattle.nc_report.specs.Report.{HasWritten}
use Rattle.nc_files.specs.declared.request.Request.{Request}
use Rattle.nc_files.specs.Reports.{ReportsFile}
use Rattle.nc_files.specs.Files.{PrintsFiles}
use Rattle.nc_files.specs.Outcomes.{HasPrinted}
use Rattle.nc_files.specs.declared.outcome.Outcome.{Outcome}
use Rattle.nc_files.proofs.WrittenReports.{written_so, written_more, or-false, or_assoc}

-- what is written for files, and after it what is written for others
prints_append : (request : Request) (xs ys : List (Bor (List ℕ))) (f g r s : Bool) (t u : List ℕ) → PrintsFiles request xs f r t
    → PrintsFiles request ys g s u → PrintsFiles request (xs ++ ys) (f || g) (r || s) (t ++ u)
prints_append request [] ys f g r s t u (f_is, r_is, empty) h = rw (f_is, r_is, empty) h
prints_append request (x ∷ xs) ys f g r s t u (f1, f2, r1, r2, first, rest, one, others, f_is, r_is, whole) h = (
  f1,
  f2 || g,
  r1,
  r2 || s,
  first,
  rest ++ u,
  one,
  prints_append request xs ys f2 g r2 s rest u others h,
  ap (λ (b : Bool). b || g) f_is ∙ or_assoc f1 f2 g,
  ap (λ (b : Bool). b || s) r_is ∙ or_assoc r1 r2 s,
  ap (λ (z : List ℕ). z ++ u) whole ∙ append_assoc first rest u,
)

-- the reports on files were printed, and then those on others
pub printed_append : (request : Request) (xs ys : List (Bor (List ℕ))) (a b c : Outcome) (p q r : Option (List ℕ))
    → HasPrinted request xs a b p q → HasPrinted request ys b c q r → HasPrinted request (xs ++ ys) a c p r
printed_append request xs ys a b c p q r h k = record {
  faulty = h.faulty || k.faulty;
  refused = h.refused || k.refused;
  written = written_more (PrintsFiles request xs h.faulty h.refused) (PrintsFiles request ys k.faulty k.refused)
      (PrintsFiles request (xs ++ ys) (h.faulty || k.faulty) (h.refused || k.refused)) p q r
      (λ t u m n. prints_append request xs ys h.faulty k.faulty h.refused k.refused t u m n) h.written k.written;
  faulty_is = k.faulty_is ∙ ap (λ (z : Bool). z || k.faulty) h.faulty_is ∙ or_assoc a.is_faulty h.faulty k.faulty;
  refused_is = k.refused_is ∙ ap (λ (z : Bool). z || k.refused) h.refused_is ∙ or_assoc a.is_refused h.refused k.refused;
}

-- the report on a file was printed
pub printed_report : (request : Request) (file : Bor (List ℕ)) (code : List ℕ) (refused : Bool) (old new : Outcome)
    (before after : Option (List ℕ)) → HasWritten (ReportsFile request file.now code refused) before after → new.is_faulty ≡ old.is_faulty
    → new.is_refused ≡ old.is_refused || refused → HasPrinted request (file ∷ []) old new before after
printed_report request file code refused old new before after h faulty_is refused_is = record {
  faulty = false;
  refused = refused;
  written = written_so (ReportsFile request file.now code refused) (PrintsFiles request (file ∷ []) false refused) before after
      (λ text says. (
        false,
        false,
        refused,
        false,
        text,
        [],
        inl (refl, (code, says)),
        (refl, refl, refl),
        refl,
        or-false refused,
        sym (append-nil text),
      )) h;
  faulty_is = faulty_is ∙ or-false old.is_faulty;
  refused_is = refused_is;
}

-- a file can't be read, and nothing was printed
pub printed_unread : (request : Request) (file : Bor (List ℕ)) (old new : Outcome) (before after : Option (List ℕ)) → after ≡ before
    → new.is_faulty ≡ true → new.is_refused ≡ old.is_refused → HasPrinted request (file ∷ []) old new before after
printed_unread request file old new before after kept faulty_is refused_is = record {
  faulty = true;
  refused = false;
  written = record {
    text = [];
    says = (true, false, false, false, [], [], inr (refl, refl, refl), (refl, refl, refl), refl, refl, refl);
    written = subst (λ (z : Option (List ℕ)). Appends before z []) (sym kept) (Appends-nil before);
  };
  faulty_is = faulty_is ∙ sym (or_right old.is_faulty true refl);
  refused_is = refused_is ∙ or-false old.is_refused;
}
