-- The rule of a new table, and when a pass goes from one view to another: the trail stays, and so does what each view recalls.
use Rattle.std.proofs.Common.{◌≡◌, ℕ, ◌+◌, ◌<◌, ◌≤◌, true, false, List, [], length, replicate, set, sym, refl, ap, ◌∙◌}
use Rattle.std.proofs.Common.{arith, le_refl}
use lib.ListN.{length-replicate}
use Rattle.atomic_table.specs.Table.{opening, Splits, Joins}
use Rattle.atomic_table.proofs.Lists.{set_else}
use Rattle.nc_gens.specs.declared.view.View.{View}
use Rattle.nc_gens.specs.Trail.{is_by_keeper}
use Rattle.nc_gens.specs.Record.{Recalls, Recorded}
use Rattle.nc_gens.specs.machinery.Views.{first_view, given_one_more, new_pass_view, without_pass, without_keeper, with_pass_of, spent_view}
use Rattle.nc_gens.proofs.ChangedViews.{views_stay, split_views_stay}
use Rattle.nc_gens.proofs.FirstTable.{starts, alone}
use Rattle.nc_gens.proofs.HandingOver.{gives_pass, passes_out, passes_in}
use Rattle.nc_gens.proofs.Trails.{as_at_first, none_since}
use Rattle.nc_gens.proofs.Rising.{rising_none}

-- the rule holds of a new table, in which no step was taken
pub starts_recorded : (seats : ℕ) (words : List ℕ) → words ≡ replicate (seats + 1) 0 → Recorded (opening words [] (first_view seats))
starts_recorded seats words e = record {
  ruled = starts seats words e;
  seats = seats;
  wide = ap length e ∙ length-replicate (seats + 1) 0;
  trail = [];
  rising = rising_none seats;
  each_view = alone (λ _. Recalls seats []) (first_view seats) record {
    pass = λ h. let no : false ≡ true = h in cc;
    keeper = λ _. record { seats_are = refl; numbers = refl; known = none_since is_by_keeper []; not_given = λ i l. refl };
  };
}

-- a new pass comes from the keeper
pub gives_pass_recorded : (id : ℕ) (v : View) → v.is_pass ≡ false → v.is_keeper ≡ true → v.given < length v.keeper.bounds
    → Splits Recorded id v (given_one_more v) (new_pass_view v)
gives_pass_recorded id v bare is room s r at =
    let k = (r.each_view id v at).keeper is in record {
      ruled = gives_pass id v bare is room s r.ruled at;
      seats = r.seats;
      wide = r.wide;
      trail = r.trail;
      rising = r.rising;
      each_view = split_views_stay (λ _. Recalls r.seats r.trail) s.views id (given_one_more v) (new_pass_view v)
          record {
            pass = λ h. let no : false ≡ true = sym bare ∙ h in cc;
            keeper = λ _. record {
              seats_are = k.seats_are;
              numbers = k.numbers;
              known = k.known;
              not_given = λ i l. k.not_given i (omega arith);
            };
          }
          record {
            pass = λ _. record {
              seats_are = k.seats_are;
              numbers = sym (as_at_first r.seats v.given r.trail (k.not_given v.given (le_refl v.given)));
              known = record { later = r.trail; all = refl; none = k.not_given v.given (le_refl v.given) };
            };
            keeper = λ h. let no : false ≡ true = h in cc;
          }
          (λ j u _ there. r.each_view j u there);
    }

-- the pass of a view goes to a new token
pub passes_out_recorded : (id : ℕ) (v : View) → v.is_pass ≡ true → (v.is_keeper ≡ true → length v.keeper.bounds ≤ v.given)
    → Splits Recorded id v (without_pass v) (without_keeper v)
passes_out_recorded id v is all_given s r at =
    let c = r.each_view id v at in record {
      ruled = passes_out id v is all_given s r.ruled at;
      seats = r.seats;
      wide = r.wide;
      trail = r.trail;
      rising = r.rising;
      each_view = split_views_stay (λ _. Recalls r.seats r.trail) s.views id (without_pass v) (without_keeper v)
          record {
            pass = λ h. let no : false ≡ true = h in cc;
            keeper = λ h. let k = c.keeper h in
                record { seats_are = k.seats_are; numbers = k.numbers; known = k.known; not_given = k.not_given };
          }
          record {
            pass = λ h. let p = c.pass h in record { seats_are = p.seats_are; numbers = p.numbers; known = p.known };
            keeper = λ h. let no : false ≡ true = h in cc;
          }
          (λ j u _ there. r.each_view j u there);
    }

-- the pass of another view goes into this one, which has none
pub passes_in_recorded : (id : ℕ) (v : View) (other : ℕ) (w : View) → v.is_pass ≡ false → v.is_keeper ≡ true → w.is_pass ≡ true
    → w.is_keeper ≡ false → Joins Recorded id v other w (with_pass_of v w) spent_view
passes_in_recorded id v other w bare keeps is apart s r at ne there =
    let both : View = with_pass_of v w in
    let k = (r.each_view id v at).keeper keeps in
    let p = (r.each_view other w (sym (set_else s.views id other both ne) ∙ there)).pass is in record {
      ruled = passes_in id v other w bare is apart s r.ruled at ne there;
      seats = r.seats;
      wide = r.wide;
      trail = r.trail;
      rising = r.rising;
      each_view = views_stay (λ _. Recalls r.seats r.trail) (set s.views id both) other spent_view
          record { pass = λ h. let no : false ≡ true = h in cc; keeper = λ h. let no : false ≡ true = h in cc }
          (λ j x _ here. views_stay (λ _. Recalls r.seats r.trail) s.views id both
          record {
            pass = λ _. record { seats_are = k.seats_are; numbers = p.numbers; known = p.known };
            keeper = λ _. record { seats_are = k.seats_are; numbers = k.numbers; known = k.known; not_given = k.not_given };
          }
          (λ i y _ was. r.each_view i y was) j x here);
    }
