-- The first bytes of a name, as they are added to a text.
use Rattle.std.proofs.Common.{◌≡◌, ◌≤◌, ◌++◌, ℕ, true, cond, List, Result, Ok, Err, OnOk, is_ok, length, take, drop, min, sym, ap, ◌∙◌, arith}
use Rattle.std.specs.List.{list_all}
use Rattle.std.proofs.Math.Nat.{min-le_left}
use Rattle.std.proofs.lemmas.Bool.{and_parts}
use Rattle.std.proofs.lemmas.List.{length-take, take-append-drop}
use Rattle.std.proofs.lemmas.List.Folds.{list_all-append}
use Rattle.nc_disasm.specs.Names.{is_printable, AddsPrintable}

-- the first bytes of printable ones are printable
front_printable : (n : ℕ) (text : List ℕ) → list_all is_printable text ≡ true → list_all is_printable (take n text) ≡ true
front_printable n text all =
    let parts = sym (list_all-append is_printable (take n text) (drop n text))
    ∙ ap (λ (z : List ℕ). list_all is_printable z) (take-append-drop n text) ∙ all in
    (and_parts _ _ parts).0

-- the first bytes are no more than asked for
front_short : (n : ℕ) (text : List ℕ) → length (take n text) ≤ n
front_short n text = omega (arith, length-take n text, min-le_left n (length text))

-- where the first bytes of a name were added, printable text was
pub name_added : {T E : Type 0} (r : Result T E) (new old text : List ℕ) (n : ℕ) → new ≡ cond (is_ok r) (old ++ take n text) old
    → list_all is_printable text ≡ true → n ≤ 64 → OnOk r (AddsPrintable old new)
name_added (Ok x) new old text n e all le = record {
  text = take n text;
  added = e;
  printable = front_printable n text all;
  short = omega (arith, front_short n text, le);
}
name_added (Err x) new old text n e all le = tt
