use Rattle.std.proofs.Common.{[], ◌∷◌, ◌++◌, List, ℕ, refl, ap, ◌∙◌, arith, Bool, false, true, not, if◌then◌else◌, ◌≡◌}
use Rattle.std.specs.Result.{is_ok}
use Rattle.std.proofs.lemmas.Result.{IfOk-from_err}
use Rattle.nc_list.proofs.parts.make_first.Goals as goal

pub returns-in_err-reserve : goal.returns-in_err-reserve
returns-in_err-reserve g c =
    rw c.requires.none.0 (record {
      all = refl;
      starts = c.reserve.ensures.items ∙ c.requires.none.1;
      have = λ several. absurd (omega (arith, several));
      part = IfOk-from_err _ _ c.from_residual.ensures.0;
    })

pub returns-then-is_err : goal.returns-then-is_err
returns-then-is_err g c =
    let failed : is_ok c.push.result ≡ false = c.is_err.ensures.negation ∙ ap not c.if-is_err.true in
    let same = c.push.ensures.items
    ∙ (ap (λ (b : Bool). if b then c.args.parts.now.items ++ c.new-part.result ∷ [] else c.args.parts.now.items) failed ∙ c.requires.none.0) in
    rw same (record {
      all = refl;
      starts = c.reserve.ensures.items ∙ c.requires.none.1;
      have = λ several. absurd (omega (arith, several));
      part = tt;
    })

pub returns : goal.returns
returns g c =
    let done : is_ok c.push.result ≡ true = c.is_err.ensures.negation ∙ ap not c.if-is_err.false in
    let one = c.push.ensures.items
    ∙ (ap (λ (b : Bool). if b then c.args.parts.now.items ++ c.new-part.result ∷ [] else c.args.parts.now.items) done
    ∙ ap (λ (z : List g.row.T.Denot). z ++ c.new-part.result ∷ []) c.requires.none.0) in
    rw (one, c.new-part.ensures) (record {
      all = refl;
      starts = c.push_reserved.ensures.items ∙ ap (λ (z : List ℕ). z ++ 0 ∷ []) (c.reserve.ensures.items ∙ c.requires.none.1);
      have = λ several. absurd (omega (arith, several));
      part = λ at. record { inside = omega arith; below = tt; above = tt };
    })
