use Rattle.std.proofs.Common.{◌≡◌, ◌++◌, ℕ, List, [], length, take, refl, sym, ap, ◌∙◌, subst, append-nil}
use Rattle.std.proofs.Common.{rules}
use Rattle.std.specs.Io.KnownBytes.{Appends}
use Rattle.std.proofs.KnownBytes.{Appends-trans, Appends-nil, Appends-kept}
use Rattle.std.proofs.lemmas.List.{take_at, drop_all}
use Rattle.nc_output.proofs.Added.{moves_front}
use Rattle.nc_output.proofs.writing.write_out.Goals as goal

-- the bytes so far are a front of all
front_is : (all done rest : List ℕ) → all ≡ done ++ rest → take (length done) all ≡ done
front_is all done rest e = ap (take (length done)) e ∙ take_at done rest (length done) refl

pub loop-rest-init : goal.loop-rest-init
loop-rest-init g c = ([], refl, Appends-nil _)

pub loop-rest-preserved : goal.loop-rest-preserved
loop-rest-preserved g c =
    let (done, split, appended) = c.loop-rest.invariant in
    let rest = c.loop-rest.rest.now in
    let n = c.in-Ok.count in
    (done ++ take n rest, moves_front _ done rest n split, Appends-trans _ _ _ _ _ appended c.in-Ok.ensures.bytes)

pub returns-then-count-eq0-clause-front : goal.returns-then-count-eq0-clause-front
returns-then-count-eq0-clause-front g c =
    let (done, split, appended) = c.loop-rest.invariant in
    let none : take c.in-Ok.count c.loop-rest.rest.now ≡ [] = ap (λ (n : ℕ). take n c.loop-rest.rest.now) c.if-count-eq0.true in (
      length done,
      subst (Appends _ _) (ap (λ (l : List ℕ). done ++ l) none ∙ append-nil done ∙ sym (front_is _ done _ split))
          (Appends-trans _ _ _ _ _ appended c.in-Ok.ensures.bytes),
    )

pub returns-in-Err-clause-front : goal.returns-in-Err-clause-front
returns-in-Err-clause-front g c =
    let (done, split, appended) = c.loop-rest.invariant in
    (length done, subst (Appends _ _) (sym (front_is _ done _ split)) (Appends-kept _ _ _ _ appended c.in-Err.ensures.bytes))

pub returns-clause-all : goal.returns-clause-all
returns-clause-all g c =
    let (done, split, appended) = c.loop-rest.invariant in
    let empty : c.loop-rest.rest.now ≡ [] = drop_all 0 c.loop-rest.rest.now (search rules) in
    subst (Appends _ _) (sym (split ∙ ap (λ (l : List ℕ). done ++ l) empty ∙ append-nil done)) appended
