use Rattle.std.proofs.Common.{◌≡◌, ◌++◌, ℕ, List, Option, refl, ap, ◌∙◌, append_assoc, codes}
use Rattle.std.proofs.lemmas.Result.{on_ok_weaker}
use Rattle.nc_output.specs.Verdicts.{fault_name, place_of}
use Rattle.nc_report.specs.Objects.{fault_object, at_member}
use Rattle.nc_output.specs.Strings.{string_of}
use Rattle.nc_report.proofs.ObjectTexts.{inner}
use Rattle.nc_report.proofs.objects.push_fault_object.Goals as goal

-- an object was added, part after part
object_added : (o b name at w m n p q new : List ℕ) → m ≡ o ++ b → n ≡ m ++ (codes "{\"fault\":\"" ++ (inner name ++ codes "\"")) → p ≡ n ++ at
    → q ≡ p ++ w → new ≡ q ++ codes "}" → new ≡ o ++ (b ++ ((codes "{\"fault\":" ++ (string_of name ++ at)) ++ (w ++ codes "}")))
object_added o b name at w m n p q new before named placed words end = simp (end, words, placed, named, before, append_assoc)

pub returns : goal.returns
returns c =
    let members = c.in_ok-members.members.items in
    let out = c.push_text.new.out.items in
    on_ok_weaker c.push_text-2.result
    (λ e. record {
      text = c.args.before.now ++ (fault_object c.args.fault ++ (members ++ codes "}"));
      says = (members ++ codes "}", (members, c.in_ok-members.ensures, refl), refl);
      added = object_added c.args.out.now.items c.args.before.now (fault_name c.args.fault) (at_member (place_of c.args.fault)) members out
          c.push_between.new.out.items c.push_at.new.out.items c.push_members.new.out.items _ c.in_ok-push_text.ensures
          (c.in_ok-push_between.ensures ∙ ap (λ (z : List ℕ). out ++ (codes "{\"fault\":\"" ++ (inner z ++ codes "\""))) c.in_ok-fault_name.ensures.named.1)
          (c.in_ok-push_at.ensures ∙ ap (λ (p : Option ℕ). c.push_between.new.out.items ++ at_member p) c.place_of.ensures)
          c.in_ok-push_members.ensures e;
    })
    c.push_text-2.ensures
