use Rattle.std.proofs.Common.{◌++◌, ℕ, List, ap, ◌∙◌, codes}
use Rattle.std.proofs.lemmas.Result.{on_ok_weaker}
use Rattle.nc_output.specs.Verdicts.{address_digits, fault_name, place_of}
use Rattle.nc_report.specs.Objects.{file_member, string_member, at_member}
use Rattle.nc_report.proofs.ObjectTexts.{inner, refused_parts}
use Rattle.nc_report.proofs.objects.push_refused_members.Goals as goal

pub returns : goal.returns
returns c =
    let (real, named) = c.in_ok-named.ensures.named in
    let old = c.args.out.now.items in
    let file = file_member c.args.name.now in
    let address = string_member (codes "address") (address_digits c.args.base) in
    let fault : List ℕ → List ℕ = λ name. codes ",\"verdict\":\"refused\",\"fault\":\"" ++ (inner name ++ codes "\"") in
    let name = fault_name c.args.fault in
    let at = at_member (place_of c.args.fault) in
    let front = c.in_ok-push_between.ensures
    ∙ ap (λ (z : List ℕ). c.push_front.new.out.items ++ fault z) named
    ∙ ap (λ (z : List ℕ). z ++ fault name) c.in_ok-push_front.ensures in
    on_ok_weaker c.push_at.result
    (λ e. (
      real,
      e ∙ ap (λ (p : _). c.push_between.new.out.items ++ at_member p) c.place_of.ensures
          ∙ ap (λ (z : List ℕ). z ++ at) front ∙ refused_parts old file address name at,
    ))
    c.push_at.ensures
