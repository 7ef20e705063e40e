use Rattle.std.proofs.Common.{◌++◌, [], ℕ, List, ap, ◌∙◌, codes, decimal}
use Rattle.std.proofs.lemmas.Result.{on_ok_weaker}
use Rattle.nc_output.specs.Verdicts.{address_digits}
use Rattle.nc_report.specs.Objects.{file_member, string_member}
use Rattle.nc_report.proofs.ObjectTexts.{accepted_parts}
use Rattle.nc_report.proofs.objects.push_accepted_members.Goals as goal

pub returns : goal.returns
returns c =
    let text : List ℕ → List ℕ = λ counts. codes ",\"verdict\":\"ok\",\"bytes\":" ++ (counts ++ []) in
    let bytes = decimal c.args.bytes in
    let instructions = decimal c.args.instructions in
    let counts = bytes ++ (codes ",\"instructions\":" ++ instructions) in
    on_ok_weaker c.push_all.result
    (λ e. e ∙ ap (λ (z : List ℕ). c.push_front.new.out.items ++ text z) (c.as_bytes.ensures.value ∙ c.in_ok-counts.ensures.ok)
    ∙ ap (λ (z : List ℕ). z ++ text counts) c.in_ok-push_front.ensures
    ∙ accepted_parts c.args.out.now.items (file_member c.args.name.now) (string_member (codes "address") (address_digits c.args.base))
    (string_member (codes "verdict") (codes "ok")) (codes ",\"bytes\":") bytes (codes ",\"instructions\":") instructions)
    c.push_all.ensures
