use Rattle.std.proofs.Common.{◌++◌, ◌∷◌, [], ℕ, List, ap, ◌∙◌, sym, arith}
use Rattle.std.proofs.lemmas.Result.{on_ok_weaker}
use Rattle.nc_output.proofs.Added.{added_all}
use Rattle.nc_output.proofs.Additions.{escaped_plain}
use Rattle.nc_output.proofs.strings.push_escaped.Goals as goal

pub returns-else-byte-eq127 : goal.returns-else-byte-eq127
returns-else-byte-eq127 c =
    let plain = escaped_plain c.args.byte (omega arith) (omega arith) (omega arith) (omega arith) in
    on_ok_weaker c.extend_from_slice-else-byte-eq127.result
    (λ e. e ∙ ap (λ (z : List ℕ). c.args.out.now.items ++ z) (sym plain))
    (added_all c.extend_from_slice-else-byte-eq127.result _ _ (c.args.byte ∷ []) c.extend_from_slice-else-byte-eq127.ensures.items)
