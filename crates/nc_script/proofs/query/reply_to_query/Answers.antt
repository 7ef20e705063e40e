use Rattle.std.proofs.Common.{◌∙◌, ◌∷◌, ◌++◌, [], List, ℕ, sym, refl, ap, append_assoc}
use Rattle.std.proofs.lemmas.List.{append_cancel_left}
use Rattle.nc_output.specs.Verdicts.{with_line_end}
use Rattle.nc_script.specs.Queries.{reply_to}
use Rattle.nc_script.specs.Requests.{Query}
use Rattle.nc_script.specs.machinery.Session.{script_of}
use Rattle.nc_script.proofs.chunks.Fitting.{follows_same}
use Rattle.nc_script.proofs.query.reply_to_query.Goals as goal

pub returns : goal.returns
returns g c =
    let query = c.args.query in
    let region = c.args.region.now in
    let before = c.args.out.now.items in
    let first = reply_to query (script_of region [] 0) in
    let written = c.in_ok-push_reply.ensures in (
      with_line_end first,
      c.in_ok-push.ensures.items ∙ ap (λ (bytes : List ℕ). bytes ++ 10 ∷ []) (written [] 0) ∙ append_assoc before first (10 ∷ []),
      follows_same (Query query) region (with_line_end first)
          (λ seats freed. (ap with_line_end (append_cancel_left before _ _ (sym (written [] 0) ∙ written seats freed)), refl)),
    )
