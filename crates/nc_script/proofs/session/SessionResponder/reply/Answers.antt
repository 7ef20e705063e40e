use Rattle.std.proofs.Common.{None, ◌≡◌, ◌∙◌, Some, sym, ap, subst}
use Rattle.std.specs.Option.{option_map}
use Rattle.std.proofs.lemmas.Result.{on_ok_weaker}
use Rattle.nc_script.specs.Requests.{request_in}
use Rattle.nc_lines.specs.Lines.{bad_line}
use Rattle.nc_script.specs.machinery.Shown.{shown}
use Rattle.nc_script.specs.machinery.Session.{SessionOf, SessionState, FollowsLine}
use Rattle.nc_output.proofs.Offered.{added_all}
use Rattle.nc_script.proofs.serving.LineReplies.{line_follows, bad_line_follows}
use Rattle.nc_script.proofs.serving.Kept.{request_of_kept}
use Rattle.nc_script.proofs.session.SessionResponder.reply.Goals as goal

pub returns-in-Some : goal.returns-in-Some
returns-in-Some c =
    let queries = c.self.inside.queries in
    let requested : request_in queries c.args.kept.now ≡ Some (shown c.in-Some.request) =
    sym c.in_ok-request.ensures ∙ ap (option_map shown) c.in-Some.is in
    let old : SessionState = record { region = c.self.inside.region; seats = c.self.inside.seats } in
    let new : SessionState = record { region = c.serve.new.region; seats = c.serve.new.seats } in
    on_ok_weaker c.serve.result
    (λ h line e. (
      h.0,
      h.1,
      subst (λ (s : SessionOf). FollowsLine s line h.0 (record { queries = queries; state = new })) c.self.view_is
          (line_follows queries (shown c.in-Some.request) old new line h.0 c.limit-facts.ensures.region
          (sym (request_of_kept queries c.args.kept.now line e) ∙ requested) h.2),
    )) c.serve.ensures.follows

pub returns-in-None : goal.returns-in-None
returns-in-None c =
    let queries = c.self.inside.queries in
    let requested : request_in queries c.args.kept.now ≡ None = sym c.in_ok-request.ensures ∙ ap (option_map shown) c.in-None.is in
    let old : SessionOf =
    record { queries = queries; state = record { region = c.self.inside.region; seats = c.self.inside.seats } } in
    on_ok_weaker c.extend_from_slice.result
    (λ h line e. (
      bad_line,
      h,
      subst (λ (s : SessionOf). FollowsLine s line bad_line s) c.self.view_is
          (bad_line_follows old line (sym (request_of_kept queries c.args.kept.now line e) ∙ requested)),
    ))
    (added_all c.extend_from_slice.result _ _ bad_line c.extend_from_slice.ensures.items)
