use Rattle.std.proofs.Common.{◌≡◌, ◌∙◌, ◌∷◌, ◌+◌, ◌≤◌, IfOk, List, ℕ, Option, length, take, eqb-true, eq-eqb, ap, sym, subst, arith}
use Rattle.std.specs.Option.{option_map}
use Rattle.std.proofs.lemmas.List.{take_rest}
use Rattle.nc_lines.specs.Lines.{line_limit, words_in}
use Rattle.nc_script.specs.Requests.{Request, request_of}
use Rattle.nc_script.specs.machinery.Shown.{shown}
use Rattle.nc_script.proofs.serving.RequestWords.{line_words, line_word, short_request}
use Rattle.nc_script.proofs.request.request_of.Goals as goal

pub returns-in-Some : goal.returns-in-Some
returns-in-Some c =
    let line = c.args.line.now in
    let end = c.in-Some.end in
    let first = c.in-Some.ensures.0 in
    let words = line_words line end first.high (eqb-true _ 32 c.in-Some.ensures.1)
    (λ k below is. first.before k (omega arith) below (eq-eqb _ 32 is)) in
    let short : length line ≤ line_limit = omega arith in
    subst (λ (request : Option Request). IfOk c.request_by.result (λ found. option_map shown found ≡ request))
    (ap (λ (t : List ℕ). request_of c.args.queries (take end line ∷ words_in t)) (take_rest line (end + 1)) ∙ ap (request_of c.args.queries) (sym words)
    ∙ sym (short_request c.args.queries line short))
    c.request_by.ensures

pub returns-in-None : goal.returns-in-None
returns-in-None c =
    let line = c.args.line.now in
    let words = line_word line (λ k below is. c.in-None.ensures k (omega arith) below (eq-eqb _ 32 is)) in
    let short : length line ≤ line_limit = omega arith in
    subst (λ (request : Option Request). IfOk c.request_by-in-None.result (λ found. option_map shown found ≡ request))
    (ap (request_of c.args.queries) (sym words) ∙ sym (short_request c.args.queries line short))
    c.request_by-in-None.ensures
