use Rattle.std.proofs.Common.{◌≡◌, ◌∙◌, sym, ap, Bor, Option, Some, None, List, ℕ}
use Rattle.std.specs.Option.{option_copied, option_map}
use Rattle.std.specs.Global.{Vec}
use Rattle.nc_lines.specs.Lines.{words_in}
use Rattle.nc_lines.specs.Words.{bytes_in, first_address_in, words_after}
use Rattle.nc_lines.proofs.FirstWords.{placed_some, placed_spaced}
use Rattle.nc_lines.proofs.words.placed_at.Goals as goal

pub returns-then-is_some : goal.returns-then-is_some
returns-then-is_some c =
    let first = c.in-Some-default-Some in
    let begins : Some (first.at, words_in first.rest.now) ≡ first_address_in (words_in c.args.text.now) =
    ap (λ (o : Option (Bor (List ℕ))). Some (first.at, words_after (option_copied o))) (sym first.field-0-1-is) ∙ first.ensures.value in
    sym (placed_spaced c.args.text.now first.rest.now first.at c.memchr.result begins c.memchr.ensures
    (sym c.is_some.ensures ∙ c.if-is_some.true))

pub returns-in-Some : goal.returns-in-Some
returns-in-Some c =
    let first = c.in-Some-default-Some in
    let begins : Some (first.at, words_in first.rest.now) ≡ first_address_in (words_in c.args.text.now) =
    ap (λ (o : Option (Bor (List ℕ))). Some (first.at, words_after (option_copied o))) (sym first.field-0-1-is) ∙ first.ensures.value in
    let read : bytes_in first.rest.now ≡ Some c.in-Some.code.items =
    sym c.in_ok-code.ensures ∙ ap (option_map (λ (v : Vec ℕ). v.items)) c.in-Some.is in
    sym (placed_some c.args.text.now first.rest.now first.at begins ∙ ap (option_map (λ (found : List ℕ). (first.at, found))) read)

pub returns-in-None : goal.returns-in-None
returns-in-None c =
    let first = c.in-Some-default-Some in
    let begins : Some (first.at, words_in first.rest.now) ≡ first_address_in (words_in c.args.text.now) =
    ap (λ (o : Option (Bor (List ℕ))). Some (first.at, words_after (option_copied o))) (sym first.field-0-1-is) ∙ first.ensures.value in
    let read : bytes_in first.rest.now ≡ None =
    sym c.in_ok-code.ensures ∙ ap (option_map (λ (v : Vec ℕ). v.items)) c.in-None.is in
    sym (placed_some c.args.text.now first.rest.now first.at begins ∙ ap (option_map (λ (found : List ℕ). (first.at, found))) read)
