use Rattle.std.proofs.Common.{◌∙◌, sym}
use Rattle.nc_script.proofs.serving.RequestWords.{none_with}
use Rattle.nc_script.proofs.request.request_with.Goals as goal

pub returns : goal.returns
returns c =
    none_with c.args.queries c.args.key.now c.args.text.now (sym c.is_word.ensures ∙ c.if-is_word.false) (sym c.is_word-2.ensures ∙ c.if-is_word-2.false)
    (sym c.is_word-3.ensures ∙ c.if-is_word-3.false) (sym c.is_word-4.ensures ∙ c.if-is_word-4.false)
    (sym c.is_word-5.ensures ∙ c.if-is_word-5.false) (sym c.is_word-6.ensures ∙ c.if-is_word-6.false)
    (sym c.begins_query.ensures ∙ c.if-begins_query.false)
