use Rattle.std.proofs.Common.{[], ◌∷◌, drop, sym, ◌∙◌}
use Rattle.nc_decode.proofs.opcodes.EntryShapes.{entry_with_none, entry_without_sib, entry_of_two}
use Rattle.nc_decode.proofs.shape.entry_shape.Goals as goal

pub returns-then-not-entry-clause-shape : goal.returns-then-not-entry-clause-shape
returns-then-not-entry-clause-shape c =
    c.shape_with.ensures.shape [] ∙ entry_with_none c.args.prefix c.args.head c.args.entry.now
    (0 ∷ 0 ∷ []) c.args.rest.now c.if-not-entry.true

pub returns-in-len1-2-clause-shape : goal.returns-in-len1-2-clause-shape
returns-in-len1-2-clause-shape c =
    c.shape_with-in-len1-2.ensures.shape []
    ∙ entry_without_sib c.args.prefix c.args.head c.args.entry.now c.args.rest.now c.in-len1-up.len_at_least c.in-len1.len_below
    (sym c.has_sib.ensures ∙ c.if-has_sib.false)

pub returns-in-len2-up-clause-shape : goal.returns-in-len2-up-clause-shape
returns-in-len2-up-clause-shape c =
    c.shape_with-in-len2-up.ensures.shape (drop 2 c.args.rest.now)
    ∙ entry_of_two c.args.prefix c.args.head c.args.entry.now c.args.rest.now c.in-len2-up.len_at_least
