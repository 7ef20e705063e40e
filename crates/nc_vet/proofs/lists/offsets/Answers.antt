use Rattle.nc_vet.proofs.GoodOffsets.{short_offset, near_offset}
use Rattle.nc_vet.proofs.lists.offsets.Goals as goal

pub returns-clause-short : goal.returns-clause-short
returns-clause-short c = short_offset c.args.code.now c.args.at c.word_at-word.result c.short_offset.result c.requires.four c.type_inv.code c.word_at-word.ensures
    c.short_offset.ensures

pub returns-clause-near : goal.returns-clause-near
returns-clause-near c = near_offset c.args.code.now c.args.at c.word_at-word.result c.word_at-word.type_inv c.word_at-word.ensures
