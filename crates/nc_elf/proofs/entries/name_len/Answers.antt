use Rattle.std.proofs.Common.{sym, arith, length, rules}
use Rattle.std.proofs.lemmas.List.Sums.{prefix_len_is}
use Rattle.nc_elf.specs.Symbols.{is_name_byte}
use Rattle.nc_elf.proofs.entries.name_len.Goals as goal

pub returns-then-not-is_name_byte : goal.returns-then-not-is_name_byte
returns-then-not-is_name_byte c =
    sym (prefix_len_is is_name_byte c.args.field.now c.loop-len.len 0 (omega arith) c.loop-len.invariant (λ _. search rules))

pub returns : goal.returns
returns c =
    sym (prefix_len_is is_name_byte c.args.field.now (length c.args.field.now) 0 (omega arith)
    (λ k l. c.loop-len.invariant k (omega (arith, l, c.loop-len-test.false))) (λ l. absurd (omega arith)))
