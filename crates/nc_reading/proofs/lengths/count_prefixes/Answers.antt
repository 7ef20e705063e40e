use Rattle.std.proofs.Common.{sym, arith, length, rules}
use Rattle.std.proofs.lemmas.List.Sums.{prefix_len_is}
use Rattle.nc_decode.specs.Barred.{leading, among}
use Rattle.nc_reading.proofs.lengths.count_prefixes.Goals as goal

pub returns-then-not-is_prefix-clause-value : goal.returns-then-not-is_prefix-clause-value
returns-then-not-is_prefix-clause-value c =
    sym (prefix_len_is (among leading) c.args.bytes.now c.loop-count.count 0 (omega arith) c.loop-count.invariant (λ _. search rules))

pub returns-clause-value : goal.returns-clause-value
returns-clause-value c =
    sym (prefix_len_is (among leading) c.args.bytes.now (length c.args.bytes.now) 0 (omega arith)
    (λ k l. c.loop-count.invariant k (omega (arith, l, c.loop-count-test.false))) (λ l. absurd (omega arith)))
