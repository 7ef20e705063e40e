use Rattle.std.proofs.Common.{arith, refl}
use Rattle.nc_host_handles.proofs.ReadBytes.{read_next}
use Rattle.nc_host_handles.proofs.region_calls.read_window.Goals.{then-at-lt-START-via-then-at-lt-START, then-at-lt-START-via-else-at-lt-START+then-at-limit, then-i-limit, else-i-limit}
use Rattle.nc_host_handles.proofs.region_calls.read_window.Goals as goal

pub returns-then-at-lt-START-clause-read : goal.returns-then-at-lt-START-clause-read
returns-then-at-lt-START-clause-read c =
    elim c.then-at-lt-START.branch [
      | then-at-lt-START-via-then-at-lt-START w ↦ record {
        long = refl;
        read = λ k lt low high. absurd (omega (arith, low, w.if-at-lt-START.true));
      }
      | then-at-lt-START-via-else-at-lt-START+then-at-limit w ↦ record {
        long = refl;
        read = λ k lt low high. absurd (omega (arith, high, w.if-at-limit.true, c.limit-limit.ensures.limit));
      }
    ]

pub loop-i-preserved : goal.loop-i-preserved
loop-i-preserved c =
    elim c.if-i-limit.branch [
      | then-i-limit w ↦ rw w.bytes-is (read_next c.args.region.now.marked.bytes c.args.at c.loop-i.bytes c.loop-i.i w.byte.result
          c.loop-i.invariant (omega (arith, c.loop-i-test.true, c.requires)) w.byte.ensures)
      | else-i-limit w ↦ rw w.bytes-is (record {
        long = c.loop-i.invariant.long;
        read = λ k lt low high. c.loop-i.invariant.read k
            (omega (arith, lt, high, w.if-i-limit.false, c.if-at-limit.false, c.limit-limit.ensures.limit)) low high;
      })
    ]
