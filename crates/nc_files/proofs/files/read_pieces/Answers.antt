use Rattle.std.proofs.Common.{◌≡◌, ◌≤◌, ◌+◌, ◌++◌, Option, ℕ, List, length, take, arith, refl, sym, ap, ◌∙◌, subst, append-nil, length-append, length-take-le}
use Rattle.std.specs.Io.KnownBytes.{Consumes}
use Rattle.std.proofs.KnownBytes.{Consumes-nil, Consumes-trans, Consumes-kept, Consumes-whole}
use Rattle.nc_files.proofs.files.read_pieces.Goals as goal

-- with the next piece more was read
more_read : (before mid after : Option (List ℕ)) (code buf : List ℕ) (n : ℕ) → Consumes before mid code → Consumes mid after (take n buf)
    → n ≤ length buf → (front : List ℕ) × Consumes before after front × (length front ≡ length code + n)
more_read before mid after code buf n a b le = (
  code ++ take n buf,
  Consumes-trans before mid after code (take n buf) a b,
  omega (arith, length-append code (take n buf), length-take-le n buf le),
)

pub returns-then-len-count-clause-too_long : goal.returns-then-len-count-clause-too_long
returns-then-len-count-clause-too_long g c = λ _.
    let (front, all, long) = more_read _ _ _ _ _ _ c.loop.invariant.0 c.in-Ok.ensures.bytes.0 c.in-Ok.ensures.bound.0 in
    (front, all, omega (arith, long, c.if-len-count.true))

pub returns-in-Err-extend_from_slice-clause-out_of_memory :
    goal.returns-in-Err-extend_from_slice-clause-out_of_memory
returns-in-Err-extend_from_slice-clause-out_of_memory g c = λ _.
    let (front, all, long) = more_read _ _ _ _ _ _ c.loop.invariant.0 c.in-Ok.ensures.bytes.0 c.in-Ok.ensures.bound.0 in
    (front, all, omega (arith, long, c.if-len-count.false))

pub loop-init : goal.loop-init
loop-init g c = (subst (Consumes _ _) (sym c.requires) (Consumes-nil _), omega arith, omega (arith, ap length c.requires))

pub loop-preserved : goal.loop-preserved
loop-preserved g c =
    let (consumed, counted, small) = c.loop.invariant in
    let n = c.in-Ok.count in
    let buf = c.read.new.buf in
    let code = c.loop.code.items in
    let items : c.extend_from_slice.new.self.items ≡ code ++ take n buf = c.in-Ok-extend_from_slice.ensures.items in
    let more = length-append code (take n buf) in
    let taken = length-take-le n buf c.in-Ok.ensures.bound.0 in (
      subst (Consumes _ _) (sym items) (Consumes-trans _ _ _ code (take n buf) consumed c.in-Ok.ensures.bytes.0),
      omega (arith, ap length items, more, taken, counted, c.if-count-eq0.false),
      omega (arith, ap length items, more, taken, small, c.if-len-count.false),
    )

pub returns-in-Err-clause-read_failed : goal.returns-in-Err-clause-read_failed
returns-in-Err-clause-read_failed g c = λ _.
    let (consumed, counted, small) = c.loop.invariant in
    (c.loop.code.items, Consumes-kept _ _ _ c.loop.code.items consumed c.in-Err.ensures.bytes, small)

pub returns-clause-too_long : goal.returns-clause-too_long
returns-clause-too_long g c = λ _.
    let (consumed, counted, small) = c.loop.invariant in
    (c.loop.code.items, consumed, omega (arith, counted, c.loop-test.false))

pub returns-then-count-eq0-clause-code : goal.returns-then-count-eq0-clause-code
returns-then-count-eq0-clause-code g c =
    let (consumed, counted, small) = c.loop.invariant in
    let n = c.in-Ok.count in
    let buf = c.read.new.buf in
    let code = c.loop.code.items in
    Consumes-whole _ _ code (λ (input : List ℕ). code ≡ input)
    (subst (Consumes _ _) (ap (λ (k : ℕ). code ++ take k buf) c.if-count-eq0.true ∙ append-nil code)
    (Consumes-trans _ _ _ code (take n buf) consumed c.in-Ok.ensures.bytes.0))
    (c.in-Ok.ensures.bytes.1 c.if-count-eq0.true (omega arith)) refl

pub returns-then-count-eq0-clause-read : goal.returns-then-count-eq0-clause-read
returns-then-count-eq0-clause-read g c = c.in-Ok.ensures.bytes.1 c.if-count-eq0.true (omega arith)

pub returns-then-count-eq0-clause-fits : goal.returns-then-count-eq0-clause-fits
returns-then-count-eq0-clause-fits g c = omega (arith, c.loop.invariant.2, c.loop.code.ok)
