use Rattle.std.proofs.Common.{◌≡◌, ◌+◌, ◌==◌, ◌<◌, ℕ, true, false, arith, sym, ◌∙◌, ap, w32}
use Rattle.std.specs.Int.{bit_at, bit_not}
use Rattle.nc_host_acts.specs.machinery.Writing.{marks_if}
use Rattle.nc_acts.specs.Acts.{is_start, is_inside}
use Rattle.nc_host_acts.proofs.writing.MarkReads.{start_bit, inside_bit, mark_read, marked_bit, unmarked_bit}
use Rattle.nc_host_acts.proofs.writing.RunLists.{bits_by_places}
use Rattle.nc_host_acts.proofs.runs.bits_of.Goals as goal

pub returns-in-Marked : goal.returns-in-Marked
returns-in-Marked g c = λ base start.
    let marks = g.C.ReadChunk.marks c.args.chunk.now in
    let bits = c.marked_places.result in
    let is : (k : ℕ) → k < 32 → (bit_at bits k == 1) ≡ marks_if true marks base (base + c.args.from + k) =
    λ k lt. marked_bit bits k (marks (c.args.from + k)) (c.marked_places.ensures k lt)
    ∙ (sym (mark_read true marks base (c.args.from + k)) ∙ ap (marks_if true marks base) (omega arith)) in
    rw c.in-Marked.is (record {
      are = bits_by_places (marks_if true marks base) (base + c.args.from) 32 bits (omega (arith, c.marked_places.type_inv)) is;
    })

pub returns-in-Unmarked : goal.returns-in-Unmarked
returns-in-Unmarked g c = λ base start.
    let marks = g.C.ReadChunk.marks c.args.chunk.now in
    let bits = c.marked_places-in-Unmarked.result in
    let is : (k : ℕ) → k < 32 → (bit_at (bit_not w32 bits) k == 1) ≡ marks_if false marks base (base + c.args.from + k) =
    λ k lt. unmarked_bit bits k (marks (c.args.from + k)) (omega (arith, c.marked_places-in-Unmarked.type_inv)) lt
    (c.marked_places-in-Unmarked.ensures k lt)
    ∙ (sym (mark_read false marks base (c.args.from + k)) ∙ ap (marks_if false marks base) (omega arith)) in
    rw c.in-Unmarked.is (record {
      are = bits_by_places (marks_if false marks base) (base + c.args.from) 32 (bit_not w32 bits) (omega arith) is;
    })

pub returns-in-Inside : goal.returns-in-Inside
returns-in-Inside g c = λ base start.
    let at = base + c.args.from in
    rw c.in-Inside.is (record {
      are = bits_by_places is_inside at 32 4294967294 (omega arith) (λ k lt. inside_bit at k (omega (arith, start, c.requires.start)) lt);
    })

pub returns-in-Starts : goal.returns-in-Starts
returns-in-Starts g c = λ base start.
    let at = base + c.args.from in
    rw c.in-Starts.is (record {
      are = bits_by_places is_start at 32 1 (omega arith) (λ k lt. start_bit at k (omega (arith, start, c.requires.start)) lt);
    })
