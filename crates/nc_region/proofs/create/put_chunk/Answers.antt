use Rattle.std.proofs.Common.{◌≡◌, true, false, ◌∙◌, refl}
use Rattle.nc_region.proofs.create.put_chunk.Goals as goal

pub put_by_bits-requires : goal.put_by_bits-requires
put_by_bits-requires g c =
    record { can = c.requires.can; code = c.requires.code }

pub returns-then-put_by_bits : goal.returns-then-put_by_bits
returns-then-put_by_bits g c =
    let yes : c.put_by_bits.result ≡ true = c.if-put_by_bits.true in
    let done = c.put_by_bits.ensures in
    record {
      put = record { marked = done.marked yes; whole = done.whole; log = done.log yes };
      made = done.made;
      keeper = done.keeper;
    }

pub put_listed-requires : goal.put_listed-requires
put_listed-requires g c =
    let no : c.put_by_bits.result ≡ false = c.if-put_by_bits.false in
    let same = c.put_by_bits.ensures.unchanged no in
    let can = c.requires.can in
    record {
      can = record {
        whole = c.put_by_bits.ensures.whole;
        chunk = rw same.0 can.chunk;
        unused = rw same.0 can.unused;
        ready = rw c.put_by_bits.ensures.made can.ready;
      };
      code = c.requires.code;
      room = c.requires.room;
      registers = c.requires.registers;
    }

pub returns : goal.returns
returns g c =
    let no : c.put_by_bits.result ≡ false = c.if-put_by_bits.false in
    let same = c.put_by_bits.ensures.unchanged no in
    let done = c.put_listed.ensures in
    record {
      put = record { marked = done.put.marked ∙ rw same.0 refl; whole = done.put.whole; log = rw same.1 at done.put.log };
      made = done.made ∙ c.put_by_bits.ensures.made;
      keeper = done.keeper ∙ c.put_by_bits.ensures.keeper;
    }
