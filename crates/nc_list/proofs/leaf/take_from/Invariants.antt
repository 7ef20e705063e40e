use Rattle.std.proofs.Common.{◌≡◌, ◌≤◌, length, take, drop}
use Rattle.nc_list.specs.Stamps.{AreSince}
use Rattle.nc_list.proofs.Taking.{AreGoneOver}
use Rattle.nc_list.proofs.leaf.take_from.Given as goal

abbrev pub invariant-loop-i : goal.invariant-loop-i
invariant-loop-i l = record {
  long : length l.entries.items ≡ length l.initial.entries.items;
  within : l.to ≤ l.i;
  room : length l.room ≡ length l.initial.room;
  count : l.count ≤ length l.initial.room;
  rest : drop l.i l.entries.items ≡ drop l.i l.initial.entries.items;
  gone : AreGoneOver (length l.initial.room) l.least (take l.i l.initial.entries.items) (take l.to l.entries.items) (take l.count l.room);
  since : AreSince l.low (take l.to l.entries.items);
}
