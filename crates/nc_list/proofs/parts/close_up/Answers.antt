use Rattle.std.proofs.Common.{refl, ◌∙◌, arith}
use Rattle.std.proofs.lemmas.List.{length-map}
use Rattle.nc_list.proofs.parts.close_up.Goals as goal

pub returns-then-len-eq1 : goal.returns-then-len-eq1
returns-then-len-eq1 g c = record {
  all = refl;
  starts = c.requires.starts;
  have = λ several. absurd (omega (
    arith,
    several,
    length-map c.args.parts.now.items g.T.Part.items,
    c.if-len-eq1.true,
    c.len.ensures,
    c.args.parts.now.ok.0,
  ));
  some = omega (arith, c.requires.inside);
}

pub remove_empty-requires : goal.remove_empty-requires
remove_empty-requires g c = record { inside = c.requires.inside; starts = c.requires.starts; have = c.requires.have }

pub join_next-requires : goal.join_next-requires
join_next-requires g c = record {
  some = c.remove_empty.ensures.some;
  starts = c.remove_empty.ensures.starts;
  have = c.remove_empty.ensures.have;
}

pub join_next-requires-then-k-gt0 : goal.join_next-requires-then-k-gt0
join_next-requires-then-k-gt0 g c = record {
  some = c.join_next.ensures.some;
  starts = c.join_next.ensures.starts;
  have = c.join_next.ensures.have;
}

pub returns-then-k-gt0 : goal.returns-then-k-gt0
returns-then-k-gt0 g c = record {
  all = c.join_next-then-k-gt0.ensures.all ∙ (c.join_next.ensures.all ∙ c.remove_empty.ensures.all);
  starts = c.join_next-then-k-gt0.ensures.starts;
  have = c.join_next-then-k-gt0.ensures.have;
  some = c.join_next-then-k-gt0.ensures.some;
}

pub returns-else-k-gt0 : goal.returns-else-k-gt0
returns-else-k-gt0 g c = record {
  all = c.join_next.ensures.all ∙ c.remove_empty.ensures.all;
  starts = c.join_next.ensures.starts;
  have = c.join_next.ensures.have;
  some = c.join_next.ensures.some;
}
