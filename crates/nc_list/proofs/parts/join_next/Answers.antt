use Rattle.std.proofs.Common.{◌≡◌, suc, ◌+◌, ◌<◌, List, [], ◌++◌, length, get_or, set, take, drop, map, refl, sym, ap, ◌∙◌, arith, subst}
use Rattle.std.proofs.lemmas.Grind.{common_steps}
use Rattle.std.specs.List.{remove}
use Rattle.std.proofs.lemmas.List.{length-map}
use Rattle.nc_list.specs.declared.chunk.Chunk.{Chunk}
use Rattle.nc_list.specs.Parts.{HaveSome, all_of, starts_of}
use Rattle.nc_list.proofs.Pieces.{some_at}
use Rattle.nc_list.proofs.Parting.{starts_many, join_all, join_starts_are, join_have}
use Rattle.nc_list.proofs.Pairs.{joined_pair, unjoined_pair, joined_are, pair_first}
use Rattle.nc_list.proofs.parts.join_next.Given.{Over}
use Rattle.nc_list.proofs.parts.join_next.Goals.{Else-join}
use Rattle.nc_list.proofs.parts.join_next.Goals as goal

pub join-requires : goal.join-requires
join-requires g c =
    let inside : c.args.k + 1 < length c.args.parts.now.items =
    omega (arith, c.if-len-k.false, c.requires.some, c.len.ensures, c.args.parts.now.ok.0) in
    let xs = c.args.parts.now.items in
    let is = c.split_at_mut-here.ensures.front ∙ ap (take (c.args.k + 1)) c.deref_mut.ensures.value in
    let first = pair_first g.T.Part.items xs c.args.k c.index-here-k.result inside
    (c.index-here-k.is ∙ ap (λ (z : List g.row.T.Denot). get_or z c.args.k c.index-here-k.result) is) in
    let long = length-map xs g.T.Part.items in
    omega (
      arith,
      some_at (map g.T.Part.items xs) c.args.k c.requires.have (omega (arith, inside, long)) (omega (arith, inside, long)),
      ap (λ (z : List Chunk). length z) first,
      ap (λ (t : g.row.T.Denot). length (g.T.Part.items t)) c.index-here-k.is,
    )

pub remove-requires-then-join : goal.remove-requires-then-join
remove-requires-then-join g c =
    let inside : c.args.k + 1 < length c.args.parts.now.items =
    omega (arith, c.if-len-k.false, c.requires.some, c.len.ensures, c.args.parts.now.ok.0) in
    omega (
      arith,
      starts_many g.T.Part.items c.args.parts.now.items c.args.starts.now.items c.requires.starts,
      inside,
      c.args.starts.now.ok.0,
    )

-- the chunks of the parts once two are joined
joined_form : (g : Over) (c : goal.After-remove-then-join g)
    → map g.T.Part.items c.remove.new.self.items
    ≡ remove (set (map g.T.Part.items c.args.parts.now.items) c.args.k (g.T.Part.items c.join.new.self)) (c.args.k + 1)
joined_form g c =
    let inside : c.args.k + 1 < length c.args.parts.now.items =
    omega (arith, c.if-len-k.false, c.requires.some, c.len.ensures, c.args.parts.now.ok.0) in
    let xs = c.args.parts.now.items in
    let is = c.split_at_mut-here.ensures.front ∙ ap (take (c.args.k + 1)) c.deref_mut.ensures.value in
    let also = c.split_at_mut-here.ensures.back ∙ ap (drop (c.args.k + 1)) c.deref_mut.ensures.value in
    ap (map g.T.Part.items) c.remove.ensures.items
    ∙ joined_pair g.T.Part.items xs c.split_at_mut-here.result.0.now c.split_at_mut-here.result.1.now c.args.k c.args.parts.now.len
    c.join.new.self c.join.new.upper inside (sym c.args.parts.now.ok.0) is also

joined_is : (g : Over) (c : goal.After-remove-then-join g)
    → g.T.Part.items c.join.new.self
    ≡ get_or (map g.T.Part.items c.args.parts.now.items) c.args.k [] ++ get_or (map g.T.Part.items c.args.parts.now.items) (suc c.args.k) []
joined_is g c =
    let inside : c.args.k + 1 < length c.args.parts.now.items =
    omega (arith, c.if-len-k.false, c.requires.some, c.len.ensures, c.args.parts.now.ok.0) in
    let xs = c.args.parts.now.items in
    let is = c.split_at_mut-here.ensures.front ∙ ap (take (c.args.k + 1)) c.deref_mut.ensures.value in
    let also = c.split_at_mut-here.ensures.back ∙ ap (drop (c.args.k + 1)) c.deref_mut.ensures.value in
    joined_are g.T.Part.items xs c.split_at_mut-here.result.0.now c.split_at_mut-here.result.1.now c.args.k c.index-here-k.result
    c.index-behind-0.result c.join.new.self inside is also c.index-here-k.is c.index-behind-0.is (c.if-join.ensures.joined refl)

within : (g : Over) (c : goal.After-remove-then-join g) → suc c.args.k < length (map g.T.Part.items c.args.parts.now.items)
within g c =
    let inside : c.args.k + 1 < length c.args.parts.now.items =
    omega (arith, c.if-len-k.false, c.requires.some, c.len.ensures, c.args.parts.now.ok.0) in
    omega (arith, inside, length-map c.args.parts.now.items g.T.Part.items)

pub returns-then-join-clause-all : goal.returns-then-join-clause-all
returns-then-join-clause-all g c =
    ap all_of (joined_form g c) ∙ join_all (map g.T.Part.items c.args.parts.now.items) c.args.k _ (within g c) (joined_is g c)

pub returns-then-join-clause-starts : goal.returns-then-join-clause-starts
returns-then-join-clause-starts g c =
    c.remove-then-join.ensures.items
    ∙ (join_starts_are (map g.T.Part.items c.args.parts.now.items) c.args.starts.now.items c.args.k _ (within g c) (joined_is g c)
    c.requires.starts
    ∙ ap (starts_of 0) (sym (joined_form g c)))

pub returns-then-join-clause-have : goal.returns-then-join-clause-have
returns-then-join-clause-have g c =
    subst HaveSome (sym (joined_form g c))
    (join_have (map g.T.Part.items c.args.parts.now.items) c.args.k _ (within g c) c.requires.have (joined_is g c))

-- the parts once both neighbours are back in their list
abbrev both : (g : Over) (c : Else-join g) → List g.row.T.Denot
both g c = set c.split_at_mut-here.result.0.now c.args.k c.join.new.self ++ set c.split_at_mut-here.result.1.now 0 c.join.new.upper

-- the chunks of the parts stay once both neighbours are back in their list
same : (g : Over) (c : Else-join g)
    → map g.T.Part.items (take c.args.parts.now.len (both g c ++ drop (length (both g c)) c.args.parts.now.items))
    ≡ map g.T.Part.items c.args.parts.now.items
same g c =
    let inside : c.args.k + 1 < length c.args.parts.now.items =
    omega (arith, c.if-len-k.false, c.requires.some, c.len.ensures, c.args.parts.now.ok.0) in
    let is = c.split_at_mut-here.ensures.front ∙ ap (take (c.args.k + 1)) c.deref_mut.ensures.value in
    let also = c.split_at_mut-here.ensures.back ∙ ap (drop (c.args.k + 1)) c.deref_mut.ensures.value in
    let stay = c.if-join.ensures.not refl in
    unjoined_pair g.T.Part.items c.args.parts.now.items c.split_at_mut-here.result.0.now c.split_at_mut-here.result.1.now c.args.k
    c.args.parts.now.len c.index-here-k.result c.index-behind-0.result c.join.new.self c.join.new.upper inside
    (sym c.args.parts.now.ok.0) is also c.index-here-k.is c.index-behind-0.is stay.0 stay.1

pub returns-else-join-clause-all : goal.returns-else-join-clause-all
returns-else-join-clause-all g c =
    ap all_of (same g (goal.at.returns-else-join-clause-all g c).Else-join)

pub returns-else-join-clause-starts : goal.returns-else-join-clause-starts
returns-else-join-clause-starts g c =
    c.requires.starts ∙ ap (starts_of 0) (sym (same g (goal.at.returns-else-join-clause-starts g c).Else-join))

pub returns-else-join-clause-have : goal.returns-else-join-clause-have
returns-else-join-clause-have g c =
    subst HaveSome (sym (same g (goal.at.returns-else-join-clause-have g c).Else-join)) c.requires.have

pub returns-else-join-clause-some : goal.returns-else-join-clause-some
returns-else-join-clause-some g c = grind (arith, common_steps)
