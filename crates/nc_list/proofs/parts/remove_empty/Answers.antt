use Rattle.std.proofs.Common.{◌≡◌, ◌<◌, List, [], length, get_or, map, sym, ap, ◌∙◌, arith, subst}
use Rattle.std.proofs.lemmas.Grind.{common_steps}
use Rattle.std.specs.List.{remove}
use Rattle.std.proofs.lemmas.List.{length-map, nil_from_length}
use Rattle.nc_list.specs.declared.chunk.Chunk.{Chunk}
use Rattle.nc_list.specs.Parts.{HaveSome, all_of, starts_of}
use Rattle.nc_list.proofs.Pieces.{part_is}
use Rattle.nc_list.proofs.Parting.{starts_many, map_remove, removed_all, removed_starts, removed_have, others_and_one}
use Rattle.nc_list.proofs.parts.remove_empty.Given.{Over}
use Rattle.nc_list.proofs.parts.remove_empty.Goals as goal

pub returns-then-len-eq1-clause-have : goal.returns-then-len-eq1-clause-have
returns-then-len-eq1-clause-have g c = grind (arith, common_steps)

pub returns-then-len-ne0-clause-have : goal.returns-then-len-ne0-clause-have
returns-then-len-ne0-clause-have g c =
    let xs = c.args.parts.now.items in
    let is = part_is g.T.Part.items xs c.args.k c.index.result.now c.requires.inside c.index.ensures in
    others_and_one (map g.T.Part.items xs) c.args.k (omega (arith, c.requires.inside, length-map xs g.T.Part.items))
    (omega (arith, c.if-len-ne0.true, c.len-2.ensures, ap (λ (z : List Chunk). length z) is)) c.requires.have

pub remove-requires-2 : goal.remove-requires-2
remove-requires-2 g c =
    omega (
      arith,
      starts_many g.T.Part.items c.args.parts.now.items c.args.starts.now.items c.requires.starts,
      c.requires.inside,
      c.args.starts.now.ok.0,
    )

-- the part has no chunk
none : (g : Over) (c : goal.After-remove-2 g) → get_or (map g.T.Part.items c.args.parts.now.items) c.args.k [] ≡ []
none g c =
    sym (part_is g.T.Part.items c.args.parts.now.items c.args.k c.index.result.now c.requires.inside c.index.ensures)
    ∙ nil_from_length _ (sym c.len-2.ensures ∙ c.if-len-ne0.false)

inside : (g : Over) (c : goal.After-remove-2 g) → c.args.k < length (map g.T.Part.items c.args.parts.now.items)
inside g c = omega (arith, c.requires.inside, length-map c.args.parts.now.items g.T.Part.items)

form : (g : Over) (c : goal.After-remove-2 g)
    → map g.T.Part.items c.remove.new.self.items ≡ remove (map g.T.Part.items c.args.parts.now.items) c.args.k
form g c = ap (map g.T.Part.items) c.remove.ensures.items ∙ map_remove g.T.Part.items c.args.parts.now.items c.args.k

pub returns-clause-all : goal.returns-clause-all
returns-clause-all g c = ap all_of (form g c) ∙ removed_all (map g.T.Part.items c.args.parts.now.items) c.args.k (inside g c) (none g c)

pub returns-clause-starts : goal.returns-clause-starts
returns-clause-starts g c =
    c.remove-2.ensures.items
    ∙ (removed_starts (map g.T.Part.items c.args.parts.now.items) c.args.starts.now.items c.args.k (inside g c) (none g c) c.requires.starts
    ∙ ap (starts_of 0) (sym (form g c)))

pub returns-clause-have : goal.returns-clause-have
returns-clause-have g c =
    subst HaveSome (sym (form g c))
    (removed_have (map g.T.Part.items c.args.parts.now.items) c.args.k c.requires.have
    (omega (
      arith,
      inside g c,
      length-map c.args.parts.now.items g.T.Part.items,
      c.if-len-eq1.false,
      c.len.ensures,
      c.args.parts.now.ok.0,
    )))
