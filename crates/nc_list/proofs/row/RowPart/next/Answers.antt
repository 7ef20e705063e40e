use Rattle.std.proofs.Common.{◌≡◌, ◌+◌, ◌<◌, List, length, get_or, map, refl, sym, ap, ◌∙◌, arith, subst, Option, IfSome}
use Rattle.std.proofs.lemmas.Grind.{common_steps}
use Rattle.std.proofs.lemmas.List.{length-map}
use Rattle.nc_list.specs.declared.chunk.Chunk.{Chunk}
use Rattle.nc_list.specs.Chunks.{IsAscending, IsAboveAll, IsNextChunk}
use Rattle.nc_list.proofs.Pieces.{part_is, some_at}
use Rattle.nc_list.proofs.Rows.{found, rise_here, next_all, next_first, next_none}
use Rattle.nc_list.proofs.row.RowPart.next.Goals as goal

pub index-requires : goal.index-requires
index-requires g c = grind (arith, common_steps)

pub next-found-requires : goal.next-found-requires
next-found-requires g c =
    let is = found g.T.Part.items c.self.inside.parts.items c.deref.result.now c.part_near-k.result c.args.at c.index.result.now c.deref.ensures.value
    c.part_near-k.ensures c.index.ensures in
    subst (IsAscending 0) (sym is.part)
    (rise_here (map g.T.Part.items c.self.inside.parts.items) c.part_near-k.result is.for.inside
    (subst (IsAscending 0) (sym c.self.view_is) c.requires))

pub returns-in-Some-clause-found : goal.returns-in-Some-clause-found
returns-in-Some-clause-found g c =
    let is = found g.T.Part.items c.self.inside.parts.items c.deref.result.now c.part_near-k.result c.args.at c.index.result.now c.deref.ensures.value
    c.part_near-k.ensures c.index.ensures in
    let next = subst (λ (o : Option Chunk). IfSome o (IsNextChunk (g.T.Part.items c.index.result.now) c.args.at)) c.in-Some.is c.next-found.ensures.found in
    subst (λ (z : List Chunk). IsNextChunk z c.args.at c.in-Some.chunk) c.self.view_is
    (next_all (map g.T.Part.items c.self.inside.parts.items) c.part_near-k.result c.args.at c.in-Some.chunk is.for
    (subst (λ (z : List Chunk). IsNextChunk z c.args.at c.in-Some.chunk) is.part next))

pub overflow_add-k : goal.overflow_add-k
overflow_add-k g c = grind (arith, common_steps)

pub at-requires : goal.at-requires
at-requires g c =
    let xs = c.self.inside.parts.items in
    let parts = map g.T.Part.items xs in
    let long : length parts ≡ length xs = length-map xs g.T.Part.items in
    let behind : c.part_near-k.result + 1 < length xs = omega (arith, c.if-k-len.true, c.len.ensures, c.self.inside.parts.ok.0) in
    let part = part_is g.T.Part.items xs (c.part_near-k.result + 1) c.index-then-k-len.result.now behind c.index-then-k-len.ensures in
    let some = some_at parts (c.part_near-k.result + 1) c.self.invariant.some (omega (arith, behind, long)) (omega (arith, behind, long)) in
    omega (arith, some, ap (λ (z : List Chunk). length z) part)

pub returns-then-k-len-clause-found : goal.returns-then-k-len-clause-found
returns-then-k-len-clause-found g c =
    let xs = c.self.inside.parts.items in
    let parts = map g.T.Part.items xs in
    let is = found g.T.Part.items c.self.inside.parts.items c.deref.result.now c.part_near-k.result c.args.at c.index.result.now c.deref.ensures.value
    c.part_near-k.ensures c.index.ensures in
    let none = subst (λ (z : List Chunk). IsAboveAll c.args.at z) is.part (c.next-found.ensures.none (rw c.in_default.is refl)) in
    let long : length parts ≡ length xs = length-map xs g.T.Part.items in
    let behind : c.part_near-k.result + 1 < length xs = omega (arith, c.if-k-len.true, c.len.ensures, c.self.inside.parts.ok.0) in
    let part = part_is g.T.Part.items xs (c.part_near-k.result + 1) c.index-then-k-len.result.now behind c.index-then-k-len.ensures in
    let some = some_at parts (c.part_near-k.result + 1) c.self.invariant.some (omega (arith, behind, long)) (omega (arith, behind, long)) in
    subst (λ (z : List Chunk). IsNextChunk z c.args.at c.at.result) c.self.view_is
    (next_first parts c.part_near-k.result c.args.at c.at.result is.for none (omega (arith, behind, long)) some
    (c.at.ensures ∙ ap (λ (z : List Chunk). get_or z 0 c.at.result) part))

pub returns-clause-none : goal.returns-clause-none
returns-clause-none g c = λ _.
    let xs = c.self.inside.parts.items in
    let is = found g.T.Part.items c.self.inside.parts.items c.deref.result.now c.part_near-k.result c.args.at c.index.result.now c.deref.ensures.value
    c.part_near-k.ensures c.index.ensures in
    let none = subst (λ (z : List Chunk). IsAboveAll c.args.at z) is.part (c.next-found.ensures.none (rw c.in_default.is refl)) in
    subst (λ (z : List Chunk). IsAboveAll c.args.at z) c.self.view_is
    (next_none (map g.T.Part.items xs) c.part_near-k.result c.args.at is.for none
    (omega (arith, c.if-k-len.false, c.len.ensures, c.self.inside.parts.ok.0, length-map xs g.T.Part.items)))
