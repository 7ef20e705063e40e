use Rattle.std.proofs.Common.{arith, List, length, map, sym, ap, ◌∙◌, subst}
use Rattle.std.proofs.lemmas.Bool.{eqb-true, eqb-false}
use Rattle.std.proofs.lemmas.List.{length-map, nil_from_length}
use Rattle.std.proofs.lemmas.Result.{IfOk-from_err, IfOk-weaker}
use Rattle.nc_list.specs.declared.chunk.Chunk.{Chunk}
use Rattle.nc_list.specs.Chunks.{IsAscending}
use Rattle.nc_list.specs.Parts.{HaveSome, IsPartFor, all_of}
use Rattle.nc_list.proofs.Parting.{starts_many}
use Rattle.nc_list.proofs.parts.part_for_new.Goals as goal

pub make_first-requires : goal.make_first-requires
make_first-requires g c =
    let none = eqb-true _ 0 (sym c.is_empty.ensures ∙ c.if-is_empty.true) in
    record {
      none = (
        nil_from_length c.args.parts.now.items (omega (arith, none, c.args.parts.now.ok.0)),
        nil_from_length c.args.starts.now.items (omega (
          arith,
          none,
          c.args.parts.now.ok.0,
          starts_many g.T.Part.items c.args.parts.now.items c.args.starts.now.items c.requires.starts,
        )),
      );
    }

pub returns-then-is_empty : goal.returns-then-is_empty
returns-then-is_empty g c =
    let none = eqb-true _ 0 (sym c.is_empty.ensures ∙ c.if-is_empty.true) in
    let no_part = nil_from_length c.args.parts.now.items (omega (arith, none, c.args.parts.now.ok.0)) in
    record {
      all = c.make_first.ensures.all ∙ sym (ap (λ (z : List g.row.T.Denot). all_of (map g.T.Part.items z)) no_part);
      starts = c.make_first.ensures.starts;
      have = c.make_first.ensures.have;
      part = IfOk-weaker c.make_first.result _ _ (λ k part. part c.args.base) c.make_first.ensures.part;
    }

pub part_near-k-requires : goal.part_near-k-requires
part_near-k-requires g c =
    let same = sym c.deref.ensures.value in
    record {
      some = omega (
        arith,
        eqb-false _ 0 (sym c.is_empty.ensures ∙ c.if-is_empty.false),
        c.args.parts.now.ok.0,
        ap (λ (z : List g.row.T.Denot). length z) c.deref.ensures.value,
      );
      have = subst (λ (z : List g.row.T.Denot). HaveSome (map g.T.Part.items z)) same c.requires.have;
      ascending = subst (λ (z : List g.row.T.Denot). IsAscending 0 (all_of (map g.T.Part.items z))) same c.requires.ascending;
    }

pub split_part-requires : goal.split_part-requires
split_part-requires g c = record {
  inside = omega (
    arith,
    c.part_near-k.ensures.inside,
    ap (λ (z : List g.row.T.Denot). length z) c.deref.ensures.value,
    length-map c.args.parts.now.items g.T.Part.items,
    length-map c.deref.result.now g.T.Part.items,
  );
  few = c.requires.few;
  starts = c.requires.starts;
  have = c.requires.have;
}

pub returns-in_err-split_part : goal.returns-in_err-split_part
returns-in_err-split_part g c = record {
  all = c.split_part.ensures.all;
  starts = c.split_part.ensures.starts;
  have = c.split_part.ensures.have;
  part = IfOk-from_err _ _ c.from_residual.ensures.0;
}

pub returns-then-not-branch : goal.returns-then-not-branch
returns-then-not-branch g c = record {
  all = c.split_part.ensures.all;
  starts = c.split_part.ensures.starts;
  have = c.split_part.ensures.have;
  part = subst (λ (z : List (List Chunk)). IsPartFor z c.part_near-k.result c.args.base)
      (ap (map g.T.Part.items) c.deref.ensures.value ∙ sym (c.in_ok-split_part.ensures.stay c.if-not-branch.true)) c.part_near-k.ensures;
}

pub overflow_add-k : goal.overflow_add-k
overflow_add-k g c =
    omega (
      arith,
      c.part_near-k.ensures.inside,
      ap (λ (z : List g.row.T.Denot). length z) c.deref.ensures.value,
      length-map c.deref.result.now g.T.Part.items,
      c.args.parts.now.ok.0,
    )

pub part_near-requires : goal.part_near-requires
part_near-requires g c =
    let same = sym c.deref-2.ensures.value in
    record {
      some = omega (
        arith,
        eqb-false _ 0 (sym c.is_empty.ensures ∙ c.if-is_empty.false),
        c.args.parts.now.ok.0,
        c.split_part.ensures.some,
        ap (λ (z : List g.row.T.Denot). length z) c.deref-2.ensures.value,
      );
      have = subst (λ (z : List g.row.T.Denot). HaveSome (map g.T.Part.items z)) same c.split_part.ensures.have;
      ascending = subst (λ (z : List g.row.T.Denot). IsAscending 0 (all_of (map g.T.Part.items z))) same
          (subst (IsAscending 0) (sym c.split_part.ensures.all) c.requires.ascending);
    }

pub returns : goal.returns
returns g c = record {
  all = c.split_part.ensures.all;
  starts = c.split_part.ensures.starts;
  have = c.split_part.ensures.have;
  part = subst (λ (z : List g.row.T.Denot). IsPartFor (map g.T.Part.items z) c.part_near.result c.args.base) c.deref-2.ensures.value
      c.part_near.ensures;
}
