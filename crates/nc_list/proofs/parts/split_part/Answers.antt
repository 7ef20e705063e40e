use Rattle.std.proofs.Common.{ℕ, ◌+◌, ◌<◌, ◌^◌, List, length, set, map, sym, ap, ◌∙◌, arith, subst, Bool, if◌then◌else◌}
use Rattle.std.proofs.lemmas.Bool.{false≢true}
use Rattle.std.proofs.lemmas.List.{length-set}
use Rattle.std.proofs.lemmas.List.Edits.{length-insert}
use Rattle.std.proofs.lemmas.Result.{IfOk-from_err}
use Rattle.std.specs.List.{insert}
use Rattle.nc_list.specs.declared.chunk.Chunk.{Chunk}
use Rattle.nc_list.specs.Parts.{HaveSome, all_of, starts_of}
use Rattle.nc_list.proofs.Parting.{kept_parts, starts_many, parted, not_parted, start_read, split_few, split_row}
use Rattle.nc_list.proofs.parts.split_part.Given.{Over}
use Rattle.nc_list.proofs.parts.split_part.Goals.{After-len}
use Rattle.nc_list.proofs.parts.split_part.Goals as goal

pub returns-in_err-reserve : goal.returns-in_err-reserve
returns-in_err-reserve g c =
    let same = ap (map g.T.Part.items) c.reserve.ensures.items in
    record {
      all = ap all_of same;
      starts = c.requires.starts ∙ ap (starts_of 0) (sym same);
      have = subst HaveSome (sym same) c.requires.have;
      some = omega (arith, ap (λ (z : List g.row.T.Denot). length z) c.reserve.ensures.items);
      stay = IfOk-from_err _ _ c.from_residual.ensures.0;
    }

pub returns-in_err-reserve-2 : goal.returns-in_err-reserve-2
returns-in_err-reserve-2 g c =
    let same = ap (map g.T.Part.items) c.reserve.ensures.items in
    record {
      all = ap all_of same;
      starts = c.reserve-2.ensures.items ∙ (c.requires.starts ∙ ap (starts_of 0) (sym same));
      have = subst HaveSome (sym same) c.requires.have;
      some = omega (arith, ap (λ (z : List g.row.T.Denot). length z) c.reserve.ensures.items);
      stay = IfOk-from_err _ _ c.from_residual-in_err-reserve-2.ensures.0;
    }

pub returns-in_err-upper : goal.returns-in_err-upper
returns-in_err-upper g c =
    let xs = c.reserve.new.self.items in
    let long = ap (λ (z : List g.row.T.Denot). length z) c.reserve.ensures.items in
    let same = kept_parts g.T.Part.items xs c.args.k c.index_mut.result.now c.split.new.self (omega (arith, c.requires.inside, long))
    c.index_mut.ensures.value c.in_err-upper.ensures.err
    ∙ ap (map g.T.Part.items) c.reserve.ensures.items in
    record {
      all = ap all_of same;
      starts = c.reserve-2.ensures.items ∙ (c.requires.starts ∙ ap (starts_of 0) (sym same));
      have = subst HaveSome (sym same) c.requires.have;
      some = omega (arith, long, length-set xs c.args.k c.split.new.self);
      stay = IfOk-from_err _ _ c.from_residual-in_err-upper.ensures.0;
    }

pub returns-in_default : goal.returns-in_default
returns-in_default g c =
    let xs = c.reserve.new.self.items in
    let long = ap (λ (z : List g.row.T.Denot). length z) c.reserve.ensures.items in
    let same = kept_parts g.T.Part.items xs c.args.k c.index_mut.result.now c.split.new.self (omega (arith, c.requires.inside, long))
    c.index_mut.ensures.value
    (not_parted g.T.Part.items c.index_mut.result.now c.split.new.self c.in_ok-upper.field-0 c.in_default.is c.in_ok-upper.ensures.ok)
    ∙ ap (map g.T.Part.items) c.reserve.ensures.items in
    record {
      all = ap all_of same;
      starts = c.reserve-2.ensures.items ∙ (c.requires.starts ∙ ap (starts_of 0) (sym same));
      have = subst HaveSome (sym same) c.requires.have;
      some = omega (arith, long, length-set xs c.args.k c.split.new.self);
      stay = λ _. same;
    }

pub index-requires : goal.index-requires
index-requires g c =
    omega (
      arith,
      starts_many g.T.Part.items c.args.parts.now.items c.reserve-2.new.self.items (c.reserve-2.ensures.items ∙ c.requires.starts),
      c.requires.inside,
      c.reserve-2.new.self.ok.0,
    )

-- the number of chunks before the upper part is less than 2 ^ 32
fits : (g : Over) (c : After-len g) → c.index.result.now + c.len.result < 2 ^ 32
fits g c =
    let xs = c.reserve.new.self.items in
    let starts = c.reserve-2.new.self.items in
    let same = ap (map g.T.Part.items) c.reserve.ensures.items in
    let are = c.reserve-2.ensures.items ∙ (c.requires.starts ∙ ap (starts_of 0) (sym same)) in
    let lt : c.args.k < length xs = omega (arith, c.requires.inside, ap (λ (z : List g.row.T.Denot). length z) c.reserve.ensures.items) in
    omega (
      arith,
      start_read g.T.Part.items (set xs c.args.k c.split.new.self) starts c.args.k c.index.result.now c.len.result c.index-2.result.now
          (omega (arith, lt, length-set xs c.args.k c.split.new.self)) (omega (arith, lt, starts_many g.T.Part.items xs starts are))
          c.index.ensures c.index-2.ensures c.len.ensures,
      split_few g.T.Part.items xs starts c.args.k 4294967296 c.index_mut.result.now c.split.new.self c.in-Some.upper lt are
          (omega (arith, c.requires.few, ap (λ (z : List (List Chunk)). length (all_of z)) same)) c.index_mut.ensures.value
          (parted g.T.Part.items c.index_mut.result.now c.split.new.self c.in-Some.upper c.in_ok-upper.field-0 c.in-Some.is c.in_ok-upper.ensures.ok),
    )

pub overflow_cast-start : goal.overflow_cast-start
overflow_cast-start g c = omega (arith, fits g c)

pub overflow_add-start : goal.overflow_add-start
overflow_add-start g c = omega (arith, fits g c)

pub insert-requires-2 : goal.insert-requires-2
insert-requires-2 g c =
    omega (
      arith,
      starts_many g.T.Part.items c.args.parts.now.items c.reserve-2.new.self.items (c.reserve-2.ensures.items ∙ c.requires.starts),
      c.requires.inside,
      c.reserve-2.new.self.ok.0,
    )

pub returns : goal.returns
returns g c =
    let xs = c.reserve.new.self.items in
    let starts = c.reserve-2.new.self.items in
    let split = set xs c.args.k c.split.new.self in
    let same = ap (map g.T.Part.items) c.reserve.ensures.items in
    let long = ap (λ (z : List g.row.T.Denot). length z) c.reserve.ensures.items in
    let are = c.reserve-2.ensures.items ∙ (c.requires.starts ∙ ap (starts_of 0) (sym same)) in
    let lt : c.args.k < length xs = omega (arith, c.requires.inside, long) in
    let within : c.args.k < length split = omega (arith, lt, length-set xs c.args.k c.split.new.self) in
    let n : ℕ = c.index.result.now + c.len.result in
    let start = start_read g.T.Part.items split starts c.args.k c.index.result.now c.len.result c.index-2.result.now
    within (omega (arith, lt, starts_many g.T.Part.items xs starts are)) c.index.ensures c.index-2.ensures c.len.ensures in
    let news = c.insert.ensures.items
    ∙ ap (λ (b : Bool). if b then insert split (c.args.k + 1) c.in-Some.upper else split)
    (c.insert.ensures.succeeds (omega (arith, c.in_ok-reserve.ensures.ok))) in
    let now = c.insert-2.ensures.items
    ∙ (ap (λ (b : Bool). if b then insert starts (c.args.k + 1) n else starts) (c.insert-2.ensures.succeeds (omega (arith, c.in_ok-reserve-2.ensures.ok)))
    ∙ ap (insert starts (c.args.k + 1)) start) in
    let row = split_row g.T.Part.items xs c.insert.new.self.items starts c.insert-2.new.self.items c.args.k
    c.index_mut.result.now c.split.new.self c.in-Some.upper lt are (subst HaveSome (sym same) c.requires.have) c.index_mut.ensures.value
    (parted g.T.Part.items c.index_mut.result.now c.split.new.self c.in-Some.upper c.in_ok-upper.field-0 c.in-Some.is c.in_ok-upper.ensures.ok)
    news now in
    record {
      all = row.0 ∙ ap all_of same;
      starts = row.1;
      have = row.2;
      some = omega (
        arith,
        long,
        length-set xs c.args.k c.split.new.self,
        ap (λ (z : List g.row.T.Denot). length z) news,
        length-insert split (c.args.k + 1) c.in-Some.upper (omega (arith, within)),
      );
      stay = λ is. absurd (false≢true (sym is));
    }
