use Rattle.std.proofs.Common.{◌≡◌, refl, length, arith, sym, ◌∙◌, Result, Ok, Err, IfOk, OnErr, true, false}
use Rattle.std.specs.Result.{is_err}
use Rattle.nc_text.specs.Places.{limit_of}
use Rattle.nc_text.specs.Ready.{AreReady}
use Rattle.nc_region.specs.Region.{IsInserted, live_chunk}
use Rattle.nc_list.proofs.Offered.{ascending_lower}
use Rattle.nc_region.proofs.chunks.ReadyPlaces.{ready_same}
use Rattle.nc_region.proofs.deleting.Due.{few}
use Rattle.nc_region.proofs.create.make_room.Goals as goal

-- what an answer that is no refusal ensures
at_ok : {T E : Type 0} (r : Result T E) (P : Type 0) → is_err r ≡ false → IfOk r (λ _. P) → P
at_ok (Ok x) P is h = h
at_ok (Err y) P contrary h = absurd (let differ : true ≡ false = contrary in let e : ⊥ = cc in e)

-- what a refusal ensures
at_err : {T E : Type 0} (r : Result T E) (P : Type 0) → is_err r ≡ true → OnErr r P → P
at_err (Ok x) P contrary h = absurd (let differ : false ≡ true = contrary in let e : ⊥ = cc in e)
at_err (Err y) P is h = h

pub insert-requires-clause-ascending : goal.insert-requires-clause-ascending
insert-requires-clause-ascending g c = ascending_lower 0 65536 c.args.chunks.now (omega arith) c.requires.region.ascending

pub insert-requires-clause-few : goal.insert-requires-clause-few
insert-requires-clause-few g c =
    let region = c.requires.region in
    let n = few (limit_of (g.A.Acts.marked c.args.acts.now).bytes) 65536 c.args.chunks.now region.ascending region.placed
    (omega (arith, region.whole.lawful.1)) in
    omega (arith, n, region.whole.lawful.2)

pub returns-then-limit-clause-only : goal.returns-then-limit-clause-only
returns-then-limit-clause-only g c = ready_same _ _ _

pub returns-then-limit-clause-refused : goal.returns-then-limit-clause-refused
returns-then-limit-clause-refused g c = λ same. c.if-limit.true (c.limit.ensures.value ∙ (same ∙ sym c.limit-2.ensures.limit))

pub returns-in_default-clause-only : goal.returns-in_default-clause-only
returns-in_default-clause-only g c = ready_same _ _ _

pub returns-in_default-clause-others : goal.returns-in_default-clause-others
returns-in_default-clause-others g c = (refl, refl, refl)

pub returns-in_default-clause-refused : goal.returns-in_default-clause-refused
returns-in_default-clause-refused g c = (
  sym c.limit.ensures.value ∙ (c.if-limit.false ∙ c.limit-2.ensures.limit),
  rw (← c.base-base.ensures.value, ← c.code.ensures.value) c.in_default.ensures.meets,
)

pub returns-in_default-list_room-clause-only : goal.returns-in_default-list_room-clause-only
returns-in_default-list_room-clause-only g c = ready_same _ _ _

pub returns-in_default-list_room-clause-refused : goal.returns-in_default-list_room-clause-refused
returns-in_default-list_room-clause-refused g c = (
  sym c.limit.ensures.value ∙ (c.if-limit.false ∙ c.limit-2.ensures.limit),
  rw (← c.base-base.ensures.value, ← c.code.ensures.value) c.in-Some.ensures.free,
)

pub returns-then-is_err-clause-only : goal.returns-then-is_err-clause-only
returns-then-is_err-clause-only g c = rw (← c.base-base.ensures.value, ← c.code.ensures.value) c.ready.ensures.only

pub returns-then-is_err-clause-refused : goal.returns-then-is_err-clause-refused
returns-then-is_err-clause-refused g c = (
  sym c.limit.ensures.value ∙ (c.if-limit.false ∙ c.limit-2.ensures.limit),
  rw (← c.base-base.ensures.value, ← c.code.ensures.value) c.in-Some.ensures.free,
)

pub returns-then-is_err-2-clause-only : goal.returns-then-is_err-2-clause-only
returns-then-is_err-2-clause-only g c = rw (← c.base-base.ensures.value, ← c.code.ensures.value) c.ready.ensures.only

pub returns-then-is_err-2-clause-unlisted : goal.returns-then-is_err-2-clause-unlisted
returns-then-is_err-2-clause-unlisted g c =
    at_err c.insert.result _ (sym c.is_err-2.ensures.value ∙ c.if-is_err-2.true) c.insert.ensures.err

pub returns-then-is_err-2-clause-refused : goal.returns-then-is_err-2-clause-refused
returns-then-is_err-2-clause-refused g c = (
  sym c.limit.ensures.value ∙ (c.if-limit.false ∙ c.limit-2.ensures.limit),
  rw (← c.base-base.ensures.value, ← c.code.ensures.value) c.in-Some.ensures.free,
)

pub returns : goal.returns
returns g c =
    let v = c.args.vetted.now in
    let here : AreReady (g.A.Acts.made c.ready.new.self) v.base (length v.code) =
    rw (← c.base-base.ensures.value, ← c.code.ensures.value)
    (at_ok c.ready.result _ (sym c.is_err.ensures.value ∙ c.if-is_err.false) c.ready.ensures.ready) in
    let listed : IsInserted c.args.chunks.now c.insert.new.self (live_chunk v) =
    rw (← c.base-base.ensures.value, ← c.code.ensures.value)
    (at_ok c.insert.result _ (sym c.is_err-2.ensures.value ∙ c.if-is_err-2.false) c.insert.ensures.ok) in
    record {
      room = record {
        valid = c.code.ensures.valid;
        limit = sym c.limit.ensures.value ∙ (c.if-limit.false ∙ c.limit-2.ensures.limit);
        free = rw (← c.base-base.ensures.value, ← c.code.ensures.value) c.in-Some.ensures.free;
        listed = listed;
        ready = here;
      };
      marks = rw (← c.code.ensures.value) c.in-Ok.ensures.room;
      only = rw (← c.base-base.ensures.value, ← c.code.ensures.value) c.ready.ensures.only;
      others = (c.ready.ensures.marked, c.ready.ensures.keeper, c.ready.ensures.logged);
      unlisted = tt;
      made = tt;
      refused = tt;
    }
