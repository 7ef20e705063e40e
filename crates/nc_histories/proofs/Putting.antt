-- Puts, one after the other: each is allowed, instructions are put whole, and what they leave, in the text and in every view.
use Rattle.std.proofs.Common.{◌≡◌, ℕ, ◌+◌, ◌-◌, ◌<◌, ◌≤◌, Bool, true, false, cond, List, [], ◌∷◌, ◌++◌, length, get_or, set, drop, arith}
use Rattle.std.proofs.Common.{refl, ◌∙◌, sym, ap, subst}
use Rattle.std.proofs.lemmas.List.{drop_more, length-drop}
use Rattle.nc_text.specs.Places.{InRegion}
use Rattle.nc_region.specs.schedules.Views.{IsView}
use Rattle.nc_region.specs.schedules.World.{World}
use Rattle.nc_region.specs.schedules.Events.{Event, Puts, Serializes, IsAllowed, after, world_after, AreAllowed}
use Rattle.nc_region.proofs.Offered.{allowed_append, after_append, views_after_put, as_it_stands, only_as_it_stands}
use Rattle.nc_acts.specs.declared.acts.Act.TheVariants.{Put}
use Rattle.nc_acts.specs.Acts.{puts_where}
use Rattle.nc_text.specs.Puts.{HasPut}
use Rattle.nc_text.proofs.Offered.{put_none, put_more, put_passed}
use Rattle.nc_histories.specs.Calls.{Details}
use Rattle.nc_histories.proofs.Entries.{events_of}
use Rattle.nc_histories.proofs.Good.{text_of, Good}
use Rattle.nc_histories.proofs.StaysWhole.{PutsWhole, whole_after_put, whole_serialized, IsWholeIn, StaysWhole, whole_append}

-- the world with these bytes, after those that stood before
abbrev pub with_text : World → List ℕ → List (List ℕ) → World
with_text w bytes earlier = record w { marked = text_of bytes w.marked.marks; earlier = earlier }

-- the world with these bytes, and nothing put since it serialized
abbrev pub serialized : World → List ℕ → World
serialized w bytes = with_text w bytes []

-- what holds of every view of a text and of those that stood before it
abbrev pub Views : (List ℕ → Type 0) → List ℕ → List (List ℕ) → Type 0
Views V bytes earlier = (view : List ℕ) → IsView bytes earlier view → V view

-- where nothing was put since the last serialization, what holds of the text holds of every view
pub serialized_views : (V : List ℕ → Type 0) (bytes : List ℕ) → V bytes → Views V bytes []
serialized_views V bytes v = λ view is. subst V (sym (only_as_it_stands bytes view is)) v

-- Events that are allowed in one world and lead to another. If what views have at marked places stood there whole before them, it
-- did after each.
pub record Leads (w : World) (events : List Event) (v : World) : Type 0 where
  pub allowed : AreAllowed w events
  pub whole : IsWholeIn w → StaysWhole w events
  pub after_is : world_after w events ≡ v

-- the empty list of events leads from a world to itself
pub leads_none : (w : World) → Leads w [] w
leads_none w = record { allowed = tt; whole = λ whole. whole; after_is = refl }

-- one allowed event leads to the world after it
pub leads_one : (w : World) (event : Event) → IsAllowed w event → (IsWholeIn w → IsWholeIn (after w event))
    → Leads w (event ∷ []) (after w event)
leads_one w event allowed keeps = record { allowed = (allowed, tt); whole = λ whole. (whole, keeps whole); after_is = refl }

-- events after events lead where the later ones do
pub leads_more : (w v u : World) (first second : List Event) → Leads w first v → Leads v second u → Leads w (first ++ second) u
leads_more w v u first second a b =
    record {
      allowed = allowed_append w first second a.allowed (subst (λ (x : World). AreAllowed x second) (sym a.after_is) b.allowed);
      whole = λ whole. whole_append w first second (a.whole whole)
          (subst (λ (x : World). IsWholeIn x → StaysWhole x second) (sym a.after_is) b.whole);
      after_is = after_append w first second ∙ (ap (λ (x : World). world_after x second) a.after_is ∙ b.after_is);
    }

-- what some puts leave: bytes with P, and views with V
pub record HasLaid (w : World) (now : List ℕ) (before : List (List ℕ)) (events : List Event) (P V : List ℕ → Type 0) : Type 0 where
  pub bytes : List ℕ
  pub earlier : List (List ℕ)
  pub leads : Leads (with_text w now before) events (with_text w bytes earlier)
  pub has : P bytes
  pub views : Views V bytes earlier

-- events that lead to a world, but for what stood before, and every view of it has V
pub record Reaches (w : World) (events : List Event) (v : World) (V : List ℕ → Type 0) : Type 0 where
  pub earlier : List (List ℕ)
  pub leads : Leads w events (record v { earlier = earlier })
  pub views : Views V v.marked.bytes earlier

-- what follows of each view holds of the views of the world reached
pub reaches_as : (w : World) (events : List Event) (v : World) (V W : List ℕ → Type 0) → ((view : List ℕ) → V view → W view)
    → Reaches w events v V → Reaches w events v W
reaches_as w events v V W f r = record { earlier = r.earlier; leads = r.leads; views = λ view is. f view (r.views view is) }

-- one put, where every view stays good
pub put_leads : (w : World) (V : List ℕ → Type 0) (now : List ℕ) (before : List (List ℕ)) (at byte : ℕ) → InRegion now at
    → ((view : List ℕ) → V view → Good view w.marked.marks w.retired) → Views V now before
    → ((view : List ℕ) → IsView now before view → V view → V (set view (at - 65536) byte))
    → ((view : List ℕ) → IsView now before view → V view → PutsWhole w.marked.marks view now at byte)
    → HasLaid w now before (Puts at byte ∷ []) (λ bytes. bytes ≡ set now (at - 65536) byte) V
put_leads w V now before at byte inside good views put whole =
    let later : Views V (set now (at - 65536) byte) (now ∷ before) = views_after_put V now before at byte inside views
    (λ view is. put view is (views view is)) in
    record {
      bytes = set now (at - 65536) byte;
      earlier = now ∷ before;
      leads = leads_one (with_text w now before) (Puts at byte) (
        inside,
        λ view is. let g = good view (later view is) in (g.closed, g.shut),
      )
          (whole_after_put w.marked.marks now before at byte inside (λ view is. whole view is (views view is)));
      has = refl;
      views = later;
    }

-- a serialization leads to the world that has serialized
pub serialization_leads : (w : World) (now : List ℕ) (before : List (List ℕ)) → Leads (with_text w now before) (Serializes ∷ []) (serialized w now)
serialization_leads w now before = leads_one (with_text w now before) Serializes tt (λ whole. whole_serialized w.marked.marks now)

-- what a run of puts needs: views with V are good, and have V again after each of the puts, in whatever order; and each puts
-- instructions whole
pub record MayLay (w : World) (chosen : ℕ → Bool) (base : ℕ) (bytes : List ℕ) (V : List ℕ → Type 0) : Type 0 where
  pub low : 65536 ≤ base
  pub good : (view : List ℕ) → V view → Good view w.marked.marks w.retired
  pub put : (view : List ℕ) (count : ℕ) → count < length bytes → chosen (base + count) ≡ true → InRegion view (base + count) → V view
      → V (set view (base + count - 65536) (get_or bytes count 0))
  pub whole : (view text : List ℕ) (count : ℕ) → count < length bytes → chosen (base + count) ≡ true → InRegion view (base + count)
      → InRegion text (base + count) → V view → V text → PutsWhole w.marked.marks view text (base + count) (get_or bytes count 0)

-- a run of puts goes on by one more byte, put or passed over
lay_one : (w : World) (d : Details) (chosen : ℕ → Bool) (base : ℕ) (bytes old : List ℕ) (V : List ℕ → Type 0)
    → MayLay w chosen base bytes V → base + length bytes ≤ 65536 + length old
    → (byte : ℕ) (rest : List ℕ) (count at : ℕ) (now : List ℕ) (before : List (List ℕ)) → at ≡ base + count → count < length bytes
    → byte ≡ get_or bytes count 0 → HasPut chosen base bytes count old now → Views V now before
    → ((later : List ℕ) (earlier : List (List ℕ)) → HasPut chosen base bytes (count + 1) old later → Views V later earlier
    → HasLaid w later earlier (events_of d (puts_where chosen (at + 1) rest)) (HasPut chosen base bytes (length bytes) old) V)
    → (b : Bool) → chosen at ≡ b
    → HasLaid w now before (events_of d (cond b (Put at byte ∷ puts_where chosen (at + 1) rest) (puts_where chosen (at + 1) rest)))
    (HasPut chosen base bytes (length bytes) old) V
lay_one w d chosen base bytes old V may fits byte rest count at now before here lt first has views go true is =
    let is_here : chosen (base + count) ≡ true = ap chosen (sym here) ∙ is in
    let next : HasPut chosen base bytes (count + 1) old (set now (at - 65536) byte) =
    subst (λ (b : ℕ). HasPut chosen base bytes (count + 1) old (set now (at - 65536) b)) (sym first)
    (subst (λ (a : ℕ). HasPut chosen base bytes (count + 1) old (set now (a - 65536) (get_or bytes count 0))) (sym here)
    (put_more chosen base bytes count old now has may.low (omega (arith, fits, lt)) is_here)) in
    let inside : InRegion now at = (omega (arith, here, may.low), omega (arith, here, has.as_long, fits, lt)) in
    let one = put_leads w V now before at byte inside may.good views
    (λ view is_view v.
    subst (λ (b : ℕ). V (set view (at - 65536) b)) (sym first)
    (subst (λ (a : ℕ). V (set view (a - 65536) (get_or bytes count 0))) (sym here)
    (may.put view count lt is_here
    (omega (arith, may.low), omega (arith, here, inside.1, is_view.as_long)) v)))
    (λ view is_view v.
    subst (λ (b : ℕ). PutsWhole w.marked.marks view now at b) (sym first)
    (subst (λ (a : ℕ). PutsWhole w.marked.marks view now a (get_or bytes count 0)) (sym here)
    (may.whole view now count lt is_here
    (omega (arith, may.low), omega (arith, here, inside.1, is_view.as_long)) (omega (arith, may.low), omega (arith, here, inside.1)) v
    (views now (as_it_stands now before))))) in
    let r = go one.bytes one.earlier
    (subst (HasPut chosen base bytes (count + 1) old) (sym one.has) next) one.views in
    record {
      bytes = r.bytes;
      earlier = r.earlier;
      leads = leads_more (with_text w now before) (with_text w one.bytes one.earlier) (with_text w r.bytes r.earlier)
          (Puts at byte ∷ []) (events_of d (puts_where chosen (at + 1) rest)) one.leads r.leads;
      has = r.has;
      views = r.views;
    }
lay_one w d chosen base bytes old V may fits byte rest count at now before here lt first has views go false is =
    go now before (put_passed chosen base bytes count old now has (ap chosen (sym here) ∙ is)) views

-- the puts of what is left of the bytes
lay : (w : World) (d : Details) (chosen : ℕ → Bool) (base : ℕ) (bytes old : List ℕ) (V : List ℕ → Type 0)
    → MayLay w chosen base bytes V → base + length bytes ≤ 65536 + length old
    → (rest : List ℕ) (count at : ℕ) (now : List ℕ) (before : List (List ℕ)) → drop count bytes ≡ rest → at ≡ base + count
    → count ≤ length bytes → HasPut chosen base bytes count old now → Views V now before
    → HasLaid w now before (events_of d (puts_where chosen at rest)) (HasPut chosen base bytes (length bytes) old) V
lay w d chosen base bytes old V may fits [] count at now before left here le has views =
    let all : count ≡ length bytes = omega (arith, length-drop count bytes, ap (λ (z : List ℕ). length z) left, le) in
    record {
      bytes = now;
      earlier = before;
      leads = leads_none (with_text w now before);
      has = subst (λ (n : ℕ). HasPut chosen base bytes n old now) all has;
      views = views;
    }
lay w d chosen base bytes old V may fits (byte ∷ rest) count at now before left here le has views =
    let lt : count < length bytes = omega (arith, length-drop count bytes, ap (λ (z : List ℕ). length z) left) in
    let both : byte ∷ rest ≡ get_or bytes count 0 ∷ drop (count + 1) bytes = sym left ∙ drop_more bytes count 0 lt in
    let first : byte ≡ get_or bytes count 0 = cc in
    let others : drop (count + 1) bytes ≡ rest = cc in
    lay_one w d chosen base bytes old V may fits byte rest count at now before here lt first has views
    (λ later earlier next still. lay w d chosen base bytes old V may fits rest (count + 1) (at + 1) later earlier others
    (omega (arith, here)) (omega (arith, lt)) next still)
    (chosen at) refl

-- a run of puts lays all of its bytes at the chosen places
pub lay_all : (w : World) (d : Details) (chosen : ℕ → Bool) (base : ℕ) (bytes now : List ℕ) (before : List (List ℕ))
    (V : List ℕ → Type 0) → MayLay w chosen base bytes V → base + length bytes ≤ 65536 + length now → Views V now before
    → HasLaid w now before (events_of d (puts_where chosen base bytes)) (HasPut chosen base bytes (length bytes) now) V
lay_all w d chosen base bytes now before V may fits views =
    lay w d chosen base bytes now V may fits bytes 0 base now before refl (omega arith) (omega arith) (put_none chosen base bytes now) views
