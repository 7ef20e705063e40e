-- A deletion after unfinished attempts at it: what each attempt leaves, and the whole deletion after them.
use Rattle.std.proofs.Common.{◌≡◌, ℕ, ◌+◌, ◌<◌, ◌≤◌, Bool, inl, inr, List, [], ◌∷◌, ◌++◌, length, get_or}
use Rattle.std.proofs.Common.{set, replicate, arith, refl, ◌∙◌, sym, ap, subst, append-nil, append_assoc}
use Rattle.std.proofs.lemmas.List.{length-replicate}
use Rattle.nc_decode.specs.declared.instruction.Mark.{Mark}
use Rattle.nc_list.specs.declared.chunk.Chunk.{Chunk}
use Rattle.nc_list.specs.declared.chunk.ChunkState.TheVariants.{Retired}
use Rattle.nc_region.specs.schedules.World.{World}
use Rattle.nc_region.specs.schedules.Events.{Event, Serializes, Retires, after}
use Rattle.nc_region.proofs.Offered.{Keeps}
use Rattle.nc_acts.specs.Acts.{is_marked_at, is_unmarked_at, puts_where}
use Rattle.nc_region.specs.Region.{IsLive, IsRegion}
use Rattle.nc_histories.specs.Calls.{Details, no_details, delete_events}
use Rattle.nc_histories.specs.Histories.{AreAttempts, NoneYet, OneMore}
use Rattle.nc_histories.specs.Views.{ViewsKeep}
use Rattle.nc_histories.proofs.Creation.{start_good}
use Rattle.nc_histories.proofs.Deletion.{IsDeleting, placed_there, may_lay_marked, may_lay_others, Emptied, Agrees, put_agrees, stops_marked}
use Rattle.nc_histories.proofs.Deletion.{stopped, deletion_leads}
use Rattle.nc_histories.proofs.Entries.{events_of, delete_is}
use Rattle.nc_histories.proofs.Fronts.{split_joined, AreFirstPuts, all_puts, first_puts, no_more, may_lay_some}
use Rattle.nc_histories.proofs.Good.{Good}
use Rattle.nc_histories.proofs.Parting.{Kept}
use Rattle.nc_histories.proofs.Putting.{with_text, serialized, Views, Leads, Reaches, leads_none, leads_more, serialization_leads, serialized_views}
use Rattle.nc_histories.proofs.Putting.{lay_all}
use Rattle.nc_histories.proofs.RetiredSpans.{AreSpansOf}

-- ---- the first events of a deletion

-- the first events of a deletion: stops at some of its marked places; or at all of these, and after the serialization at some of the others
data IsPart (marks : List Mark) (base len : ℕ) (part : List Event) : Type 0 where
  OfMarked : AreFirstPuts (record no_details { base = base; len = len }) (is_marked_at marks) base (replicate len 244) part
      → IsPart marks base len part
  OfOthers : (others : List Event)
      → AreFirstPuts (record no_details { base = base; len = len }) (is_unmarked_at marks) base (replicate len 244) others
      → part ≡ events_of (record no_details { base = base; len = len }) (puts_where (is_marked_at marks) base (replicate len 244))
      ++ (Serializes ∷ others)
      → IsPart marks base len part

-- no list of events that ends with a retiring is empty
no_end : (base len : ℕ) (y z : List Event) → y ++ (z ++ Retires base len ∷ []) ≡ [] → ⊥
no_end base len [] [] none = cc
no_end base len [] (e ∷ z) none = cc
no_end base len (e ∷ y) z none = cc

-- the first events of the puts before a deletion's retiring are the first puts
before_end : (d : Details) (chosen : ℕ → Bool) (base len : ℕ) (part rest : List Event)
    → part ++ (rest ++ Retires base len ∷ []) ≡ events_of d (puts_where chosen base (replicate len 244)) ++ Retires base len ∷ []
    → AreFirstPuts d chosen base (replicate len 244) part
before_end d chosen base len part rest same =
    elim (split_joined part (rest ++ Retires base len ∷ []) (events_of d (puts_where chosen base (replicate len 244)))
    (Retires base len ∷ []) same) [
      | inl f ↦ first_puts d chosen base (replicate len 244) part f.0 (sym f.1)
      | inr f ↦ all f.0 f.1 f.2
    ]
  where
    all : (y : List Event) → part ≡ events_of d (puts_where chosen base (replicate len 244)) ++ y
        → y ++ (rest ++ Retires base len ∷ []) ≡ Retires base len ∷ [] → AreFirstPuts d chosen base (replicate len 244) part
    all [] here end =
        subst (AreFirstPuts d chosen base (replicate len 244))
        (sym (here ∙ append-nil (events_of d (puts_where chosen base (replicate len 244)))))
        (all_puts d chosen base (replicate len 244))
    all (e ∷ y) here end = absurd (no_end base len y rest (let none : y ++ (rest ++ Retires base len ∷ []) ≡ [] = cc in none))

-- events at the front of a deletion before its retiring are an attempt at it (`IsPart`)
is_part : (marks : List Mark) (base len : ℕ) (part rest : List Event)
    → part ++ (rest ++ Retires base len ∷ []) ≡ delete_events marks base len → IsPart marks base len part
is_part marks base len part rest is =
    elim (split_joined part (rest ++ Retires base len ∷ [])
    (events_of (record no_details { base = base; len = len }) (puts_where (is_marked_at marks) base (replicate len 244)))
    (Serializes ∷ (events_of (record no_details { base = base; len = len }) (puts_where (is_unmarked_at marks) base (replicate len 244))
    ++ Retires base len ∷ [])) (is ∙ delete_is marks base len)) [
      | inl f ↦ OfMarked
          (first_puts (record no_details { base = base; len = len }) (is_marked_at marks) base (replicate len 244) part f.0 (sym f.1))
      | inr f ↦ behind f.0 f.1 f.2
    ]
  where
    behind : (r : List Event)
        → part ≡ events_of (record no_details { base = base; len = len }) (puts_where (is_marked_at marks) base (replicate len 244)) ++ r
        → r ++ (rest ++ Retires base len ∷ [])
        ≡ Serializes ∷ (events_of (record no_details { base = base; len = len }) (puts_where (is_unmarked_at marks) base (replicate len 244))
        ++ Retires base len ∷ [])
        → IsPart marks base len part
    behind [] here same =
        OfMarked
        (subst (AreFirstPuts (record no_details { base = base; len = len }) (is_marked_at marks) base (replicate len 244)) (sym (here
        ∙ append-nil (events_of (record no_details { base = base; len = len }) (puts_where (is_marked_at marks) base (replicate len 244)))))
        (all_puts (record no_details { base = base; len = len }) (is_marked_at marks) base (replicate len 244)))
    behind (e ∷ r) here same =
        let first : e ≡ Serializes = cc in
        let rest_is : r ++ (rest ++ Retires base len ∷ [])
        ≡ events_of (record no_details { base = base; len = len }) (puts_where (is_unmarked_at marks) base (replicate len 244))
        ++ Retires base len ∷ [] = cc in
        OfOthers r (before_end (record no_details { base = base; len = len }) (is_unmarked_at marks) base len r rest rest_is)
        (here
        ∙ ap (λ (x : Event). events_of (record no_details { base = base; len = len })
        (puts_where (is_marked_at marks) base (replicate len 244)) ++ x ∷ r) first)

-- ---- what they leave

-- from a text that differs from the world's in the span alone the events lead to another such one, and views stay good
record HasBegun (w : World) (c : Chunk) (now : List ℕ) (before : List (List ℕ)) (events : List Event) : Type 0 where
  bytes : List ℕ
  earlier : List (List ℕ)
  leads : Leads (with_text w now before) events (with_text w bytes earlier)
  agrees : Agrees c.base c.length w.marked.bytes bytes
  views : Views (λ view. Good view w.marked.marks w.retired) bytes earlier

-- one attempt at a deletion is allowed, and leaves views good and other places as they were
part_begun : (w : World) (chunks : List Chunk) (k : ℕ) (c : Chunk) → IsDeleting w chunks k c → (now : List ℕ) (before : List (List ℕ))
    → Agrees c.base c.length w.marked.bytes now → Views (λ view. Good view w.marked.marks w.retired) now before → (part : List Event)
    → IsPart w.marked.marks c.base c.length part → HasBegun w c now before part
part_begun w chunks k c r now before agrees good part (OfMarked f) =
    let p = placed_there w chunks k c r in
    let le : length f.some ≤ c.length =
    omega (arith, no_more (replicate c.length 244) f.some f.more f.parts, length-replicate {A = ℕ} c.length 244) in
    let a = lay_all w (record no_details { base = c.base; len = c.length }) (is_marked_at w.marked.marks) c.base f.some
    now before (λ view. Good view w.marked.marks w.retired)
    (may_lay_some w (is_marked_at w.marked.marks) c.base (replicate c.length 244) f.some f.more (λ view. Good view w.marked.marks w.retired)
    f.parts (may_lay_marked w c.base c.length p.low))
    (omega (arith, le, p.high, agrees.as_long)) good in
    subst (HasBegun w c now before) (sym f.own)
    (record {
      bytes = a.bytes;
      earlier = a.earlier;
      leads = a.leads;
      agrees = put_agrees (is_marked_at w.marked.marks) c.base c.length (length f.some) f.some w.marked.bytes now a.bytes le a.has agrees;
      views = a.views;
    })
part_begun w chunks k c r now before agrees good part (OfOthers others f is) =
    let p = placed_there w chunks k c r in
    let le : length f.some ≤ c.length =
    omega (arith, no_more (replicate c.length 244) f.some f.more f.parts, length-replicate {A = ℕ} c.length 244) in
    let a = stops_marked w chunks k c r now before agrees good in
    let mid_agrees = put_agrees (is_marked_at w.marked.marks) c.base c.length c.length (replicate c.length 244)
    w.marked.bytes now a.mid (omega arith) a.done agrees in
    let b = lay_all w (record no_details { base = c.base; len = c.length }) (is_unmarked_at w.marked.marks) c.base f.some
    a.mid [] (Emptied w c.base c.length a.mid)
    (may_lay_some w (is_unmarked_at w.marked.marks) c.base (replicate c.length 244) f.some f.more (Emptied w c.base c.length a.mid) f.parts
    (may_lay_others w c.base c.length a.mid p)) (omega (arith, le, p.high, mid_agrees.as_long))
    (serialized_views (Emptied w c.base c.length a.mid) a.mid a.emptied) in
    subst (HasBegun w c now before) (sym (is
    ∙ ap (λ (z : List Event). events_of (record no_details { base = c.base; len = c.length })
    (puts_where (is_marked_at w.marked.marks) c.base (replicate c.length 244)) ++ (Serializes ∷ z)) f.own))
    (record {
      bytes = b.bytes;
      earlier = b.earlier;
      leads = leads_more (with_text w now before) (with_text w a.mid a.earlier) (with_text w b.bytes b.earlier) _ _ a.leads
          (leads_more (with_text w a.mid a.earlier) (serialized w a.mid) (with_text w b.bytes b.earlier) (Serializes ∷ []) _
          (serialization_leads w a.mid a.earlier) b.leads);
      agrees = put_agrees (is_unmarked_at w.marked.marks) c.base c.length (length f.some) f.some w.marked.bytes a.mid b.bytes le b.has
          mid_agrees;
      views = λ view v. (b.views view v).good;
    })

-- any number of attempts at a deletion are allowed, and leave views good and other places as they were
begun : (w : World) (chunks : List Chunk) (k : ℕ) (c : Chunk) → IsDeleting w chunks k c → (stops made : List Event)
    → stops ++ Retires c.base c.length ∷ [] ≡ delete_events w.marked.marks c.base c.length → AreAttempts stops made
    → HasBegun w c w.marked.bytes w.earlier made
begun w chunks k c r stops [] own NoneYet =
    record {
      bytes = w.marked.bytes;
      earlier = w.earlier;
      leads = leads_none w;
      agrees = record { as_long = refl; outside = λ at low out. refl };
      views = start_good w chunks r.keeps r.views;
    }
begun w chunks k c r stops _ own (OneMore {earlier} first part rest same) =
    let a = begun w chunks k c r stops earlier own first in
    let b = part_begun w chunks k c r a.bytes a.earlier a.agrees a.views part
    (is_part w.marked.marks c.base c.length part rest
    (sym (append_assoc part rest (Retires c.base c.length ∷ []))
    ∙ (ap (λ (z : List Event). z ++ Retires c.base c.length ∷ []) same ∙ own))) in
    record {
      bytes = b.bytes;
      earlier = b.earlier;
      leads = leads_more w (with_text w a.bytes a.earlier) (with_text w b.bytes b.earlier) earlier part a.leads b.leads;
      agrees = b.agrees;
      views = b.views;
    }

-- a live chunk is deleted, after unfinished attempts at its deletion, in a world that has a region's text and spans
pub delete_leads : (w : World) (chunks : List Chunk) (k : ℕ) (c : Chunk) (stops made : List Event) → Keeps w → ViewsKeep w chunks
    → IsRegion w.marked chunks → AreSpansOf w.retired chunks → k < length chunks → get_or chunks k c ≡ c → IsLive c.state
    → stops ++ Retires c.base c.length ∷ [] ≡ delete_events w.marked.marks c.base c.length → AreAttempts stops made
    → Reaches w (made ++ delete_events w.marked.marks c.base c.length)
    (after (record w { marked = stopped w c }) (Retires c.base c.length))
    (Kept w.marked.marks (set chunks k (record c { state = Retired (w.keeper.generation + 1) })))
delete_leads w chunks k c stops made keeps views region spans inside here live own attempts =
    let is : IsDeleting w chunks k c =
    record { keeps = keeps; views = views; region = region; spans = spans; inside = inside; here = here; live = live } in
    let b = begun w chunks k c is stops made own attempts in
    let r = deletion_leads w chunks k c is b.bytes b.earlier b.agrees b.views in
    record {
      earlier = r.earlier;
      leads = leads_more w (with_text w b.bytes b.earlier)
          (record (after (record w { marked = stopped w c }) (Retires c.base c.length)) { earlier = r.earlier }) made _ b.leads
          (subst (λ (z : List Event). Leads (with_text w b.bytes b.earlier) z
          (record (after (record w { marked = stopped w c }) (Retires c.base c.length)) { earlier = r.earlier }))
          (sym (delete_is w.marked.marks c.base c.length)) r.leads);
      views = r.views;
    }
