-- The acts of a patch are allowed events.
use Rattle.std.proofs.Common.{◌≡◌, ◌≢◌, ℕ, ◌+◌, ◌-◌, ◌<◌, ◌≤◌, Bool, true, false, cond, List, [], ◌∷◌, ◌++◌, length, set}
use Rattle.std.proofs.Common.{get_or, Option, Some, inl, inr, arith, refl, ◌∙◌, sym, ap, subst, ⊎_elim}
use Rattle.std.specs.Prelude.{Contains}
use Rattle.std.proofs.lemmas.Bool.{cases_lt}
use Rattle.std.proofs.lemmas.Bool.Decides.{eqb_tells}
use Rattle.std.proofs.lemmas.List.{length-set, length-append}
use Rattle.nc_decode.specs.declared.instruction.Instr.{Instr}
use Rattle.nc_decode.specs.declared.instruction.Mark.{Mark}
use Rattle.nc_decode.specs.declared.instruction.Mark.TheVariants.{Plain, After}
use Rattle.nc_decode.specs.Transfers.{is_indirect}
use Rattle.nc_text.specs.Places.{InRegion, byte_at, instruction_at}
use Rattle.nc_text.specs.Machine.{State, state}
use Rattle.nc_text.specs.Marks.{IsMarked, mark_at}
use Rattle.nc_text.specs.MarkedText.{MarkedText, with_span}
use Rattle.nc_text.proofs.Offered.{executes, KeepsBytes, same_instruction}
use Rattle.nc_vet.specs.Chunk.{Piece, code_of, mark_of}
use Rattle.nc_vet.proofs.Offered.{same_pieces}
use Rattle.nc_list.specs.declared.chunk.Chunk.{Chunk}
use Rattle.nc_region.specs.schedules.Spans.{RetiredSpan}
use Rattle.nc_region.specs.schedules.World.{World}
use Rattle.nc_region.specs.schedules.Events.{Puts, Serializes}
use Rattle.nc_region.proofs.Offered.{as_it_stands, only_as_it_stands}
use Rattle.nc_acts.specs.Acts.{is_mark, puts_where}
use Rattle.nc_text.proofs.Offered.{byte_at_other}
use Rattle.nc_region.specs.Patch.{AreBytesOf, IsHeldBy, IsPatch, any_place}
use Rattle.nc_region.specs.machinery.PatchSteps.{Begins, IsReplacing, CanPatch}
use Rattle.nc_region.specs.Region.{Region, IsLive, IsInChunk, IsRegion}
use Rattle.nc_region.proofs.Offered.{Changes, changed, changed_holds, changed_text, changes_replace, region_patched}
use Rattle.nc_region.proofs.Offered.{patch_final, single_span, lies, turn, next_patch, spans_join}
use Rattle.nc_region.proofs.Offered.{stands_with, span_none}
use Rattle.nc_base.proofs.Offered.{some_same, each_get}
use Rattle.nc_histories.specs.Calls.{no_details}
use Rattle.nc_histories.specs.Views.{IsFree, AreStopped}
use Rattle.nc_histories.proofs.Deletion.{marked_state}
use Rattle.nc_histories.proofs.Entries.{events_of, instruction_events}
use Rattle.nc_histories.proofs.Good.{text_of, Good, marked_inside, stop_ends}
use Rattle.nc_histories.proofs.OnePut.{good_put_marked, good_put_unread, byte_there, not_unmarked}
use Rattle.nc_histories.proofs.PutsWhole.{whole_put_unread, whole_put_marked, whole_put_single, whole_put_stop}
use Rattle.nc_histories.proofs.StaysWhole.{PutsWhole}
use Rattle.nc_histories.proofs.Putting.{with_text, serialized, Views, Leads, Reaches, leads_more, put_leads, serialization_leads, serialized_views, MayLay, lay_all}

-- what every view keeps from one instruction to the next
pub record SoundBy (marks : List Mark) (spans : List RetiredSpan) (chunks : List Chunk) (view : List ℕ) : Type 0 where
  pub good : Good view marks spans
  pub stopped : AreStopped view marks chunks

-- what every view keeps (`SoundBy`), by a world's marks and retired spans
abbrev pub Sound : World → List Chunk → List ℕ → Type 0
Sound w chunks view = SoundBy w.marked.marks w.retired chunks view

-- a lawful patch of a region can be made in the chunk that holds it
pub patch_can : (old : Region) (at : ℕ) (bytes : List ℕ) (lawful : IsPatch old at bytes) → CanPatch old.marked lawful.1.0 at bytes
patch_can old at bytes lawful = record {
  holds = lawful.1.2.0.holds;
  run = lawful.1.2.0.run;
  pairs = lawful.1.2.1;
  targets = lawful.1.2.2;
}

-- a lawful patch of a region ends in the chunk that holds it
pub patch_ends : (old : Region) (at : ℕ) (bytes : List ℕ) → IsRegion old.marked old.chunks → (lawful : IsPatch old at bytes)
    → at + length bytes ≤ lawful.1.0.base + lawful.1.0.length
patch_ends old at bytes region lawful =
    let held = lawful.1.1 in
    let l = lies old.marked lawful.1.0 region.whole lawful.1.2.0.holds in
    omega (arith, lawful.0.1, held.2.0, held.2.1, l.start, l.whole)

-- An instruction is replaced in a world: at a marked place of a live chunk, by one of the same length that ends in it.
pub record Replaces (w : World) (chunks : List Chunk) (at : ℕ) (new : List ℕ) : Type 0 where
  pub replacing : IsReplacing w.marked at new
  pub final : Sound w chunks (changed w.marked at new).bytes
  pub masked : Option ℕ
  pub marked : IsMarked w.marked.marks (state at masked)
  pub len : (i : Instr) → instruction_at (changed w.marked at new).bytes at ≡ Some i → i.len ≡ length new
  pub held : (place : ℕ) → IsFree chunks place → at ≤ place → place < at + length new → ⊥

-- a put in the span leaves the stops outside of live chunks
pub still_stopped : (w : World) (chunks : List Chunk) (at : ℕ) (new view : List ℕ) (here byte : ℕ) → Replaces w chunks at new
    → at ≤ here → here < at + length new → AreStopped view w.marked.marks chunks
    → AreStopped (set view (here - 65536) byte) w.marked.marks chunks
still_stopped w chunks at new view here byte r low high stopped = λ now m free.
    byte_at_other view here now.place byte (omega (arith, low, r.replacing.low)) m.0
    (λ same. r.held now.place free (omega (arith, same, low)) (omega (arith, same, high)))
    ∙ stopped now m free

-- a stop may be put at the first byte
pub stop_put : (w : World) (chunks : List Chunk) (at : ℕ) (new view : List ℕ) → Replaces w chunks at new → InRegion view at
    → Sound w chunks view → Sound w chunks (set view (at - 65536) 244)
stop_put w chunks at new view r inside s =
    record {
      good = good_put_marked view w.marked.marks w.retired (state at r.masked) 244 s.good inside r.marked (inl refl);
      stopped = still_stopped w chunks at new view at 244 r (omega arith) (omega (arith, r.replacing.some)) s.stopped;
    }

-- ---- one byte

-- the byte of a new instruction of one byte may be put
byte_put : (w : World) (chunks : List Chunk) (at byte : ℕ) (view : List ℕ) → Replaces w chunks at (byte ∷ []) → InRegion view at
    → length view ≡ length (changed w.marked at (byte ∷ [])).bytes → byte_at (changed w.marked at (byte ∷ [])).bytes at ≡ byte
    → Sound w chunks view → Sound w chunks (set view (at - 65536) byte)
byte_put w chunks at byte view r inside long there s =
    record {
      good = good_put_marked view w.marked.marks w.retired (state at r.masked) byte s.good inside r.marked (inr (record {
        old = (changed w.marked at (byte ∷ [])).bytes;
        good = r.final.good;
        as_long = length-set view (at - 65536) byte ∙ long;
        kept = λ i is fits k lt.
            let first : at + k ≡ at = omega (arith, r.len i is, lt) in
            subst (λ (p : ℕ). byte_at (set view (at - 65536) byte) p ≡ byte_at (changed w.marked at (byte ∷ [])).bytes p) (sym first)
            (byte_there view at byte inside ∙ sym there);
      }));
      stopped = still_stopped w chunks at (byte ∷ []) view at byte r (omega arith) (omega (arith, r.replacing.some)) s.stopped;
    }

-- a byte that is all of the new instruction puts it whole
whole_byte : (w : World) (chunks : List Chunk) (at byte : ℕ) (view text : List ℕ) → Replaces w chunks at (byte ∷ []) → InRegion view at
    → InRegion text at → length view ≡ length (changed w.marked at (byte ∷ [])).bytes
    → byte_at (changed w.marked at (byte ∷ [])).bytes at ≡ byte → Sound w chunks view
    → PutsWhole w.marked.marks view text at byte
whole_byte w chunks at byte view text r inside within long there s =
    let e = executes (changed w.marked at (byte ∷ [])).bytes (state at r.masked) inside.0
    (r.final.good.closed.safe (state at r.masked) r.marked) in
    let one : e.i.len ≡ 1 = r.len e.i e.is in
    let kept : KeepsBytes (changed w.marked at (byte ∷ [])).bytes (set view (at - 65536) byte) at e.i.len = λ k lt.
    let first : at ≡ at + k = omega (arith, one, lt) in
    subst (λ (p : ℕ). byte_at (set view (at - 65536) byte) p ≡ byte_at (changed w.marked at (byte ∷ [])).bytes p) first
    (byte_there view at byte inside ∙ sym there) in
    let put_is = same_instruction (changed w.marked at (byte ∷ [])).bytes (set view (at - 65536) byte) at e.i
    (length-set view (at - 65536) byte ∙ long) e.inside e.is kept in
    whole_put_single w.marked.marks w.retired view text (state at r.masked) byte s.good inside within r.marked (λ i is.
    let same : e.i ≡ i = some_same (instruction_at (set view (at - 65536) byte) at) e.i i put_is is in
    omega (arith, one, ap (λ (j : Instr). j.len) same))

-- the put of a new instruction of one byte leads to the world with it in place
single_leads : (w : World) (chunks : List Chunk) (at byte : ℕ) → Replaces w chunks at (byte ∷ [])
    → Views (λ view. Sound w chunks view) w.marked.bytes w.earlier
    → Reaches w (Puts at byte ∷ []) (record w { marked = changed w.marked at (byte ∷ []) }) (λ view. Sound w chunks view)
single_leads w chunks at byte r views =
    let inside : InRegion w.marked.bytes at = (r.replacing.low, omega (arith, r.replacing.high)) in
    let same : set w.marked.bytes (at - 65536) byte ≡ with_span w.marked.bytes (at - 65536) (byte ∷ []) =
    single_span w.marked.bytes at (byte ∷ []) r.replacing.low r.replacing.high refl in
    let there : byte_at (changed w.marked at (byte ∷ [])).bytes at ≡ byte =
    ap (λ (z : List ℕ). byte_at z at) (sym same) ∙ byte_there w.marked.bytes at byte inside in
    let long : length (changed w.marked at (byte ∷ [])).bytes ≡ length w.marked.bytes =
    ap (λ (z : List ℕ). length z) (sym same) ∙ length-set w.marked.bytes (at - 65536) byte in
    let p = put_leads w (λ view. Sound w chunks view) w.marked.bytes w.earlier at byte inside (λ view s. s.good) views
    (λ view is s. byte_put w chunks at byte view r (inside.0, omega (arith, inside.1, is.as_long)) (is.as_long ∙ sym long) there s)
    (λ view is s. whole_byte w chunks at byte view w.marked.bytes r (inside.0, omega (arith, inside.1, is.as_long)) inside
    (is.as_long ∙ sym long) there s) in
    let is : p.bytes ≡ (changed w.marked at (byte ∷ [])).bytes = p.has ∙ same in
    record {
      earlier = p.earlier;
      leads = subst (λ (z : List ℕ). Leads w (Puts at byte ∷ []) (with_text w z p.earlier)) is p.leads;
      views = subst (λ (z : List ℕ). Views (λ view. Sound w chunks view) z p.earlier) is p.views;
    }

-- ---- several bytes

-- what every view keeps while the further bytes are put
pub record Open (w : World) (chunks : List Chunk) (at : ℕ) (view : List ℕ) : Type 0 where
  pub sound : Sound w chunks view
  pub stop : byte_at view at ≡ 244

-- no marked place lies inside the instruction
none_inside : (w : World) (chunks : List Chunk) (at : ℕ) (new : List ℕ) → Replaces w chunks at new → (now : State)
    → IsMarked w.marked.marks now → at < now.place → now.place < at + length new → ⊥
none_inside w chunks at new r now m low high =
    let e = executes (changed w.marked at new).bytes now m.0 (r.final.good.closed.safe now m) in
    elim (r.replacing.apart now e.i m (λ same. omega (arith, same, low)) e.is) [
      | inl l ↦ omega (arith, l, low)
      | inr b ↦ omega (arith, b, high)
    ]

-- while the further bytes of a new instruction are put, no instruction has one of their places
open_clear : (w : World) (chunks : List Chunk) (at : ℕ) (new view : List ℕ) (here : ℕ) → Replaces w chunks at new
    → Open w chunks at view → at < here → here < at + length new → (now : State) (i : Instr) (k : ℕ) → IsMarked w.marked.marks now
    → instruction_at view now.place ≡ Some i → k < i.len → now.place + k ≢ here
open_clear w chunks at new view here r o low high now i k m is lt same =
    elim (eqb_tells now.place at) [
      | inl there ↦
          let inside = marked_inside view view w.marked.marks now o.sound.good.closed refl m in
          stop_ends view now.place k i inside (ap (byte_at view) there.1 ∙ o.stop) is (omega (arith, there.1, same, low)) lt
      | inr other ↦
          ⊎_elim
          (λ (before : now.place < at).
          let reach : now.place + (at - now.place) ≡ at = omega (arith, before) in
          not_unmarked w.marked.marks (state at r.masked) r.marked
          (subst (λ (p : ℕ). mark_at w.marked.marks p ≡ Mark.Unmarked) reach
          (o.sound.good.parted now i (at - now.place) m is (omega (arith, before)) (omega (arith, before, same, low, lt)))))
          (λ (from : at ≤ now.place). none_inside w chunks at new r now m (omega (arith, from, other.1)) (omega (arith, same, high)))
          (cases_lt now.place at)
    ]

-- the further bytes may be put
pub may_lay_rest : (w : World) (chunks : List Chunk) (at first : ℕ) (rest : List ℕ) → Replaces w chunks at (first ∷ rest)
    → MayLay w any_place (at + 1) rest (Open w chunks at)
may_lay_rest w chunks at first rest r =
    record {
      low = omega (arith, r.replacing.low);
      good = λ view o. o.sound.good;
      put = λ view count lt chosen inside o. record {
        sound = record {
          good = good_put_unread view w.marked.marks w.retired (at + 1 + count) (get_or rest count 0) o.sound.good inside.0
              (open_clear w chunks at (first ∷ rest) view (at + 1 + count) r o (omega arith) (omega (arith, lt)));
          stopped = still_stopped w chunks at (first ∷ rest) view (at + 1 + count) (get_or rest count 0) r (omega arith)
              (omega (arith, lt)) o.sound.stopped;
        };
        stop = byte_at_other view (at + 1 + count) at (get_or rest count 0) inside.0 r.replacing.low (λ same. omega (arith, same)) ∙ o.stop;
      };
      whole = λ view text count lt chosen inside within o t.
          whole_put_unread w.marked.marks w.retired view text (at + 1 + count) (get_or rest count 0) o.sound.good inside.0
          (open_clear w chunks at (first ∷ rest) view (at + 1 + count) r o (omega arith) (omega (arith, lt)));
    }

-- the events of a new instruction of several bytes lead to the world with it in place
longer_leads : (w : World) (chunks : List Chunk) (at first : ℕ) (rest : List ℕ) → Replaces w chunks at (first ∷ rest)
    → Views (λ view. Sound w chunks view) w.marked.bytes w.earlier
    → Reaches w (Puts at 244 ∷ Serializes ∷ (events_of no_details (puts_where any_place (at + 1) rest) ++ (Serializes ∷ Puts at first ∷ [])))
    (record w { marked = changed w.marked at (first ∷ rest) }) (λ view. Sound w chunks view)
longer_leads w chunks at first rest r views =
    let inside : InRegion w.marked.bytes at = (r.replacing.low, omega (arith, r.replacing.high)) in
    let text0 : List ℕ = set w.marked.bytes (at - 65536) 244 in
    let long0 : length (set w.marked.bytes (at - 65536) 244) ≡ length w.marked.bytes = length-set w.marked.bytes (at - 65536) 244 in
    let p = put_leads w (λ view. Sound w chunks view) w.marked.bytes w.earlier at 244 inside (λ view s. s.good) views
    (λ view is s. stop_put w chunks at (first ∷ rest) view r (inside.0, omega (arith, inside.1, is.as_long)) s)
    (λ view is s. whole_put_stop w.marked.marks w.retired view w.marked.bytes (state at r.masked) 244 s.good
    (inside.0, omega (arith, inside.1, is.as_long)) inside r.marked refl) in
    let started : Leads w (Puts at 244 ∷ []) (with_text w (set w.marked.bytes (at - 65536) 244) p.earlier) =
    subst (λ (z : List ℕ). Leads w (Puts at 244 ∷ []) (with_text w z p.earlier)) p.has p.leads in
    let opened : Open w chunks at (set w.marked.bytes (at - 65536) 244) = record {
      sound = stop_put w chunks at (first ∷ rest) w.marked.bytes r inside (views w.marked.bytes (as_it_stands w.marked.bytes w.earlier));
      stop = byte_there w.marked.bytes at 244 inside;
    } in
    let a = lay_all w no_details any_place (at + 1) rest (set w.marked.bytes (at - 65536) 244) [] (Open w chunks at)
    (may_lay_rest w chunks at first rest r) (omega (arith, r.replacing.high, long0))
    (serialized_views (Open w chunks at) (set w.marked.bytes (at - 65536) 244) opened) in
    let long : length a.bytes ≡ length w.marked.bytes = a.has.as_long ∙ long0 in
    let same : set a.bytes (at - 65536) first ≡ (changed w.marked at (first ∷ rest)).bytes =
    patch_final w.marked at first rest a.bytes r.replacing a.has in
    let here = a.views a.bytes (as_it_stands a.bytes a.earlier) in
    let b = put_leads w (λ view. Sound w chunks view) a.bytes [] at first (inside.0, omega (arith, inside.1, long)) (λ view s. s.good)
    (serialized_views (λ view. Sound w chunks view) a.bytes here.sound)
    (λ view is s. subst (λ (z : List ℕ). Sound w chunks (set z (at - 65536) first)) (sym (only_as_it_stands a.bytes view is))
    (subst (λ view. Sound w chunks view) (sym same) r.final))
    (λ view is s. whole_put_marked w.marked.marks w.retired view a.bytes (state at r.masked) first s.good inside.0 r.marked
    (λ i there k lt. ap (λ (z : List ℕ). byte_at (set z (at - 65536) first) (at + k)) (sym (only_as_it_stands a.bytes view is)))) in
    let is : b.bytes ≡ (changed w.marked at (first ∷ rest)).bytes = b.has ∙ same in
    let end : World = record w { marked = changed w.marked at (first ∷ rest); earlier = b.earlier } in
    let last : Leads (serialized w a.bytes) (Puts at first ∷ [])
    (record w { marked = changed w.marked at (first ∷ rest); earlier = b.earlier }) =
    subst (λ (z : List ℕ). Leads (serialized w a.bytes) (Puts at first ∷ []) (with_text w z b.earlier)) is b.leads in
    record {
      earlier = b.earlier;
      leads =
          leads_more w (with_text w (set w.marked.bytes (at - 65536) 244) p.earlier)
          (record w { marked = changed w.marked at (first ∷ rest); earlier = b.earlier }) (Puts at 244 ∷ []) _ started
          (leads_more (with_text w (set w.marked.bytes (at - 65536) 244) p.earlier) (serialized w (set w.marked.bytes (at - 65536) 244))
          (record w { marked = changed w.marked at (first ∷ rest); earlier = b.earlier }) (Serializes ∷ []) _
          (serialization_leads w (set w.marked.bytes (at - 65536) 244) p.earlier)
          (leads_more (serialized w (set w.marked.bytes (at - 65536) 244)) (with_text w a.bytes a.earlier)
          (record w { marked = changed w.marked at (first ∷ rest); earlier = b.earlier }) _ (Serializes ∷ Puts at first ∷ []) a.leads
          (leads_more (with_text w a.bytes a.earlier) (serialized w a.bytes)
          (record w { marked = changed w.marked at (first ∷ rest); earlier = b.earlier }) (Serializes ∷ []) (Puts at first ∷ [])
          (serialization_leads w a.bytes a.earlier) last)));
      views = subst (λ (z : List ℕ). Views (λ view. Sound w chunks view) z b.earlier) is b.views;
    }

-- the events of a new instruction lead to the world with it in place
pub instruction_leads : (w : World) (chunks : List Chunk) (at : ℕ) (new : List ℕ) → Replaces w chunks at new
    → Views (λ view. Sound w chunks view) w.marked.bytes w.earlier
    → Reaches w (instruction_events at new) (record w { marked = changed w.marked at new }) (λ view. Sound w chunks view)
instruction_leads w chunks at [] r views = absurd (omega (arith, r.replacing.some))
instruction_leads w chunks at (byte ∷ []) r views = single_leads w chunks at byte r views
instruction_leads w chunks at (byte ∷ next ∷ rest) r views = longer_leads w chunks at byte (next ∷ rest) r views

-- bytes are instructions in one way
same_news : (bytes : List ℕ) (xs ys : List Piece) → AreBytesOf bytes xs → AreBytesOf bytes ys → xs ≡ ys
same_news bytes xs ys a b = same_pieces xs ys a.spelled b.spelled (sym a.parts ∙ b.parts)

-- the mark of an instruction is a mark
mark_is_mark : (i : Instr) → is_mark (mark_of i) ≡ true
mark_is_mark i = go (is_indirect i.flow)
  where
    go : (b : Bool) → is_mark (cond b (After i.reg) Plain) ≡ true
    go true = refl
    go false = refl

-- the new instruction stands at a marked place of the changed text
new_stands : (marked : MarkedText) (c : Chunk) (at : ℕ) (before after : List Piece) (o n : Piece)
    → (x : Changes marked c at before after o n)
    → ((masked : Option ℕ) × IsMarked marked.marks (state at masked))
    × ((i : Instr) → instruction_at (changed marked at n.bytes).bytes at ≡ Some i → i.len ≡ length n.bytes)
new_stands marked c at before after o n x =
    let l = lies marked c x.whole x.holds in
    let begins : Begins (changed marked at n.bytes) c at =
    record { holds = changed_holds marked c at before after o n x; before = before; rest = n ∷ after; parts = refl; here = x.here } in
    let s = stands_with (changed marked at n.bytes) c at (changed_text marked c at before after o n x) begins n after refl in
    let piece : s.piece ≡ n = first_of s.piece n s.rest after (sym s.is) in
    let marked_here : is_mark (mark_at marked.marks at) ≡ true = ap is_mark s.mark ∙ mark_is_mark s.piece.instr in
    let m = marked_state (mark_at marked.marks at) marked_here in (
      (m.0, (omega (arith, l.low, x.here), m.1)),
      λ i is.
          ap (λ (j : Instr). j.len)
          (some_same (instruction_at (changed marked at n.bytes).bytes at) i s.piece.instr is s.instr)
          ∙ (s.len ∙ ap (λ (p : Piece). length p.bytes) piece),
    )
  where
    first_of : (p q : Piece) (xs ys : List Piece) → p ∷ xs ≡ q ∷ ys → p ≡ q
    first_of p q xs ys e = cc

-- a place of a live chunk isn't free
pub held_place : (chunks : List Chunk) (c : Chunk) (place : ℕ) → Contains chunks c → IsLive c.state → IsInChunk c place
    → IsFree chunks place → ⊥
held_place chunks c place has live inside free =
    subst (λ (d : Chunk). IsLive d.state → IsInChunk d place → ⊥) has.2
    (each_get (λ (d : Chunk). IsLive d.state → IsInChunk d place → ⊥) chunks has.0 c has.1 free) live inside

-- what is known of the first instruction of a patch, and of what is left of it
pub record Starts (marked : MarkedText) (chunks : List Chunk) (c : Chunk) (at : ℕ) (new : List ℕ) (n : Piece) (ns : List Piece)
    : Type 0 where
  pub replacing : IsReplacing marked at n.bytes
  pub region : IsRegion (changed marked at n.bytes) chunks
  pub here : ((masked : Option ℕ) × IsMarked marked.marks (state at masked))
      × ((i : Instr) → instruction_at (changed marked at n.bytes).bytes at ≡ Some i → i.len ≡ length n.bytes)
  pub bytes_rest : AreBytesOf (code_of ns) ns
  pub patch_rest : CanPatch (changed marked at n.bytes) c (at + length n.bytes) (code_of ns)
  pub long : length new ≡ length n.bytes + length (code_of ns)
  pub text : with_span (with_span marked.bytes (at - 65536) n.bytes) (at + length n.bytes - 65536) (code_of ns)
      ≡ with_span marked.bytes (at - 65536) new

-- a patch by some instructions starts with the first
pub starts : (marked : MarkedText) (chunks : List Chunk) (c : Chunk) (at : ℕ) (new : List ℕ) (n : Piece) (ns : List Piece)
    → IsRegion marked chunks → Contains chunks c → IsLive c.state → c.base ≤ at → CanPatch marked c at new → AreBytesOf new (n ∷ ns)
    → at + length new ≤ c.base + c.length → Starts marked chunks c at new n ns
starts marked chunks c at new n ns region has live from patch b ends =
    let t = turn marked c at new patch n ns region.whole (same_news new patch.run.news (n ∷ ns) patch.run.bytes b) in
    let bytes_rest : AreBytesOf (code_of ns) ns =
    record { spelled = λ before behind p is. b.spelled (n ∷ before) behind p (ap (λ (z : List Piece). n ∷ z) is); parts = refl } in
    let rep = changes_replace marked c at patch.run.before (t.os ++ patch.run.after) t.o n t.change in
    let l = lies marked c region.whole patch.holds in
    let long : length new ≡ length n.bytes + length (code_of ns) =
    ap (λ (z : List ℕ). length z) b.parts ∙ length-append n.bytes (code_of ns) in
    let held : IsHeldBy chunks at c = (has, live, (from, omega (arith, ends, long, rep.some))) in
    record {
      replacing = rep;
      region = region_patched marked (changed marked at n.bytes) chunks c at n.bytes
          (record {
            region = region;
            held = held;
            holds = changed_holds marked c at patch.run.before (t.os ++ patch.run.after) t.o n t.change;
            whole = changed_text marked c at patch.run.before (t.os ++ patch.run.after) t.o n t.change;
            bytes_are = refl;
            marks_are = refl;
            low = l.low;
            high = omega (arith, l.high);
            ends = omega (arith, ends, long);
          });
      here = new_stands marked c at patch.run.before (t.os ++ patch.run.after) t.o n t.change;
      bytes_rest = bytes_rest;
      patch_rest = next_patch marked c at new patch n ns t (length n.bytes) (code_of ns) refl bytes_rest;
      long = long;
      text = spans_join marked.bytes at n.bytes (code_of ns) rep.low (omega (arith, ends, long, l.high))
          ∙ ap (λ (z : List ℕ). with_span marked.bytes (at - 65536) z) (sym b.parts);
    }

-- a patch by no instruction leaves the text
no_patch : (marked : MarkedText) (at : ℕ) (new : List ℕ) → AreBytesOf new [] → marked.bytes ≡ (changed marked at new).bytes
no_patch marked at new b =
    sym (ap (λ (z : List ℕ). with_span marked.bytes (at - 65536) z) b.parts ∙ span_none marked.bytes (at - 65536))

-- a region's text with a lawful patch is a region's
pub patch_keeps_region : (news : List Piece) (marked : MarkedText) (chunks : List Chunk) (c : Chunk) (at : ℕ) (new : List ℕ)
    → IsRegion marked chunks → Contains chunks c → IsLive c.state → c.base ≤ at → CanPatch marked c at new → AreBytesOf new news
    → at + length new ≤ c.base + c.length → IsRegion (changed marked at new) chunks
patch_keeps_region [] marked chunks c at new region has live from patch b ends =
    subst (λ (z : List ℕ). IsRegion (text_of z marked.marks) chunks) (no_patch marked at new b) region
patch_keeps_region (n ∷ ns) marked chunks c at new region has live from patch b ends =
    let s = starts marked chunks c at new n ns region has live from patch b ends in
    subst (λ (z : List ℕ). IsRegion (text_of z marked.marks) chunks) s.text
    (patch_keeps_region ns (changed marked at n.bytes) chunks c (at + length n.bytes) (code_of ns) s.region has live (omega (arith, from))
    s.patch_rest s.bytes_rest (omega (arith, ends, s.long)))
