-- A patch after attempts at it: what each attempt leaves, and the whole patch after them.
use Rattle.std.proofs.Common.{◌≡◌, ℕ, ◌+◌, ◌-◌, ◌<◌, ◌≤◌, Bool, true, false, cond, List, [], ◌∷◌, ◌++◌, length, get_or, inl, inr}
use Rattle.std.proofs.Common.{arith, refl, ◌∙◌, sym, ap, subst, append-nil}
use Rattle.std.specs.Prelude.{Contains, ⊤}
use Rattle.std.proofs.lemmas.List.{length-append}
use Rattle.nc_decode.specs.declared.instruction.Instr.{Instr}
use Rattle.nc_decode.specs.declared.instruction.Mark.{Mark}
use Rattle.nc_text.specs.Places.{InRegion, byte_at, instruction_at}
use Rattle.nc_text.specs.Machine.{state}
use Rattle.nc_text.specs.MarkedText.{MarkedText, with_span}
use Rattle.nc_text.proofs.Offered.{executes, KeepsBytes, same_instruction, length-with_span}
use Rattle.nc_vet.specs.Chunk.{Piece, code_of}
use Rattle.nc_list.specs.declared.chunk.Chunk.{Chunk}
use Rattle.nc_region.specs.schedules.World.{World}
use Rattle.nc_region.specs.schedules.Events.{Event, Puts, Serializes}
use Rattle.nc_region.proofs.Offered.{as_it_stands, lies, changed}
use Rattle.nc_base.proofs.Offered.{some_same}
use Rattle.nc_text.proofs.Offered.{span_before, span_within}
use Rattle.nc_acts.specs.Acts.{puts_where}
use Rattle.nc_region.specs.Patch.{AreBytesOf, any_place, stands_there}
use Rattle.nc_region.specs.machinery.PatchSteps.{CanPatch}
use Rattle.nc_region.specs.Region.{IsLive, IsRegion}
use Rattle.nc_histories.specs.Calls.{no_details}
use Rattle.nc_histories.specs.Histories.{AreAttempts, NoneYet, OneMore}
use Rattle.nc_histories.proofs.Agreeing.{agrees_itself, agrees_more, agrees_wider, agrees_back, agrees_set, agrees_put, agrees_all, agrees_rest}
use Rattle.nc_histories.proofs.Between.{IsInPlace, Changing, IsBetween, between_old, between_more, between_new, with_new}
use Rattle.nc_histories.proofs.Between.{new_agrees, new_there, replaces, not_kept, stands_still}
use Rattle.nc_histories.proofs.Deletion.{Agrees}
use Rattle.nc_histories.proofs.Entries.{events_of, instruction_events, events_of_instructions}
use Rattle.nc_histories.proofs.Fronts.{split_joined, AreFirstPuts, all_puts, first_puts, no_more, may_lay_some}
use Rattle.nc_histories.proofs.OnePut.{byte_there}
use Rattle.nc_histories.proofs.Parting.{region_good, region_stopped}
use Rattle.nc_histories.proofs.Patching.{Sound, Open, stop_put, may_lay_rest, instruction_leads, held_place, patch_keeps_region}
use Rattle.nc_histories.proofs.Patching.{Starts as PatchStarts, starts}
use Rattle.nc_histories.proofs.Putting.{with_text, serialized, Views, Leads, Reaches, leads_none, leads_more, put_leads, serialization_leads}
use Rattle.nc_histories.proofs.Putting.{serialized_views, lay_all}
use Rattle.nc_histories.proofs.PutsWhole.{whole_put_stop}
use Rattle.nc_histories.proofs.RetiredSpans.{AreSpansOf}

-- ---- one instruction

-- the old text and the final one of a patch of a world
abbrev ChangesTo : World → List Chunk → List ℕ → Type 0
ChangesTo w chunks final = Changing w.marked.marks w.retired chunks w.marked.bytes final

-- the text is between the world's and the final one
abbrev Between : World → List ℕ → List ℕ → Type 0
Between w final now = IsBetween w.marked.marks w.marked.bytes final now

-- what some events of a patch leave: a text between the old one and the final one that changes in a span alone, and sound views
record HasGone (w : World) (chunks : List Chunk) (final : List ℕ) (at len : ℕ) (now : List ℕ) (before : List (List ℕ)) (events : List Event)
    : Type 0 where
  bytes : List ℕ
  earlier : List (List ℕ)
  leads : Leads (with_text w now before) events (with_text w bytes earlier)
  between : Between w final bytes
  agrees : Agrees at len now bytes
  views : Views (λ view. Sound w chunks view) bytes earlier

-- no event
none_gone : (w : World) (chunks : List Chunk) (final : List ℕ) (at len : ℕ) (now : List ℕ) (before : List (List ℕ)) → Between w final now
    → Views (λ view. Sound w chunks view) now before → HasGone w chunks final at len now before []
none_gone w chunks final at len now before b views =
    record {
      bytes = now;
      earlier = before;
      leads = leads_none (with_text w now before);
      between = b;
      agrees = agrees_itself at len now;
      views = views;
    }

-- the new instruction is put whole
instruction_gone : (w : World) (chunks : List Chunk) (final : List ℕ) (at : ℕ) (new now : List ℕ) (before : List (List ℕ))
    → ChangesTo w chunks final → IsInPlace w.marked.marks chunks final at new → Between w final now
    → Views (λ view. Sound w chunks view) now before
    → (g : HasGone w chunks final at (length new) now before (instruction_events at new)) × (g.bytes ≡ with_new now at new)
instruction_gone w chunks final at new now before c n b views =
    let r = instruction_leads (with_text w now before) chunks at new (replaces w chunks final now before at new c n b) views in (
      record {
        bytes = with_new now at new;
        earlier = r.earlier;
        leads = r.leads;
        between = between_new w.marked.marks w.retired chunks w.marked.bytes final now at new c n b;
        agrees = new_agrees now at new n.low (omega (arith, n.high, b.as_long, c.as_long));
        views = r.views;
      },
      refl,
    )

-- a stop is at the first byte of an instruction that is new
stopped_between : (w : World) (chunks : List Chunk) (final : List ℕ) (at : ℕ) (new now later : List ℕ) → ChangesTo w chunks final
    → IsInPlace w.marked.marks chunks final at new → stands_there w.marked.bytes at new ≡ false → Between w final now
    → Agrees at (length new) now later → byte_at later at ≡ 244 → Between w final later
stopped_between w chunks final at new now later c n fresh b agrees stop =
    between_more w.marked.marks w.retired chunks w.marked.bytes final now later at new c n b agrees
    (inl (stop, not_kept w.marked.marks w.retired chunks w.marked.bytes final at new c n fresh))

-- a stop is put at the first byte
stop_gone : (w : World) (chunks : List Chunk) (final : List ℕ) (at : ℕ) (new now : List ℕ) (before : List (List ℕ))
    → ChangesTo w chunks final → IsInPlace w.marked.marks chunks final at new → stands_there w.marked.bytes at new ≡ false
    → Between w final now → Views (λ view. Sound w chunks view) now before
    → (g : HasGone w chunks final at (length new) now before (Puts at 244 ∷ [])) × (byte_at g.bytes at ≡ 244)
stop_gone w chunks final at new now before c n fresh b views =
    let r = replaces w chunks final now before at new c n b in
    let inside : InRegion now at = (n.low, omega (arith, n.high, n.some, b.as_long, c.as_long)) in
    let p = put_leads w (λ view. Sound w chunks view) now before at 244 inside (λ view s. s.good) views
    (λ view is s. stop_put (with_text w now before) chunks at new view r (inside.0, omega (arith, inside.1, is.as_long)) s)
    (λ view is s. whole_put_stop w.marked.marks w.retired view now (state at n.masked) 244 s.good
    (inside.0, omega (arith, inside.1, is.as_long)) inside n.marked refl) in
    let agrees : Agrees at (length new) now p.bytes =
    subst (Agrees at (length new) now) (sym p.has) (agrees_set at (length new) at 244 now n.low (omega arith) (omega (arith, n.some))) in
    let stop : byte_at p.bytes at ≡ 244 = ap (λ (z : List ℕ). byte_at z at) p.has ∙ byte_there now at 244 inside in (
      record {
        bytes = p.bytes;
        earlier = p.earlier;
        leads = p.leads;
        between = stopped_between w chunks final at new now p.bytes c n fresh b agrees stop;
        agrees = agrees;
        views = p.views;
      },
      stop,
    )

-- a stop is put at the first byte, and then some of the further bytes
further_gone : (w : World) (chunks : List Chunk) (final : List ℕ) (at first : ℕ) (rest now : List ℕ) (before : List (List ℕ))
    → ChangesTo w chunks final → IsInPlace w.marked.marks chunks final at (first ∷ rest)
    → stands_there w.marked.bytes at (first ∷ rest) ≡ false → Between w final now → Views (λ view. Sound w chunks view) now before
    → (puts : List Event) → AreFirstPuts no_details any_place (at + 1) rest puts
    → HasGone w chunks final at (length (first ∷ rest)) now before (Puts at 244 ∷ Serializes ∷ puts)
further_gone w chunks final at first rest now before c n fresh b views puts f =
    let s = (stop_gone w chunks final at (first ∷ rest) now before c n fresh b views).0 in
    let stop = (stop_gone w chunks final at (first ∷ rest) now before c n fresh b views).1 in
    let r = replaces w chunks final s.bytes [] at (first ∷ rest) c n s.between in
    let le = no_more rest f.some f.more f.parts in
    let here = s.views s.bytes (as_it_stands s.bytes s.earlier) in
    let a = lay_all (with_text w s.bytes []) no_details any_place (at + 1) f.some s.bytes [] (Open (with_text w s.bytes []) chunks at)
    (may_lay_some (with_text w s.bytes []) any_place (at + 1) rest f.some f.more (Open (with_text w s.bytes []) chunks at) f.parts
    (may_lay_rest (with_text w s.bytes []) chunks at first rest r))
    (omega (arith, le, n.high, s.between.as_long, c.as_long))
    (serialized_views (Open (with_text w s.bytes []) chunks at) s.bytes (record { sound = here; stop = stop })) in
    let laid : Leads (serialized w s.bytes) puts (with_text w a.bytes a.earlier) =
    subst (λ (z : List Event). Leads (serialized w s.bytes) z (with_text w a.bytes a.earlier)) (sym f.own) a.leads in
    let agrees : Agrees at (length (first ∷ rest)) now a.bytes =
    agrees_more at (length (first ∷ rest)) now s.bytes a.bytes s.agrees
    (agrees_put at (length (first ∷ rest)) (at + 1) f.some s.bytes a.bytes (omega arith) (omega (arith, le)) a.has) in
    record {
      bytes = a.bytes;
      earlier = a.earlier;
      leads = leads_more (with_text w now before) (with_text w s.bytes s.earlier) (with_text w a.bytes a.earlier) (Puts at 244 ∷ [])
          (Serializes ∷ puts) s.leads
          (leads_more (with_text w s.bytes s.earlier) (serialized w s.bytes) (with_text w a.bytes a.earlier) (Serializes ∷ []) puts
          (serialization_leads w s.bytes s.earlier) laid);
      between = stopped_between w chunks final at (first ∷ rest) now a.bytes c n fresh b agrees
          (a.views a.bytes (as_it_stands a.bytes a.earlier)).stop;
      agrees = agrees;
      views = λ view v. (a.views view v).sound;
    }

-- one more serialization
serialization_gone : (w : World) (chunks : List Chunk) (final : List ℕ) (at len : ℕ) (now : List ℕ) (before : List (List ℕ))
    (events : List Event) → HasGone w chunks final at len now before events
    → HasGone w chunks final at len now before (events ++ Serializes ∷ [])
serialization_gone w chunks final at len now before events g =
    record {
      bytes = g.bytes;
      earlier = [];
      leads = leads_more (with_text w now before) (with_text w g.bytes g.earlier) (serialized w g.bytes) events (Serializes ∷ []) g.leads
          (serialization_leads w g.bytes g.earlier);
      between = g.between;
      agrees = g.agrees;
      views = serialized_views (λ view. Sound w chunks view) g.bytes (g.views g.bytes (as_it_stands g.bytes g.earlier));
    }

-- the first events of an instruction of several bytes
longer_front : (w : World) (chunks : List Chunk) (final : List ℕ) (at first : ℕ) (rest now : List ℕ) (before : List (List ℕ))
    → ChangesTo w chunks final → IsInPlace w.marked.marks chunks final at (first ∷ rest)
    → stands_there w.marked.bytes at (first ∷ rest) ≡ false → Between w final now → Views (λ view. Sound w chunks view) now before
    → HasGone w chunks final at (length (first ∷ rest)) now before
    (Puts at 244 ∷ Serializes ∷ (events_of no_details (puts_where any_place (at + 1) rest) ++ (Serializes ∷ Puts at first ∷ [])))
    → (part later : List Event)
    → part ++ later
    ≡ Puts at 244 ∷ Serializes ∷ (events_of no_details (puts_where any_place (at + 1) rest) ++ (Serializes ∷ Puts at first ∷ []))
    → HasGone w chunks final at (length (first ∷ rest)) now before part
longer_front w chunks final at first rest now before c n fresh b views all [] later is =
    none_gone w chunks final at (length (first ∷ rest)) now before b views
longer_front w chunks final at first rest now before c n fresh b views all (x ∷ []) later is =
    let here : x ≡ Puts at 244 = cc in
    subst (λ (e : Event). HasGone w chunks final at (length (first ∷ rest)) now before (e ∷ [])) (sym here)
    (stop_gone w chunks final at (first ∷ rest) now before c n fresh b views).0
longer_front w chunks final at first rest now before c n fresh b views all (x ∷ y ∷ r) later is =
    let here : x ≡ Puts at 244 = cc in
    let next : y ≡ Serializes = cc in
    let others : r ++ later ≡ events_of no_details (puts_where any_place (at + 1) rest) ++ (Serializes ∷ Puts at first ∷ []) = cc in
    subst (λ (e : Event). HasGone w chunks final at (length (first ∷ rest)) now before (e ∷ y ∷ r)) (sym here)
    (subst (λ (e : Event). HasGone w chunks final at (length (first ∷ rest)) now before (Puts at 244 ∷ e ∷ r)) (sym next)
    (elim (split_joined r later (events_of no_details (puts_where any_place (at + 1) rest)) (Serializes ∷ Puts at first ∷ []) others) [
      | inl f ↦
          further_gone w chunks final at first rest now before c n fresh b views r
          (first_puts no_details any_place (at + 1) rest r f.0 (sym f.1))
      | inr f ↦ behind f.0 f.1 f.2
    ]))
  where
    done : HasGone w chunks final at (length (first ∷ rest)) now before
        (Puts at 244 ∷ Serializes ∷ events_of no_details (puts_where any_place (at + 1) rest))
    done = further_gone w chunks final at first rest now before c n fresh b views
        (events_of no_details (puts_where any_place (at + 1) rest)) (all_puts no_details any_place (at + 1) rest)

    behind : (q : List Event) → r ≡ events_of no_details (puts_where any_place (at + 1) rest) ++ q
        → q ++ later ≡ Serializes ∷ Puts at first ∷ []
        → HasGone w chunks final at (length (first ∷ rest)) now before (Puts at 244 ∷ Serializes ∷ r)
    behind [] same end =
        subst (λ (z : List Event). HasGone w chunks final at (length (first ∷ rest)) now before (Puts at 244 ∷ Serializes ∷ z))
        (sym (same ∙ append-nil (events_of no_details (puts_where any_place (at + 1) rest)))) done
    behind (s ∷ []) same end =
        let one : s ≡ Serializes = cc in
        subst (λ (z : List Event). HasGone w chunks final at (length (first ∷ rest)) now before (Puts at 244 ∷ Serializes ∷ z))
        (sym (same ∙ ap (λ (e : Event). events_of no_details (puts_where any_place (at + 1) rest) ++ e ∷ []) one))
        (serialization_gone w chunks final at (length (first ∷ rest)) now before
        (Puts at 244 ∷ Serializes ∷ events_of no_details (puts_where any_place (at + 1) rest)) done)
    behind (s ∷ t ∷ []) same end =
        let one : s ≡ Serializes = cc in
        let two : t ≡ Puts at first = cc in
        subst (λ (z : List Event). HasGone w chunks final at (length (first ∷ rest)) now before (Puts at 244 ∷ Serializes ∷ z))
        (sym (same
        ∙ (ap (λ (e : Event). events_of no_details (puts_where any_place (at + 1) rest) ++ e ∷ t ∷ []) one
        ∙ ap (λ (e : Event). events_of no_details (puts_where any_place (at + 1) rest) ++ Serializes ∷ e ∷ []) two)))
        all
    behind (s ∷ t ∷ u ∷ q) same end = absurd (let bad : u ∷ (q ++ later) ≡ [] = cc in cc)

-- the first events of an instruction
instruction_front : (w : World) (chunks : List Chunk) (final : List ℕ) (at : ℕ) (new now : List ℕ) (before : List (List ℕ))
    → ChangesTo w chunks final → IsInPlace w.marked.marks chunks final at new → stands_there w.marked.bytes at new ≡ false
    → Between w final now → Views (λ view. Sound w chunks view) now before → (part later : List Event)
    → part ++ later ≡ instruction_events at new
    → HasGone w chunks final at (length new) now before part
instruction_front w chunks final at [] now before c n fresh b views part later is = absurd (omega (arith, n.some))
instruction_front w chunks final at (byte ∷ []) now before c n fresh b views [] later is =
    none_gone w chunks final at 1 now before b views
instruction_front w chunks final at (byte ∷ []) now before c n fresh b views (x ∷ []) later is =
    let here : x ≡ Puts at byte = cc in
    subst (λ (e : Event). HasGone w chunks final at 1 now before (e ∷ [])) (sym here)
    (instruction_gone w chunks final at (byte ∷ []) now before c n b views).0
instruction_front w chunks final at (byte ∷ []) now before c n fresh b views (x ∷ y ∷ part) later is =
    absurd (let bad : y ∷ (part ++ later) ≡ [] = cc in cc)
instruction_front w chunks final at (byte ∷ next ∷ rest) now before c n fresh b views part later is =
    longer_front w chunks final at byte (next ∷ rest) now before c n fresh b views
    (instruction_gone w chunks final at (byte ∷ next ∷ rest) now before c n b views).0 part later is

-- ---- all instructions

-- the instructions of a patch, as they stand in the final text
abbrev AllStand : List Mark → List Chunk → List ℕ → ℕ → List Piece → Type 0
AllStand marks chunks final at [] = ⊤
AllStand marks chunks final at (n ∷ ns) = IsInPlace marks chunks final at n.bytes × AllStand marks chunks final (at + length n.bytes) ns

-- what changes a span changes a wider one
gone_wider : (w : World) (chunks : List Chunk) (final : List ℕ) (at len from all : ℕ) (now : List ℕ) (before : List (List ℕ))
    (events : List Event) → from ≤ at → at + len ≤ from + all → HasGone w chunks final at len now before events
    → HasGone w chunks final from all now before events
gone_wider w chunks final at len from all now before events low high g =
    record {
      bytes = g.bytes;
      earlier = g.earlier;
      leads = g.leads;
      between = g.between;
      agrees = agrees_wider at len from all now g.bytes low high g.agrees;
      views = g.views;
    }

-- events after events
gone_more : (w : World) (chunks : List Chunk) (final : List ℕ) (at len : ℕ) (now : List ℕ) (before : List (List ℕ))
    (first second : List Event) (g : HasGone w chunks final at len now before first)
    → HasGone w chunks final at len g.bytes g.earlier second → HasGone w chunks final at len now before (first ++ second)
gone_more w chunks final at len now before first second g h =
    record {
      bytes = h.bytes;
      earlier = h.earlier;
      leads = leads_more (with_text w now before) (with_text w g.bytes g.earlier) (with_text w h.bytes h.earlier) first second g.leads
          h.leads;
      between = h.between;
      agrees = agrees_more at len now g.bytes h.bytes g.agrees h.agrees;
      views = h.views;
    }

-- the first instruction is as long as its bytes, and the others as long as theirs
code_long : (n : Piece) (ns : List Piece) → length (code_of (n ∷ ns)) ≡ length n.bytes + length (code_of ns)
code_long n ns = length-append n.bytes (code_of ns)

-- the first events of the other instructions, from any text between the old one and the final one
abbrev GoOn : World → List Chunk → List ℕ → ℕ → List Piece → Type 0
GoOn w chunks final at ns =
    (now : List ℕ) (before : List (List ℕ)) → Between w final now → Views (λ view. Sound w chunks view) now before
    → (part later : List Event) → part ++ later ≡ events_of_instructions w.marked.bytes at ns
    → HasGone w chunks final at (length (code_of ns)) now before part

-- the first events of an instruction and others
turn_gone : (n : Piece) (ns : List Piece) (w : World) (chunks : List Chunk) (final : List ℕ) (at : ℕ) (now : List ℕ)
    (before : List (List ℕ)) → ChangesTo w chunks final → IsInPlace w.marked.marks chunks final at n.bytes → Between w final now
    → Views (λ view. Sound w chunks view) now before → GoOn w chunks final (at + length n.bytes) ns → (part later : List Event)
    → (stood : Bool) → stands_there w.marked.bytes at n.bytes ≡ stood
    → part ++ later ≡ cond stood [] (instruction_events at n.bytes) ++ events_of_instructions w.marked.bytes (at + length n.bytes) ns
    → HasGone w chunks final at (length (code_of (n ∷ ns))) now before part
turn_gone n ns w chunks final at now before c s b views others part later true stood same =
    gone_wider w chunks final (at + length n.bytes) (length (code_of ns)) at (length (code_of (n ∷ ns))) now before part (omega arith)
    (omega (arith, code_long n ns)) (others now before b views part later same)
turn_gone n ns w chunks final at now before c s b views others part later false fresh same =
    elim (split_joined part later (instruction_events at n.bytes) (events_of_instructions w.marked.bytes (at + length n.bytes) ns) same) [
      | inl f ↦
          gone_wider w chunks final at (length n.bytes) at (length (code_of (n ∷ ns))) now before part (omega arith)
          (omega (arith, code_long n ns))
          (instruction_front w chunks final at n.bytes now before c s fresh b views part f.0 (sym f.1))
      | inr f ↦
          let g = gone_wider w chunks final at (length n.bytes) at (length (code_of (n ∷ ns))) now before (instruction_events at n.bytes)
          (omega arith) (omega (arith, code_long n ns)) (instruction_gone w chunks final at n.bytes now before c s b views).0 in
          subst (HasGone w chunks final at (length (code_of (n ∷ ns))) now before) (sym f.1)
          (gone_more w chunks final at (length (code_of (n ∷ ns))) now before (instruction_events at n.bytes) f.0 g
          (gone_wider w chunks final (at + length n.bytes) (length (code_of ns)) at (length (code_of (n ∷ ns))) g.bytes g.earlier f.0
          (omega arith) (omega (arith, code_long n ns)) (others g.bytes g.earlier g.between g.views f.0 later f.2)))
    ]

-- the first events of a patch
front_gone : (ns : List Piece) (w : World) (chunks : List Chunk) (final : List ℕ) (at : ℕ) → ChangesTo w chunks final
    → AllStand w.marked.marks chunks final at ns → GoOn w chunks final at ns
front_gone [] w chunks final at c all = λ now before b views part later is. none part later now before b views is
  where
    none : (part later : List Event) (now : List ℕ) (before : List (List ℕ)) → Between w final now
        → Views (λ view. Sound w chunks view) now before → part ++ later ≡ [] → HasGone w chunks final at 0 now before part
    none [] later now before b views is = none_gone w chunks final at 0 now before b views
    none (x ∷ part) later now before b views is = absurd (let bad : x ∷ (part ++ later) ≡ [] = is in cc)
front_gone (n ∷ ns) w chunks final at c all = λ now before b views part later is.
    turn_gone n ns w chunks final at now before c all.0 b views (front_gone ns w chunks final (at + length n.bytes) c all.1) part later
    (stands_there w.marked.bytes at n.bytes) refl is

-- any number of attempts at a patch
attempts_gone : (ns : List Piece) (w : World) (chunks : List Chunk) (final : List ℕ) (at : ℕ) → ChangesTo w chunks final
    → AllStand w.marked.marks chunks final at ns → Views (λ view. Sound w chunks view) w.marked.bytes w.earlier → (made : List Event)
    → AreAttempts (events_of_instructions w.marked.bytes at ns) made
    → HasGone w chunks final at (length (code_of ns)) w.marked.bytes w.earlier made
attempts_gone ns w chunks final at c all views [] NoneYet =
    none_gone w chunks final at (length (code_of ns)) w.marked.bytes w.earlier (between_old w.marked.marks w.marked.bytes final) views
attempts_gone ns w chunks final at c all views _ (OneMore {earlier} first part rest same) =
    let g = attempts_gone ns w chunks final at c all views earlier first in
    gone_more w chunks final at (length (code_of ns)) w.marked.bytes w.earlier earlier part g
    (front_gone ns w chunks final at c all g.bytes g.earlier g.between g.views part rest same)

-- what all events of a patch leave: the final text, and sound views
record HasEnded (w : World) (chunks : List Chunk) (final now : List ℕ) (before : List (List ℕ)) (events : List Event) : Type 0 where
  earlier : List (List ℕ)
  leads : Leads (with_text w now before) events (with_text w final earlier)
  views : Views (λ view. Sound w chunks view) final earlier

-- all events of an instruction and others, from a text between the old one and the final one
turn_done : (n : Piece) (ns : List Piece) (w : World) (chunks : List Chunk) (final : List ℕ) (at : ℕ) (now : List ℕ)
    (before : List (List ℕ)) → ChangesTo w chunks final → IsInPlace w.marked.marks chunks final at n.bytes → Between w final now
    → Views (λ view. Sound w chunks view) now before → Agrees at (length (code_of (n ∷ ns))) final now
    → ((later : List ℕ) (earlier : List (List ℕ)) → Between w final later → Views (λ view. Sound w chunks view) later earlier
    → Agrees (at + length n.bytes) (length (code_of ns)) final later
    → HasEnded w chunks final later earlier (events_of_instructions w.marked.bytes (at + length n.bytes) ns))
    → (stood : Bool) → stands_there w.marked.bytes at n.bytes ≡ stood
    → HasEnded w chunks final now before
    (cond stood [] (instruction_events at n.bytes) ++ events_of_instructions w.marked.bytes (at + length n.bytes) ns)
turn_done n ns w chunks final at now before c s b views agrees others true stood =
    others now before b views
    (agrees_rest at (length n.bytes) (length (code_of ns)) (length (code_of (n ∷ ns))) final now (code_long n ns) agrees
    (stands_still w.marked.marks w.retired chunks w.marked.bytes final now at n.bytes c s stood b))
turn_done n ns w chunks final at now before c s b views agrees others false fresh =
    let i = instruction_gone w chunks final at n.bytes now before c s b views in
    let g = i.0 in
    let long : length now ≡ length final = b.as_long ∙ sym c.as_long in
    let still : Agrees at (length (code_of (n ∷ ns))) final g.bytes =
    agrees_more at (length (code_of (n ∷ ns))) final now g.bytes agrees
    (agrees_wider at (length n.bytes) at (length (code_of (n ∷ ns))) now g.bytes (omega arith) (omega (arith, code_long n ns)) g.agrees) in
    let h = others g.bytes g.earlier g.between g.views
    (agrees_rest at (length n.bytes) (length (code_of ns)) (length (code_of (n ∷ ns))) final g.bytes (code_long n ns) still
    (λ k lt. ap (λ (z : List ℕ). byte_at z (at + k)) i.1 ∙ new_there w.marked.marks chunks final now at n.bytes s long k lt)) in
    record {
      earlier = h.earlier;
      leads = leads_more (with_text w now before) (with_text w g.bytes g.earlier) (with_text w final h.earlier)
          (instruction_events at n.bytes) (events_of_instructions w.marked.bytes (at + length n.bytes) ns) g.leads h.leads;
      views = h.views;
    }

-- all events of a patch, from a text between the old one and the final one
all_gone : (ns : List Piece) (w : World) (chunks : List Chunk) (final : List ℕ) (at : ℕ) (now : List ℕ) (before : List (List ℕ))
    → ChangesTo w chunks final → AllStand w.marked.marks chunks final at ns → Between w final now
    → Views (λ view. Sound w chunks view) now before → Agrees at (length (code_of ns)) final now
    → HasEnded w chunks final now before (events_of_instructions w.marked.bytes at ns)
all_gone [] w chunks final at now before c all b views agrees =
    subst (λ (z : List ℕ). HasEnded w chunks z now before []) (agrees_all at final now agrees)
    (record { earlier = before; leads = leads_none (with_text w now before); views = views })
all_gone (n ∷ ns) w chunks final at now before c all b views agrees =
    turn_done n ns w chunks final at now before c all.0 b views agrees
    (λ later earlier between sound rest. all_gone ns w chunks final (at + length n.bytes) later earlier c all.1 between sound rest)
    (stands_there w.marked.bytes at n.bytes) refl

-- ---- the whole patch

-- the first instruction of a patch, as it stands in the final text
first_stands : (marked : MarkedText) (chunks : List Chunk) (c : Chunk) (at : ℕ) (new : List ℕ) (n : Piece) (ns : List Piece)
    → Contains chunks c → IsLive c.state → c.base ≤ at → at + length new ≤ c.base + c.length → PatchStarts marked chunks c at new n ns
    → (final : List ℕ) → final ≡ (changed marked at new).bytes → at + length new ≤ 65536 + length marked.bytes
    → IsInPlace marked.marks chunks final at n.bytes
first_stands marked chunks c at new n ns has live from ends s final is high =
    let mid : List ℕ = (changed marked at n.bytes).bytes in
    let rep = s.replacing in
    let mid_long : length (changed marked at n.bytes).bytes ≡ length marked.bytes =
    length-with_span marked.bytes (at - 65536) n.bytes (omega (arith, rep.low, rep.high)) in
    let low : 65536 ≤ at + length n.bytes = omega (arith, rep.low) in
    let fits : at + length n.bytes + length (code_of ns) ≤ 65536 + length (changed marked at n.bytes).bytes =
    omega (arith, high, s.long, mid_long) in
    let parts : final ≡ with_span (changed marked at n.bytes).bytes (at + length n.bytes - 65536) (code_of ns) = is ∙ sym s.text in
    let long : length final ≡ length (changed marked at n.bytes).bytes =
    ap (λ (z : List ℕ). length z) parts
    ∙ length-with_span (changed marked at n.bytes).bytes (at + length n.bytes - 65536) (code_of ns) (omega (arith, low, fits)) in
    let below : (p : ℕ) → 65536 ≤ p → p < at + length n.bytes → byte_at final p ≡ byte_at (changed marked at n.bytes).bytes p =
    λ p above lt.
    ap (λ (z : List ℕ). byte_at z p) parts
    ∙ span_before (changed marked at n.bytes).bytes (at + length n.bytes) (code_of ns) p 0 low fits above lt in
    let e = executes (changed marked at n.bytes).bytes (state at s.here.0.0) rep.low
    (s.region.whole.closed.safe (state at s.here.0.0) s.here.0.1) in
    let kept : KeepsBytes (changed marked at n.bytes).bytes final at e.i.len =
    λ k lt. below (at + k) (omega (arith, rep.low)) (omega (arith, lt, s.here.1 e.i e.is)) in
    let there = same_instruction (changed marked at n.bytes).bytes final at e.i long e.inside e.is kept in
    record {
      some = rep.some;
      low = rep.low;
      high = omega (arith, rep.high, long, mid_long);
      masked = s.here.0.0;
      marked = s.here.0.1;
      bytes = λ k lt.
          let z : at + k - at ≡ k = omega arith in
          below (at + k) (omega (arith, rep.low)) (omega (arith, lt))
          ∙ (span_within marked.bytes at n.bytes (at + k) 0 rep.low (omega (arith, rep.high)) (omega arith) (omega (arith, lt))
          ∙ ap (λ (j : ℕ). get_or n.bytes j 0) z);
      len = λ i is_there.
          let same : e.i ≡ i = some_same (instruction_at final at) e.i i there is_there in
          ap (λ (j : Instr). j.len) (sym same) ∙ s.here.1 e.i e.is;
      held = λ place free above under. held_place chunks c place has live
          (omega (arith, from, above), omega (arith, under, ends, s.long)) free;
    }

-- the instructions of a lawful patch stand in the final text
all_stand : (news : List Piece) (marked : MarkedText) (chunks : List Chunk) (c : Chunk) (at : ℕ) (new : List ℕ) → IsRegion marked chunks
    → Contains chunks c → IsLive c.state → c.base ≤ at → CanPatch marked c at new → AreBytesOf new news
    → at + length new ≤ c.base + c.length → at + length new ≤ 65536 + length marked.bytes → (final : List ℕ)
    → final ≡ (changed marked at new).bytes → AllStand marked.marks chunks final at news
all_stand [] marked chunks c at new region has live from patch b ends high final is = tt
all_stand (n ∷ ns) marked chunks c at new region has live from patch b ends high final is =
    let s = starts marked chunks c at new n ns region has live from patch b ends in
    let mid_long : length (changed marked at n.bytes).bytes ≡ length marked.bytes =
    length-with_span marked.bytes (at - 65536) n.bytes (omega (arith, s.replacing.low, s.replacing.high)) in (
      first_stands marked chunks c at new n ns has live from ends s final is high,
      all_stand ns (changed marked at n.bytes) chunks c (at + length n.bytes) (code_of ns) s.region has live (omega (arith, from))
          s.patch_rest s.bytes_rest (omega (arith, ends, s.long)) (omega (arith, high, s.long, mid_long)) final (is ∙ sym s.text),
    )

-- the events of a patch's instructions, after attempts, lead to the world with the patch in place
pub patch_leads : (news : List Piece) (w : World) (chunks : List Chunk) (c : Chunk) (at : ℕ) (new : List ℕ) (made : List Event)
    → IsRegion w.marked chunks → AreSpansOf w.retired chunks → Contains chunks c → IsLive c.state → c.base ≤ at → CanPatch w.marked c at new
    → AreBytesOf new news → at + length new ≤ c.base + c.length → Views (λ view. Sound w chunks view) w.marked.bytes w.earlier
    → AreAttempts (events_of_instructions w.marked.bytes at news) made
    → Reaches w (made ++ events_of_instructions w.marked.bytes at news) (record w { marked = changed w.marked at new })
    (λ view. Sound w chunks view)
patch_leads news w chunks c at new made region are has live from patch b ends views attempts =
    let l = lies w.marked c region.whole patch.holds in
    let final : List ℕ = (changed w.marked at new).bytes in
    let low : 65536 ≤ at = omega (arith, l.low, from) in
    let high : at + length new ≤ 65536 + length w.marked.bytes = omega (arith, l.high, ends) in
    let later = patch_keeps_region news w.marked chunks c at new region has live from patch b ends in
    let changing : ChangesTo w chunks (changed w.marked at new).bytes =
    record {
      before = record { good = region_good w.marked chunks w.retired region are; stopped = region_stopped w.marked chunks region };
      after = record {
        good = region_good (changed w.marked at new) chunks w.retired later are;
        stopped = region_stopped (changed w.marked at new) chunks later;
      };
      as_long = length-with_span w.marked.bytes (at - 65536) new (omega (arith, low, high));
    } in
    let all = all_stand news w.marked chunks c at new region has live from patch b ends high (changed w.marked at new).bytes refl in
    let long : length new ≡ length (code_of news) = ap (λ (z : List ℕ). length z) b.parts in
    let g = attempts_gone news w chunks (changed w.marked at new).bytes at changing all views made attempts in
    let back : Agrees at (length (code_of news)) (changed w.marked at new).bytes w.marked.bytes =
    subst (λ (k : ℕ). Agrees at k (changed w.marked at new).bytes w.marked.bytes) long
    (agrees_back at (length new) w.marked.bytes (changed w.marked at new).bytes (new_agrees w.marked.bytes at new low high)) in
    let d = all_gone news w chunks (changed w.marked at new).bytes at g.bytes g.earlier changing all g.between g.views
    (agrees_more at (length (code_of news)) (changed w.marked at new).bytes w.marked.bytes g.bytes back g.agrees) in
    record {
      earlier = d.earlier;
      leads = leads_more w (with_text w g.bytes g.earlier) (record w { marked = changed w.marked at new; earlier = d.earlier }) made
          (events_of_instructions w.marked.bytes at news) g.leads d.leads;
      views = d.views;
    }
