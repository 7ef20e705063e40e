-- In a closed text a walk goes one way: its start and its choices determine its places and its end.
use Rattle.std.proofs.Common.{◌≡◌, ℕ, ◌<◌, List, [], ◌∷◌, map, Option, None, inl, inr, arith, refl, ap, sym, subst, ◌∙◌, true, false}
use Rattle.std.specs.Prelude.{IsSomeAnd, IsTrue}
use Rattle.nc_decode.specs.declared.instruction.Instr.{Instr}
use Rattle.nc_decode.specs.declared.instruction.Mark.{Mark}
use Rattle.nc_decode.specs.declared.instruction.Flow.{Flow}
use Rattle.nc_decode.specs.declared.instruction.Flow.TheVariants.{Next, Branch, Jump, Call, IndirectJump, IndirectCall}
use Rattle.nc_decode.specs.declared.instruction.Flow.TheVariants as flow
use Rattle.nc_decode.specs.Transfers.{is_indirect}
use Rattle.nc_text.specs.Places.{limit_of, instruction_at}
use Rattle.nc_text.specs.Machine.{State, state, LeadsBy, IsMaskedFor, IsSafe}
use Rattle.nc_text.specs.Marks.{IsClosed}
use Rattle.nc_text.proofs.Offered.{executes, leads_of, IsKnown, safe_if_known, start_is_marked}
use Rattle.nc_region.specs.declared.trace.End.{End}
use Rattle.nc_region.specs.declared.trace.End.TheVariants.{Stop, Trampoline, Beyond, More}
use Rattle.nc_region.specs.Trace.{EndsBy, GoesOn, IsTrace, IsWalkStart, LeavesBy, Moves, Picks, Walks, bundle_of}
use Rattle.nc_base.proofs.Offered.{some_same}
use Rattle.nc_region.proofs.walking.Walking.{known_next}

-- a choice picks one step
one_step : (kind : Flow) (limit : ℕ) (i : Instr) (now : State) (choice : ℕ) (a b : State) → LeadsBy kind limit i now a
    → LeadsBy kind limit i now b → Picks kind i now choice a → Picks kind i now choice b → a ≡ b
one_step Next limit i now choice a b la lb pa pb = la ∙ sym lb
one_step Branch limit i now choice a b la lb pa pb = pa ∙ sym pb
one_step Jump limit i now choice a b la lb pa pb = la ∙ sym lb
one_step Call limit i now choice a b la lb pa pb = la ∙ sym lb
one_step IndirectJump limit i now choice a b la lb pa pb = pa ∙ sym pb
one_step IndirectCall limit i now choice a b la lb pa pb = pa ∙ sym pb
one_step flow.Stop limit i now choice a b la lb pa pb = absurd la

-- by a choice a state moves to one state only
one_move : (text : List ℕ) (now : State) (choice : ℕ) (a b : State) → Moves text now choice a → Moves text now choice b → a ≡ b
one_move text now choice a b ma mb =
    let same = some_same (instruction_at text now.place) mb.instr ma.instr mb.is ma.is in
    let picked = subst (λ (i : Instr). Picks i.flow i now choice b) same mb.picked in
    one_step ma.instr.flow (limit_of text) ma.instr now choice a b (leads_of text now a ma.instr ma.is ma.step)
    (leads_of text now b ma.instr ma.is mb.step) ma.picked picked

-- no test is both true and false
not_both : false ≡ true → ⊥
not_both e = cc

-- where the register is masked, no choice both moves on and leaves
below : (kind : Flow) (limit : ℕ) (i : Instr) (now next : State) (choice : ℕ) → IsTrue (is_indirect kind)
    → IsMaskedFor kind i.reg now.masked → LeadsBy kind limit i now next → Picks kind i now choice next → bundle_of choice < limit
below Next limit i now next choice is may leads picks = absurd (not_both is)
below Branch limit i now next choice is may leads picks = absurd (not_both is)
below Jump limit i now next choice is may leads picks = absurd (not_both is)
below Call limit i now next choice is may leads picks = absurd (not_both is)
below IndirectJump limit i now next choice is may leads picks =
    elim leads [ inl l ↦ subst (λ (s : State). s.place < limit) picks l.2 | inr wrong ↦ absurd (wrong may) ]
below IndirectCall limit i now next choice is may leads picks =
    elim leads [ inl l ↦ subst (λ (s : State). s.place < limit) picks l.2 | inr wrong ↦ absurd (wrong may) ]
below flow.Stop limit i now next choice is may leads picks = absurd (not_both is)

-- in a safe state no choice both moves on and leaves
leaves_or_moves : (text : List ℕ) (now next : State) (choice : ℕ) → IsSafe text now → GoesOn text now → LeavesBy text now choice
    → Moves text now choice next → ⊥
leaves_or_moves text now next choice safe goes leaves moves =
    let e = executes text now goes.0 safe in
    let same = some_same (instruction_at text now.place) e.i moves.instr e.is moves.is in
    let may = subst (λ (i : Instr). IsMaskedFor i.flow i.reg now.masked) same e.permitted.1 in
    let is = subst (λ (o : Option Instr). IsSomeAnd o (λ i. IsTrue (is_indirect i.flow))) moves.is leaves.0 in
    let low = below moves.instr.flow (limit_of text) moves.instr now next choice is may
    (leads_of text now next moves.instr moves.is moves.step) moves.picked in
    omega (arith, low, leaves.1)

-- a walk that ends in a safe state doesn't move on from there
ends_or_moves : (text : List ℕ) (now next : State) (choice : ℕ) (rest : List ℕ) (end : End) → IsSafe text now
    → EndsBy text now (choice ∷ rest) end → GoesOn text now → Moves text now choice next → ⊥
ends_or_moves text now next choice rest Trampoline safe ends goes moves = omega (arith, ends, goes.0)
ends_or_moves text now next choice rest Stop safe ends goes moves = goes.1 ends
ends_or_moves text now next choice rest More safe ends goes moves = cc (ends.1)
ends_or_moves text now next choice rest Beyond safe ends goes moves = leaves_or_moves text now next choice safe goes ends.1 moves

-- by its choices a state ends a walk in one way only
one_end : (text : List ℕ) (now : State) (choices : List ℕ) (a b : End) → EndsBy text now choices a → EndsBy text now choices b → a ≡ b
one_end text now choices Trampoline Trampoline ea eb = refl
one_end text now choices Trampoline Stop ea eb = absurd (omega (arith, ea, eb.0.0))
one_end text now choices Trampoline More ea eb = absurd (omega (arith, ea, eb.0.0))
one_end text now [] Trampoline Beyond ea eb = absurd eb
one_end text now (c ∷ cs) Trampoline Beyond ea eb = absurd (omega (arith, ea, eb.0.0))
one_end text now choices Stop Trampoline ea eb = absurd (omega (arith, eb, ea.0.0))
one_end text now choices Stop Stop ea eb = refl
one_end text now choices Stop More ea eb = absurd (eb.0.1 ea)
one_end text now [] Stop Beyond ea eb = absurd eb
one_end text now (c ∷ cs) Stop Beyond ea eb = absurd (eb.0.1 ea)
one_end text now choices More Trampoline ea eb = absurd (omega (arith, eb, ea.0.0))
one_end text now choices More Stop ea eb = absurd (ea.0.1 eb)
one_end text now choices More More ea eb = refl
one_end text now [] More Beyond ea eb = absurd eb
one_end text now (c ∷ cs) More Beyond ea eb = let e = ea.1 in cc
one_end text now [] Beyond b ea eb = absurd ea
one_end text now (c ∷ cs) Beyond Trampoline ea eb = absurd (omega (arith, eb, ea.0.0))
one_end text now (c ∷ cs) Beyond Stop ea eb = absurd (ea.0.1 eb)
one_end text now (c ∷ cs) Beyond More ea eb = let e = eb.1 in cc
one_end text now (c ∷ cs) Beyond Beyond ea eb = refl

-- from a known state the choices lead over one list of states to one end
one_way : (text : List ℕ) (marks : List Mark) → IsClosed text marks → (now : State) (choices : List ℕ) (xs ys : List State) (a b : End)
    → IsKnown marks now → Walks text now choices xs a → Walks text now choices ys b → (xs ≡ ys) × (a ≡ b)
one_way text marks closed now choices [] [] a b known wa wb = (refl, one_end text now choices a b wa wb)
one_way text marks closed now [] [] (n ∷ ns) a b known wa wb = absurd wb
one_way text marks closed now (c ∷ cs) [] (n ∷ ns) a b known wa wb =
    absurd (ends_or_moves text now n c cs a (safe_if_known text marks closed now known) wa wb.0 wb.1)
one_way text marks closed now [] (n ∷ ns) ys a b known wa wb = absurd wa
one_way text marks closed now (c ∷ cs) (n ∷ ns) [] a b known wa wb =
    absurd (ends_or_moves text now n c cs b (safe_if_known text marks closed now known) wb wa.0 wa.1)
one_way text marks closed now (c ∷ cs) (n ∷ ns) (m ∷ ms) a b known wa wb =
    let same : m ≡ n = one_move text now c m n wb.1 wa.1 in
    let on = subst (λ (s : State). Walks text s cs ms b) same wb.2 in
    let rest = one_way text marks closed n cs ns ms a b (known_next text marks closed now n known wa.1.step) wa.2 on in
    let e = rest.0 in
    (cc, rest.1)

-- from a bundle start of the region there is one trace
pub one_trace : (text : List ℕ) (marks : List Mark) (start : ℕ) (choices places others : List ℕ) (a b : End) → IsClosed text marks
    → IsWalkStart text start → IsTrace text start choices places a → IsTrace text start choices others b → (others ≡ places) × (b ≡ a)
one_trace text marks start choices places others a b closed begins ta tb =
    let known : IsKnown marks (state start None) = inl (start_is_marked text marks closed (state start None) begins.0 begins.1) in
    let same = one_way text marks closed (state start None) choices tb.states ta.states b a known tb.walks ta.walks in
    (tb.places_are ∙ (ap (λ (l : List State). start ∷ map (λ (s : State). s.place) l) same.0 ∙ sym ta.places_are), same.1)
