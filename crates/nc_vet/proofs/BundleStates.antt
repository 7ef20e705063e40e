-- The states of a bundle, and its bits.
use Rattle.std.proofs.Common.{◌≡◌, ℕ, zero, suc, ◌+◌, ◌-◌, ◌%◌, ◌<◌, ◌≤◌, List, [], ◌∷◌, ◌++◌, length, take, drop, get_or, refl, sym, subst, ◌∙◌, ap, arith, ◌==◌, nat_le, append-nil, take_all, take-take}
use Rattle.std.proofs.lemmas.List.{length-drop, length-take-le, take_more, get_or-take, get_or-drop, get_or_append_left, drop_all}
use Rattle.nc_decode.specs.declared.automaton.TheConstants.{END, AFTER_SHORT, AFTER_NEAR, AFTER_PAIR}
use Rattle.nc_decode.specs.Automaton.{next_state}
use Rattle.nc_decode.specs.declared.bundle.Bundle.{Bundle}
use Rattle.nc_vet.specs.States.{states_after, bundle_bytes, AreBundleStates}
use Rattle.nc_vet.specs.machinery.Running.{run, state_after, TellsStates, TellsBundle, LaneHasRead}

-- ---- a lane

-- there are as many states as bytes
pub length-states_after : (s : ℕ) (bs : List ℕ) → length (states_after s bs) ≡ length bs
length-states_after s [] = refl
length-states_after s (b ∷ bs) = ap (λ (n : ℕ). suc n) (length-states_after (next_state s b) bs)

-- the size of a bundle
pub bundle_size : (code : List ℕ) (at : ℕ) → at + 32 ≤ length code → length (bundle_bytes code at) ≡ 32
bundle_size code at room = length-take-le 32 (drop at code) (omega (arith, room, length-drop at code))

-- a byte of a bundle
pub bundle_byte : (code : List ℕ) (at i : ℕ) → i < 32 → get_or (bundle_bytes code at) i 0 ≡ get_or code (at + i) 0
bundle_byte code at i lt = get_or-take 32 (drop at code) i 0 lt ∙ get_or-drop at code i 0

-- a lane that has read a bundle has the bundle's states
pub all_read : (code : List ℕ) (at i state : ℕ) (states : List ℕ) → at + 32 ≤ length code → i ≡ 32
    → LaneHasRead (bundle_bytes code at) i state states → AreBundleStates code at states
all_read code at i state states room all h =
    sym (take_all 34 states (omega (arith, h.long)))
    ∙ take_more states 33 0 (omega (arith, h.long))
    ∙ ap (λ (z : List ℕ). z ++ get_or states 33 0 ∷ []) first
    ∙ ap (λ (n : ℕ). END ∷ (states_after END (bundle_bytes code at) ++ n ∷ [])) h.end
  where
    first : take 33 states ≡ END ∷ states_after END (bundle_bytes code at)
    first =
        sym (append-nil (take 33 states))
        ∙ ap (λ (z : List ℕ). take 33 states ++ states_after state z) (sym (drop_all 32 (bundle_bytes code at) (omega (arith, bundle_size code at room))))
        ∙ subst (λ (n : ℕ). take (n + 1) states ++ states_after state (drop n (bundle_bytes code at)) ≡ END ∷ states_after END (bundle_bytes code at)) all h.so_far

-- ---- the bits of a bundle

-- an element of the states is that of the run
run_in : (s : ℕ) (bs : List ℕ) (k : ℕ) → k < length bs → get_or (states_after s bs) k 0 ≡ run s (take (k + 1) bs)
run_in s [] k lt = absurd (omega (arith, lt))
run_in s (b ∷ bs) zero lt = refl
run_in s (b ∷ bs) (suc k) lt =
    run_in (next_state s b) bs k (omega (arith, lt))
    ∙ ap (λ (n : ℕ). run s (take n (b ∷ bs))) {x = suc (k + 1)} {y = suc k + 1} (omega arith)

-- the state after a byte of a bundle
pub state_in : (code : List ℕ) (at k : ℕ) (states : List ℕ) → at % 32 ≡ 0 → at + 32 ≤ length code → k < 32 → AreBundleStates code at states
    → get_or states (k + 1) 0 ≡ state_after code (at + k)
unfolding state_after
state_in code at k states start room lt h =
    let after = states_after END (bundle_bytes code at) in
    ap (λ (z : List ℕ). get_or z (k + 1) 0) h
    ∙ ap (λ (n : ℕ). get_or (END ∷ (after ++ 0 ∷ [])) n 0) {x = k + 1} {y = suc k} (omega arith)
    ∙ get_or_append_left after (0 ∷ []) 0 k (omega (arith, lt, length-states_after END (bundle_bytes code at), bundle_size code at room))
    ∙ run_in END (bundle_bytes code at) k (omega (arith, lt, bundle_size code at room))
    ∙ ap (λ (z : List ℕ). run END z) (take-take (k + 1) 32 (drop at code) (omega (arith, lt)))
    ∙ ap (λ (n : ℕ). run END (take (n + 1) (drop at code))) {x = k} {y = (at + k) % 32} (omega (arith, start, lt))
    ∙ ap (λ (n : ℕ). run END (take ((at + k) % 32 + 1) (drop n code))) {x = at} {y = at + k - (at + k) % 32} (omega (arith, start, lt))

-- the states of a bundle tell its bits
pub states_told : (code : List ℕ) (at : ℕ) (states : List ℕ) (w : Bundle) → at % 32 ≡ 0 → at + 32 ≤ length code → AreBundleStates code at states
    → TellsStates (take 33 (drop 1 states)) w → TellsBundle code at w
states_told code at states w start room h t = record {
  ends = λ k lt. t.ends k lt ∙ ap (λ (s : ℕ). nat_le END s) (state_is k lt);
  pairs = λ k lt. t.pairs k lt ∙ ap (λ (s : ℕ). s == AFTER_PAIR) (state_is k lt);
  shorts = λ k lt. t.shorts k lt ∙ ap (λ (s : ℕ). s == AFTER_SHORT) (state_is k lt);
  nears = λ k lt. t.nears k lt ∙ ap (λ (s : ℕ). s == AFTER_NEAR) (state_is k lt);
  small = t.small;
}
  where
    state_is : (k : ℕ) → k < 32 → get_or (take 33 (drop 1 states)) k 0 ≡ state_after code (at + k)
    state_is k lt =
        get_or-take 33 (drop 1 states) k 0 (omega (arith, lt)) ∙ get_or-drop 1 states k 0
        ∙ ap (λ (n : ℕ). get_or states n 0) {x = 1 + k} {y = k + 1} (omega arith)
        ∙ state_in code at k states start room lt h
