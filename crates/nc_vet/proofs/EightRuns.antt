-- Eight bundles read in lock step.
use Rattle.std.proofs.Common.{◌≡◌, ◌≢◌, ℕ, zero, suc, ◌+◌, ◌-◌, ◌*◌, ◌%◌, ◌<◌, ◌≤◌, ◌==◌, nat_le, List, [], ◌∷◌, length, take, drop, get_or, sym, ◌∙◌, ap, arith, inl, inr}
use Rattle.std.specs.Prelude.{slice_set}
use Rattle.std.proofs.lemmas.Bool.{cases_lt}
use Rattle.std.proofs.lemmas.List.{get_or-set_same, get_or-set_other, length-set, get_or-take, get_or-drop}
use Rattle.nc_decode.specs.declared.automaton.TheConstants.{END, AFTER_SHORT, AFTER_NEAR, AFTER_PAIR}
use Rattle.nc_decode.specs.declared.bundle.Bundle.{Bundle}
use Rattle.nc_decode.specs.Automaton.{next_state}
use Rattle.nc_vet.specs.machinery.Running.{state_after, TellsStates, TellsBundle, HaveRun, AreEightRuns}
use Rattle.nc_vet.proofs.RunStates.{state_next, entered_before, entered_some}

-- what holds of eight numbers holds of each in their list
pub eight_each : (P : ℕ → ℕ → Type 0) (a b c d e f g h : ℕ) → P 0 a → P 1 b → P 2 c → P 3 d → P 4 e → P 5 f → P 6 g → P 7 h
    → (n : ℕ) → n < 8 → P n (get_or (a ∷ b ∷ c ∷ d ∷ e ∷ f ∷ g ∷ h ∷ []) n 0)
eight_each P a b c d e f g h p q r s t u v w zero lt = p
eight_each P a b c d e f g h p q r s t u v w (suc zero) lt = q
eight_each P a b c d e f g h p q r s t u v w (suc (suc zero)) lt = r
eight_each P a b c d e f g h p q r s t u v w (suc (suc (suc zero))) lt = s
eight_each P a b c d e f g h p q r s t u v w (suc (suc (suc (suc zero)))) lt = t
eight_each P a b c d e f g h p q r s t u v w (suc (suc (suc (suc (suc zero))))) lt = u
eight_each P a b c d e f g h p q r s t u v w (suc (suc (suc (suc (suc (suc zero)))))) lt = v
eight_each P a b c d e f g h p q r s t u v w (suc (suc (suc (suc (suc (suc (suc zero))))))) lt = w
eight_each P a b c d e f g h p q r s t u v w (suc (suc (suc (suc (suc (suc (suc (suc n)))))))) lt = absurd (omega (arith, lt))

-- ---- what eight steps have stored

-- `after` is `before` with these values, one for each bundle from bundle m on, at place p of the bundle
abbrev pub ArePut : List ℕ → ℕ → ℕ → List ℕ → List ℕ → Type 0
ArePut before p m [] after = after ≡ before
ArePut before p m (v ∷ vs) after = (next : List ℕ) × (next ≡ slice_set before (32 * m + p) v) × ArePut next p (m + 1) vs after

-- what one step has stored, by an equal value and an equal place
pub put_at : (before after : List ℕ) (place q v w : ℕ) → after ≡ slice_set before place v → w ≡ v → place ≡ q → after ≡ slice_set before q w
put_at before after place q v w e same here =
    e ∙ ap (λ (x : ℕ). slice_set before place x) (sym same) ∙ ap (λ (j : ℕ). slice_set before j w) here

-- a list with values put into it is as long as before
put_long : (before after : List ℕ) (p m : ℕ) (vs : List ℕ) → ArePut before p m vs after → length after ≡ length before
put_long before after p m [] h = ap (λ (z : List ℕ). length z) h
put_long before after p m (v ∷ vs) h =
    put_long h.0 after p (m + 1) vs h.2 ∙ ap (λ (z : List ℕ). length z) h.1 ∙ length-set before (32 * m + p) v

-- a list with values put into it is the same at other places
put_other : (before after : List ℕ) (p m : ℕ) (vs : List ℕ) (q : ℕ) → ((n : ℕ) → q ≢ 32 * n + p) → ArePut before p m vs after
    → get_or after q 0 ≡ get_or before q 0
put_other before after p m [] q other h = ap (λ (z : List ℕ). get_or z q 0) h
put_other before after p m (v ∷ vs) q other h =
    put_other h.0 after p (m + 1) vs q other h.2 ∙ ap (λ (z : List ℕ). get_or z q 0) h.1
    ∙ get_or-set_other before (32 * m + p) q v 0 (other m)

-- a list with values put into it from a bundle on is the same in earlier bundles
put_before : (before after : List ℕ) (p m : ℕ) (vs : List ℕ) (n : ℕ) → n < m → ArePut before p m vs after
    → get_or after (32 * n + p) 0 ≡ get_or before (32 * n + p) 0
put_before before after p m [] n lt h = ap (λ (z : List ℕ). get_or z (32 * n + p) 0) h
put_before before after p m (v ∷ vs) n lt h =
    put_before h.0 after p (m + 1) vs n (omega (arith, lt)) h.2 ∙ ap (λ (z : List ℕ). get_or z (32 * n + p) 0) h.1
    ∙ get_or-set_other before (32 * m + p) (32 * n + p) v 0 (λ e. omega (arith, e, lt))

-- a list with values put into it has them at their places
put_here : (before after : List ℕ) (p m : ℕ) (vs : List ℕ) (n : ℕ) → n < length vs → 32 * (m + length vs) ≤ length before → p < 32
    → ArePut before p m vs after → get_or after (32 * (m + n) + p) 0 ≡ get_or vs n 0
put_here before after p m [] n lt long low h = absurd (omega (arith, lt))
put_here before after p m (v ∷ vs) zero lt long low h =
    ap (λ (j : ℕ). get_or after j 0) {x = 32 * (m + zero) + p} {y = 32 * m + p} (omega arith)
    ∙ put_before h.0 after p (m + 1) vs m (omega arith) h.2 ∙ ap (λ (z : List ℕ). get_or z (32 * m + p) 0) h.1
    ∙ get_or-set_same before (32 * m + p) v 0 (omega (arith, long, low))
put_here before after p m (v ∷ vs) (suc n) lt long low h =
    ap (λ (j : ℕ). get_or after j 0) {x = 32 * (m + suc n) + p} {y = 32 * (m + 1 + n) + p} (omega arith)
    ∙ put_here h.0 after p (m + 1) vs n (omega (arith, lt))
    (omega (arith, long, ap (λ (z : List ℕ). length z) h.1, length-set before (32 * m + p) v)) low h.2

-- ---- one more byte of each bundle

-- the next state, by the byte at a place that is given otherwise
pub next_by : (code : List ℕ) (s r j k : ℕ) → r ≡ next_state s (get_or code j 0) → j ≡ k → r ≡ next_state s (get_or code k 0)
next_by code s r j k e same = e ∙ ap (λ (x : ℕ). next_state s (get_or code x 0)) same

-- the states of eight bundles after one more byte of each
pub have_stepped : (code : List ℕ) (at i : ℕ) (now states next after : List ℕ) → at % 32 ≡ 0 → i < 32 → at + 256 ≤ length code
    → HaveRun code at i now states → length next ≡ 8
    → ((n : ℕ) → n < 8 → get_or next n 0 ≡ next_state (get_or now n 0) (get_or code (at + 32 * n + i) 0))
    → ArePut states i 0 next after → HaveRun code at (i + 1) next after
have_stepped code at i now states next after start low room h eight is put = record {
  now = λ n lt.
      reached n lt ∙ ap (λ (k : ℕ). state_after code k) {x = at + 32 * n + i} {y = at + 32 * n + (i + 1) - 1} (omega arith)
      ∙ sym (entered_some code (at + 32 * n) (i + 1) (omega arith));
  each = λ n k lt k-lt. elim (cases_lt k i) [
    | inl earlier ↦ put_other states after i 0 next (32 * n + k) (λ m e. omega (arith, e, earlier, low)) put ∙ h.each n k lt earlier
    | inr here ↦
        (let same : k ≡ i = omega (arith, here, k-lt) in
        ap (λ (j : ℕ). get_or after j 0) {x = 32 * n + k} {y = 32 * (0 + n) + i} (omega (arith, same))
        ∙ put_here states after i 0 next n (omega (arith, lt, eight)) (omega (arith, eight, h.long)) low put
        ∙ reached n lt ∙ ap (λ (j : ℕ). state_after code (at + 32 * n + j)) (sym same))
  ];
  long = put_long states after i 0 next put ∙ h.long;
}
  where
    reached : (n : ℕ) → n < 8 → get_or next n 0 ≡ state_after code (at + 32 * n + i)
    reached n lt =
        is n lt
        ∙ ap (λ (s : ℕ). next_state s (get_or code (at + 32 * n + i) 0))
        (h.now n lt ∙ entered_before code (at + 32 * n) i (omega (arith, start)) low)
        ∙ sym (state_next code (at + 32 * n + i) (omega (arith, room, lt, low)))

-- ---- one of the bundles, from its states

-- the bits by the states from its first place on
pub lane_told : (code : List ℕ) (at n : ℕ) (states : List ℕ) (w : Bundle) → n < 8 → AreEightRuns code at states
    → TellsStates (take (256 - 32 * n) (drop (32 * n) states)) w → TellsBundle code (at + 32 * n) w
lane_told code at n states w lt all t = record {
  ends = λ k k-lt. t.ends k k-lt ∙ ap (λ (s : ℕ). nat_le END s) (state_is k k-lt);
  pairs = λ k k-lt. t.pairs k k-lt ∙ ap (λ (s : ℕ). s == AFTER_PAIR) (state_is k k-lt);
  shorts = λ k k-lt. t.shorts k k-lt ∙ ap (λ (s : ℕ). s == AFTER_SHORT) (state_is k k-lt);
  nears = λ k k-lt. t.nears k k-lt ∙ ap (λ (s : ℕ). s == AFTER_NEAR) (state_is k k-lt);
  small = t.small;
}
  where
    state_is : (k : ℕ) → k < 32 → get_or (take (256 - 32 * n) (drop (32 * n) states)) k 0 ≡ state_after code (at + 32 * n + k)
    state_is k k-lt =
        get_or-take (256 - 32 * n) (drop (32 * n) states) k 0 (omega (arith, lt, k-lt)) ∙ get_or-drop (32 * n) states k 0 ∙ all n k lt k-lt
