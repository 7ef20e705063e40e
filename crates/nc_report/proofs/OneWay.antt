-- Code is read in one way only.
use Rattle.std.proofs.Common.{◌≡◌, ◌≢◌, ℕ, ◌+◌, ◌-◌, ◌%◌, Bool, true, false, List, [], ◌∷◌, take, drop, refl, sym, subst, ◌∙◌, ap, MatchOption, Option, Some, None}
use Rattle.nc_decode.specs.declared.instruction.Instr.{Instr}
use Rattle.nc_decode.specs.Spelling.{IsAtFront}
use Rattle.nc_decode.specs.Transfers.{is_indirect}
use Rattle.nc_reading.specs.declared.steps.Found.{Found}
use Rattle.nc_reading.specs.declared.steps.Found.TheVariants.{Sound, Bare, Crosses, NotPermitted}
use Rattle.nc_reading.specs.declared.steps.Step.{Step}
use Rattle.nc_reading.specs.Reading.{Finds, IsStep, ReadsFrom, masked_by, extent, IsReadOneWay}
use Rattle.nc_vet.proofs.Offered.{one_at_front, none_cut}

-- an instruction that may follow what is masked isn't one that may not
not_bare : (window : List ℕ) (masked : Option ℕ) (i j : Instr) → IsAtFront window i → (is_indirect i.flow ≡ true → masked ≡ Some i.reg)
    → IsAtFront window j → is_indirect j.flow ≡ true → masked ≢ Some j.reg → ⊥
not_bare window masked i j f paired g ind none =
    let same = one_at_front window i j f g in
    none (subst (λ (x : Instr). is_indirect x.flow ≡ true → masked ≡ Some x.reg) same paired ind)

-- only one thing is found in a window
same_found : (window : List ℕ) (masked : Option ℕ) (f g : Found) → Finds window masked f → Finds window masked g → f ≡ g
same_found window masked (Sound i) (Sound j) h k = ap Sound (one_at_front window i j h.0 k.0)
same_found window masked (Sound i) Bare h k = absurd (not_bare window masked i k.0 h.0 h.1 k.1 k.2 k.3)
same_found window masked (Sound i) Crosses h k = absurd (none_cut window i h.0 k)
same_found window masked (Sound i) NotPermitted h k = absurd (k.0 i h.0)
same_found window masked Bare (Sound i) h k = absurd (not_bare window masked i h.0 k.0 k.1 h.1 h.2 h.3)
same_found window masked Bare Bare h k = refl
same_found window masked Bare Crosses h k = absurd (none_cut window h.0 h.1 k)
same_found window masked Bare NotPermitted h k = absurd (k.0 h.0 h.1)
same_found window masked Crosses (Sound i) h k = absurd (none_cut window i k.0 h)
same_found window masked Crosses Bare h k = absurd (none_cut window k.0 k.1 h)
same_found window masked Crosses Crosses h k = refl
same_found window masked Crosses NotPermitted h k = absurd (k.1 h)
same_found window masked NotPermitted (Sound i) h k = absurd (h.0 i k.0)
same_found window masked NotPermitted Bare h k = absurd (h.0 k.0 k.1)
same_found window masked NotPermitted Crosses h k = absurd (h.1 k)
same_found window masked NotPermitted NotPermitted h k = refl

-- a step by its parts
step : Found → ℕ → Bool → Step
step found len whole = record { found = found; len = len; whole = whole }

-- where a step goes on
abbrev Goes : ℕ → Step → Option ℕ → Type 0
Goes room s end = MatchOption end ((s.whole ≡ false) × (s.len ≡ room)) (λ n. (s.whole ≡ true) × (s.len ≡ n))

same_goes : (room : ℕ) (s t : Step) (end : Option ℕ) → Goes room s end → Goes room t end → (s.whole ≡ t.whole) × (s.len ≡ t.len)
same_goes room s t None h k = (h.0 ∙ sym k.0, h.1 ∙ sym k.1)
same_goes room s t (Some n) h k = (h.0 ∙ sym k.0, h.1 ∙ sym k.1)

-- only one step is made from a place
same_step : (room : ℕ) (masked : Option ℕ) (rest : List ℕ) (s t : Step) → IsStep room masked rest s → IsStep room masked rest t → s ≡ t
unfolding step
same_step room masked rest s t h k =
    let goes = same_goes room s t (extent rest) h.goes k.goes in
    ap (λ (f : Found). step f s.len s.whole) (same_found (take room rest) masked s.found t.found h.finds k.finds)
    ∙ ap (λ (n : ℕ). step t.found n s.whole) goes.1 ∙ ap (λ (b : Bool). step t.found t.len b) goes.0

-- from any place on, code is read by one list of steps only
same_steps : (at : ℕ) (masked : Option ℕ) (rest : List ℕ) (steps others : List Step) → ReadsFrom at masked rest steps
    → ReadsFrom at masked rest others → steps ≡ others
same_steps at masked rest [] [] h k = refl
same_steps at masked rest [] (t ∷ others) h k = absurd (k.0 h)
same_steps at masked rest (s ∷ steps) [] h k = absurd (h.0 k)
same_steps at masked rest (s ∷ steps) (t ∷ others) h k =
    let same = same_step (32 - at % 32) masked rest s t h.1 k.1 in
    ap (λ (x : Step). x ∷ steps) same
    ∙ ap (λ (z : List Step). t ∷ z)
    (same_steps (at + t.len) (masked_by at t) (drop t.len rest) steps others
    (subst (λ (x : Step). ReadsFrom (at + x.len) (masked_by at x) (drop x.len rest) steps) same h.2) k.2)

-- the law: code is read in one way
pub one_way : IsReadOneWay
one_way code steps others h k = same_steps 0 None code steps others h k
