-- A new session stands for the first state of a script.
use Rattle.std.proofs.Common.{◌≡◌, ℕ, zero, suc, ◌<◌, ◌≤◌, ◌+◌, Bool, List, [], ◌∷◌, ◌++◌, length, map, get_or, replicate}
use Rattle.std.proofs.Common.{Option, Some, None}
use Rattle.std.proofs.Common.{refl, sym, ap, ◌∙◌}
use Rattle.std.proofs.Common.{subst, arith, ◌*◌}
use Rattle.std.proofs.lemmas.Grind.{common_steps}
use Rattle.std.proofs.lemmas.List.{map-append, length-map, length-replicate, get_or-replicate}
use Rattle.atomic_table.specs.Seated.{TableId}
use Rattle.nc_gens.specs.Seen.{PassState, KeeperState, first_pass, new_passes, first_keeper}
use Rattle.nc_text.specs.MarkedText.{MarkedText, unused_text}
use Rattle.nc_text.specs.Ready.{unmade_pages}
use Rattle.nc_region.specs.Region.{Region}
use Rattle.nc_script.specs.Serving.{new_script}
use Rattle.nc_script.specs.Script.{ScriptSeat, Staying, Left}
use Rattle.nc_script.specs.machinery.Session.{SeatsState, SessionState, FitsSession, SeatFits, script_of}
use Rattle.nc_gens.proofs.Offered.{length-new_passes}

-- what holds of each member and of one more
each_push : {X : Type 0} (P : X → Type 0) (xs : List X) (y d : X) → ((i : ℕ) → i < length xs → P (get_or xs i d)) → P y → (i : ℕ)
    → i < length xs + 1
    → P (get_or (xs ++ y ∷ []) i d)
each_push P [] y d h p zero l = p
each_push P [] y d h p (suc i) l = absurd (omega (arith, l))
each_push P (x ∷ xs) y d h p zero l = h 0 (omega arith)
each_push P (x ∷ xs) y d h p (suc i) l = each_push P xs y d (λ j m. h (suc j) (omega (arith, m))) p i (omega (arith, l))

-- the word of each first pass is 0
first_words : (table : TableId) (n i : ℕ) → i < n → SeatFits 0 0 (get_or (map (λ (p : PassState). Some p)
    (new_passes table n)) i None) 0 (Staying 0)
first_words table zero i l = absurd (omega (arith, l))
first_words table (suc n) i l =
    let first = map (λ (p : PassState). Some p) (new_passes table n) in
    let long : length first ≡ n = length-map (new_passes table n) (λ (p : PassState). Some p) ∙ length-new_passes table n in
    subst (λ (ps : List (Option PassState)). SeatFits 0 0 (get_or ps i None) 0 (Staying 0))
    (sym (map-append (λ (p : PassState). Some p) (new_passes table n) (first_pass table n ∷ [])))
    (each_push (λ (p : Option PassState). SeatFits 0 0 p 0 (Staying 0)) first (Some (first_pass table n)) None
    (λ j m. first_words table n j (omega (arith, m, long))) (refl, refl, omega arith, omega arith) i (omega (arith, l, long)))

-- a session over a new region
abbrev pub first_state : MarkedText → List Bool → TableId → ℕ → SessionState
first_state marked made table n = record {
  region = record { marked = marked; made = made; chunks = []; keeper = first_keeper table n; logged = [] };
  seats = record { table = table; passes = map (λ (p : PassState). Some p) (new_passes table n) };
}

-- the seats of a session over a new region are all there, with the number 0
pub first_fits : (marked : MarkedText) (made : List Bool) (table : TableId) (n : ℕ) → 1 ≤ n
    → FitsSession (first_state marked made table n) (replicate n (Staying 0)) 0
first_fits marked made table n some =
    let long = length-replicate n (Staying 0) in
    record {
      in_range = omega arith;
      current = omega arith;
      stamps = tt;
      seats_fit = record {
        some = omega (arith, long, some);
        passes_long = length-map (new_passes table n) (λ (p : PassState). Some p) ∙ (length-new_passes table n ∙ sym long);
        bounds_long = length-replicate {A = ℕ} n 0 ∙ sym long;
        each = λ i l.
            let inside : i < n = omega (arith, l, long) in
            subst (λ (b : ℕ). SeatFits 0 0 (get_or (map (λ (p : PassState). Some p) (new_passes table n)) i None) b
            (get_or (replicate n (Staying 0)) i (Left 0))) (sym (get_or-replicate {A = ℕ} n i 0 0 inside))
            (subst (λ (s : ScriptSeat). SeatFits 0 0 (get_or (map (λ (p : PassState). Some p) (new_passes table n)) i None) 0 s)
            (sym (get_or-replicate n i (Staying 0) (Left 0) inside)) (first_words table n i inside));
      };
    }

-- a region without chunks
abbrev new_region : MarkedText → List Bool → KeeperState → Region
new_region marked made keeper = record { marked = marked; made = made; chunks = []; keeper = keeper; logged = [] }

-- the seats of these passes
abbrev new_seats : TableId → List PassState → SeatsState
new_seats table passes = record { table = table; passes = map (λ (p : PassState). Some p) passes }

-- a session over a new region, whose keeper and passes were made with its table
module _ (region : Region) (seats : SeatsState) (bundles n : ℕ) (table : TableId) (keeper : KeeperState) (passes : List PassState)
    (some : 1 ≤ n) (keeper_is : keeper ≡ first_keeper table n) (passes_are : passes ≡ new_passes table n)
    (region_is : region ≡ new_region (unused_text (0x10000 + 32 * bundles)) (unmade_pages (0x10000 + 32 * bundles)) keeper)
    (seats_are : seats ≡ new_seats table passes) where
  -- a session over a new region stands for the first state of a script
  first_script : script_of region (replicate n (Staying 0)) 0 ≡ new_script bundles n
  first_script = grind (arith, common_steps, region_is, keeper_is)

  -- a session over a new region has all seats, with the number 0
  first_session : FitsSession (record { region = region; seats = seats }) (replicate n (Staying 0)) 0
  first_session =
      let marked = unused_text (0x10000 + 32 * bundles) in
      let made = unmade_pages (0x10000 + 32 * bundles) in
      let region_at = region_is
      ∙ ap (λ (k : KeeperState). new_region marked made k) keeper_is in
      let seats_at = seats_are
      ∙ ap (λ (ps : List PassState). new_seats table ps) passes_are in
      subst (λ (s : SessionState). FitsSession s (replicate n (Staying 0)) 0)
      (λ j. record { region = sym region_at j; seats = sym seats_at j }) (first_fits marked made table n some)

  -- the session begins a run of a script
  pub begins_run : (session : SessionState) → session ≡ record { region = region; seats = seats }
      → (script_of session.region (replicate n (Staying 0)) 0 ≡ new_script bundles n) × FitsSession session (replicate n (Staying 0)) 0
  begins_run session is =
      subst (λ (s : SessionState). (script_of s.region (replicate n (Staying 0)) 0 ≡ new_script bundles n)
      × FitsSession s (replicate n (Staying 0)) 0) (sym is) (first_script, first_session)
