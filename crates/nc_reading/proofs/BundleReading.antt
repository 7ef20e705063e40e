-- A bundle that the automaton reads to its end is read by the same steps.
use Rattle.std.proofs.Common.{◌≡◌, ◌≢◌, ℕ, zero, suc, ◌+◌, ◌-◌, ◌/◌, ◌%◌, ◌<◌, ◌≤◌, Bool, true, false, List, [], ◌∷◌, ◌++◌, length, take, drop, get_or, slice_index, replicate, nat_lt, get_or-append-add, get_or-take, get_or-drop, take-append-drop}
use Rattle.std.proofs.Common.{refl, sym, subst, ◌∙◌, ap, arith, inl, inr, append_assoc, append-nil, Option, Some, None, ◌==◌, cond, All, eqb-true, ne_eqb, eq-eqb}
use Rattle.std.proofs.lemmas.Bool.{cases_lt, le-ltb, lt-ltb}
use Rattle.std.proofs.lemmas.List.{length-append, drop-drop, drop_at, get_or_default, get_or_append_left, nil_from_length, take_more, replicate-append-replicate}
use Rattle.nc_decode.specs.declared.automaton.TheConstants.{STATES, END, AFTER_PAIR}
use Rattle.nc_decode.specs.declared.instruction.Instr.{Instr}
use Rattle.nc_decode.specs.Automaton.{next_state, masked_at, LeadsToEnd, Ends}
use Rattle.nc_decode.specs.Spelling.{IsAtFront}
use Rattle.nc_decode.specs.Transfers.{is_indirect}
use Rattle.nc_decode.proofs.Offered.{spells_some, reads_by_states, none_is_paired, next_small}
use Rattle.nc_base.proofs.Offered.{cond_is_true, cond_is_false}
use Rattle.nc_vet.specs.States.{states_after, bundle_bytes, AreBundleStates}
use Rattle.nc_vet.proofs.Offered.{front_cut, length-states_after, bundle_size}
use Rattle.nc_reading.specs.declared.class.Class.{Class}
use Rattle.nc_reading.specs.declared.class.Class.TheVariants.{Inside, Entry, Second}
use Rattle.nc_reading.specs.declared.steps.Found.TheVariants.{Sound}
use Rattle.nc_reading.specs.declared.steps.Step.{Step}
use Rattle.nc_reading.specs.Reading.{IsStep, class_of, step_classes, masked_by}
use Rattle.nc_reading.specs.machinery.Seen.{HasSeenTo, HasFilled}
use Rattle.nc_reading.specs.machinery.FastPath.{class_by, classes_by, bundle_classes}
use Rattle.nc_reading.proofs.ReadSteps.{extent_of, one_step, some_after}

-- the state after all of some bytes
abbrev last_state : ℕ → List ℕ → ℕ
last_state s [] = s
last_state s (b ∷ bs) = last_state (next_state s b) bs

-- the state after all of some bytes is the last of the states after them
last_of : (s : ℕ) (bs : List ℕ) (k : ℕ) → k + 1 ≡ length bs → get_or (states_after s bs) k 0 ≡ last_state s bs
last_of s [] k e = absurd (omega (arith, e))
last_of s (b ∷ []) zero e = refl
last_of s (b ∷ []) (suc k) e = absurd (omega (arith, e))
last_of s (b ∷ c ∷ bs) zero e = absurd (omega (arith, e))
last_of s (b ∷ c ∷ bs) (suc k) e = last_of (next_state s b) (c ∷ bs) k (omega (arith, e))

-- numbers that are bytes
abbrev pub AreBytes : List ℕ → Type 0
AreBytes bs = (k : ℕ) → k < length bs → get_or bs k 0 < 256

-- ---- one instruction

-- the first bytes that lead from a state to one after an instruction
record FirstEnd (m : ℕ) (bs : List ℕ) : Type 0 where
  byte : ℕ
  more : List ℕ
  back : List ℕ
  end : ℕ
  parts : bs ≡ byte ∷ (more ++ back)
  leads : LeadsToEnd m (byte ∷ more) end
  last : last_state end back ≡ last_state m bs
  ended : END ≤ end
  small : end < STATES

-- the first byte alone leads there
ends_here : (m b : ℕ) (back : List ℕ) → END ≤ next_state m b → FirstEnd m (b ∷ back)
ends_here m b back ended = record {
  byte = b;
  more = [];
  back = back;
  end = next_state m b;
  parts = refl;
  leads = (refl, ended);
  last = refl;
  ended = ended;
  small = next_small m b;
}

first_end : (m : ℕ) (bs : List ℕ) → 0 < length bs → END ≤ last_state m bs → FirstEnd m bs
first_end m [] some e = absurd (omega (arith, some))
first_end m (b ∷ []) some e = ends_here m b [] e
first_end m (b ∷ c ∷ bs) some e = elim (cases_lt (next_state m b) END) [
  | inl inside ↦
      (let r = first_end (next_state m b) (c ∷ bs) (omega arith) e in
      record {
        byte = b;
        more = r.byte ∷ r.more;
        back = r.back;
        end = r.end;
        parts = ap (λ (z : List ℕ). b ∷ z) r.parts;
        leads = (inside, r.leads);
        last = r.last;
        ended = r.ended;
        small = r.small;
      })
  | inr ended ↦ ends_here m b (c ∷ bs) ended
]

-- the class of a byte inside an instruction
inside_by : (s n : ℕ) → s < END → class_by s n ≡ Inside
inside_by s n lt = cond_is_true (nat_lt s END) Inside (cond (n == AFTER_PAIR) Second Entry) (lt-ltb s END lt)

-- the classes of an instruction's later bytes
inside_classes : (s e : ℕ) (front back : List ℕ) → s < END → LeadsToEnd s front e
    → classes_by s (states_after s (front ++ back)) ≡ replicate (length front) Inside ++ classes_by e (states_after e back)
inside_classes s e [] back lt l = absurd l
inside_classes s e (b ∷ []) back lt l =
    ap (λ (x : Class). x ∷ classes_by (next_state s b) (states_after (next_state s b) back))
    (inside_by s (slice_index (states_after (next_state s b) back) 0) lt)
    ∙ ap (λ (n : ℕ). Inside ∷ classes_by n (states_after n back)) (sym l.0)
inside_classes s e (b ∷ c ∷ bs) back lt l =
    ap (λ (x : Class). x ∷ classes_by (next_state s b) (states_after (next_state s b) (c ∷ (bs ++ back))))
    (inside_by s (slice_index (states_after (next_state s b) (c ∷ (bs ++ back))) 0) lt)
    ∙ ap (λ (z : List Class). Inside ∷ z) (inside_classes (next_state s b) e (c ∷ bs) back l.0 l.1)

-- no indirect transfer ends with the byte after an instruction
never_paired : (s : ℕ) (bs : List ℕ) → END ≤ s → s < STATES → AreBytes bs → (slice_index (states_after s bs) 0 == AFTER_PAIR) ≡ false
never_paired s [] low small bytes = refl
never_paired s (c ∷ bs) low small bytes = ne_eqb (next_state s c) AFTER_PAIR (none_is_paired s c low small (bytes 0 (omega arith)))

-- an instruction is an indirect transfer if the state after its second byte says so
pair_test : (m e b : ℕ) (front back : List ℕ) (i : Instr) → END ≤ m → m < STATES → AreBytes (b ∷ (front ++ back))
    → LeadsToEnd m (b ∷ front) e → Ends m e (b ∷ front) i
    → (slice_index (states_after (next_state m b) (front ++ back)) 0 == AFTER_PAIR) ≡ is_indirect i.flow
pair_test m e b [] back i low small bytes l ends =
    never_paired (next_state m b) back (omega (arith, l.0, l.1)) (next_small m b) (λ k lt. bytes (suc k) (omega (arith, lt)))
    ∙ sym (ends.indirect ∙ ne_eqb e AFTER_PAIR (λ h. none_is_paired m b low small (bytes 0 (omega arith)) (sym l.0 ∙ h)))
pair_test m e b (c ∷ []) back i low small bytes l ends = ap (λ (n : ℕ). n == AFTER_PAIR) (sym l.1.0) ∙ sym ends.indirect
pair_test m e b (c ∷ d ∷ front) back i low small bytes l ends =
    ne_eqb (next_state (next_state m b) c) AFTER_PAIR (λ h. omega (arith, h, l.1.0))
    ∙ sym (ends.indirect ∙ ne_eqb e AFTER_PAIR (λ h. omega (arith, (ends.paired h).1)))

-- the classes of an instruction
first_classes : (m e b : ℕ) (front back : List ℕ) (i : Instr) → END ≤ m → m < STATES → AreBytes (b ∷ (front ++ back))
    → LeadsToEnd m (b ∷ front) e → Ends m e (b ∷ front) i
    → classes_by m (states_after m (b ∷ (front ++ back)))
    ≡ class_of (Sound i) ∷ (replicate (length front) Inside ++ classes_by e (states_after e back))
first_classes m e b front back i low small bytes l ends =
    let s = next_state m b in
    let n = slice_index (states_after s (front ++ back)) 0 in
    ap (λ (x : Class). x ∷ classes_by s (states_after s (front ++ back)))
    (cond_is_false (nat_lt m END) Inside (cond (n == AFTER_PAIR) Second Entry) (le-ltb m END low)
    ∙ ap (λ (t : Bool). cond t Second Entry) (pair_test m e b front back i low small bytes l ends))
    ∙ ap (λ (z : List Class). class_of (Sound i) ∷ z) (later front l)
  where
    later : (xs : List ℕ) → LeadsToEnd m (b ∷ xs) e
        → classes_by (next_state m b) (states_after (next_state m b) (xs ++ back)) ≡ replicate (length xs) Inside ++ classes_by e (states_after e back)
    later [] h = ap (λ (k : ℕ). classes_by k (states_after k back)) (sym h.0)
    later (c ∷ xs) h = inside_classes (next_state m b) e (c ∷ xs) back h.0 h.1

-- ---- all instructions of a bundle

-- the step over an instruction
abbrev over : Instr → ℕ → Step
over i n = record { found = Sound i; len = n; whole = true }

-- what the register masked next is, in the same bundle and in another
masked_here : (i : Instr) (n at : ℕ) → at / 32 ≡ (at + n) / 32 → masked_by at (over i n) ≡ i.masks
masked_here i n at e = cond_is_true (at / 32 == (at + n) / 32) i.masks None (eq-eqb (at / 32) ((at + n) / 32) e)

masked_there : (i : Instr) (n at : ℕ) → at / 32 ≢ (at + n) / 32 → masked_by at (over i n) ≡ None
masked_there i n at e = cond_is_false (at / 32 == (at + n) / 32) i.masks None (ne_eqb (at / 32) ((at + n) / 32) e)

-- the rest of a bundle is read, from an instruction's first byte on
reads : (fuel : ℕ) (code : List ℕ) (at m : ℕ) (masked : Option ℕ) (done : List Class) (bs rest : List ℕ) → length bs ≤ fuel → 0 < length bs
    → drop at code ≡ bs ++ rest → at % 32 + length bs ≡ 32 → END ≤ m → m < STATES → END ≤ last_state m bs
    → ((r : ℕ) → masked_at m ≡ Some r → masked ≡ Some r) → AreBytes bs → drop at code ≢ [] → HasSeenTo code at masked done
    → HasSeenTo code (at + length bs) None (done ++ classes_by m (states_after m bs))
reads zero code at m masked done bs rest few some here whole low small last masks bytes left seen = absurd (omega (arith, few, some))
reads (suc fuel) code at m masked done bs rest few some here whole low small last masks bytes left seen =
    let w = first_end m bs some last in
    let front : List ℕ = w.byte ∷ w.more in
    let n : ℕ = length front in
    let size : length bs ≡ n + length w.back = ap (λ (z : List ℕ). length z) w.parts ∙ length-append front w.back in
    let are : AreBytes (w.byte ∷ (w.more ++ w.back)) = subst AreBytes w.parts bytes in
    let fits : All (λ x. x < 256) front = λ k d lt.
    (let is : get_or front k d ≡ get_or (front ++ w.back) k 0
    = get_or_default front k d 0 lt ∙ sym (get_or_append_left front w.back 0 k lt) in
    omega (arith, is, are k (omega (arith, lt, length-append front w.back)))) in
    let r = reads_by_states m w.end front low small fits w.leads in
    let i : Instr = r.0 in
    let len : i.len ≡ n = (spells_some front i r.1.spells).0 in
    let f : IsAtFront (drop at code) i = record {
      front = front;
      rest = w.back ++ rest;
      parts = here ∙ ap (λ (z : List ℕ). z ++ rest) w.parts ∙ append_assoc front w.back rest;
      spells = r.1.spells;
    } in
    let step : IsStep (32 - at % 32) masked (drop at code) (over i n) = record {
      finds = (
        front_cut (drop at code) i (32 - at % 32) f (omega (arith, len, size, whole)),
        λ indirect. masks i.reg (r.1.paired (eqb-true w.end AFTER_PAIR (sym r.1.indirect ∙ indirect))).0,
      );
      goes = rw (extent_of (drop at code) i n f (sym len)) (refl, refl);
    } in
    let now : HasSeenTo code (at + n) (masked_by at (over i n)) (done ++ step_classes (over i n))
    = one_step code at (at + n) (32 - at % 32) masked (masked_by at (over i n)) done (done ++ step_classes (over i n)) (over i n) seen left step refl
    (omega arith) refl refl refl in
    let classes : classes_by m (states_after m bs) ≡ step_classes (over i n) ++ classes_by w.end (states_after w.end w.back)
    = ap (λ (z : List ℕ). classes_by m (states_after m z)) w.parts
    ∙ first_classes m w.end w.byte w.more w.back i low small are w.leads r.1
    ∙ ap (λ (k : ℕ). class_of (Sound i) ∷ (replicate k Inside ++ classes_by w.end (states_after w.end w.back))) {x = length w.more} {y = n - 1}
    (omega arith) in
    let there : drop (at + n) code ≡ w.back ++ rest
    = sym (drop-drop n at code) ∙ ap (λ (z : List ℕ). drop n z) f.parts ∙ drop_at front (w.back ++ rest) n refl in
    let joined : done ++ (step_classes (over i n) ++ classes_by w.end (states_after w.end w.back)) ≡ done ++ classes_by m (states_after m bs)
    = ap (λ (z : List Class). done ++ z) (sym classes) in
    elim (cases_lt 0 (length w.back)) [
      | inl more ↦
          (let next = reads fuel code (at + n) w.end (masked_by at (over i n)) (done ++ step_classes (over i n)) w.back rest
          (omega (arith, few, size)) more there (omega (arith, whole, size, more)) w.ended w.small
          (subst (λ (k : ℕ). END ≤ k) (sym w.last) last)
          (λ reg h. masked_here i n at (omega (arith, whole, size, more)) ∙ r.1.masks reg h)
          (λ k lt. omega (arith, get_or-append-add front w.back k 0, are (n + k) (omega (arith, lt, length-append front w.back))))
          (λ e. omega (arith, more, length-append w.back rest, ap (λ (z : List ℕ). length z) (sym there ∙ e)))
          now in
          subst (λ (k : ℕ). HasSeenTo code k None (done ++ classes_by m (states_after m bs))) {x = (at + n) + length w.back} (omega (arith, size))
          (subst (HasSeenTo code ((at + n) + length w.back) None)
          (append_assoc done (step_classes (over i n)) (classes_by w.end (states_after w.end w.back)) ∙ joined) next))
      | inr none ↦
          (let nothing : classes_by w.end (states_after w.end w.back) ≡ []
          = ap (λ (z : List ℕ). classes_by w.end (states_after w.end z)) (nil_from_length w.back (omega (arith, none))) in
          subst (λ (k : ℕ). HasSeenTo code k None (done ++ classes_by m (states_after m bs))) {x = at + n} (omega (arith, size, none))
          (subst (λ (o : Option ℕ). HasSeenTo code (at + n) o (done ++ classes_by m (states_after m bs)))
          (masked_there i n at (λ e. omega (arith, e, whole, size, none)))
          (subst (HasSeenTo code (at + n) (masked_by at (over i n)))
          (ap (λ (z : List Class). done ++ z) (sym (append-nil (step_classes (over i n))) ∙ ap (λ (z : List Class). step_classes (over i n) ++ z) (sym nothing))
          ∙ joined) now)))
    ]

-- a bundle is read by the automaton to its end
pub bundle_read : (code : List ℕ) (at : ℕ) (masked : Option ℕ) (done : List Class) → at % 32 ≡ 0 → at + 32 ≤ length code
    → ((k : ℕ) → get_or code k 0 < 256) → END ≤ last_state END (bundle_bytes code at) → HasSeenTo code at masked done
    → HasSeenTo code (at + 32) None (done ++ bundle_classes code at)
bundle_read code at masked done start room fits last seen =
    let bs = bundle_bytes code at in
    let long : length bs ≡ 32 = bundle_size code at room in
    subst (λ (k : ℕ). HasSeenTo code k None (done ++ bundle_classes code at)) {x = at + length bs} (omega (arith, long))
    (reads 32 code at END masked done bs (drop 32 (drop at code)) (omega (arith, long)) (omega (arith, long)) (sym (take-append-drop 32 (drop at code)))
    (omega (arith, long, start)) (omega arith) (omega arith) last (λ r h. absurd cc)
    (λ k lt. omega (arith, get_or-take 32 (drop at code) k 0 (omega (arith, lt, long)), get_or-drop at code k 0, fits (at + k)))
    (some_after code at (omega (arith, room))) seen)

-- the classes of a bundle that is read to its end are written
pub bundle_filled : (code : List ℕ) (at : ℕ) (masked : Option ℕ) (classes new : List Class) → at % 32 ≡ 0 → at + 32 ≤ length code
    → ((k : ℕ) → get_or code k 0 < 256) → END ≤ get_or (states_after END (bundle_bytes code at)) 31 0
    → ((front after : List Class) → length front ≡ at → classes ≡ front ++ (replicate 32 Inside ++ after)
    → new ≡ front ++ (bundle_classes code at ++ after))
    → HasFilled code at masked classes → HasFilled code (at + 32) None new
bundle_filled code at masked classes new start room fits last put h =
    let more = length code - (at + 32) in
    let bs = bundle_bytes code at in
    let ended : END ≤ last_state END bs
    = subst (λ (s : ℕ). END ≤ s) (last_of END bs 31 (omega (arith, bundle_size code at room))) last in
    record {
      done = h.done ++ bundle_classes code at;
      seen = bundle_read code at masked h.done start room fits ended h.seen;
      is = put h.done (replicate more Inside) h.seen.each
          (h.is ∙ ap (λ (k : ℕ). h.done ++ replicate k Inside) {x = length code - at} {y = 32 + more} (omega (arith, room))
          ∙ ap (λ (z : List Class). h.done ++ z) (sym (replicate-append-replicate 32 more Inside)))
          ∙ sym (append_assoc h.done (bundle_classes code at) (replicate more Inside));
    }

-- ---- the classes of a bundle

-- there are as many classes as states
length-classes_by : (s : ℕ) (states : List ℕ) → length (classes_by s states) ≡ length states
length-classes_by s [] = refl
length-classes_by s (t ∷ states) = ap (λ (n : ℕ). suc n) (length-classes_by t states)

-- there are as many classes as bytes
pub length-classes : (code : List ℕ) (at : ℕ) → at + 32 ≤ length code → length (bundle_classes code at) ≡ 32
length-classes code at room =
    length-classes_by END (states_after END (bundle_bytes code at)) ∙ length-states_after END (bundle_bytes code at) ∙ bundle_size code at room

-- a list with a 0 after it
before_zero : (xs : List ℕ) (k : ℕ) → get_or (xs ++ 0 ∷ []) k 0 ≡ get_or xs k 0
before_zero [] zero = refl
before_zero [] (suc k) = refl
before_zero (x ∷ xs) zero = refl
before_zero (x ∷ xs) (suc k) = before_zero xs k

-- the states of a bundle, without the 0 after them
pub state_at : (code : List ℕ) (at : ℕ) (states : List ℕ) (k : ℕ) → AreBundleStates code at states
    → get_or states k 0 ≡ get_or (END ∷ states_after END (bundle_bytes code at)) k 0
state_at code at states k h = ap (λ (z : List ℕ). get_or z k 0) h ∙ before_zero (END ∷ states_after END (bundle_bytes code at)) k

-- the class of a byte, by what stands beside it
class_at : (s : ℕ) (states : List ℕ) (k : ℕ) → k < length states
    → get_or (classes_by s states) k Inside ≡ class_by (get_or (s ∷ states) k 0) (get_or (s ∷ states) (k + 2) 0)
class_at s [] k lt = absurd (omega (arith, lt))
class_at s (t ∷ states) zero lt = refl
class_at s (t ∷ states) (suc k) lt =
    class_at t states k (omega (arith, lt))
    ∙ ap (λ (n : ℕ). class_by (get_or (t ∷ states) k 0) (get_or (s ∷ t ∷ states) n 0)) {x = suc (k + 2)} {y = suc k + 2} (omega arith)

-- one class more
pub class_more : (code : List ℕ) (at : ℕ) (states : List ℕ) (k before next : ℕ) → at + 32 ≤ length code → AreBundleStates code at states → k < 32
    → before ≡ get_or states k 0 → next ≡ get_or states (k + 2) 0
    → take k (bundle_classes code at) ++ class_by before next ∷ [] ≡ take (k + 1) (bundle_classes code at)
class_more code at states k before next room h lt b n =
    let all = bundle_classes code at in
    let after = states_after END (bundle_bytes code at) in
    ap (λ (p : ℕ). take k all ++ class_by p next ∷ []) (b ∙ state_at code at states k h)
    ∙ ap (λ (q : ℕ). take k all ++ class_by (get_or (END ∷ after) k 0) q ∷ []) (n ∙ state_at code at states (k + 2) h)
    ∙ ap (λ (v : Class). take k all ++ v ∷ [])
    (sym (class_at END after k (omega (arith, lt, length-states_after END (bundle_bytes code at), bundle_size code at room))))
    ∙ sym (take_more all k Inside (omega (arith, lt, length-classes code at room)))

-- what is masked at the place where the reading begins, and after it
pub masked_at_start : (at : ℕ) (masked : Option ℕ) → masked ≡ cond (at == at) masked None
masked_at_start at masked = sym (cond_is_true (at == at) masked None (eq-eqb at at refl))

pub none_masked_past : (at n : ℕ) (masked : Option ℕ) → at < n → cond (n == at) masked None ≡ None
none_masked_past at n masked lt = cond_is_false (n == at) masked None (ne_eqb n at (λ e. omega (arith, e, lt)))
