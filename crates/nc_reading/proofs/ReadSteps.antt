-- Code that is read step by step.
use Rattle.std.proofs.Common.{◌≡◌, ◌≢◌, ℕ, suc, ◌+◌, ◌-◌, ◌%◌, ◌<◌, ◌≤◌, List, [], ◌∷◌, ◌++◌, length, drop, set, refl, sym, subst, ◌∙◌, ap, arith}
use Rattle.std.proofs.Common.{replicate, slice_set, append_assoc, append-nil, Option, None, Some}
use Rattle.std.proofs.lemmas.List.{length-append, length-replicate, drop-drop, length-drop, drop_all, set_at, replicate-append-replicate}
use Rattle.nc_decode.specs.declared.instruction.Instr.{Instr}
use Rattle.nc_decode.specs.Spelling.{IsAtFront}
use Rattle.nc_decode.proofs.Offered.{exact}
use Rattle.std.proofs.lemmas.List.Concat.{flat_map-append}
use Rattle.nc_reading.specs.Lengths.{known_length}
use Rattle.nc_reading.specs.declared.class.Class.{Class}
use Rattle.nc_reading.specs.declared.class.Class.TheVariants.{Inside}
use Rattle.nc_reading.specs.declared.steps.Step.{Step}
use Rattle.nc_reading.specs.Reading.{extent, extent_by, ReadsFrom, IsReading, IsStep, masked_by, step_classes, classes_of, later_class, HasClasses}
use Rattle.nc_reading.specs.machinery.Seen.{HasSeenTo, HasFilled}

-- the extent of bytes with an instruction at their front
pub extent_of : (rest : List ℕ) (i : Instr) (n : ℕ) → IsAtFront rest i → n ≡ i.len → extent rest ≡ Some n
extent_of rest i n f e =
    ap (λ (o : Option Instr). extent_by o (known_length rest)) ((exact rest i).1 f) ∙ ap (λ (m : ℕ). Some m) (sym e)

-- after one step more the code has been read up to the end of the step
pub one_step : (code : List ℕ) (at next room : ℕ) (masked after : Option ℕ) (classes new : List Class) (s : Step) → HasSeenTo code at masked classes
    → drop at code ≢ [] → IsStep room masked (drop at code) s → room ≡ 32 - at % 32 → 1 ≤ s.len → new ≡ classes ++ step_classes s → after ≡ masked_by at s
    → next ≡ at + s.len → HasSeenTo code next after new
one_step code at next room masked after classes new s h left step is_room some e m to = record {
  steps = h.steps ++ s ∷ [];
  goes_on = λ more r.
      subst (IsReading code) (sym (append_assoc h.steps (s ∷ []) more))
      (h.goes_on (s ∷ more) (
        left,
        subst (λ (n : ℕ). IsStep n masked (drop at code) s) is_room step,
        subst (λ (z : List ℕ). ReadsFrom (at + s.len) (masked_by at s) z more)
            (ap (λ (n : ℕ). drop n code) to ∙ sym (drop-drop s.len at code))
            (subst (λ (n : ℕ). ReadsFrom n (masked_by at s) (drop next code) more) to
            (subst (λ (o : Option ℕ). ReadsFrom next o (drop next code) more) m r)),
      ));
  is = e ∙ ap (λ (z : List Class). z ++ step_classes s) h.is
      ∙ ap (λ (z : List Class). classes_of h.steps ++ z) (sym (append-nil (step_classes s)))
      ∙ sym (flat_map-append step_classes h.steps (s ∷ []));
  each = ap (λ (z : List Class). length z) e
      ∙ omega (arith, length-append classes (step_classes s), length-replicate (s.len - 1) (later_class s.whole), some, h.each, to);
}

-- before the last byte something is left
pub some_after : (code : List ℕ) (at : ℕ) → at < length code → drop at code ≢ []
some_after code at lt e = absurd (omega (arith, length-drop at code, ap (λ (z : List ℕ). length z) e, lt))

-- one class more is written
pub one_put : (front put after classes : List Class) (at k count : ℕ) (v : Class) → length front ≡ at → length put ≡ k → k < count
    → classes ≡ front ++ (put ++ (replicate (count - k) Inside ++ after))
    → set classes (at + k) v ≡ front ++ ((put ++ v ∷ []) ++ (replicate (count - (k + 1)) Inside ++ after))
one_put front put after classes at k count v n len lt e =
    let rest = replicate (count - (k + 1)) Inside ++ after in
    let long : length (front ++ put) ≡ at + k = omega (arith, n, len, length-append front put) in
    ap (λ (z : List Class). set z (at + k) v)
    (e ∙ ap (λ (m : ℕ). front ++ (put ++ (replicate m Inside ++ after))) {x = count - k} {y = suc (count - (k + 1))} (omega (arith, lt))
    ∙ sym (append_assoc front put (Inside ∷ rest)))
    ∙ set_at (front ++ put) Inside rest v (at + k) long ∙ simp append_assoc

-- before the first step all classes are `Inside`
pub none_filled_yet : (code : List ℕ) (classes : List Class) → classes ≡ replicate (length code) Inside → HasFilled code 0 None classes
none_filled_yet code classes e = record {
  done = [];
  seen = record { steps = []; goes_on = λ more h. h; is = refl; each = refl };
  is = e ∙ ap (λ (n : ℕ). replicate n Inside) {x = length code} {y = length code - 0} (omega arith);
}

-- the classes of one step more are written
pub one_filled : (code : List ℕ) (at next room : ℕ) (masked after : Option ℕ) (classes new : List Class) (s : Step) → HasFilled code at masked classes
    → drop at code ≢ [] → IsStep room masked (drop at code) s → room ≡ 32 - at % 32 → 1 ≤ s.len → at + s.len ≤ length code
    → ((before : List Class) (more : ℕ) → length before ≡ at → classes ≡ before ++ replicate (s.len + more) Inside
    → new ≡ before ++ (step_classes s ++ replicate more Inside))
    → after ≡ masked_by at s → next ≡ at + s.len → HasFilled code next after new
one_filled code at next room masked after classes new s h left step is_room some within put m to =
    let more = length code - next in record {
      done = h.done ++ step_classes s;
      seen = one_step code at next room masked after h.done (h.done ++ step_classes s) s h.seen left step is_room some refl m to;
      is = put h.done more h.seen.each
          (h.is ∙ ap (λ (n : ℕ). h.done ++ replicate n Inside) {x = length code - at} {y = s.len + more} (omega (arith, within, to)))
          ∙ sym (append_assoc h.done (step_classes s) (replicate more Inside));
    }

-- all classes are written
pub all_filled : (code : List ℕ) (at : ℕ) (masked : Option ℕ) (classes : List Class) → HasFilled code at masked classes → at ≡ length code
    → HasClasses code classes
all_filled code at masked classes h e =
    let none : drop at code ≡ [] = drop_all at code (omega (arith, e)) in
    let all : classes ≡ h.done = h.is ∙ ap (λ (n : ℕ). h.done ++ replicate n Inside) {x = length code - at} {y = 0} (omega (arith, e)) ∙ append-nil h.done in
    record {
      steps = h.seen.steps;
      reading = subst (IsReading code) (append-nil h.seen.steps) (h.seen.goes_on [] none);
      is = all ∙ h.seen.is;
      each = ap (λ (z : List Class). length z) all ∙ h.seen.each ∙ e;
    }

-- the class of a step's first byte is written, and the others are `Inside`
pub first_put : (classes before : List Class) (at n more : ℕ) (first : Class) → length before ≡ at → 1 ≤ n
    → classes ≡ before ++ replicate (n + more) Inside
    → slice_set classes at first ≡ before ++ first ∷ (replicate (n - 1) Inside ++ replicate more Inside)
first_put classes before at n more first len some e =
    ap (λ (z : List Class). slice_set z at first)
    (e ∙ ap (λ (m : ℕ). before ++ replicate m Inside) {x = n + more} {y = suc ((n - 1) + more)} (omega (arith, some)))
    ∙ set_at before Inside (replicate ((n - 1) + more) Inside) first at len
    ∙ ap (λ (z : List Class). before ++ first ∷ z) (sym (replicate-append-replicate (n - 1) more Inside))
