-- The entries logged, one call after another.
use Rattle.std.proofs.Common.{◌≡◌, ℕ, ◌+◌, ◌<◌, Bool, true, false, List, [], ◌∷◌, ◌++◌, length, get_or, take, replicate}
use Rattle.std.proofs.Common.{refl, ◌∙◌, sym, ap, subst, append_assoc}
use Rattle.std.proofs.lemmas.List.{map-append, append-nil}
use Rattle.nc_decode.specs.declared.instruction.Mark.{Mark}
use Rattle.nc_acts.specs.declared.acts.Act.{Act}
use Rattle.nc_acts.specs.declared.acts.Act.TheVariants.{Put, MarkSpan, Bump}
use Rattle.nc_acts.specs.declared.acts.Entry.{Entry}
use Rattle.nc_acts.specs.declared.acts.Entry.TheVariants.{Did, Serialized}
use Rattle.nc_acts.specs.Acts.{puts_where, is_inside, is_start, is_marked_at, is_unmarked_at, acts_of_create, acts_of_delete}
use Rattle.nc_acts.specs.Log.{Logs, only_acts, acts_in, log_of_create, log_of_delete}
use Rattle.nc_acts.proofs.Chosen.{next_put, next_passed}

-- a log that stays has no entry logged
pub logs_none : (logged : List Entry) → Logs logged logged []
logs_none logged = sym (append-nil logged)

-- entries that are logged after others are logged with them
pub logs_more : (a b c : List Entry) (xs ys : List Entry) → Logs a b xs → Logs b c ys → Logs a c (xs ++ ys)
logs_more a b c xs ys first second = second ∙ (ap (λ (z : List Entry). z ++ ys) first ∙ append_assoc a xs ys)

-- entries after some of which a serialization is the last
pub logs_after : (a b c : List Entry) (xs ys : List Entry) → Logs a b (xs ++ Serialized ∷ []) → Logs b c ys
    → Logs a c (xs ++ Serialized ∷ ys)
logs_after a b c xs ys first second =
    subst (λ (z : List Entry). Logs a c z) (append_assoc xs (Serialized ∷ []) ys) (logs_more a b c (xs ++ Serialized ∷ []) ys first second)

-- entries that are logged before a serialization are logged with it behind them
pub ends_serialized : (a b : List Entry) (xs : List Entry) → Logs a b xs → (c : List Entry) → Logs b c (Serialized ∷ [])
    → Logs a c (xs ++ Serialized ∷ [])
ends_serialized a b xs first c last = logs_more a b c xs (Serialized ∷ []) first last

-- acts after acts, with no serialization between
pub logs_acts : (a b c : List Entry) (xs ys : List Act) → Logs a b (only_acts xs) → Logs b c (only_acts ys)
    → Logs a c (only_acts (xs ++ ys))
logs_acts a b c xs ys first second =
    subst (λ (z : List Entry). Logs a c z) (sym (map-append Did xs ys)) (logs_more a b c (only_acts xs) (only_acts ys) first second)

-- the entries of one more byte
pub log_put : (front : List Entry) (chosen : ℕ → Bool) (base : ℕ) (bytes : List ℕ) (i : ℕ) (a b c : List Entry) → i < length bytes
    → chosen (base + i) ≡ true → Logs a b (front ++ only_acts (puts_where chosen base (take i bytes)))
    → Logs b c (Did (Put (base + i) (get_or bytes i 0)) ∷ []) → Logs a c (front ++ only_acts (puts_where chosen base (take (i + 1) bytes)))
log_put front chosen base bytes i a b c lt is first second =
    let acts = puts_where chosen base (take i bytes) in
    let one : List Act = Put (base + i) (get_or bytes i 0) ∷ [] in
    let whole : (front ++ only_acts acts) ++ only_acts one ≡ front ++ only_acts (puts_where chosen base (take (i + 1) bytes)) =
    append_assoc front (only_acts acts) (only_acts one)
    ∙ ap (λ (z : List Entry). front ++ z) (sym (map-append Did acts one))
    ∙ ap (λ (z : List Act). front ++ only_acts z) (sym (next_put chosen base bytes i lt is)) in
    subst (λ (z : List Entry). Logs a c z) whole (logs_more a b c (front ++ only_acts acts) (only_acts one) first second)

-- a place that is not chosen logs nothing
pub log_passed : (chosen : ℕ → Bool) (base : ℕ) (bytes : List ℕ) (i : ℕ) (a b : List Entry) → i < length bytes
    → chosen (base + i) ≡ false → Logs a b (only_acts (puts_where chosen base (take i bytes)))
    → Logs a b (only_acts (puts_where chosen base (take (i + 1) bytes)))
log_passed chosen base bytes i a b lt not first =
    subst (λ (acts : List Act). Logs a b (only_acts acts)) (sym (next_passed chosen base bytes i lt not)) first

-- the acts of two logs, one after the other
pub acts_join : (xs ys : List Entry) → acts_in (xs ++ ys) ≡ acts_in xs ++ acts_in ys
acts_join [] ys = refl
acts_join (Did act ∷ rest) ys = ap (λ (z : List Act). act ∷ z) (acts_join rest ys)
acts_join (Serialized ∷ rest) ys = acts_join rest ys

-- acts that are logged with no serialization are these acts
pub acts_back : (acts : List Act) → acts_in (only_acts acts) ≡ acts
acts_back [] = refl
acts_back (act ∷ rest) = ap (λ (z : List Act). act ∷ z) (acts_back rest)

-- the acts of a log that begins with some acts are these and those of the rest
pub acts_before : (acts : List Act) (ys : List Entry) → acts_in (only_acts acts ++ ys) ≡ acts ++ acts_in ys
acts_before acts ys = acts_join (only_acts acts) ys ∙ ap (λ (z : List Act). z ++ acts_in ys) (acts_back acts)

-- what is logged tells its acts
pub told_logged : (before after entries : List Entry) (acts : List Act) → acts_in entries ≡ acts → Logs before after entries
    → acts_in after ≡ acts_in before ++ acts
told_logged before after entries acts are logs =
    ap acts_in logs ∙ (acts_join before entries ∙ ap (λ (z : List Act). acts_in before ++ z) are)

-- the acts in the log of a creation
pub created_acts : (base : ℕ) (code : List ℕ) → acts_in (log_of_create base code) ≡ acts_of_create base code
created_acts base code =
    acts_before (puts_where is_inside base code) (Serialized ∷ Did (MarkSpan base (length code)) ∷ only_acts (puts_where is_start base code))
    ∙ ap (λ (z : List Act). puts_where is_inside base code ++ MarkSpan base (length code) ∷ z) (acts_back (puts_where is_start base code))

-- the acts in the log of a deletion
pub deleted_acts : (marks : List Mark) (base len : ℕ) → acts_in (log_of_delete marks base len) ≡ acts_of_delete marks base len
deleted_acts marks base len =
    let first = puts_where (is_marked_at marks) base (replicate len 244) in
    let second = puts_where (is_unmarked_at marks) base (replicate len 244) in
    acts_before first (Serialized ∷ (only_acts second ++ Did Bump ∷ []))
    ∙ ap (λ (z : List Act). first ++ z) (acts_before second (Did Bump ∷ []))
