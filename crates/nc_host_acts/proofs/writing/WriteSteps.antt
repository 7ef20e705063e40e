-- One step of writing puts, and all of them.
use Rattle.std.proofs.Common.{◌≡◌, ℕ, ◌+◌, ◌<◌, ◌≤◌, Bool, true, false, List, [], ◌∷◌, ◌++◌, length, get_or, set, take, refl, ap, arith, sym, subst}
use Rattle.std.proofs.Common.{◌∙◌, append_assoc}
use Rattle.std.proofs.lemmas.List.{length-set, length-append, append-nil, map-append}
use Rattle.std.proofs.Math.Seq.{take-length}
use Rattle.nc_acts.specs.declared.acts.Act.{Act}
use Rattle.nc_acts.specs.declared.acts.Act.TheVariants.{Put}
use Rattle.nc_acts.specs.declared.acts.Entry.{Entry}
use Rattle.nc_acts.specs.declared.acts.Entry.TheVariants.{Did}
use Rattle.nc_acts.specs.Acts.{puts_where}
use Rattle.nc_acts.specs.Log.{only_acts}
use Rattle.nc_acts.proofs.Offered.{next_put, next_passed}
use Rattle.nc_host_acts.specs.declared.act.NcAct.{NcAct}
use Rattle.nc_host_acts.specs.Shown.{act_of, entry_of}
use Rattle.nc_host_acts.specs.Written.{HoldsLog, AddsEntries}
use Rattle.nc_host_acts.specs.machinery.Writing.{HasPutUpTo}
use Rattle.nc_host_acts.proofs.writing.Buffers.{write_one}
use Rattle.nc_host_acts.proofs.writing.PutLists.{put_fits}

-- nothing has been looked at
pub put_none : (chosen : ℕ → Bool) (at : ℕ) (bytes : List ℕ) (initial : List NcAct) (from : ℕ)
    → HasPutUpTo chosen at bytes initial from 0 initial from
put_none chosen at bytes initial from = record {
  len = refl;
  counted = omega arith;
  written = λ start log h. subst (λ (z : List Entry). HoldsLog start initial from z) (sym (append-nil log)) h;
}

-- there is room for the put at the next place, where it is chosen
pub next_fits : (chosen : ℕ → Bool) (at : ℕ) (bytes : List ℕ) (initial : List NcAct) (from n : ℕ) (acts : List NcAct) (count : ℕ)
    → HasPutUpTo chosen at bytes initial from n acts count → n < length bytes → chosen (at + n) ≡ true
    → from + length (puts_where chosen at bytes) ≤ length initial → count < length acts
next_fits chosen at bytes initial from n acts count h lt is room =
    omega (arith, h.len, h.counted, put_fits chosen at bytes n from (length initial) lt is room)

-- the next byte is put
pub put_next : (chosen : ℕ → Bool) (at : ℕ) (bytes : List ℕ) (initial : List NcAct) (from n : ℕ) (acts : List NcAct) (count : ℕ)
    → HasPutUpTo chosen at bytes initial from n acts count → n < length bytes → chosen (at + n) ≡ true → count < length acts
    → HasPutUpTo chosen at bytes initial from (n + 1) (set acts count (act_of (Put (at + n) (get_or bytes n 0)))) (count + 1)
put_next chosen at bytes initial from n acts count h lt is fits =
    let more : puts_where chosen at (take (n + 1) bytes) ≡ puts_where chosen at (take n bytes) ++ Put (at + n) (get_or bytes n 0) ∷ [] =
    next_put chosen at bytes n lt is in
    let entries : only_acts (puts_where chosen at (take (n + 1) bytes))
    ≡ only_acts (puts_where chosen at (take n bytes)) ++ Did (Put (at + n) (get_or bytes n 0)) ∷ [] =
    ap (λ (z : List Act). only_acts z) more ∙ map-append Did (puts_where chosen at (take n bytes)) (Put (at + n) (get_or bytes n 0) ∷ []) in
    record {
      len = length-set acts count (act_of (Put (at + n) (get_or bytes n 0))) ∙ h.len;
      counted = omega (
        arith,
        h.counted,
        ap (λ (z : List Act). length z) more,
        length-append (puts_where chosen at (take n bytes)) (Put (at + n) (get_or bytes n 0) ∷ []),
      );
      written = λ start log w.
          subst (λ (z : List Entry). HoldsLog start (set acts count (act_of (Put (at + n) (get_or bytes n 0)))) (count + 1) z)
          (append_assoc log (only_acts (puts_where chosen at (take n bytes))) (Did (Put (at + n) (get_or bytes n 0)) ∷ [])
          ∙ ap (λ (z : List Entry). log ++ z) (sym entries))
          (write_one start acts count (log ++ only_acts (puts_where chosen at (take n bytes))) (Did (Put (at + n) (get_or bytes n 0)))
          (h.written start log w) fits);
    }

-- the next byte is passed over
pub pass_next : (chosen : ℕ → Bool) (at : ℕ) (bytes : List ℕ) (initial : List NcAct) (from n : ℕ) (acts : List NcAct) (count : ℕ)
    → HasPutUpTo chosen at bytes initial from n acts count → n < length bytes → chosen (at + n) ≡ false
    → HasPutUpTo chosen at bytes initial from (n + 1) acts count
pass_next chosen at bytes initial from n acts count h lt is =
    let same : puts_where chosen at (take (n + 1) bytes) ≡ puts_where chosen at (take n bytes) = next_passed chosen at bytes n lt is in
    record {
      len = h.len;
      counted = omega (arith, h.counted, ap (λ (z : List Act). length z) same);
      written = λ start log w.
          subst (λ (z : List Act). HoldsLog start acts count (log ++ only_acts z)) (sym same) (h.written start log w);
    }

-- all bytes have been looked at
pub record HasPutAll (chosen : ℕ → Bool) (at : ℕ) (bytes : List ℕ) (initial : List NcAct) (from : ℕ) (acts : List NcAct) (count : ℕ) : Type 0 where
  pub len : length acts ≡ length initial
  pub counted : count ≡ from + length (puts_where chosen at bytes)
  pub written : (start : List NcAct) (log : List Entry) → HoldsLog start initial from log
      → HoldsLog start acts count (log ++ only_acts (puts_where chosen at bytes))

pub put_all : (chosen : ℕ → Bool) (at : ℕ) (bytes : List ℕ) (initial : List NcAct) (from n : ℕ) (acts : List NcAct) (count : ℕ)
    → n ≡ length bytes → HasPutUpTo chosen at bytes initial from n acts count → HasPutAll chosen at bytes initial from acts count
put_all chosen at bytes initial from n acts count e h =
    let all : take n bytes ≡ bytes = ap (λ (k : ℕ). take k bytes) e ∙ take-length bytes in
    record {
      len = h.len;
      counted = subst (λ (z : List ℕ). count ≡ from + length (puts_where chosen at z)) all h.counted;
      written = λ start log w.
          subst (λ (z : List ℕ). HoldsLog start acts count (log ++ only_acts (puts_where chosen at z))) all (h.written start log w);
    }

-- a buffer that stays has no entry added
pub adds_none : (acts : List NcAct) (count : ℕ) → AddsEntries acts count acts count []
adds_none acts count = λ start log h. subst (λ (z : List Entry). HoldsLog start acts count z) (sym (append-nil log)) h

-- an entry written at the next place of a buffer is added
pub adds_one : (acts : List NcAct) (count : ℕ) (a : Entry) → count < length acts → AddsEntries acts count (set acts count (entry_of a)) (count + 1) (a ∷ [])
adds_one acts count a lt = λ start log h. write_one start acts count log a h lt

-- entries that are added after others are added with them
pub adds_both : (a b c : List NcAct) (n m k : ℕ) (xs ys : List Entry) → AddsEntries a n b m xs → AddsEntries b m c k ys → AddsEntries a n c k (xs ++ ys)
adds_both a b c n m k xs ys one two = λ start log h.
    subst (λ (z : List Entry). HoldsLog start c k z) (append_assoc log xs ys) (two start (log ++ xs) (one start log h))

-- one entry, in the words of a call
pub adds_put : (acts now : List NcAct) (n m : ℕ) (a : Entry) (x : NcAct) → now ≡ set acts n x → m ≡ n + 1 → x ≡ entry_of a → n < length acts
    → AddsEntries acts n now m (a ∷ [])
adds_put acts now n m a x e f g lt =
    subst (λ (z : List NcAct). AddsEntries acts n z m (a ∷ [])) (ap (λ (y : NcAct). set acts n y) (sym g) ∙ sym e)
    (subst (λ (k : ℕ). AddsEntries acts n (set acts n (entry_of a)) k (a ∷ [])) (sym f) (adds_one acts n a lt))
