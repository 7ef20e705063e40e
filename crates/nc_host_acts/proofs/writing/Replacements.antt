-- The log of a patch, one instruction after the other.
use Rattle.std.proofs.Common.{◌≡◌, ℕ, suc, ◌+◌, ◌-◌, ◌<◌, cond, List, [], ◌∷◌, ◌++◌, length, get_or, take, drop}
use Rattle.std.proofs.Common.{refl, ap, arith, sym, subst, ◌∙◌}
use Rattle.std.proofs.lemmas.List.{length-drop}
use Rattle.nc_decode.specs.declared.instruction.Instr.{Instr}
use Rattle.nc_vet.specs.Chunk.{Piece}
use Rattle.nc_acts.specs.declared.acts.Act.TheVariants.{Put}
use Rattle.nc_acts.specs.declared.acts.Entry.{Entry}
use Rattle.nc_acts.specs.declared.acts.Entry.TheVariants.{Did, Serialized}
use Rattle.nc_acts.specs.Acts.{puts_where}
use Rattle.nc_acts.specs.Log.{only_acts}
use Rattle.nc_region.specs.Patch.{any_place, stands_there, log_of_instruction, log_of_patch}
use Rattle.nc_region.proofs.Offered.{Parted}
use Rattle.nc_base.proofs.Offered.{slice_rest}
use Rattle.nc_host_acts.specs.declared.act.NcAct.{NcAct}
use Rattle.nc_host_acts.specs.Written.{AddsEntries}
use Rattle.nc_host_acts.specs.machinery.Writing.{HasPutUpTo}
use Rattle.nc_host_acts.proofs.writing.WriteSteps.{put_all, adds_both}

-- where any place passes there are as many puts as bytes
pub all_puts : (at : ℕ) (bytes : List ℕ) → length (puts_where any_place at bytes) ≡ length bytes
all_puts at [] = refl
all_puts at (x ∷ rest) = ap (λ (n : ℕ). suc n) (all_puts (at + 1) rest)

-- the log of an instruction of several bytes: a stop, the bytes behind the first, the first
pub of_more : (at : ℕ) (bytes : List ℕ) → 1 < length bytes
    → log_of_instruction at bytes ≡ Did (Put at 244) ∷ Serialized
    ∷ (only_acts (puts_where any_place (at + 1) (drop 1 bytes)) ++ (Serialized ∷ Did (Put at (get_or bytes 0 0)) ∷ []))
of_more at [] lt = absurd (omega (arith, lt))
of_more at (x ∷ []) lt = absurd (omega (arith, lt))
of_more at (x ∷ y ∷ rest) lt = refl

-- all but the first byte
pub rest_long : (bytes : List ℕ) → length (take (length bytes - 1) (drop 1 bytes)) ≡ length bytes - 1
rest_long bytes = ap (λ (z : List ℕ). length z) (slice_rest bytes 1) ∙ length-drop 1 bytes

-- the log of an instruction of more than one byte
pub longer_added : (at : ℕ) (bytes : List ℕ) (acts one two three four five : List NcAct) (from n m k l o : ℕ) → 1 < length bytes
    → AddsEntries acts from one n (Did (Put at 244) ∷ []) → AddsEntries one n two m (Serialized ∷ [])
    → HasPutUpTo any_place (at + 1) (take (length bytes - 1) (drop 1 bytes)) two m (length (take (length bytes - 1) (drop 1 bytes))) three k
    → AddsEntries three k four l (Serialized ∷ []) → AddsEntries four l five o (Did (Put at (get_or bytes 0 0)) ∷ [])
    → AddsEntries acts from five o (log_of_instruction at bytes)
longer_added at bytes acts one two three four five from n m k l o lt first stopped middle serialized last =
    let all = put_all any_place (at + 1) (take (length bytes - 1) (drop 1 bytes)) two m (length (take (length bytes - 1) (drop 1 bytes))) three k
    refl middle in
    let puts : AddsEntries two m three k (only_acts (puts_where any_place (at + 1) (drop 1 bytes))) =
    subst (λ (z : List ℕ). AddsEntries two m three k (only_acts (puts_where any_place (at + 1) z))) (slice_rest bytes 1) all.written in
    let end : List Entry = Serialized ∷ Did (Put at (get_or bytes 0 0)) ∷ [] in
    let rest : List Entry = only_acts (puts_where any_place (at + 1) (drop 1 bytes)) ++ end in
    subst (λ (z : List Entry). AddsEntries acts from five o z) (sym (of_more at bytes lt))
    (adds_both acts one five from n o (Did (Put at 244) ∷ []) (Serialized ∷ rest) first
    (adds_both one two five n m o (Serialized ∷ []) rest stopped
    (adds_both two three five m k o (only_acts (puts_where any_place (at + 1) (drop 1 bytes))) end puts
    (adds_both three four five k l o (Serialized ∷ []) (Did (Put at (get_or bytes 0 0)) ∷ []) serialized last))))

-- the place after the first stop and the further bytes
pub rest_counted : (at : ℕ) (bytes : List ℕ) (one two : List NcAct) (n m : ℕ)
    → HasPutUpTo any_place (at + 1) (take (length bytes - 1) (drop 1 bytes)) one n (length (take (length bytes - 1) (drop 1 bytes))) two m
    → m ≡ n + (length bytes - 1)
rest_counted at bytes one two n m middle =
    let all = put_all any_place (at + 1) (take (length bytes - 1) (drop 1 bytes)) one n (length (take (length bytes - 1) (drop 1 bytes))) two m
    refl middle in
    omega (arith, all.counted, all_puts (at + 1) (take (length bytes - 1) (drop 1 bytes)), rest_long bytes)

-- the log of the first instruction, and of the others
pub patch_added : (text : List ℕ) (at : ℕ) (new : List ℕ) (news : List Piece) (i : Instr) (q : Parted new news i) (acts one two : List NcAct)
    (n m k : ℕ)
    → AddsEntries acts n one m (cond (stands_there text at (take i.len new)) [] (log_of_instruction at (take i.len new)))
    → AddsEntries one m two k (log_of_patch text (at + i.len) q.rest) → AddsEntries acts n two k (log_of_patch text at news)
patch_added text at new news i q acts one two n m k first others =
    let here : AddsEntries acts n one m (cond (stands_there text at q.first.bytes) [] (log_of_instruction at q.first.bytes)) =
    subst (λ (z : List ℕ). AddsEntries acts n one m (cond (stands_there text at z) [] (log_of_instruction at z))) q.front first in
    let more : AddsEntries one m two k (log_of_patch text (at + length q.first.bytes) q.rest) =
    subst (λ (l : ℕ). AddsEntries one m two k (log_of_patch text (at + l) q.rest)) q.len others in
    subst (λ (z : List Piece). AddsEntries acts n two k (log_of_patch text at z)) (sym q.is)
    (adds_both acts one two n m k (cond (stands_there text at q.first.bytes) [] (log_of_instruction at q.first.bytes))
    (log_of_patch text (at + length q.first.bytes) q.rest) here more)
