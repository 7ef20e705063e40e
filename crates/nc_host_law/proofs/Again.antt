-- A call whose events a host makes, after attempts at these events, is that call.
use Rattle.std.proofs.Common.{◌≡◌, ℕ, zero, suc, ◌+◌, List, [], ◌∷◌, ◌++◌, map, refl, ◌∙◌, sym, ap, subst, append_assoc}
use Rattle.std.specs.Prelude.{All}
use Rattle.std.specs.List.{range_with_len}
use Rattle.std.proofs.lemmas.List.Elements.{All-nil, All-cons, All-head, All-append, All-weaker}
use Rattle.nc_gens.specs.Seen.{least_number}
use Rattle.nc_list.specs.declared.chunk.Chunk.{Chunk}
use Rattle.nc_region.specs.schedules.Events.{Event, Bumps, Retires, Frees, Looks}
use Rattle.nc_acts.specs.Log.{only_acts}
use Rattle.nc_region.specs.Deletion.{freed, unmarkings}
use Rattle.nc_region.specs.Quiet.{retired_spans}
use Rattle.nc_region.specs.Region.{Region}
use Rattle.nc_histories.specs.Interleaving.{IsKeepers}
use Rattle.nc_histories.specs.Calls.{Details, no_details, events_of_log, create_events, patch_events, delete_events, reclaim_events, span_from}
use Rattle.nc_histories.specs.Histories.{AreAttempts, IsCall, Creates, Patches, Deletes, Reclaims, UsesKeeper, Refuses, Keeps}
use Rattle.nc_histories.proofs.Offered.{attempts_again, attempts_none, refusal_silent}
use Rattle.nc_host_law.specs.Hosts.{IsMadeByHost}
use Rattle.nc_host_law.proofs.Looked.{all_back}

-- the event is none that a host makes
abbrev IsNotMadeByHost : Event → Type 0
IsNotMadeByHost event = ¬ IsMadeByHost event

-- events of which a host makes all and none are none
none_left : (events : List Event) → All IsNotMadeByHost events → All IsMadeByHost events → events ≡ []
none_left [] others by_host = refl
none_left (event ∷ events) others by_host =
    absurd (All-head IsNotMadeByHost event events others (All-head IsMadeByHost event events by_host))

-- a host makes no looks of a reclaim
looks_others : (from n : ℕ) → All IsNotMadeByHost (map Looks (range_with_len from n))
looks_others from zero = All-nil IsNotMadeByHost
looks_others from (suc n) =
    All-cons IsNotMadeByHost (Looks from) (map Looks (range_with_len (from + 1) n)) (λ x. x) (looks_others (from + 1) n)

-- nor does it unmark
frees_others : (d : Details) (chunks : List Chunk) → All IsNotMadeByHost (events_of_log d (only_acts (unmarkings chunks)))
frees_others d [] = All-nil IsNotMadeByHost
frees_others d (c ∷ chunks) = All-cons IsNotMadeByHost (Frees (span_from d.spans c.base)) _ (λ x. x) (frees_others d chunks)

-- nor does it make the keeper's events
keepers_others : (events : List Event) → All IsKeepers events → All IsNotMadeByHost events
keepers_others events all = All-weaker IsKeepers IsNotMadeByHost keepers events all
  where
    keepers : (event : Event) → IsKeepers event → IsNotMadeByHost event
    keepers Bumps k = λ x. x
    keepers (Looks n) k = λ x. x
    keepers _ k = absurd k

-- a call without events, after attempts at them
alone : (seats : ℕ) (old new : Region) (own made : List Event) → IsCall seats old new own → own ≡ [] → AreAttempts own made
    → IsCall seats old new (made ++ own)
alone seats old new own made call none tried =
    subst (λ (z : List Event). IsCall seats old new (z ++ own))
    (sym (attempts_none made (subst (λ (z : List Event). AreAttempts z made) none tried)))
    call

-- a call whose events a host makes, after attempts at them
pub call_again : (seats : ℕ) (old new : Region) (own made : List Event) → IsCall seats old new own → All IsMadeByHost own
    → AreAttempts own made → IsCall seats old new (made ++ own)
call_again seats old new own made (Creates v valid lim is tries tried same) by_host again =
    Creates v valid lim is (made ++ tries)
    (attempts_again (create_events v) tries made tried (subst (λ (z : List Event). AreAttempts z made) same again))
    (ap (λ (z : List Event). made ++ z) same ∙ sym (append_assoc made tries (create_events v)))
call_again seats old new own made (Patches at bytes news lawful b is tries tried same) by_host again =
    Patches at bytes news lawful b is (made ++ tries)
    (attempts_again (patch_events old.marked.bytes at news) tries made tried (subst (λ (z : List Event). AreAttempts z made) same again))
    (ap (λ (z : List Event). made ++ z) same ∙ sym (append_assoc made tries (patch_events old.marked.bytes at news)))
call_again seats old new own made (Deletes base stamp is stops tries stamped tried same) by_host again =
    let deletion : All IsMadeByHost (delete_events old.marked.marks base is.chunk.length) =
    all_back IsMadeByHost tries (delete_events old.marked.marks base is.chunk.length) (subst (All IsMadeByHost) same by_host) in
    absurd (All-head IsMadeByHost (Retires base is.chunk.length) []
    (all_back IsMadeByHost stops (Retires base is.chunk.length ∷ []) (subst (All IsMadeByHost) (sym stamped) deletion)))
call_again seats old new own made (Reclaims count is same) by_host again =
    let d : Details = record no_details { seats = seats; spans = retired_spans old.chunks } in
    let others : All IsNotMadeByHost (reclaim_events seats (least_number new.keeper.numbers) old.chunks) =
    All-append IsNotMadeByHost (map Looks (range_with_len 0 seats)) _ (looks_others 0 seats)
    (frees_others (record no_details { seats = seats; spans = retired_spans old.chunks })
    (freed (least_number new.keeper.numbers) old.chunks)) in
    alone seats old new own made (Reclaims count is same) (none_left own (subst (All IsNotMadeByHost) (sym same) others) by_host) again
call_again seats old new own made (UsesKeeper marked chunks all steps range) by_host again =
    alone seats old new own made (UsesKeeper marked chunks all steps range) (none_left own (keepers_others own all) by_host) again
call_again seats old new own made (Refuses is) by_host again =
    alone seats old new own made (Refuses is) (refusal_silent old new own is) again
call_again seats old new own made (Keeps is same) by_host again = alone seats old new own made (Keeps is same) same again
