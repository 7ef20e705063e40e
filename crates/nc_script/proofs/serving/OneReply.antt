-- Lines have no other replies than those that a run wrote, as long as no seat leaves.
use Rattle.std.proofs.Common.{◌≡◌, ◌≢◌, ◌++◌, ℕ, ◌≤◌, Bool, List, [], ◌∷◌, get_or, set, length, Option, Some, None, inl, inr, refl, sym, ap, ◌∙◌}
use Rattle.std.proofs.Common.{subst, append_assoc, arith, zero, suc}
use Rattle.std.specs.Prelude.{All, MatchOption}
use Rattle.std.proofs.lemmas.List.Elements.{All-tail, All-take}
use Rattle.std.proofs.lemmas.List.{take_at}
use Rattle.nc_lines.specs.Replying.{RepliesToLines}
use Rattle.nc_lines.specs.Lines.{bad_line}
use Rattle.nc_script.specs.Requests.{Request, Create, Modify, Delete, CheckIn, Leave, Reclaim, Walk, Query, request_in}
use Rattle.nc_script.specs.Serving.{Serves, ServesLine}
use Rattle.nc_script.specs.Laws.{HasOneReply, BeginsAll, FreesByLeast, IsNoLeave, LeavesOpen, one_left}
use Rattle.nc_script.specs.Reuse.{AllStay, Stays, LetsFree, number_of, IsFreeingNumber}
use Rattle.nc_script.specs.Script.{Script, ScriptSeat, Staying, Left}

-- all seats stay where one of them is set to one that stays
stay_set : (seats : List ScriptSeat) (k : ℕ) (s : ScriptSeat) → Stays s → All Stays seats → All Stays (set seats k s)
stay_set [] k s stays all j d l = absurd (omega (arith, l))
stay_set (x ∷ xs) zero s stays all zero d l = stays
stay_set (x ∷ xs) zero s stays all (suc j) d l = all (suc j) d (omega (arith, l))
stay_set (x ∷ xs) (suc k) s stays all zero d l = all 0 d (omega arith)
stay_set (x ∷ xs) (suc k) s stays all (suc j) d l = stay_set xs k s stays (All-tail Stays x xs all) j d (omega (arith, l))

-- a request that is no leave lets no seat leave
stay_on : (request : Request) (old : Script) (reply : List ℕ) (new : Script) → ((seat : ℕ) → request ≢ Leave seat) → AllStay old
    → Serves request old reply new → AllStay new
stay_on (Create base bytes) old reply new not_leave stay (inl a) = subst (All Stays) (sym (ap (λ (s : Script). s.seats) a.others)) stay
stay_on (Create base bytes) old reply new not_leave stay (inr (inl a)) = subst AllStay (sym a.same) stay
stay_on (Create base bytes) old reply new not_leave stay (inr (inr a)) = subst AllStay (sym a.same) stay
stay_on (Modify at bytes) old reply new not_leave stay (inl a) = subst (All Stays) (sym (ap (λ (s : Script). s.seats) a.new_is)) stay
stay_on (Modify at bytes) old reply new not_leave stay (inr a) = subst AllStay (sym a.same) stay
stay_on (Delete base) old reply new not_leave stay (inl a) = subst (All Stays) (sym (ap (λ (s : Script). s.seats) a.new_is)) stay
stay_on (Delete base) old reply new not_leave stay (inr a) = subst AllStay (sym a.same) stay
stay_on (CheckIn seat) old reply new not_leave stay (inl a) =
    subst (All Stays) (sym (ap (λ (s : Script). s.seats) a.new_is)) (stay_set old.seats seat (Staying old.generation) tt stay)
stay_on (CheckIn seat) old reply new not_leave stay (inr a) = subst AllStay (sym a.same) stay
stay_on (Leave seat) old reply new not_leave stay h = absurd (not_leave seat refl)
stay_on Reclaim old reply new not_leave stay a = subst (All Stays) (sym (ap (λ (s : Script). s.seats) a.new_is)) stay
stay_on (Walk start choices) old reply new not_leave stay (inl a) = subst AllStay (sym a.same) stay
stay_on (Walk start choices) old reply new not_leave stay (inr a) = subst AllStay (sym a.same) stay
stay_on (Query query) old reply new not_leave stay a = subst AllStay (sym a.1) stay

-- a line that requests no leave lets no seat leave
stay_on_line : (requested : Option Request) (old : Script) (reply : List ℕ) (new : Script) → ((seat : ℕ) → requested ≢ Some (Leave seat))
    → AllStay old → MatchOption requested ((reply ≡ bad_line) × (new ≡ old)) (λ request. Serves request old reply new) → AllStay new
stay_on_line None old reply new not_leave stay h = subst AllStay (sym h.1) stay
stay_on_line (Some request) old reply new not_leave stay h =
    stay_on request old reply new (λ seat e. not_leave seat (ap (λ (r : Request). Some r) e)) stay h

-- lines have only one list of replies, one line after the other
pub one_text : HasOneReply
one_text queries old [] reply other new next stay none a b = (b.0 ∙ sym a.0, b.1 ∙ sym a.1)
one_text queries old (line ∷ lines) reply other new next stay none a b =
    let (mid, text, rest, one, e, more) = a in
    let (also, second, others, two, f, same_so) = b in
    let same = one.only (inr stay) second also two in
    let still = stay_on_line (request_in queries line) old text mid (none 0 line (omega arith)) stay one.serves in
    let on = one_text queries mid lines rest others new next still (All-tail (IsNoLeave queries) line lines none) more
    (subst (λ (s : Script). RepliesToLines (ServesLine queries) s lines others next) same.1 same_so) in
    (f ∙ (ap (λ (t : List ℕ). t ++ others) same.0 ∙ (ap (λ (t : List ℕ). text ++ t) on.0 ∙ sym e)), on.1)

-- the replies to lines begin with the replies to the first of them
first_replies : (queries : Bool) (old : Script) (first others : List (List ℕ)) (all : List ℕ) (last : Script)
    → RepliesToLines (ServesLine queries) old (first ++ others) all last
    → (mid : Script) × (reply : List ℕ) × (rest : List ℕ) × RepliesToLines (ServesLine queries) old first reply mid × (all ≡ reply ++ rest)
first_replies queries old [] others all last h = (old, [], all, (refl, refl), refl)
first_replies queries old (line ∷ first) others all last h =
    let (mid, text, more, one, e, on) = h in
    let (end, reply, rest, so, f) = first_replies queries mid first others more last on in (
      end,
      text ++ reply,
      rest,
      (mid, text, reply, one, refl, so),
      e ∙ (ap (λ (t : List ℕ). text ++ t) f ∙ sym (append_assoc text reply rest)),
    )

-- a beginning of the replies to first lines is one of all replies
pub begins_all : BeginsAll
begins_all queries old before after lines stay none begun = record {
  reply = begun.reply;
  written = begun.written;
  begins = λ all last h.
      let (mid, reply, rest, so, e) =
      first_replies queries old begun.first begun.others all last
      (subst (λ (ls : List (List ℕ)). RepliesToLines (ServesLine queries) old ls all last) begun.split h) in
      let none_first = subst (All (IsNoLeave queries)) (take_at begun.first begun.others (length begun.first) refl)
      (All-take (IsNoLeave queries) (length begun.first) (begun.first ++ begun.others) (subst (All (IsNoLeave queries)) begun.split none)) in
      let same = one_text queries old begun.first (begun.reply ++ begun.missing) reply begun.new mid stay none_first begun.runs so in
      (begun.missing ++ rest, e ∙ (ap (λ (t : List ℕ). t ++ rest) same.0 ∙ append_assoc begun.reply begun.missing rest));
}

-- a seat that stays and is there has at least the number freed by
allows_stays : (a : ℕ) (s : ScriptSeat) → Stays s → LetsFree a s → a ≤ number_of s
allows_stays a (Staying n) stays allowed = allowed
allows_stays a (Left n) stays allowed = absurd stays

-- while no seat has left, a reclaim frees by the least number
pub frees_by_least : FreesByLeast
frees_by_least old a stay number =
    let above : All (λ seat. a ≤ number_of seat) old.seats = λ k d l. allows_stays a (get_or old.seats k d) (stay k d l)
    (number.allowed k d l) in
    let (k, seat, inside, is, least) = number.least in
    let most : a ≤ number_of seat = subst (λ (s : ScriptSeat). a ≤ number_of s) is (above k seat inside) in
    (above, (k, seat, inside, is, omega (arith, least, most)))

-- the first seat allows 1, and the second has left
allows_both : (a : ℕ) → a ≤ 1 → All (LetsFree a) one_left.seats
allows_both a le zero d l = le
allows_both a le (suc zero) d l = tt
allows_both a le (suc (suc k)) d l = absurd (omega (arith, l))

-- where one of two seats has left, a reclaim may free by 0 or by 1
frees_both : (a : ℕ) → a ≤ 1 → IsFreeingNumber one_left a
frees_both a le =
    record { rises = omega arith; least = (1, Left 0, omega arith, refl, omega arith); current = le; allowed = allows_both a le }

-- where one of two seats has left, a reclaim can free the chunk or not
pub leaves_open : LeavesOpen
leaves_open = (
  (record one_left { freed = 0 }, record { a = 0; number = frees_both 0 (omega arith); reply_is = refl; new_is = refl }),
  (
    record one_left { chunks = []; freed = 1 },
    record { a = 1; number = frees_both 1 (omega arith); reply_is = refl; new_is = refl },
  ),
)
