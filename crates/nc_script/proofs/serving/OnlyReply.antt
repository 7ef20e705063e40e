-- A line has one reply, and leads to one state.
use Rattle.std.proofs.Common.{◌≤◌, length, slice_set, ◌^◌}
use Rattle.std.proofs.Common.{◌≡◌, ◌≢◌, ◌⊎◌, ◌++◌, ℕ, ◌<◌, Bool, List, [], ◌∷◌, Option, Some, None, inl, inr, refl, sym, ap, ◌∙◌, subst, arith}
use Rattle.std.specs.Prelude.{All, MatchOption}
use Rattle.std.proofs.lemmas.List.Elements.{All-tail}
use Rattle.nc_vet.specs.Faults.{HasFault}
use Rattle.nc_vet.specs.declared.fault.VetFault.{VetFault}
use Rattle.nc_vet.specs.declared.fault.VetFault.TheVariants.{OutOfMemory}
use Rattle.nc_vet.proofs.Offered.{none_valid}
use Rattle.nc_vet.proofs.Offered.{one_fault}
use Rattle.nc_region.specs.Region.{Region, IsRegion}
use Rattle.nc_region.specs.Trace.{IsTrace, IsWalkStart}
use Rattle.nc_region.specs.declared.trace.End.{End}
use Rattle.nc_region.proofs.Offered.{one_trace}
use Rattle.nc_region.specs.Patch.{AreInstructions}
use Rattle.nc_region.specs.declared.fault.ModifyFault.{ModifyFault}
use Rattle.nc_region.specs.declared.fault.ModifyFault.TheVariants.{BadSpan, NotLive, NotPermitted, Boundaries, PairTouched, BadTarget}
use Rattle.nc_region.specs.declared.fault.DeleteFault.{DeleteFault}
use Rattle.nc_region.specs.declared.fault.DeleteFault.TheVariants.{NoChunk, GensFull}
use Rattle.nc_script.specs.Requests.{Request, Create, Modify, Delete, CheckIn, Leave, Reclaim, Walk, Query, request_in}
use Rattle.nc_lines.specs.Lines.{bad_line}
use Rattle.nc_script.specs.Script.{Script, ScriptChunk, ScriptSeat, Staying, Left, script_text, IsPutBetween}
use Rattle.nc_script.specs.declared.query.Query as kind
use Rattle.nc_script.specs.Patching.{LiesInLive, Replaces, IsLawfulPatch, IsRefusedPatch}
use Rattle.nc_script.specs.Reuse.{ListsLive, IsRefusedDeletion, AllStay, Stays, LetsFree, number_of, IsFreeingNumber, freed_by, kept_by}
use Rattle.nc_output.specs.Verdicts.{IsValidAt}
use Rattle.nc_script.specs.Serving.{IsOnlyReply, IsOnly, IsDetermined, Serves}
use Rattle.nc_script.specs.machinery.Session.{script_of}
use Rattle.nc_output.specs.Verdicts.{with_line_end, refused_words, fault_words}
use Rattle.nc_script.specs.Replies.{walk_reply, patch_words, deletion_words, freed_reply}
use Rattle.nc_script.proofs.chunks.RegionText.{script_text-script_of}

-- a list of chunks is cut at a base in one way
same_cut : (base : ℕ) (bs ps cs ds : List ScriptChunk) → bs ++ ps ≡ cs ++ ds → All (λ c. c.base < base) bs → All (λ c. base < c.base) ps
    → All (λ c. c.base < base) cs → All (λ c. base < c.base) ds → (cs ≡ bs) × (ds ≡ ps)
same_cut base [] ps [] ds e lb la lc ld = (refl, sym e)
same_cut base [] ps (c ∷ cs) ds e lb la lc ld =
    absurd (omega (arith, lc 0 c (omega arith), subst (λ (xs : List ScriptChunk). All (λ c. base < c.base) xs) e la 0 c (omega arith)))
same_cut base (b ∷ bs) ps [] ds e lb la lc ld =
    absurd (omega (
      arith,
      lb 0 b (omega arith),
      subst (λ (xs : List ScriptChunk). All (λ c. base < c.base) xs) (sym e) ld 0 b
          (omega arith),
    ))
same_cut base (b ∷ bs) ps (c ∷ cs) ds e lb la lc ld =
    let tails : bs ++ ps ≡ cs ++ ds = cc in
    let rest = same_cut base bs ps cs ds tails (All-tail (λ c. c.base < base) b bs lb) la (All-tail (λ c. c.base < base) c cs lc) ld in
    let f = rest.0 in
    (cc, rest.1)

-- a chunk is inserted in one way
same_inserted : (chunk : ScriptChunk) (old new next : List ScriptChunk) → IsPutBetween chunk old new → IsPutBetween chunk old next → next ≡ new
same_inserted chunk old new next i j =
    let same = same_cut chunk.base i.before i.after j.before j.after (sym i.old_is ∙ j.old_is) i.lower i.higher j.lower j.higher in
    j.new_is ∙ (ap (λ (xs : List ScriptChunk). xs ++ chunk ∷ j.after) same.0
    ∙ (ap (λ (xs : List ScriptChunk). i.before ++ chunk ∷ xs) same.1 ∙ sym i.new_is))

-- a valid chunk has no fault
not_valid : (base limit : ℕ) (bytes : List ℕ) (fault : VetFault) → IsValidAt base limit bytes → HasFault base limit bytes fault
    → fault ≢ OutOfMemory → ⊥
not_valid base limit bytes fault v h known = known (none_valid base limit bytes v.0 fault v.1 h)

-- a creation has one reply
create_only : (base : ℕ) (bytes : List ℕ) (old : Script) (reply : List ℕ) (new : Script) → Serves (Create base bytes) old reply new
    → IsOnly (Create base bytes) old reply new
create_only base bytes old reply new (inl a) other next (inl b) = (
  b.reply_is ∙ sym a.reply_is,
  b.others ∙ (ap (λ (cs : List ScriptChunk). record old { chunks = cs })
      (same_inserted _ old.chunks new.chunks next.chunks a.inserted b.inserted) ∙ sym a.others),
)
create_only base bytes old reply new (inl a) other next (inr (inl b)) =
    absurd (not_valid base old.limit bytes b.fault a.valid b.has b.known)
create_only base bytes old reply new (inl a) other next (inr (inr b)) = absurd (a.free b.taken)
create_only base bytes old reply new (inr (inl a)) other next (inl b) =
    absurd (not_valid base old.limit bytes a.fault b.valid a.has a.known)
create_only base bytes old reply new (inr (inl a)) other next (inr (inl b)) = (
  b.reply_is ∙ (ap (λ (f : VetFault). with_line_end (refused_words (fault_words f)))
      (one_fault base old.limit bytes b.fault a.fault b.has a.has b.known a.known) ∙ sym a.reply_is),
  b.same ∙ sym a.same,
)
create_only base bytes old reply new (inr (inl a)) other next (inr (inr b)) =
    absurd (not_valid base old.limit bytes a.fault b.valid a.has a.known)
create_only base bytes old reply new (inr (inr a)) other next (inl b) = absurd (b.free a.taken)
create_only base bytes old reply new (inr (inr a)) other next (inr (inl b)) =
    absurd (not_valid base old.limit bytes b.fault a.valid b.has b.known)
create_only base bytes old reply new (inr (inr a)) other next (inr (inr b)) = (b.reply_is ∙ sym a.reply_is, b.same ∙ sym a.same)

-- a query has one reply
query_only : (query : kind.Query) (old : Script) (reply : List ℕ) (new : Script) → Serves (Query query) old reply new
    → IsOnly (Query query) old reply new
query_only query old reply new a other next b = (b.0 ∙ sym a.0, b.1 ∙ sym a.1)

-- a walk through a region has one reply, since there is one trace
walk_only : (region : Region) (seats : List ScriptSeat) (freed : ℕ) (start : ℕ) (choices reply : List ℕ) (new : Script)
    → IsRegion region.marked region.chunks → Serves (Walk start choices) (script_of region seats freed) reply new
    → IsOnly (Walk start choices) (script_of region seats freed) reply new
walk_only region seats freed start choices reply new is (inl a) other next (inl b) =
    let text_is = script_text-script_of region seats freed is in
    let traced : (places : List ℕ) (end : End) → IsTrace (script_text (script_of region seats freed)) start choices places end
    → IsTrace region.marked.bytes start choices places end =
    λ places end trace. subst (λ (text : List ℕ). IsTrace text start choices places end) text_is trace in
    let at = subst (λ (text : List ℕ). IsWalkStart text start) text_is a.begins in
    let same = one_trace region.marked.bytes region.marked.marks start choices a.places b.places a.end b.end is.whole.closed at
    (traced a.places a.end a.trace) (traced b.places b.end b.trace) in (
      b.reply_is ∙ (ap (λ (ps : List ℕ). with_line_end (walk_reply ps b.end)) same.0
          ∙ (ap (λ (e : End). with_line_end (walk_reply a.places e)) same.1 ∙ sym a.reply_is)),
      b.same ∙ sym a.same,
    )
walk_only region seats freed start choices reply new is (inl a) other next (inr b) = absurd (b.begins_not a.begins)
walk_only region seats freed start choices reply new is (inr a) other next (inl b) = absurd (a.begins_not b.begins)
walk_only region seats freed start choices reply new is (inr a) other next (inr b) = (b.reply_is ∙ sym a.reply_is, b.same ∙ sym a.same)

-- the six refusals of a patch exclude each other, and an accepted one
module _ (old : Script) (at : ℕ) (bytes : List ℕ) where
  -- what is replaced is in a live chunk, and made of instructions
  replaced_held : Replaces old at bytes → LiesInLive old.chunks at
  replaced_held r = (r.base, r.bytes, r.holds)

  -- the new bytes of a replacement are instructions
  replaced_new : Replaces old at bytes → AreInstructions bytes
  replaced_new r = (r.run.news, r.run.bytes)

  -- a lawful patch isn't refused
  lawful_due : IsLawfulPatch old at bytes → (fault : ModifyFault) → IsRefusedPatch old at bytes fault → ⊥
  lawful_due p BadSpan h = h p.0
  lawful_due p NotLive h = h.1 (replaced_held p.1.0)
  lawful_due p NotPermitted h = h.2 (replaced_new p.1.0)
  lawful_due p Boundaries h = h.3 p.1.0
  lawful_due p PairTouched h = h.2 (p.1.0, p.1.1)
  lawful_due p BadTarget h = h.2 p

  -- a patch has one refusal
  one_refusal : (f g : ModifyFault) → IsRefusedPatch old at bytes f → IsRefusedPatch old at bytes g → g ≡ f
  one_refusal BadSpan BadSpan a b = refl
  one_refusal BadSpan NotLive a b = absurd (a b.0)
  one_refusal BadSpan NotPermitted a b = absurd (a b.0)
  one_refusal BadSpan Boundaries a b = absurd (a b.0)
  one_refusal BadSpan PairTouched a b = absurd (a b.0)
  one_refusal BadSpan BadTarget a b = absurd (a b.0)
  one_refusal NotLive BadSpan a b = absurd (b a.0)
  one_refusal NotLive NotLive a b = refl
  one_refusal NotLive NotPermitted a b = absurd (a.1 b.1)
  one_refusal NotLive Boundaries a b = absurd (a.1 b.1)
  one_refusal NotLive PairTouched a b = absurd (a.1 (replaced_held b.1))
  one_refusal NotLive BadTarget a b = absurd (a.1 (replaced_held b.1.0))
  one_refusal NotPermitted BadSpan a b = absurd (b a.0)
  one_refusal NotPermitted NotLive a b = absurd (b.1 a.1)
  one_refusal NotPermitted NotPermitted a b = refl
  one_refusal NotPermitted Boundaries a b = absurd (a.2 b.2)
  one_refusal NotPermitted PairTouched a b = absurd (a.2 (replaced_new b.1))
  one_refusal NotPermitted BadTarget a b = absurd (a.2 (replaced_new b.1.0))
  one_refusal Boundaries BadSpan a b = absurd (b a.0)
  one_refusal Boundaries NotLive a b = absurd (b.1 a.1)
  one_refusal Boundaries NotPermitted a b = absurd (b.2 a.2)
  one_refusal Boundaries Boundaries a b = refl
  one_refusal Boundaries PairTouched a b = absurd (a.3 b.1)
  one_refusal Boundaries BadTarget a b = absurd (a.3 b.1.0)
  one_refusal PairTouched BadSpan a b = absurd (b a.0)
  one_refusal PairTouched NotLive a b = absurd (b.1 (replaced_held a.1))
  one_refusal PairTouched NotPermitted a b = absurd (b.2 (replaced_new a.1))
  one_refusal PairTouched Boundaries a b = absurd (b.3 a.1)
  one_refusal PairTouched PairTouched a b = refl
  one_refusal PairTouched BadTarget a b = absurd (a.2 b.1)
  one_refusal BadTarget BadSpan a b = absurd (b a.0)
  one_refusal BadTarget NotLive a b = absurd (b.1 (replaced_held a.1.0))
  one_refusal BadTarget NotPermitted a b = absurd (b.2 (replaced_new a.1.0))
  one_refusal BadTarget Boundaries a b = absurd (b.3 a.1.0)
  one_refusal BadTarget PairTouched a b = absurd (b.2 a.1)
  one_refusal BadTarget BadTarget a b = refl

-- a patch has one reply
modify_only : (at : ℕ) (bytes : List ℕ) (old : Script) (reply : List ℕ) (new : Script) → Serves (Modify at bytes) old reply new
    → IsOnly (Modify at bytes) old reply new
modify_only at bytes old reply new (inl a) other next (inl b) = (b.reply_is ∙ sym a.reply_is, b.new_is ∙ sym a.new_is)
modify_only at bytes old reply new (inl a) other next (inr b) = absurd (lawful_due old at bytes a.lawful b.fault b.due)
modify_only at bytes old reply new (inr a) other next (inl b) = absurd (lawful_due old at bytes b.lawful a.fault a.due)
modify_only at bytes old reply new (inr a) other next (inr b) = (
  b.reply_is ∙ (ap (λ (f : ModifyFault). with_line_end (refused_words (patch_words f))) (one_refusal old at bytes a.fault b.fault a.due b.due)
      ∙ sym a.reply_is),
  b.same ∙ sym a.same,
)

-- a chunk that can be deleted isn't refused
deleted_due : (old : Script) (base : ℕ) → ListsLive old.chunks base → old.generation < 2 ^ 62 → (fault : DeleteFault)
    → IsRefusedDeletion old base fault → ⊥
deleted_due old base live room NoChunk h = h live
deleted_due old base live room GensFull h = omega (arith, room, h.1)

-- a deletion has one refusal
one_deletion_refusal : (old : Script) (base : ℕ) (f g : DeleteFault) → IsRefusedDeletion old base f → IsRefusedDeletion old base g → g ≡ f
one_deletion_refusal old base NoChunk NoChunk a b = refl
one_deletion_refusal old base NoChunk GensFull a b = absurd (a b.0)
one_deletion_refusal old base GensFull NoChunk a b = absurd (b a.0)
one_deletion_refusal old base GensFull GensFull a b = refl

-- a deletion has one reply
delete_only : (base : ℕ) (old : Script) (reply : List ℕ) (new : Script) → Serves (Delete base) old reply new
    → IsOnly (Delete base) old reply new
delete_only base old reply new (inl a) other next (inl b) = (b.reply_is ∙ sym a.reply_is, b.new_is ∙ sym a.new_is)
delete_only base old reply new (inl a) other next (inr b) = absurd (deleted_due old base a.live a.room b.fault b.due)
delete_only base old reply new (inr a) other next (inl b) = absurd (deleted_due old base b.live b.room a.fault a.due)
delete_only base old reply new (inr a) other next (inr b) = (
  b.reply_is ∙ (ap (λ (f : DeleteFault). with_line_end (refused_words (deletion_words f)))
      (one_deletion_refusal old base a.fault b.fault a.due b.due) ∙ sym a.reply_is),
  b.same ∙ sym a.same,
)

-- a check-in has one reply
check_in_only : (seat : ℕ) (old : Script) (reply : List ℕ) (new : Script) → Serves (CheckIn seat) old reply new
    → IsOnly (CheckIn seat) old reply new
check_in_only seat old reply new (inl a) other next (inl b) = (b.reply_is ∙ sym a.reply_is, b.new_is ∙ sym a.new_is)
check_in_only seat old reply new (inl a) other next (inr b) = absurd (b.none a.there)
check_in_only seat old reply new (inr a) other next (inl b) = absurd (a.none b.there)
check_in_only seat old reply new (inr a) other next (inr b) = (b.reply_is ∙ sym a.reply_is, b.same ∙ sym a.same)

-- a leave has one reply
leave_only : (seat : ℕ) (old : Script) (reply : List ℕ) (new : Script) → Serves (Leave seat) old reply new
    → IsOnly (Leave seat) old reply new
leave_only seat old reply new (inl a) other next (inl b) =
    let found : Some (Staying b.number) ≡ Some (Staying a.number) = sym b.there ∙ a.there in
    let same : b.number ≡ a.number = cc in (
      b.reply_is ∙ sym a.reply_is,
      b.new_is ∙ (ap (λ (n : ℕ). record old { seats = slice_set old.seats seat (Left n) }) same ∙ sym a.new_is),
    )
leave_only seat old reply new (inl a) other next (inr b) = absurd (b.none (a.number, a.there))
leave_only seat old reply new (inr a) other next (inl b) = absurd (a.none (b.number, b.there))
leave_only seat old reply new (inr a) other next (inr b) = (b.reply_is ∙ sym a.reply_is, b.same ∙ sym a.same)

-- a number that frees isn't above another one, if no seat has left
number_below : (old : Script) (a b : ℕ) → AllStay old → IsFreeingNumber old a → IsFreeingNumber old b → a ≤ b
number_below old a b stay x y =
    let (k, seat, inside, is, least) = y.least in
    at_most seat (subst Stays is (stay k seat inside)) (subst (LetsFree a) is (x.allowed k seat inside)) least
  where
    at_most : (s : ScriptSeat) → Stays s → LetsFree a s → number_of s ≤ b → a ≤ b
    at_most (Staying n) stays allowed least = omega (arith, allowed, least)
    at_most (Left n) stays allowed least = absurd stays

-- while no seat has left, a reclaim has one reply
reclaim_only : (old : Script) (reply : List ℕ) (new : Script) → AllStay old → Serves Reclaim old reply new
    → IsOnly Reclaim old reply new
reclaim_only old reply new stay a other next b =
    let up = number_below old a.a b.a stay a.number b.number in
    let down = number_below old b.a a.a stay b.number a.number in
    let same : b.a ≡ a.a = omega (arith, up, down) in (
      b.reply_is ∙ (ap (λ (n : ℕ). with_line_end (freed_reply (length (freed_by n old.chunks)))) same ∙ sym a.reply_is),
      b.new_is ∙ (ap (λ (n : ℕ). record old { chunks = kept_by n old.chunks; freed = n }) same ∙ sym a.new_is),
    )

-- a request to a session has one reply, if it is no reclaim or no seat has left
pub request_only : (request : Request) (region : Region) (seats : List ScriptSeat) (freed : ℕ) (reply : List ℕ) (new : Script)
    → IsRegion region.marked region.chunks → (Some request ≢ Some Reclaim) ⊎ AllStay (script_of region seats freed)
    → Serves request (script_of region seats freed) reply new → IsOnly request (script_of region seats freed) reply new
request_only (Create base bytes) region seats freed reply new is determined h =
    create_only base bytes (script_of region seats freed) reply new h
request_only (Modify at bytes) region seats freed reply new is determined h =
    modify_only at bytes (script_of region seats freed) reply new h
request_only (Delete base) region seats freed reply new is determined h = delete_only base (script_of region seats freed) reply new h
request_only (CheckIn seat) region seats freed reply new is determined h = check_in_only seat (script_of region seats freed) reply new h
request_only (Leave seat) region seats freed reply new is determined h = leave_only seat (script_of region seats freed) reply new h
request_only Reclaim region seats freed reply new is (inl other) h = absurd (other refl)
request_only Reclaim region seats freed reply new is (inr stay) h = reclaim_only (script_of region seats freed) reply new stay h
request_only (Walk start choices) region seats freed reply new is determined h =
    walk_only region seats freed start choices reply new is h
request_only (Query query) region seats freed reply new is determined h = query_only query (script_of region seats freed) reply new h

-- a line that makes this request has this reply, and only this one if it leaves nothing open
pub line_only : (queries : Bool) (request : Request) (old new : Script) (line reply : List ℕ) → request_in queries line ≡ Some request
    → Serves request old reply new → (IsDetermined queries old line → IsOnly request old reply new)
    → IsOnlyReply queries old line reply new
line_only queries request old new line reply e h only =
    let Shown : Option Request → List ℕ → Script → Type 0 =
    λ r t n. MatchOption r ((t ≡ bad_line) × (n ≡ old)) (λ requested. Serves requested old t n) in
    record {
      serves = subst (λ (r : Option Request). Shown r reply new) (sym e) h;
      only = λ determined other next s. only determined other next (subst (λ (r : Option Request). Shown r other next) e s);
    }

-- a line that makes no request is only a bad line
pub bad_only : (queries : Bool) (old : Script) (line : List ℕ) → request_in queries line ≡ None
    → IsOnlyReply queries old line bad_line old
bad_only queries old line e =
    let Shown : Option Request → List ℕ → Script → Type 0 =
    λ r t n. MatchOption r ((t ≡ bad_line) × (n ≡ old)) (λ requested. Serves requested old t n) in
    record {
      serves = subst (λ (r : Option Request). Shown r bad_line old) (sym e) (refl, refl);
      only = λ determined other next s. subst (λ (r : Option Request). Shown r other next) e s;
    }
