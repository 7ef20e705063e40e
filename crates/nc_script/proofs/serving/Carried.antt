-- A session's replies to lines are the script's, whichever state the session stood for.
use Rattle.std.proofs.Common.{◌≡◌, ◌++◌, ◌∙◌, ℕ, Bool, List, [], ◌∷◌, Option, ap, subst}
use Rattle.nc_lines.specs.Replying.{RepliesToLines, IsComplete, IsBegun, IsCutShort}
use Rattle.nc_script.specs.Serving.{IsOnlyReply}
use Rattle.nc_script.specs.Script.{Script, ScriptSeat}
use Rattle.nc_script.specs.machinery.Session.{SessionOf, script_of, FitsSession, FollowsLine}

-- a session's replies to lines are the script's, line by line
carried : (queries : Bool) (old : SessionOf) (lines : List (List ℕ)) (reply : List ℕ) (new : SessionOf) (seats : List ScriptSeat)
    (freed : ℕ) → old.queries ≡ queries → FitsSession old.state seats freed → RepliesToLines FollowsLine old lines reply new
    → (next : List ScriptSeat) × (number : ℕ) × RepliesToLines (IsOnlyReply queries) (script_of old.state.region seats freed) lines reply
    (script_of new.state.region next number)
carried queries old [] reply new seats freed is fits h =
    (seats, freed, (h.0, ap (λ (s : SessionOf). script_of s.state.region seats freed) h.1))
carried queries old (line ∷ lines) reply new seats freed is fits h =
    let (mid, text, rest, follows, e, more) = h in
    let (between, number, replies, still) = follows.1 seats freed fits in
    let on = carried queries mid lines rest new between number (follows.0 ∙ is) still more in
    let after = script_of mid.state.region between number in
    let one : IsOnlyReply queries (script_of old.state.region seats freed) line text after =
    subst (λ (q : Bool). IsOnlyReply q (script_of old.state.region seats freed) line text after) is replies in
    (on.0, on.1, (after, text, rest, one, e, on.2))

module _ (old : SessionOf) (seats : List ScriptSeat) (freed : ℕ) (start : Script) (fits : FitsSession old.state seats freed)
    (begins : script_of old.state.region seats freed ≡ start) (queries : Bool) (is : old.queries ≡ queries) where
  -- where exactly the session's replies were written, exactly the script's were
  pub replied_script : (new : SessionOf) (before after : Option (List ℕ)) (lines : List (List ℕ))
      → IsComplete FollowsLine old new before after lines
      → (last : Script) × IsComplete (IsOnlyReply queries) start last before after lines
  replied_script new before after lines a =
      let on = carried queries old lines a.reply new seats freed is fits a.runs in (
        script_of new.state.region on.0 on.1,
        record {
          reply = a.reply;
          runs = subst (λ (s : Script). RepliesToLines (IsOnlyReply queries) s lines a.reply (script_of new.state.region on.0 on.1))
              begins on.2;
          written = a.written;
        },
      )

  -- where a beginning of the session's replies was written, one of the script's was
  pub begun_script : (before after : Option (List ℕ)) (lines : List (List ℕ)) → IsBegun FollowsLine old before after lines
      → IsBegun (IsOnlyReply queries) start before after lines
  begun_script before after lines b =
      let on = carried queries old b.first (b.reply ++ b.missing) b.new seats freed is fits b.runs in
      record {
        first = b.first;
        others = b.others;
        split = b.split;
        reply = b.reply;
        missing = b.missing;
        new = script_of b.new.state.region on.0 on.1;
        runs = subst (λ (s : Script). RepliesToLines (IsOnlyReply queries) s b.first (b.reply ++ b.missing)
            (script_of b.new.state.region on.0 on.1)) begins on.2;
        written = b.written;
      }

  -- where the session's replies before the line that failed were written, the script's were
  pub cut_script : (before after : Option (List ℕ)) (lines : List (List ℕ)) → IsCutShort FollowsLine old before after lines
      → IsCutShort (IsOnlyReply queries) start before after lines
  cut_script before after lines c =
      let on = replied_script c.new before after c.first c.replied in
      record { first = c.first; failed = c.failed; others = c.others; split = c.split; new = on.0; replied = on.1 }
