-- How the replies of a run go on by a byte, by a line and at the end.
use Rattle.std.proofs.Common.{◌≡◌, ◌++◌, ◌<◌, ℕ, List, [], ◌∷◌, Option, Err, length, take, drop, refl, sym, ap, ◌∙◌}
use Rattle.std.proofs.Common.{subst, append_assoc, append-nil, take-append-drop, arith, ⊎_elim, inl}
use Rattle.std.proofs.lemmas.List.{length-append}
use Rattle.std.specs.List.{flat_map}
use Rattle.std.specs.Io.KnownBytes.{Appends, Keeps}
use Rattle.std.proofs.KnownBytes.{Appends-trans, Appends-kept, Appends-nil}
use Rattle.nc_lines.specs.Lines.{lines_of, ended_lines, kept_of}
use Rattle.nc_lines.specs.Replying.{RepliesToLines, IsComplete, IsBegun, IsCutShort}
use Rattle.nc_lines.specs.machinery.Progress.{IsOpen, ended, WritesFront, HoldsRest, EndsEarly, IsHeldBack, KeepsUp, RepliesToKept, Feeds, Finishes}
use Rattle.nc_lines.specs.declared.fault.ReplayFault.{ReplayFault}
use Rattle.nc_lines.specs.declared.fault.ReplayFault.TheVariants.{ReadFailed, WriteFailed, OutOfMemory, BadSize, BadSeats, BadWorkers}
use Rattle.nc_lines.proofs.Cuts.{more_to_come, lines_of-some, lines_of-cut, lines_of-open, lines_of-next, last_line, ended_lines-cut}
use Rattle.nc_lines.proofs.Cuts.{cut-ended, IsOpen-append, AreOpen-push}
use Rattle.nc_lines.proofs.Replied.{runs_more}

-- some bytes after others, cut where a number of them ends
pub cut_after : (front bytes : List ℕ) (n : ℕ) → front ++ bytes ≡ (front ++ take n bytes) ++ drop n bytes
cut_after front bytes n =
    ap (λ (t : List ℕ). front ++ t) (sym (take-append-drop n bytes)) ∙ sym (append_assoc front (take n bytes) (drop n bytes))

-- a line isn't empty where a piece of it isn't
some_line : (part piece more : List ℕ) → 0 < length piece → 0 < length (part ++ (piece ++ more))
some_line part piece more h = omega (arith, length-append part (piece ++ more), length-append piece more)

-- what a run that lacks memory has written, as it ends early, is what a line that failed leaves
pub early_kept : {S : Type 0} (T : Type 0) (replies : S → List ℕ → List ℕ → S → Type 0) (old new : S) (before after : Option (List ℕ))
    (held left line : List ℕ) (fault : ReplayFault)
    → EndsEarly before after held fault → RepliesToKept {T = T} replies old new before after held left line (Err fault)
early_kept T replies old new before after held left line OutOfMemory h = h
early_kept T replies old new before after held left line WriteFailed h = inl h
early_kept T replies old new before after held left line ReadFailed h = absurd h
early_kept T replies old new before after held left line BadSize h = absurd h
early_kept T replies old new before after held left line BadSeats h = absurd h
early_kept T replies old new before after held left line BadWorkers h = absurd h

module _ {S : Type 0} (replies : S → List ℕ → List ℕ → S → Type 0) (start : S) (before : Option (List ℕ)) where
  -- bytes of which none ends a line
  pub stands_part : (bytes : List ℕ) (now : S) (after : Option (List ℕ)) (held kept more new : List ℕ)
      (s : KeepsUp replies start before bytes now after held kept) → IsOpen more → new ≡ kept_of (s.part ++ more)
      → KeepsUp replies start before (bytes ++ more) now after held new
  stands_part bytes now after held kept more new s no_end e = record {
    lines = s.lines;
    part = s.part ++ more;
    split = ap (λ (xs : List ℕ). xs ++ more) s.split ∙ append_assoc (flat_map ended s.lines) s.part more;
    closed = s.closed;
    open_part = IsOpen-append s.part more s.open_part no_end;
    is_kept = e;
    replied = s.replied;
  }

  -- bytes of which none ends a line go on the part that was left
  pub part_goes_on : (bytes : List ℕ) (now : S) (after : Option (List ℕ)) (held kept more : List ℕ)
      (s : KeepsUp replies start before bytes now after held kept) → IsOpen more
      → (next : KeepsUp replies start before (bytes ++ more) now after held (kept_of (s.part ++ more))) × (next.part ≡ s.part ++ more)
  part_goes_on bytes now after held kept more s no_end = (
    record {
      lines = s.lines;
      part = s.part ++ more;
      split = ap (λ (xs : List ℕ). xs ++ more) s.split ∙ append_assoc (flat_map ended s.lines) s.part more;
      closed = s.closed;
      open_part = IsOpen-append s.part more s.open_part no_end;
      is_kept = refl;
      replied = s.replied;
    },
    refl,
  )

  -- once one more line has its reply, the replies are those to the lines up to it
  held_more : (now : S) (after : Option (List ℕ)) (held : List ℕ) (lines : List (List ℕ)) (line reply : List ℕ) (new : S)
      (later : Option (List ℕ)) (left : List ℕ)
      → IsHeldBack replies start now before after held lines → replies now line reply new → HoldsRest after later (held ++ reply) left
      → IsHeldBack replies start new before later left (lines ++ line ∷ [])
  held_more now after held lines line reply new later left a replied_so rest = record {
    reply = a.reply ++ rest.0;
    runs = subst (λ (t : List ℕ). RepliesToLines replies start (lines ++ line ∷ []) t new)
        (append_assoc a.reply held reply ∙ ap (λ (t : List ℕ). a.reply ++ t) rest.2 ∙ sym (append_assoc a.reply rest.0 left))
        (runs_more replies start lines (a.reply ++ held) now line reply new a.runs replied_so);
    written = Appends-trans before after later a.reply rest.0 a.written rest.1;
  }

  -- what was held back is written
  pub held_written : (now : S) (after : Option (List ℕ)) (held : List ℕ) (lines : List (List ℕ)) (later : Option (List ℕ))
      → IsHeldBack replies start now before after held lines → Appends after later held → IsComplete replies start now before later lines
  held_written now after held lines later a written = record {
    reply = a.reply ++ held;
    runs = a.runs;
    written = Appends-trans before after later a.reply held a.written written;
  }

  -- where nothing is held back, all is written
  pub held_none : (now : S) (after : Option (List ℕ)) (held : List ℕ) (lines : List (List ℕ))
      → held ≡ [] → IsHeldBack replies start now before after held lines → IsComplete replies start now before after lines
  held_none now after held lines none a =
      held_written now after held lines after a (subst (λ (h : List ℕ). Appends after after h) (sym none) (Appends-nil after))

  -- what was held back was written in part
  pub held_begun : (now : S) (after : Option (List ℕ)) (held : List ℕ) (lines others all : List (List ℕ)) (later : Option (List ℕ))
      → IsHeldBack replies start now before after held lines → WritesFront after later held → all ≡ lines ++ others
      → IsBegun replies start before later all
  held_begun now after held lines others all later a front e = record {
    first = lines;
    others = others;
    split = e;
    reply = a.reply ++ take front.0 held;
    missing = drop front.0 held;
    new = now;
    runs = subst (λ (t : List ℕ). RepliesToLines replies start lines t now) (cut_after a.reply held front.0) a.runs;
    written = Appends-trans before after later a.reply (take front.0 held) a.written front.1;
  }

  -- the end of a line, which gets its reply
  pub stands_line : (bytes : List ℕ) (now : S) (after : Option (List ℕ)) (held kept reply : List ℕ) (new : S) (later : Option (List ℕ))
      (left part_left : List ℕ) (s : KeepsUp replies start before bytes now after held kept)
      → part_left ≡ [] → replies now s.part reply new → HoldsRest after later (held ++ reply) left
      → KeepsUp replies start before (bytes ++ 10 ∷ []) new later left part_left
  stands_line bytes now after held kept reply new later left part_left s none replied_so rest = record {
    lines = s.lines ++ s.part ∷ [];
    part = [];
    split = ap (λ (xs : List ℕ). xs ++ 10 ∷ []) s.split ∙ cut-ended s.lines s.part;
    closed = AreOpen-push s.lines s.part s.closed s.open_part;
    open_part = tt;
    is_kept = none;
    replied = held_more now after held s.lines s.part reply new later left s.replied replied_so rest;
  }

  -- what was held back is written, and the lines stand as they did
  pub stands_written : (bytes : List ℕ) (now : S) (after : Option (List ℕ)) (held kept : List ℕ) (later : Option (List ℕ)) (left : List ℕ)
      (s : KeepsUp replies start before bytes now after held kept) → Appends after later held → left ≡ []
      → KeepsUp replies start before bytes now later left kept
  stands_written bytes now after held kept later left s written none = record {
    lines = s.lines;
    part = s.part;
    split = s.split;
    closed = s.closed;
    open_part = s.open_part;
    is_kept = s.is_kept;
    replied = record {
      reply = s.replied.reply ++ held;
      runs = subst (λ (t : List ℕ). RepliesToLines replies start s.lines t now)
          (sym (append-nil (s.replied.reply ++ held)) ∙ ap (λ (t : List ℕ). (s.replied.reply ++ held) ++ t) (sym none)) s.replied.runs;
      written = Appends-trans before after later s.replied.reply held s.replied.written written;
    };
  }

  -- the reply to the line was written in part
  begun_more : (bytes : List ℕ) (now : S) (after : Option (List ℕ)) (held kept reply : List ℕ) (new : S) (later : Option (List ℕ))
      (s : KeepsUp replies start before bytes now after held kept) (all others : List (List ℕ))
      → replies now s.part reply new → WritesFront after later (held ++ reply) → all ≡ s.lines ++ (s.part ∷ others)
      → IsBegun replies start before later all
  begun_more bytes now after held kept reply new later s all others replied_so front e = record {
    first = s.lines ++ s.part ∷ [];
    others = others;
    split = e ∙ sym (append_assoc s.lines (s.part ∷ []) others);
    reply = s.replied.reply ++ take front.0 (held ++ reply);
    missing = drop front.0 (held ++ reply);
    new = new;
    runs = subst (λ (t : List ℕ). RepliesToLines replies start (s.lines ++ s.part ∷ []) t new)
        (append_assoc s.replied.reply held reply ∙ cut_after s.replied.reply (held ++ reply) front.0)
        (runs_more replies start s.lines (s.replied.reply ++ held) now s.part reply new s.replied.runs replied_so);
    written = Appends-trans before after later s.replied.reply (take front.0 (held ++ reply)) s.replied.written front.1;
  }

  -- the lines that have ended are the first ones of whatever comes
  lines_here : (bytes : List ℕ) (now : S) (after : Option (List ℕ)) (held kept more : List ℕ)
      (s : KeepsUp replies start before bytes now after held kept)
      → lines_of (bytes ++ more) ≡ s.lines ++ lines_of (s.part ++ more)
  lines_here bytes now after held kept more s =
      ap (λ (xs : List ℕ). lines_of (xs ++ more)) s.split ∙ ap lines_of (append_assoc (flat_map ended s.lines) s.part more)
      ∙ lines_of-cut s.lines (s.part ++ more) s.closed

  -- where writing what was held back fails, a beginning of the replies went out, whatever comes
  pub begun_here : (bytes : List ℕ) (now : S) (after : Option (List ℕ)) (held kept : List ℕ) (later : Option (List ℕ)) (more : List ℕ)
      (s : KeepsUp replies start before bytes now after held kept) → WritesFront after later held
      → IsBegun replies start before later (lines_of (bytes ++ more))
  begun_here bytes now after held kept later more s front =
      held_begun now after held s.lines (lines_of (s.part ++ more)) (lines_of (bytes ++ more)) later s.replied front
      (lines_here bytes now after held kept more s)

  -- where writing the reply to a line fails, a beginning of the replies went out
  begun_line : (bytes : List ℕ) (now : S) (after : Option (List ℕ)) (held kept reply : List ℕ) (new : S) (later : Option (List ℕ))
      (s : KeepsUp replies start before bytes now after held kept) (more : List ℕ)
      → replies now s.part reply new → WritesFront after later (held ++ reply)
      → IsBegun replies start before later (lines_of (bytes ++ 10 ∷ more))
  begun_line bytes now after held kept reply new later s more replied_so front =
      begun_more bytes now after held kept reply new later s (lines_of (bytes ++ 10 ∷ more)) (lines_of more) replied_so front
      (ap (λ (xs : List ℕ). lines_of (xs ++ 10 ∷ more)) s.split ∙ lines_of-next s.lines s.part more s.closed s.open_part)

  -- whatever comes, the lines that have ended are the first ones, and at least one more line comes
  pub short_here : (bytes : List ℕ) (now : S) (after : Option (List ℕ)) (held kept : List ℕ) (later : Option (List ℕ)) (more : List ℕ)
      (s : KeepsUp replies start before bytes now after held kept) → 0 < length (s.part ++ more) → Appends after later held
      → IsCutShort replies start before later (lines_of (bytes ++ more))
  short_here bytes now after held kept later more s some written =
      let next = lines_of-some (s.part ++ more) some in
      record {
        first = s.lines;
        failed = next.0;
        others = next.1;
        split = lines_here bytes now after held kept more s ∙ ap (λ (ls : List (List ℕ)). s.lines ++ ls) next.2;
        new = now;
        replied = held_written now after held s.lines later s.replied written;
      }

  -- the lines that have ended have their replies
  pub stands_ended : (bytes : List ℕ) (now : S) (after : Option (List ℕ)) (held kept : List ℕ) → held ≡ []
      → KeepsUp replies start before bytes now after held kept → IsComplete replies start now before after (ended_lines bytes)
  stands_ended bytes now after held kept none s =
      subst (λ (ls : List (List ℕ)). IsComplete replies start now before after ls)
      (sym (ap ended_lines s.split ∙ ended_lines-cut s.lines s.part s.closed s.open_part))
      (held_none now after held s.lines none s.replied)

  -- at the end there is at most one line more
  lines_at_end : (bytes : List ℕ) (now : S) (after : Option (List ℕ)) (held kept : List ℕ)
      (s : KeepsUp replies start before bytes now after held kept) → lines_of bytes ≡ s.lines ++ last_line s.part
  lines_at_end bytes now after held kept s =
      ap lines_of s.split ∙ lines_of-cut s.lines s.part s.closed ∙ ap (λ (ls : List (List ℕ)). s.lines ++ ls)
      (lines_of-open s.part s.open_part)

  -- some bytes after the last end are a line
  last_line_some : (part : List ℕ) → 0 < length part → last_line part ≡ part ∷ []
  last_line_some [] h = absurd (omega arith)
  last_line_some (b ∷ part) h = refl

  -- no bytes after the last end are none
  last_line_none : (part : List ℕ) → part ≡ [] → last_line part ≡ []
  last_line_none part e = ap last_line e

  -- nothing is left after the last end
  pub finish_none : (bytes : List ℕ) (now : S) (after : Option (List ℕ)) (held kept : List ℕ)
      (s : KeepsUp replies start before bytes now after held kept) → held ≡ [] → s.part ≡ []
      → IsComplete replies start now before after (lines_of bytes)
  finish_none bytes now after held kept s none e =
      subst (λ (ls : List (List ℕ)). IsComplete replies start now before after ls)
      (sym (lines_at_end bytes now after held kept s ∙ ap (λ (ls : List (List ℕ)). s.lines ++ ls) (last_line_none s.part e)
      ∙ append-nil s.lines)) (held_none now after held s.lines none s.replied)

  -- the part left at the end of the input is the last line, and gets its reply
  pub finish_line : (bytes : List ℕ) (now : S) (after : Option (List ℕ)) (held kept reply : List ℕ) (new : S) (later : Option (List ℕ))
      (left : List ℕ) (s : KeepsUp replies start before bytes now after held kept) → 0 < length s.part
      → replies now s.part reply new → HoldsRest after later (held ++ reply) left
      → IsHeldBack replies start new before later left (lines_of bytes)
  finish_line bytes now after held kept reply new later left s some replied_so rest =
      subst (λ (ls : List (List ℕ)). IsHeldBack replies start new before later left ls)
      (sym (lines_at_end bytes now after held kept s ∙ ap (λ (ls : List (List ℕ)). s.lines ++ ls) (last_line_some s.part some)))
      (held_more now after held s.lines s.part reply new later left s.replied replied_so rest)

  -- at the end, where writing fails, a beginning of the replies went out
  finish_begun : (bytes : List ℕ) (now : S) (after : Option (List ℕ)) (held kept reply : List ℕ) (new : S) (later : Option (List ℕ))
      (s : KeepsUp replies start before bytes now after held kept) → 0 < length s.part
      → replies now s.part reply new → WritesFront after later (held ++ reply) → IsBegun replies start before later (lines_of bytes)
  finish_begun bytes now after held kept reply new later s some replied_so front =
      begun_more bytes now after held kept reply new later s (lines_of bytes) [] replied_so front
      (lines_at_end bytes now after held kept s ∙ ap (λ (ls : List (List ℕ)). s.lines ++ ls) (last_line_some s.part some))

  -- all replies to lines are a beginning of the replies
  pub begun_whole : (now : S) (after : Option (List ℕ)) (lines : List (List ℕ)) → IsComplete replies start now before after lines
      → IsBegun replies start before after lines
  begun_whole now after lines a = record {
    first = lines;
    others = [];
    split = sym (append-nil lines);
    reply = a.reply;
    missing = [];
    new = now;
    runs = subst (λ (t : List ℕ). RepliesToLines replies start lines t now) (sym (append-nil a.reply)) a.runs;
    written = a.written;
  }

module _ {S : Type 0} (T : Type 0) (replies : S → List ℕ → List ℕ → S → Type 0) (start : S) (before : Option (List ℕ)) where
  -- a call that fails to reply to the line that ends here
  pub line_failed : (bytes : List ℕ) (now : S) (after : Option (List ℕ)) (held kept : List ℕ) (new : S) (later : Option (List ℕ))
      (left part_left : List ℕ) (s : KeepsUp replies start before bytes now after held kept) (fault : ReplayFault)
      → RepliesToKept {T = T} replies now new after later held left s.part (Err fault)
      → Feeds {T = T} replies start before (bytes ++ 10 ∷ []) new later left part_left (Err fault)
  line_failed bytes now after held kept new later left part_left s WriteFailed h = λ more.
      subst (λ (xs : List ℕ). IsBegun replies start before later (lines_of xs)) (sym (append_assoc bytes (10 ∷ []) more))
      (⊎_elim (λ (front : WritesFront after later held). begun_here replies start before bytes now after held kept later (10 ∷ more) s front)
      (λ (w : (reply : List ℕ) × (mid : S) × replies now s.part reply mid × WritesFront after later (held ++ reply)).
      begun_line replies start before bytes now after held kept w.0 w.1 later s more w.2 w.3) h)
  line_failed bytes now after held kept new later left part_left s OutOfMemory h = λ more.
      subst (λ (xs : List ℕ). IsCutShort replies start before later (lines_of xs)) (sym (append_assoc bytes (10 ∷ []) more))
      (short_here replies start before bytes now after held kept later (10 ∷ more) s (more_to_come s.part 10 more) h)
  line_failed bytes now after held kept new later left part_left s ReadFailed h = absurd h
  line_failed bytes now after held kept new later left part_left s BadSize h = absurd h
  line_failed bytes now after held kept new later left part_left s BadSeats h = absurd h
  line_failed bytes now after held kept new later left part_left s BadWorkers h = absurd h

  -- a run that ends early, for lack of memory, before the bytes that come next
  pub early_failed : (bytes : List ℕ) (now : S) (after : Option (List ℕ)) (held kept piece : List ℕ) (new : S) (later : Option (List ℕ))
      (left part_left : List ℕ) (s : KeepsUp replies start before bytes now after held kept) → 0 < length piece → (fault : ReplayFault)
      → EndsEarly after later held fault → Feeds {T = T} replies start before (bytes ++ piece) new later left part_left (Err fault)
  early_failed bytes now after held kept piece new later left part_left s some WriteFailed h = λ more.
      subst (λ (xs : List ℕ). IsBegun replies start before later (lines_of xs)) (sym (append_assoc bytes piece more))
      (begun_here replies start before bytes now after held kept later (piece ++ more) s h)
  early_failed bytes now after held kept piece new later left part_left s some OutOfMemory h = λ more.
      subst (λ (xs : List ℕ). IsCutShort replies start before later (lines_of xs)) (sym (append_assoc bytes piece more))
      (short_here replies start before bytes now after held kept later (piece ++ more) s (some_line s.part piece more some) h)
  early_failed bytes now after held kept piece new later left part_left s some ReadFailed h = absurd h
  early_failed bytes now after held kept piece new later left part_left s some BadSize h = absurd h
  early_failed bytes now after held kept piece new later left part_left s some BadSeats h = absurd h
  early_failed bytes now after held kept piece new later left part_left s some BadWorkers h = absurd h

  -- a failure, however the input goes on
  pub feeds_failed : (bytes : List ℕ) (now : S) (after : Option (List ℕ)) (held kept piece : List ℕ) (fault : ReplayFault)
      → Feeds {T = T} replies start before bytes now after held kept (Err fault)
      → Feeds {T = T} replies start before (bytes ++ piece) now after held kept (Err fault)
  feeds_failed bytes now after held kept piece WriteFailed h = λ more.
      subst (λ (xs : List ℕ). IsBegun replies start before after (lines_of xs)) (sym (append_assoc bytes piece more)) (h (piece ++ more))
  feeds_failed bytes now after held kept piece OutOfMemory h = λ more.
      subst (λ (xs : List ℕ). IsCutShort replies start before after (lines_of xs)) (sym (append_assoc bytes piece more))
      (h (piece ++ more))
  feeds_failed bytes now after held kept piece ReadFailed h = absurd h
  feeds_failed bytes now after held kept piece BadSize h = absurd h
  feeds_failed bytes now after held kept piece BadSeats h = absurd h
  feeds_failed bytes now after held kept piece BadWorkers h = absurd h

  -- a call that fails to reply to the last line
  pub finishes_failed : (bytes : List ℕ) (now : S) (after : Option (List ℕ)) (held kept : List ℕ) (new : S) (later : Option (List ℕ))
      (left : List ℕ) (s : KeepsUp replies start before bytes now after held kept) → 0 < length s.part → (fault : ReplayFault)
      → RepliesToKept {T = T} replies now new after later held left s.part (Err fault)
      → Finishes {T = T} replies start before bytes new later (Err fault)
  finishes_failed bytes now after held kept new later left s some WriteFailed h =
      ⊎_elim (λ (front : WritesFront after later held).
      held_begun replies start before now after held s.lines (last_line s.part) (lines_of bytes) later s.replied front
      (lines_at_end replies start before bytes now after held kept s))
      (λ (w : (reply : List ℕ) × (mid : S) × replies now s.part reply mid × WritesFront after later (held ++ reply)).
      finish_begun replies start before bytes now after held kept w.0 w.1 later s some w.2 w.3) h
  finishes_failed bytes now after held kept new later left s some OutOfMemory h =
      subst (λ (xs : List ℕ). IsCutShort replies start before later (lines_of xs)) (append-nil bytes)
      (short_here replies start before bytes now after held kept later [] s
      (subst (λ (xs : List ℕ). 0 < length xs) (sym (append-nil s.part)) some) h)
  finishes_failed bytes now after held kept new later left s some ReadFailed h = absurd h
  finishes_failed bytes now after held kept new later left s some BadSize h = absurd h
  finishes_failed bytes now after held kept new later left s some BadSeats h = absurd h
  finishes_failed bytes now after held kept new later left s some BadWorkers h = absurd h

-- what is written stays written
pub replied_kept : {S : Type 0} (replies : S → List ℕ → List ℕ → S → Type 0) (start new : S) (before after later : Option (List ℕ))
    (lines : List (List ℕ)) → IsComplete replies start new before after lines → Keeps after later
    → IsComplete replies start new before later lines
replied_kept replies start new before after later lines a k =
    record { reply = a.reply; runs = a.runs; written = Appends-kept before after later a.reply a.written k }

-- at the start there is no reply
pub stands_start : {S : Type 0} (replies : S → List ℕ → List ℕ → S → Type 0) (start : S) (before : Option (List ℕ)) (held kept : List ℕ)
    → held ≡ [] → kept ≡ [] → KeepsUp replies start before [] start before held kept
stands_start replies start before held kept unheld none = record {
  lines = [];
  part = [];
  split = refl;
  closed = tt;
  open_part = tt;
  is_kept = none;
  replied = record { reply = []; runs = (unheld, refl); written = Appends-nil before };
}
