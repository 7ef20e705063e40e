-- The session's replies are the script's.
use Rattle.std.proofs.Common.{◌≡◌, ◌≢◌, ap, List, replicate, inr, refl}
use Rattle.std.specs.Prelude.{Result, Ok, Err, IfErr, IsErrOf}
use Rattle.std.proofs.lemmas.Result.{on_ok_weaker}
use Rattle.std.proofs.lemmas.Option.{IfSome_then}
use Rattle.nc_lines.specs.declared.fault.ReplayFault.{ReplayFault}
use Rattle.nc_lines.specs.declared.fault.ReplayFault.TheVariants.{BadSize, BadSeats, BadWorkers}
use Rattle.nc_lines.specs.Lines.{lines_of, ended_lines}
use Rattle.nc_lines.specs.Replying.{IsComplete, IsBegun, IsCutShort}
use Rattle.nc_script.specs.Serving.{IsOnlyReply, new_script}
use Rattle.nc_script.specs.Run.{HasReplied}
use Rattle.nc_script.specs.Script.{ScriptSeat, Staying}
use Rattle.nc_script.specs.machinery.Session.{SessionOf, FollowsLine}
use Rattle.nc_script.proofs.seating.FirstState.{begins_run}
use Rattle.nc_script.proofs.serving.Carried.{replied_script, begun_script, cut_script}
use Rattle.nc_script.proofs.replay.run_new.Goals as goal

-- a run with valid numbers is refused for none of them
no_fault : {T : Type 0} (r : Result T ReplayFault) (f : ReplayFault) → IfErr r (λ fault. (fault ≢ BadSize) × (fault ≢ BadSeats) × (fault ≢ BadWorkers))
    → IsErrOf r f → (f ≢ BadSize) × (f ≢ BadSeats)
no_fault (Ok x) f h e = absurd cc
no_fault (Err fault) f h e = (λ same. h.0 cc, λ same. h.1 cc)

-- nor for a number of workers
no_workers_of : {T : Type 0} (r : Result T ReplayFault) → IfErr r (λ fault. (fault ≢ BadSize) × (fault ≢ BadSeats) × (fault ≢ BadWorkers))
    → IfErr r (λ fault. fault ≢ BadWorkers)
no_workers_of (Ok x) h = tt
no_workers_of (Err fault) h = h.2

pub returns-in-Ok-new-2 : goal.returns-in-Ok-new-2
returns-in-Ok-new-2 g c =
    let old = c.new-session.result in
    let queries = c.args.manner.queries in
    let is : old.queries ≡ queries = ap (λ (s : SessionOf). s.queries) c.new-session.ensures in
    let seats : List ScriptSeat = replicate c.args.seats (Staying 0) in
    let script = new_script c.args.bundles c.args.seats in
    let (begins, fits) = begins_run c.in-Ok-new-2.region c.in-Ok-new.threads c.args.bundles c.args.seats _ c.in-Ok.keeper c.in-Ok.passes.items
    c.requires.seats.0 c.in-Ok.ensures.keeper c.in-Ok.ensures.passes c.in-Ok-new-2.ensures.region c.in-Ok-new.ensures old.state (ap (λ (s : SessionOf). s.state) c.new-session.ensures) in
    let input = g.R.Read.remaining c.args.reader.now in
    let before = g.W.Write.contents c.args.writer.now in
    let after = g.W.Write.contents c.reply_gathered.new.writer in
    let ran = c.reply_gathered.ensures in
    record {
      bad_size = (λ e. absurd ((no_fault c.reply_gathered.result BadSize ran.faults e).0 refl), λ none. absurd (none c.requires.size));
      bad_seats = (λ e. absurd ((no_fault c.reply_gathered.result BadSeats ran.faults e).1 refl), λ due. absurd (due.1 c.requires.seats));
      no_workers = no_workers_of c.reply_gathered.result ran.faults;
      untouched = λ wrong. absurd (wrong (c.requires.size, c.requires.seats));
      ok = on_ok_weaker c.reply_gathered.result
          (λ h.
          IfSome_then input
          {P = (λ bytes. IsComplete FollowsLine old c.reply_gathered.new.responder before after (lines_of bytes))}
          {Q = (λ bytes. HasReplied queries c.args.bundles c.args.seats before after (lines_of bytes))}
          h (λ bytes a. replied_script old seats 0 script fits begins queries is c.reply_gathered.new.responder before after (lines_of bytes) a))
          ran.ok;
      read = ran.read;
      write_failed = λ e.
          IfSome_then input
          {P = (λ bytes. IsBegun FollowsLine old before after (lines_of bytes))}
          {Q = (λ bytes. IsBegun (IsOnlyReply queries) script before after (lines_of bytes))}
          (ran.write_failed e) (λ bytes b. begun_script old seats 0 script fits begins queries is before after (lines_of bytes) b);
      read_failed = λ e.
          (let (front, consumed, replied) = ran.read_failed e in (
            front,
            consumed,
            replied_script old seats 0 script fits begins queries is c.reply_gathered.new.responder before after (ended_lines front) replied,
          ));
      out_of_memory = λ e.
          inr
          (IfSome_then input
          {P = (λ bytes. IsCutShort FollowsLine old before after (lines_of bytes))}
          {Q = (λ bytes. IsCutShort (IsOnlyReply queries) script before after (lines_of bytes))}
          (ran.out_of_memory e) (λ bytes s. cut_script old seats 0 script fits begins queries is before after (lines_of bytes) s));
    }
