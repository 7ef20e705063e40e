use Rattle.std.proofs.Common.{◌≡◌, ℕ, ◌+◌, ◌-◌, ◌≤◌, cond, List, [], ◌++◌, length, take, drop, None, Some, eqb-true}
use Rattle.std.proofs.Common.{refl, sym, subst, ◌∙◌, ap, arith, rules}
use Rattle.std.proofs.lemmas.Bool.{eqb-false}
use Rattle.std.proofs.lemmas.List.{length-take, length-drop, nil_from_length}
use Rattle.std.specs.Result.{result_ok}
use Rattle.nc_decode.specs.declared.instruction.Instr.{Instr}
use Rattle.nc_decode.specs.Front.{first_instruction}
use Rattle.nc_vet.specs.Chunk.{Piece}
use Rattle.nc_text.specs.Places.{limit_of, byte_at}
use Rattle.nc_text.specs.MarkedText.{MarkedText, IsText, with_span}
use Rattle.nc_text.specs.Ready.{AreReady}
use Rattle.nc_list.specs.declared.chunk.Chunk.{Chunk}
use Rattle.nc_acts.specs.declared.acts.Entry.{Entry}
use Rattle.nc_acts.specs.Log.{Logs}
use Rattle.nc_region.specs.Patch.{stands_there, log_of_instruction, log_of_patch}
use Rattle.nc_region.specs.machinery.PatchSteps.{CanPatch, IsReplacing}
use Rattle.nc_text.proofs.Offered.{span_behind}
use Rattle.nc_acts.proofs.Offered.{same_code}
use Rattle.nc_acts.proofs.Offered.{logs_none, logs_more}
use Rattle.nc_region.proofs.patching.NewInstructions.{none_of_none, not_found, parted, span_none, whole_again}
use Rattle.nc_region.proofs.patching.Standing.{lies}
use Rattle.nc_region.proofs.chunks.ReadyPlaces.{ready_part}
use Rattle.nc_region.proofs.patching.Exchanged.{changed, changes_replace}
use Rattle.nc_region.proofs.patching.Turns.{turn, next_patch, spans_join, same_log}
use Rattle.nc_region.proofs.patch.put.+put_patch.Goals as goal

-- behind the first new instruction no byte changes
same_behind : (marked : MarkedText) (chunk : Chunk) (at : ℕ) (new : List ℕ) (i : Instr) (patch : CanPatch marked chunk at new)
    → IsText marked → first_instruction new ≡ Some i → (now : List ℕ) → now ≡ with_span marked.bytes (at - 65536) (take i.len new)
    → (k : ℕ) → at + i.len ≤ k → byte_at now k ≡ byte_at marked.bytes k
same_behind marked chunk at new i patch whole is now put k le =
    let p = parted new patch.run.news i patch.run.bytes is in
    let w = turn marked chunk at new patch p.first p.rest whole p.is in
    let r = changes_replace marked chunk at patch.run.before (w.os ++ patch.run.after) w.o p.first w.change in
    ap (λ (z : List ℕ). byte_at z k) (put ∙ ap (λ (z : List ℕ). with_span marked.bytes (at - 65536) z) p.front)
    ∙ span_behind marked.bytes at p.first.bytes k 0 r.low r.high (omega (arith, le, p.len))

pub returns-then-is_empty-clause-patched : goal.returns-then-is_empty-clause-patched
returns-then-is_empty-clause-patched g t c =
    let none : length c.args.new.now ≡ 0 = eqb-true _ _ (sym c.is_empty.ensures ∙ c.if-is_empty.true) in
    record {
      bytes =
          sym (ap (λ (z : List ℕ). with_span (g.A.Acts.marked c.args.acts.now).bytes (c.args.at - 65536) z) (nil_from_length c.args.new.now none)
          ∙ span_none (g.A.Acts.marked c.args.acts.now).bytes (c.args.at - 65536));
      marks = refl;
      whole = c.requires.whole;
      holds = c.requires.patch.holds;
      log = λ news b.
          subst (λ (z : List Piece). Logs (g.A.Acts.logged c.args.acts.now) (g.A.Acts.logged c.args.acts.now)
          (log_of_patch (g.A.Acts.marked c.args.acts.now).bytes c.args.at z)) (sym (none_of_none c.args.new.now news none b))
          (logs_none (g.A.Acts.logged c.args.acts.now));
    }

pub returns-in_default-clause-patched : goal.returns-in_default-clause-patched
returns-in_default-clause-patched g t c =
    let none : first_instruction c.args.new.now ≡ None = sym c.decode.ensures.first ∙ ap result_ok c.in_default.is in
    let some = eqb-false (length c.args.new.now) 0 (sym c.is_empty.ensures ∙ c.if-is_empty.false) in
    absurd (not_found c.args.new.now (omega (arith, some)) none c.requires.patch.run.news c.requires.patch.run.bytes)

pub put_where_new-requires : goal.put_where_new-requires
put_where_new-requires g t c =
    let marked = g.A.Acts.marked c.args.acts.now in
    let patch = c.requires.patch in
    let is = sym c.decode.ensures.first ∙ ap result_ok c.in-Ok.is in
    let p = parted c.args.new.now patch.run.news c.in-Ok.instr patch.run.bytes is in
    let w = turn marked c.args.chunk c.args.at c.args.new.now patch p.first p.rest c.requires.whole p.is in
    record {
      whole = c.requires.whole;
      ready = ready_part _ c.args.at (length c.args.new.now) c.args.at _ c.requires.ready (omega arith)
          (omega (arith, p.len, p.long, length-take {A = ℕ}, length-drop {A = ℕ}));
      replacing = subst (λ (z : List ℕ). IsReplacing (g.A.Acts.marked c.args.acts.now) c.args.at z) (sym p.front)
          (changes_replace marked c.args.chunk c.args.at patch.run.before (w.os ++ patch.run.after) w.o p.first w.change);
    }

pub put_patch-requires : goal.put_patch-requires
put_patch-requires g t c =
    let marked = g.A.Acts.marked c.args.acts.now in
    let mid = g.A.Acts.marked c.put_where_new.new.acts in
    let patch = c.requires.patch in
    let some = eqb-false (length c.args.new.now) 0 (sym c.is_empty.ensures ∙ c.if-is_empty.false) in
    let is = sym c.decode.ensures.first ∙ ap result_ok c.in-Ok.is in
    let sized = c.decode.ensures.sized in
    let p = parted c.args.new.now patch.run.news c.in-Ok.instr patch.run.bytes is in
    let w = turn marked c.args.chunk c.args.at c.args.new.now patch p.first p.rest c.requires.whole p.is in
    let same : g.A.Acts.marked c.put_where_new.new.acts ≡ changed (g.A.Acts.marked c.args.acts.now) c.args.at p.first.bytes =
    same_code (g.A.Acts.marked c.put_where_new.new.acts) (changed (g.A.Acts.marked c.args.acts.now) c.args.at p.first.bytes)
    (c.put_where_new.ensures.bytes ∙ ap
    (λ (z : List ℕ). with_span (g.A.Acts.marked c.args.acts.now).bytes
    (c.args.at - 65536) z) p.front) c.put_where_new.ensures.marks in
    let next : CanPatch (g.A.Acts.marked c.put_where_new.new.acts) c.args.chunk (c.args.at + c.from.result)
    (take (length c.args.new.now - c.in-Ok.instr.len) (drop c.in-Ok.instr.len c.args.new.now)) =
    subst (λ (k : MarkedText). CanPatch k c.args.chunk (c.args.at + c.from.result)
    (take (length c.args.new.now - c.in-Ok.instr.len) (drop c.in-Ok.instr.len c.args.new.now))) (sym same)
    (next_patch marked c.args.chunk c.args.at c.args.new.now patch p.first p.rest w c.from.result
    (take (length c.args.new.now - c.in-Ok.instr.len) (drop c.in-Ok.instr.len c.args.new.now)) (c.from.ensures ∙ p.len) p.behind) in
    let ready : AreReady (g.A.Acts.made c.put_where_new.new.acts) (c.args.at + c.from.result)
    (length (take (length c.args.new.now - c.in-Ok.instr.len) (drop c.in-Ok.instr.len c.args.new.now))) =
    rw c.put_where_new.ensures.made (ready_part _ c.args.at (length c.args.new.now) (c.args.at + c.from.result) _ c.requires.ready
    (omega arith) (omega (arith, c.from.ensures, p.len, p.long, length-take {A = ℕ}, length-drop {A = ℕ}))) in
    let ends : c.args.at + c.from.result + length (take (length c.args.new.now - c.in-Ok.instr.len) (drop c.in-Ok.instr.len c.args.new.now))
    ≤ c.args.chunk.base + c.args.chunk.length =
    omega (arith, c.requires.ends, c.from.ensures, p.len, p.long, length-take {A = ℕ}, length-drop {A = ℕ}) in
    λ κs lives. (search rules, (search rules, (c.put_where_new.ensures.whole, (next, (ends, ready)))))

pub returns-clause-patched : goal.returns-clause-patched
returns-clause-patched g t c =
    record {
      bytes =
          (let marked = g.A.Acts.marked c.args.acts.now in
          let patch = c.requires.patch in
          let is = sym c.decode.ensures.first ∙ ap result_ok c.in-Ok.is in
          let p = parted c.args.new.now patch.run.news c.in-Ok.instr patch.run.bytes is in
          let w = turn marked c.args.chunk c.args.at c.args.new.now patch p.first p.rest c.requires.whole p.is in
          let r = changes_replace marked c.args.chunk c.args.at patch.run.before (w.os ++ patch.run.after) w.o p.first w.change in
          let rest : List ℕ = take (length c.args.new.now - c.in-Ok.instr.len) (drop c.in-Ok.instr.len c.args.new.now) in
          let fits : c.args.at + length c.args.new.now ≤ limit_of (g.A.Acts.marked c.args.acts.now).bytes =
          omega (arith, c.requires.ends, (lies marked c.args.chunk c.requires.whole patch.holds).high) in
          c.put_patch.ensures.patched.bytes
          ∙ (ap (λ (z : List ℕ). with_span z (c.args.at + c.from.result - 65536)
          (take (length c.args.new.now - c.in-Ok.instr.len) (drop c.in-Ok.instr.len c.args.new.now))) (c.put_where_new.ensures.bytes
          ∙ ap (λ (z : List ℕ). with_span (g.A.Acts.marked c.args.acts.now).bytes (c.args.at - 65536) z) p.front)
          ∙ (ap (λ (k : ℕ). with_span (with_span (g.A.Acts.marked c.args.acts.now).bytes (c.args.at - 65536) p.first.bytes)
          (c.args.at + k - 65536) (take (length c.args.new.now - c.in-Ok.instr.len) (drop c.in-Ok.instr.len c.args.new.now)))
          (c.from.ensures ∙ p.len)
          ∙ (spans_join (g.A.Acts.marked c.args.acts.now).bytes c.args.at p.first.bytes
          (take (length c.args.new.now - c.in-Ok.instr.len) (drop c.in-Ok.instr.len c.args.new.now)) r.low (omega (arith, fits, p.long))
          ∙ ap (λ (z : List ℕ). with_span (g.A.Acts.marked c.args.acts.now).bytes (c.args.at - 65536) z)
          (whole_again c.args.new.now patch.run.news c.in-Ok.instr p)))));
      marks = c.put_patch.ensures.patched.marks ∙ c.put_where_new.ensures.marks;
      whole = c.put_patch.ensures.patched.whole;
      holds = c.put_patch.ensures.patched.holds;
      log = λ news b.
          (let marked = g.A.Acts.marked c.args.acts.now in
          let is = sym c.decode.ensures.first ∙ ap result_ok c.in-Ok.is in
          let q = parted c.args.new.now news c.in-Ok.instr b is in
          let patch = c.requires.patch in
          let one : Logs (g.A.Acts.logged c.args.acts.now) (g.A.Acts.logged c.put_where_new.new.acts)
          (cond (stands_there (g.A.Acts.marked c.args.acts.now).bytes c.args.at q.first.bytes) []
          (log_of_instruction c.args.at q.first.bytes)) =
          subst (λ (z : List ℕ). Logs (g.A.Acts.logged c.args.acts.now) (g.A.Acts.logged c.put_where_new.new.acts)
          (cond (stands_there (g.A.Acts.marked c.args.acts.now).bytes c.args.at z) []
          (log_of_instruction c.args.at z))) q.front c.put_where_new.ensures.log in
          let len : c.from.result ≡ length q.first.bytes = c.from.ensures ∙ q.len in
          let agree : (k : ℕ) → c.args.at + length q.first.bytes ≤ k
          → byte_at (g.A.Acts.marked c.put_where_new.new.acts).bytes k ≡ byte_at (g.A.Acts.marked c.args.acts.now).bytes k = λ k le.
          same_behind marked c.args.chunk c.args.at c.args.new.now c.in-Ok.instr patch c.requires.whole is _
          c.put_where_new.ensures.bytes k (omega (arith, le, q.len)) in
          let two : Logs (g.A.Acts.logged c.put_where_new.new.acts) (g.A.Acts.logged c.put_patch.new.acts)
          (log_of_patch (g.A.Acts.marked c.args.acts.now).bytes (c.args.at + length q.first.bytes) q.rest) =
          subst (λ (z : List Entry). Logs (g.A.Acts.logged c.put_where_new.new.acts) (g.A.Acts.logged c.put_patch.new.acts) z)
          (same_log (g.A.Acts.marked c.put_where_new.new.acts).bytes (g.A.Acts.marked c.args.acts.now).bytes
          (c.args.at + length q.first.bytes) q.rest agree)
          (subst (λ (k : ℕ). Logs (g.A.Acts.logged c.put_where_new.new.acts) (g.A.Acts.logged c.put_patch.new.acts)
          (log_of_patch (g.A.Acts.marked c.put_where_new.new.acts).bytes (c.args.at + k) q.rest)) len
          (c.put_patch.ensures.patched.log q.rest q.behind)) in
          subst (λ (z : List Piece). Logs (g.A.Acts.logged c.args.acts.now) (g.A.Acts.logged c.put_patch.new.acts)
          (log_of_patch (g.A.Acts.marked c.args.acts.now).bytes c.args.at z)) (sym q.is)
          (logs_more _ _ _ _ _ one two));
    }
