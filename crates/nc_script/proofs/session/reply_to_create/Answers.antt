use Rattle.std.proofs.Common.{◌≡◌, ◌∙◌, ℕ, refl, ap, sym, subst}
use Rattle.std.specs.Prelude.{codes}
use Rattle.std.proofs.lemmas.Result.{on_ok_weaker}
use Rattle.nc_vet.specs.Faults.{HasFault}
use Rattle.nc_vet.specs.Chunk.{MarkedChunk}
use Rattle.nc_region.specs.Region.{Region, IsRefused, MayRefuse, live_chunk}
use Rattle.nc_region.specs.declared.fault.CreateFault.{CreateFault}
use Rattle.nc_region.specs.declared.fault.CreateFault.TheVariants.{WrongLimit, Occupied, OutOfMemory}
use Rattle.nc_script.specs.Requests.{Create}
use Rattle.nc_script.specs.machinery.Session.{FollowsIn}
use Rattle.nc_output.specs.Verdicts.{with_line_end, refused_words, fault_words}
use Rattle.nc_script.proofs.chunks.Fitting.{follows_kept, follows_same}
use Rattle.nc_script.proofs.serving.ChunkRequests.{inserted_stamped}
use Rattle.nc_script.proofs.serving.Serving.{fault_serves, created_serves, crowded_serves, as_requested}
use Rattle.nc_output.proofs.Offered.{added}
use Rattle.nc_script.proofs.session.reply_to_create.Goals.{in-Ok-create, in-Err-create}
use Rattle.nc_script.proofs.session.reply_to_create.Goals as goal

-- a refusal leaves the keeper
keeper_stays : (old new : Region) (v : MarkedChunk) (fault : CreateFault) → IsRefused old new v fault → new.keeper ≡ old.keeper
keeper_stays old new v WrongLimit same = ap (λ (r : Region). r.keeper) same
keeper_stays old new v Occupied same = ap (λ (r : Region). r.keeper) same
keeper_stays old new v OutOfMemory h = ap (λ (r : Region). r.keeper) h.0

pub returns-in-Err-clause-follows : goal.returns-in-Err-clause-follows
returns-in-Err-clause-follows g c =
    let region = c.args.region.now in
    let fault = c.in-Err.fault in
    on_ok_weaker c.push_fault.result
    (λ h. (
      with_line_end (refused_words (fault_words fault)),
      h.1,
      follows_same (Create c.args.base c.args.bytes.items) region (with_line_end (refused_words (fault_words fault)))
          (λ seats freed. fault_serves region seats freed c.args.base c.args.bytes.items fault
          (subst (λ (limit : ℕ). HasFault c.args.base limit c.args.bytes.items fault) c.limit-limit.ensures.limit c.in-Err.ensures.fault)
          h.0),
    ))
    c.push_fault.ensures

pub returns-clause-follows : goal.returns-clause-follows
returns-clause-follows g c =
    let (base_is, limit_is, code_is, valid) = c.in-Ok.ensures.vetted in
    let old = c.args.region.now in
    let new = c.create.new.self in
    let refused = with_line_end (refused_words (codes "Occupied")) in
    elim c.match-create.branch [
      | in-Ok-create w ↦
          let created = w.in-Ok-create.ensures.created in
          rw (w.result-is, w.out-is) (added w.extend_from_slice.result _ _ (with_line_end (codes "ok"))
          (λ reply. FollowsIn (Create c.args.base c.args.bytes.items) old reply new)
          w.extend_from_slice.ensures.items
          (follows_kept (Create c.args.base c.args.bytes.items) old new (with_line_end (codes "ok"))
          (ap (λ (r : Region). r.keeper) created.others)
          (λ generation h. inserted_stamped generation old.chunks new.chunks (live_chunk c.in-Ok.vetted) refl created.chunks h)
          (λ seats freed. as_requested c.in-Ok.vetted c.args.base c.args.bytes.items _ _ _ base_is code_is
          (created_serves old new seats freed c.in-Ok.vetted c.limit-limit.ensures.region
          (limit_is ∙ c.limit-limit.ensures.limit) valid created w.in-Ok-create.ensures.free.1))))
      | in-Err-create w ↦
          rw (w.result-is, w.out-is) (on_ok_weaker w.push_create_fault.result
          (λ h.
          let unchanged : new ≡ old = subst (IsRefused old new c.in-Ok.vetted) h.0 w.in-Err-create.ensures.unchanged.1 in
          let due : MayRefuse old c.in-Ok.vetted Occupied = subst (MayRefuse old c.in-Ok.vetted) h.0 w.in-Err-create.ensures.refused in (
            refused,
            h.1,
            subst (λ (now : Region). FollowsIn (Create c.args.base c.args.bytes.items) old refused now)
                (sym unchanged)
                (follows_same (Create c.args.base c.args.bytes.items) old refused
                (λ seats freed. as_requested c.in-Ok.vetted c.args.base c.args.bytes.items _ _ _ base_is code_is
                (crowded_serves old seats freed c.in-Ok.vetted c.limit-limit.ensures.region
                (limit_is ∙ c.limit-limit.ensures.limit) valid
                due.1))),
          ))
          w.push_create_fault.ensures)
    ]

pub returns-clause-keeper : goal.returns-clause-keeper
returns-clause-keeper g c =
    let old = c.args.region.now in
    let new = c.create.new.self in
    elim c.match-create.branch [
      | in-Ok-create w ↦ ap (λ (r : Region). r.keeper) w.in-Ok-create.ensures.created.others
      | in-Err-create w ↦ keeper_stays old new c.in-Ok.vetted w.in-Err-create.fault w.in-Err-create.ensures.unchanged.1
    ]
