-- A valid chunk, as its definition has it, is one by recursion over its instructions.
use Rattle.std.proofs.Common.{◌≡◌, ◌≢◌, ℕ, ◌+◌, ◌-◌, ◌%◌, ◌<◌, false, List, [], ◌∷◌, ◌++◌, length, drop, replicate, Option, Some, None}
use Rattle.std.proofs.Common.{inl, inr, arith, refl, ◌∙◌, sym, ap, subst, append_assoc, cond, All}
use Rattle.std.specs.Prelude.{⊤, IsTrue}
use Rattle.std.proofs.lemmas.List.{length-append}
use Rattle.std.proofs.Math.Seq.{drop-append_seam}
use Rattle.nc_decode.specs.declared.instruction.Instr.{Instr}
use Rattle.nc_decode.specs.declared.instruction.Flow.{Flow}
use Rattle.nc_decode.specs.declared.instruction.Flow.TheVariants.{Next, Branch, Jump, Call, IndirectJump, IndirectCall, Stop}
use Rattle.nc_decode.specs.declared.instruction.Mark.{Mark}
use Rattle.nc_decode.specs.declared.instruction.Mark.TheVariants.{Unmarked, Plain, After}
use Rattle.nc_decode.specs.Transfers.{is_direct, is_indirect, target}
use Rattle.nc_decode.proofs.Offered.{exact, names_registers, spells_some}
use Rattle.nc_text.specs.MarkedText.{NamesRegister}
use Rattle.nc_vet.specs.Chunk.{Piece, code_of, place}
use Rattle.nc_vet.specs.Chunk as vet
use Rattle.nc_vet.proofs.Offered.{place-push}
use Rattle.nc_base.proofs.Offered.{each_append, each_replicate, each_get}
use Rattle.nc_acts.specs.Chunks.{HasGoodSpan, IsClosedChunk}
use Rattle.nc_base.specs.Each.{Each}
use Rattle.nc_region.proofs.chunks.Instructions.{IsReading, NoneCrosses, FollowsMask, PairsHold, IsDirect, IsIndirect, BeginsAt, IsTarget}
use Rattle.nc_region.proofs.chunks.Instructions.{TargetsHold, IsValid, mark_by, marks_of}
use Rattle.nc_region.proofs.chunks.Sound.{valid_is_closed}

-- what the pieces say, without their bytes
abbrev pub instrs : List Piece → List Instr
instrs [] = []
instrs (p ∷ rest) = p.instr ∷ instrs rest

-- each piece behind some others is a whole instruction, as long as its bytes
spelled_at : (c : vet.MarkedChunk) (v : vet.IsValid c) (done more : List Piece) (p : Piece) → v.pieces ≡ done ++ p ∷ more
    → (p.instr.len ≡ length p.bytes) × (0 < p.instr.len)
spelled_at c v done more p e = spells_some p.bytes p.instr (v.sound.spelled done more p e)

-- a list parted in front of a piece, parted behind it
further : (all done more : List Piece) (p : Piece) → all ≡ done ++ p ∷ more → all ≡ (done ++ p ∷ []) ++ more
further all done more p e = e ∙ sym (append_assoc done (p ∷ []) more)

-- the pieces are a reading of the code
reading_of : (c : vet.MarkedChunk) (v : vet.IsValid c) (done rest : List Piece) → v.pieces ≡ done ++ rest
    → IsReading (code_of rest) (instrs rest)
reading_of c v done [] e = refl
reading_of c v done (p ∷ more) e =
    let n = spelled_at c v done more p e in (
      (exact (p.bytes ++ code_of more) p.instr).1
          (record { front = p.bytes; rest = code_of more; parts = refl; spells = v.sound.spelled done more p e }),
      subst (λ (bytes : List ℕ). IsReading bytes (instrs more))
          (sym (ap (λ (k : ℕ). drop k (p.bytes ++ code_of more)) n.0 ∙ drop-append_seam p.bytes (code_of more)))
          (reading_of c v (done ++ p ∷ []) more (further v.pieces done more p e)),
    )

-- no instruction of a valid chunk crosses the end of a bundle, from any piece on
crossing_of : (c : vet.MarkedChunk) (v : vet.IsValid c) (done rest : List Piece) → v.pieces ≡ done ++ rest
    → NoneCrosses (c.base + place done) (instrs rest)
crossing_of c v done [] e = tt
crossing_of c v done (p ∷ more) e =
    let n = spelled_at c v done more p e in
    let next : c.base + place (done ++ p ∷ []) ≡ c.base + place done + p.instr.len = omega (arith, place-push done p, n.0) in (
      omega (arith, n.0, v.sound.inside done more p e, v.base_is.0),
      subst (λ (at : ℕ). NoneCrosses at (instrs more)) next (crossing_of c v (done ++ p ∷ []) more (further v.pieces done more p e)),
    )

-- what the last of some pieces masks
abbrev last_masks : List Piece → Option ℕ
last_masks [] = None
last_masks (p ∷ []) = p.instr.masks
last_masks (p ∷ q ∷ rest) = last_masks (q ∷ rest)

-- what the last piece masks
last_masks_of : (done : List Piece) (p : Piece) → last_masks (done ++ p ∷ []) ≡ p.instr.masks
last_masks_of [] p = refl
last_masks_of (q ∷ []) p = refl
last_masks_of (q ∷ r ∷ rest) p = last_masks_of (r ∷ rest) p

-- a second half follows its mask, not at a bundle start
follows_of : (c : vet.MarkedChunk) (v : vet.IsValid c) (done more : List Piece) (p : Piece) → v.pieces ≡ done ++ p ∷ more → (reg : ℕ)
    → vet.FollowsMask done reg → (last_masks done ≡ Some reg) × ((c.base + place done) % 32 ≢ 0)
follows_of c v done more p e reg f =
    let last = ap last_masks f.last ∙ (last_masks_of f.earlier f.mask ∙ f.masks) in
    let whole : v.pieces ≡ f.earlier ++ f.mask ∷ (p ∷ more) = e
    ∙ (ap (λ (xs : List Piece). xs ++ p ∷ more) f.last ∙ append_assoc f.earlier (f.mask ∷ []) (p ∷ more)) in
    let n = spelled_at c v f.earlier (p ∷ more) f.mask whole in
    let here : place done ≡ place f.earlier + length f.mask.bytes = ap place f.last ∙ place-push f.earlier f.mask in
    (last, λ start. omega (arith, n.0, n.1, here, f.together, v.base_is.0, start))

-- an indirect transfer follows its mask
follows_by : (flow : Flow) (reg : ℕ) (before : Option ℕ) (at : ℕ) → (IsTrue (is_indirect flow) → (before ≡ Some reg) × (at % 32 ≢ 0))
    → FollowsMask flow reg before at
follows_by Next reg before at h = tt
follows_by Branch reg before at h = tt
follows_by Jump reg before at h = tt
follows_by Call reg before at h = tt
follows_by IndirectJump reg before at h = h refl
follows_by IndirectCall reg before at h = h refl
follows_by Stop reg before at h = tt

-- each indirect transfer of a valid chunk follows its mask, from any piece on
pairs_of : (c : vet.MarkedChunk) (v : vet.IsValid c) (done rest : List Piece) → v.pieces ≡ done ++ rest
    → PairsHold (last_masks done) (c.base + place done) (instrs rest)
pairs_of c v done [] e = tt
pairs_of c v done (p ∷ more) e =
    let n = spelled_at c v done more p e in
    let next : c.base + place (done ++ p ∷ []) ≡ c.base + place done + p.instr.len = omega (arith, place-push done p, n.0) in (
      follows_by p.instr.flow p.instr.reg (last_masks done) (c.base + place done)
          (λ indirect. follows_of c v done more p e p.instr.reg (v.sound.paired done more p e indirect)),
      subst (λ (masks : Option ℕ). PairsHold masks (c.base + place done + p.instr.len) (instrs more)) (last_masks_of done p)
          (subst (λ (at : ℕ). PairsHold (last_masks (done ++ p ∷ [])) at (instrs more)) next
          (pairs_of c v (done ++ p ∷ []) more (further v.pieces done more p e))),
    )

-- a flow that is not indirect
not_indirect : (flow : Flow) → is_indirect flow ≡ false → IsIndirect flow → ⊥
not_indirect Next e h = h
not_indirect Branch e h = h
not_indirect Jump e h = h
not_indirect Call e h = h
not_indirect IndirectJump e h = absurd cc
not_indirect IndirectCall e h = absurd cc
not_indirect Stop e h = h

-- a flow that is direct
direct_is : (flow : Flow) → IsDirect flow → IsTrue (is_direct flow)
direct_is Next h = absurd h
direct_is Branch h = refl
direct_is Jump h = refl
direct_is Call h = refl
direct_is IndirectJump h = absurd h
direct_is IndirectCall h = absurd h
direct_is Stop h = absurd h

-- each piece of a list is as long as its bytes
abbrev AreSized : List Piece → Type 0
AreSized [] = ⊤
AreSized (p ∷ rest) = (p.instr.len ≡ length p.bytes) × AreSized rest

-- each piece is as long as its instruction
sized_of : (c : vet.MarkedChunk) (v : vet.IsValid c) (done rest : List Piece) → v.pieces ≡ done ++ rest → AreSized rest
sized_of c v done [] e = tt
sized_of c v done (p ∷ more) e = ((spelled_at c v done more p e).0, sized_of c v (done ++ p ∷ []) more (further v.pieces done more p e))

-- a piece that is not indirect begins at its place
begins_at : (before after : List Piece) (p : Piece) (base : ℕ) → AreSized (before ++ p ∷ after) → is_indirect p.instr.flow ≡ false
    → BeginsAt (base + place before) base (instrs (before ++ p ∷ after))
begins_at [] after p base sized first = inl (omega arith, not_indirect p.instr.flow first)
begins_at (q ∷ before) after p base sized first =
    let e : base + q.instr.len + place before ≡ base + place (q ∷ before) =
    omega (arith, sized.0, length-append q.bytes (code_of before)) in
    inr (subst (λ (at : ℕ). BeginsAt at (base + q.instr.len) (instrs (before ++ p ∷ after))) e
    (begins_at before after p (base + q.instr.len) sized.1 first))

-- a good target among a valid chunk's pieces is one among their instructions
target_of : (c : vet.MarkedChunk) (v : vet.IsValid c) (t : ℕ) → vet.IsTarget c.base c.limit v.pieces t
    → IsTarget c.base c.limit (length c.code) (instrs v.pieces) t
target_of c v t good =
    let long : place v.pieces ≡ length c.code = ap (λ (bs : List ℕ). length bs) (sym v.parts) in
    elim good [
      | inl inside ↦
          let entry = inside.3 in
          let sized = subst AreSized entry.parts (sized_of c v [] v.pieces refl) in
          let at_entry = begins_at entry.before entry.after entry.piece c.base sized entry.first in
          let here : c.base + place entry.before ≡ t = omega (arith, entry.here, inside.1) in
          inl (
            omega (arith, inside.1),
            omega (arith, inside.1, inside.2, long),
            subst (λ (at : ℕ). BeginsAt at c.base (instrs v.pieces)) here
                (subst (λ (ps : List Piece). BeginsAt (c.base + place entry.before) c.base (instrs ps)) (sym entry.parts) at_entry),
          )
      | inr outside ↦ inr (elim outside.0 [ inl l ↦ inl l | inr p ↦ inr (omega (arith, p, long)) ], outside.1, outside.2)
    ]

-- each direct transfer of a valid chunk goes to a good target
targets_of : (c : vet.MarkedChunk) (v : vet.IsValid c) (done rest : List Piece) → v.pieces ≡ done ++ rest
    → TargetsHold (IsTarget c.base c.limit (length c.code) (instrs v.pieces)) (c.base + place done) (instrs rest)
targets_of c v done [] e = tt
targets_of c v done (p ∷ more) e =
    let n = spelled_at c v done more p e in
    let next : c.base + place (done ++ p ∷ []) ≡ c.base + place done + p.instr.len = omega (arith, place-push done p, n.0) in (
      λ direct. target_of c v (target p.instr (c.base + place done)) (v.targets done more p e (direct_is p.instr.flow direct)),
      subst (λ (at : ℕ). TargetsHold (IsTarget c.base c.limit (length c.code) (instrs v.pieces)) at (instrs more)) next
          (targets_of c v (done ++ p ∷ []) more (further v.pieces done more p e)),
    )

-- the mark of an instruction
mark_is : (flow : Flow) (reg : ℕ) → cond (is_indirect flow) (After reg) Plain ≡ mark_by flow reg
mark_is Next reg = refl
mark_is Branch reg = refl
mark_is Jump reg = refl
mark_is Call reg = refl
mark_is IndirectJump reg = refl
mark_is IndirectCall reg = refl
mark_is Stop reg = refl

-- the marks of the pieces are those of the reading
same_marks : (pieces : List Piece) → vet.marks_of pieces ≡ marks_of (instrs pieces)
same_marks [] = refl
same_marks (p ∷ rest) =
    ap (λ (m : Mark). m ∷ (replicate (p.instr.len - 1) Unmarked ++ vet.marks_of rest)) (mark_is p.instr.flow p.instr.reg)
    ∙ ap (λ (ms : List Mark). mark_by p.instr.flow p.instr.reg ∷ (replicate (p.instr.len - 1) Unmarked ++ ms)) (same_marks rest)

-- a valid chunk is whole bundles of the region below the guard
placed_of : (c : vet.MarkedChunk) → vet.IsValid c → HasGoodSpan c.base c.limit (length c.code)
placed_of c v = record {
  lawful = v.range.0;
  start = v.base_is.0;
  whole = v.length_is.1;
  some = v.length_is.0;
  low =
      v.base_is.1;
  high = v.range.1;
}

-- a valid chunk by its reading
valid_of : (c : vet.MarkedChunk) (v : vet.IsValid c) → IsValid c.base c.limit c.code (instrs v.pieces)
valid_of c v =
    let none : c.base + place [] ≡ c.base = omega arith in
    record {
      placed = placed_of c v;
      reading = subst (λ (bytes : List ℕ). IsReading bytes (instrs v.pieces)) (sym v.parts) (reading_of c v [] v.pieces refl);
      crossing = subst (λ (at : ℕ). NoneCrosses at (instrs v.pieces)) none (crossing_of c v [] v.pieces refl);
      pairs = subst (λ (at : ℕ). PairsHold None at (instrs v.pieces)) none (pairs_of c v [] v.pieces refl);
      targets = subst (λ (at : ℕ). TargetsHold (IsTarget c.base c.limit (length c.code) (instrs v.pieces)) at (instrs v.pieces)) none
          (targets_of c v [] v.pieces refl);
    }

-- a valid chunk is closed by itself
pub valid_chunk_is_closed : (c : vet.MarkedChunk) → vet.IsValid c → IsClosedChunk c.base c.limit c.code c.marks
valid_chunk_is_closed c v =
    subst (λ (marks : List Mark). IsClosedChunk c.base c.limit c.code marks) (sym (v.marks_are ∙ same_marks v.pieces))
    (valid_is_closed c.base c.limit c.code (instrs v.pieces) (valid_of c v))

-- ---- registers

-- the mark of an instruction names a register
named_by : (flow : Flow) (reg : ℕ) → reg < 8 → NamesRegister (cond (is_indirect flow) (After reg) Plain)
named_by Next reg lt = tt
named_by Branch reg lt = tt
named_by Jump reg lt = tt
named_by Call reg lt = tt
named_by IndirectJump reg lt = lt
named_by IndirectCall reg lt = lt
named_by Stop reg lt = tt

-- each mark of the pieces names a register
marks_named : (c : vet.MarkedChunk) (v : vet.IsValid c) (done rest : List Piece) → v.pieces ≡ done ++ rest
    → Each NamesRegister (vet.marks_of rest)
marks_named c v done [] e = tt
marks_named c v done (p ∷ more) e =
    let found = (exact (p.bytes ++ []) p.instr).1
    (record { front = p.bytes; rest = []; parts = refl; spells = v.sound.spelled done more p e }) in (
      named_by p.instr.flow p.instr.reg (names_registers (p.bytes ++ []) p.instr found).0,
      each_append NamesRegister (replicate (p.instr.len - 1) Unmarked) (vet.marks_of more)
          (each_replicate NamesRegister (p.instr.len - 1) Unmarked tt)
          (marks_named c v (done ++ p ∷ []) more (further v.pieces done more p e)),
    )

-- the marks of a valid chunk name registers from 0 to 7
pub chunk_names_registers : (c : vet.MarkedChunk) → vet.IsValid c → All NamesRegister c.marks
chunk_names_registers c v = λ k d lt.
    each_get NamesRegister c.marks k d lt (subst (Each NamesRegister) (sym v.marks_are) (marks_named c v [] v.pieces refl))
