-- A run of instructions of a chunk, by what stands from its first one on.
use Rattle.std.proofs.Common.{◌≡◌, ℕ, ◌+◌, ◌-◌, ◌<◌, Bool, true, false, cond, List, [], ◌∷◌, ◌++◌, length, get_or, refl}
use Rattle.std.proofs.Common.{sym, ◌∙◌, ap, arith}
use Rattle.std.proofs.lemmas.List.{get_or_default}
use Rattle.nc_decode.specs.declared.instruction.Mark.{Mark}
use Rattle.nc_decode.specs.declared.instruction.Mark.TheVariants.{Unmarked, Plain, After}
use Rattle.nc_decode.specs.Transfers.{is_indirect}
use Rattle.nc_vet.specs.Chunk.{Piece, marks_of}
use Rattle.nc_vet.proofs.Offered.{length-marks_of}
use Rattle.nc_vet.proofs.Offered as places
use Rattle.nc_text.specs.Marks.{mark_at}
use Rattle.nc_text.specs.MarkedText.{MarkedText, IsText}
use Rattle.nc_list.specs.declared.chunk.Chunk.{Chunk}
use Rattle.nc_base.proofs.Offered.{each_get}
use Rattle.nc_region.specs.Region.{IsInChunk, IsAscending, HoldsValid}
use Rattle.nc_region.specs.Patch.{IsHeldBy, IsHeld, AreBytesOf, lengths, IsRun}
use Rattle.nc_region.specs.machinery.PatchSteps.{Begins, Along, RunsAlong}
use Rattle.nc_region.proofs.patching.Standing.{all_long, standing}
use Rattle.nc_base.specs.Each.{Each}
use Rattle.nc_region.specs.Deletion.{HasLive}
use Rattle.nc_list.proofs.Offered.{ascending_apart}

-- where a place of the chunk is marked, an instruction begins
pub begins_marked : (marked : MarkedText) (c : Chunk) (at : ℕ) → HoldsValid marked c → IsInChunk c at
    → (mark_at marked.marks at ≡ Unmarked → ⊥) → Begins marked c at
begins_marked marked c at h inside some =
    let marks_long : length (marks_of h.valid.pieces) ≡ c.length = length-marks_of h.valid.pieces h.valid.sound.spelled
    ∙ all_long marked c h in
    let there : mark_at marked.marks at ≡ get_or (marks_of h.valid.pieces) (at - c.base) Unmarked = h.marks_are at inside
    ∙ ap (λ (z : List Mark). get_or z (at - c.base) Unmarked) h.valid.marks_are in
    let found = places.marked h.valid.pieces h.valid.sound.spelled (at - c.base) (mark_at marked.marks at)
    (omega (arith, marks_long, inside.0, inside.1)) (sym there) some in
    record {
      holds = h;
      before = found.before;
      rest = found.piece ∷ found.after;
      parts = found.parts;
      here =
          omega (arith, found.here, inside.0);
    }

-- instructions that run along parted from those behind them
pub record Cut (rest news : List Piece) : Type 0 where
  pub old : List Piece
  pub after : List Piece
  pub parts : rest ≡ old ++ after
  pub as_long : lengths old ≡ lengths news

-- a list that runs along another is cut where that one ends
pub cut : (rest news : List Piece) → RunsAlong rest news → Cut rest news
cut rest [] runs = record { old = []; after = rest; parts = refl; as_long = refl }
cut [] (n ∷ news) runs = absurd runs
cut (p ∷ rest) (n ∷ news) runs =
    let k = cut rest news runs.1 in
    record {
      old = p ∷ k.old;
      after = k.after;
      parts = ap (λ (z : List Piece). p ∷ z) k.parts;
      as_long =
          ap (λ (x : ℕ). x ∷ lengths k.old) runs.0 ∙ ap (λ (z : List ℕ). length n.bytes ∷ z) k.as_long;
    }

-- lists of the same lengths run along each other, whatever follows
pub joined : (old after news : List Piece) → lengths old ≡ lengths news → RunsAlong (old ++ after) news
joined old after [] e = tt
joined [] after (n ∷ news) e = absurd cc
joined (p ∷ old) after (n ∷ news) e = (cc, (let tail : lengths old ≡ lengths news = cc in joined old after news tail))

-- what runs along is a run
pub run_of : (marked : MarkedText) (c : Chunk) (at : ℕ) (new : List ℕ) (b : Begins marked c at) (news : List Piece) → AreBytesOf new news
    → RunsAlong b.rest news → IsRun marked c at new
run_of marked c at new b news bytes runs =
    let k = cut b.rest news runs in
    record {
      holds = b.holds;
      run = record {
        before = b.before;
        old = k.old;
        after = k.after;
        parts = b.parts
            ∙ ap (λ (z : List Piece). b.before ++ z) k.parts;
        here = b.here;
        news = news;
        bytes = bytes;
        as_long = k.as_long;
      };
    }

-- where the instructions that a run replaces begin in their chunk
abbrev pub run_begins : (marked : MarkedText) (c : Chunk) (at : ℕ) (new : List ℕ) → IsRun marked c at new → Begins marked c at
run_begins marked c at new r = record {
  holds = r.holds;
  before = r.run.before;
  rest = r.run.old ++ r.run.after;
  parts = r.run.parts;
  here = r.run.here;
}

-- a run is a list of new instructions along those of the chunk
abbrev pub run_along : (marked : MarkedText) (c : Chunk) (at : ℕ) (new : List ℕ) → IsRun marked c at new → Along marked c at new
run_along marked c at new r = record {
  begins = run_begins marked c at new r;
  news = r.run.news;
  bytes = r.run.bytes;
  runs = joined r.run.old r.run.after r.run.news r.run.as_long;
}

-- a mark of an instruction is a mark
pub some_mark : (b : Bool) (r : ℕ) → cond b (After r) Plain ≡ Unmarked → ⊥
some_mark true r e = cc
some_mark false r e = cc

-- where a run begins, a mark stands
pub run_marked : (marked : MarkedText) (c : Chunk) (at : ℕ) (new : List ℕ) → IsText marked → IsInChunk c at → IsRun marked c at new
    → mark_at marked.marks at ≡ Unmarked → ⊥
run_marked marked c at new t inside r e =
    let b = run_begins marked c at new r in
    let s = standing marked c at t b inside.1 in
    some_mark (is_indirect s.piece.instr.flow) s.piece.instr.reg (sym s.mark ∙ e)

-- ---- a place lies in one chunk

-- of two live chunks that hold a place none is before the other
none_before : (chunks : List Chunk) (at : ℕ) (c d : Chunk) → IsAscending 65536 chunks
    → (a : IsHeldBy chunks at c) (b : IsHeldBy chunks at d)
    → a.0.0 < b.0.0 → ⊥
none_before chunks at c d ascending a b lt =
    let is_c : get_or chunks a.0.0 c ≡ c = a.0.2 in
    let is_d : get_or chunks b.0.0 c ≡ d = get_or_default chunks b.0.0 c d b.0.1 ∙ b.0.2 in
    omega (
      arith,
      ascending_apart 65536 chunks a.0.0 b.0.0 c ascending lt b.0.1,
      ap (λ (x : Chunk). x.base + x.length) is_c,
      ap (λ (x : Chunk). x.base) is_d,
      a.2.1,
      b.2.0,
    )

-- two live chunks that hold a place are one
pub held_same : (chunks : List Chunk) (at : ℕ) (c d : Chunk) → IsAscending 65536 chunks
    → IsHeldBy chunks at c → IsHeldBy chunks at d → d ≡ c
held_same chunks at c d ascending a b =
    let is_c : get_or chunks a.0.0 c ≡ c = a.0.2 in
    let is_d : get_or chunks b.0.0 c ≡ d = get_or_default chunks b.0.0 c d b.0.1 ∙ b.0.2 in
    let same : b.0.0 ≡ a.0.0 = omega (arith, none_before chunks at c d ascending a b, none_before chunks at d c ascending b a) in
    sym is_d ∙ (ap (λ (k : ℕ). get_or chunks k c) same ∙ is_c)

-- a live chunk holds its base
abbrev pub live_is_held : (chunks : List Chunk) (base : ℕ) → Each (λ (d : Chunk). 0 < d.length) chunks → HasLive chunks base
    → IsHeld chunks base
live_is_held chunks base some h =
    let c : Chunk = h.0 in
    let is_c : get_or chunks h.1.0 c ≡ c = h.1.2 in
    let long = each_get (λ (d : Chunk). 0 < d.length) chunks h.1.0 c h.1.1 some in
    (h.0, (h.1, h.2, (omega (arith, h.3), omega (arith, h.3, long, ap (λ (x : Chunk). x.length) is_c))))
