-- The text of a region is good, and what a region's text keeps in every view between two calls.
use Rattle.std.proofs.Common.{◌≡◌, ◌≢◌, ℕ, ◌+◌, ◌-◌, ◌<◌, ◌≤◌, ◌⊎◌, List, [], ◌∷◌, ◌++◌, length, get_or, Some, inl, inr, arith, refl, ◌∙◌}
use Rattle.std.proofs.Common.{sym, ap, subst, ⊎_elim}
use Rattle.std.proofs.lemmas.Bool.{cases_lt}
use Rattle.std.proofs.lemmas.List.{length-append}
use Rattle.nc_decode.specs.declared.instruction.Instr.{Instr}
use Rattle.nc_decode.specs.declared.instruction.Mark.{Mark}
use Rattle.nc_decode.specs.declared.instruction.Mark.TheVariants.{Unmarked, Plain, After}
use Rattle.nc_vet.specs.Chunk.{Piece, place, code_of, marks_of}
use Rattle.nc_vet.proofs.Offered.{length-marks_of, place-append}
use Rattle.nc_vet.proofs.Offered as places
use Rattle.nc_text.specs.Places.{instruction_at}
use Rattle.nc_text.specs.Machine.{State}
use Rattle.nc_text.specs.Marks.{IsMarked, mark_at}
use Rattle.nc_text.specs.MarkedText.{MarkedText, IsText}
use Rattle.nc_list.specs.declared.chunk.Chunk.{Chunk}
use Rattle.nc_list.specs.declared.chunk.ChunkState.{ChunkState}
use Rattle.nc_list.specs.declared.chunk.ChunkState.TheVariants.{Live, Retired}
use Rattle.nc_region.specs.schedules.Spans.{RetiredSpan, IsQuiet, IsShut}
use Rattle.nc_region.proofs.Offered.{shut_if_quiet}
use Rattle.nc_base.specs.Each.{Each}
use Rattle.nc_region.specs.Quiet.{retired_spans}
use Rattle.nc_region.specs.Region.{IsLive, IsInChunk, HoldsValid, IsRegion}
use Rattle.nc_region.specs.machinery.PatchSteps.{Begins}
use Rattle.nc_base.proofs.Offered.{each_map, some_same}
use Rattle.nc_region.proofs.Offered.{all_long, stands_with, quiet_spans, Here, Earlier, Later, where_is}
use Rattle.nc_histories.specs.Views.{NoneOverlaps, IsFree, AreStopped}
use Rattle.nc_histories.proofs.Good.{Good, marked_inside, stop_ends}
use Rattle.nc_histories.proofs.OnePut.{not_unmarked}
use Rattle.nc_histories.proofs.RetiredSpans.{AreSpansOf, all_spans}

-- a place lies in a live chunk of which P holds, or in none
live_or_free : (P : Chunk → Type 0) (chunks : List Chunk) (at : ℕ) → Each P chunks
    → ((c : Chunk) × P c × IsLive c.state × IsInChunk c at) ⊎ IsFree chunks at
live_or_free P [] at each = inr tt
live_or_free P (c ∷ rest) at each =
    elim (live_or_free P rest at each.1) [
      | inl found ↦ inl found
      | inr free ↦ first c.state refl free
    ]
  where
    first : (s : ChunkState) → c.state ≡ s → IsFree rest at
        → ((d : Chunk) × P d × IsLive d.state × IsInChunk d at) ⊎ IsFree (c ∷ rest) at
    first Live is free =
        ⊎_elim
        (λ (below : at < c.base). inr ((λ live inside. omega (arith, inside.0, below)), free))
        (λ (low : c.base ≤ at).
        ⊎_elim
        (λ (high : at < c.base + c.length). inl (c, each.0, subst IsLive (sym is) tt, (low, high)))
        (λ (past : c.base + c.length ≤ at). inr ((λ live inside. omega (arith, inside.1, past)), free))
        (cases_lt at (c.base + c.length)))
        (cases_lt at c.base)
    first (Retired stamp) is free = inr ((λ live inside. subst IsLive is live), free)

-- where a mark of a valid chunk stands a piece begins
piece_there : (marked : MarkedText) (c : Chunk) (h : HoldsValid marked c) (at : ℕ) → IsInChunk c at → mark_at marked.marks at ≢ Unmarked
    → places.Begins h.valid.pieces (at - c.base) (mark_at marked.marks at)
piece_there marked c h at inside some =
    let long : length (marks_of h.valid.pieces) ≡ c.length =
    length-marks_of h.valid.pieces h.valid.sound.spelled ∙ all_long marked c h in
    places.marked h.valid.pieces h.valid.sound.spelled (at - c.base) (mark_at marked.marks at) (omega (arith, long, inside.0, inside.1))
    (sym (h.marks_are at inside ∙ ap (λ (z : List Mark). get_or z (at - c.base) Unmarked) h.valid.marks_are)) some

-- no piece reaches another one
pieces_apart : (before after b a : List Piece) (n p : Piece) (at k : ℕ) → before ++ n ∷ after ≡ b ++ p ∷ a → place before ≡ at
    → place b ≡ at + k → 0 < k → k < length n.bytes → ⊥
pieces_apart before after b a n p at k same here there some less =
    elim (where_is before after b a n p same) [
      | Here x y z ↦ omega (arith, ap place x, here, there, some)
      | Earlier m x y ↦ omega (arith, ap place x, place-append b (p ∷ m), here, there, some)
      | Later m x y ↦ omega (arith, ap place x, place-append before (n ∷ m), length-append n.bytes (code_of m), here, there, less)
    ]

-- a mark is `Unmarked` or another one
unmarked_or_not : (m : Mark) → (m ≡ Unmarked) ⊎ (m ≢ Unmarked)
unmarked_or_not Unmarked = inl refl
unmarked_or_not Plain = inr (λ e. cc)
unmarked_or_not (After r) = inr (λ e. cc)

-- in a valid chunk no instruction reaches another marked place
parted_live : (marked : MarkedText) (c : Chunk) → IsText marked → (h : HoldsValid marked c) → (now : State) (i : Instr) (k : ℕ)
    → IsMarked marked.marks now → IsInChunk c now.place → instruction_at marked.bytes now.place ≡ Some i → 0 < k → k < i.len
    → mark_at marked.marks (now.place + k) ≡ Unmarked
parted_live marked c t h now i k m inside is some less =
    let f = piece_there marked c h now.place inside (not_unmarked marked.marks now m) in
    let begins : Begins marked c now.place =
    record { holds = h; before = f.before; rest = f.piece ∷ f.after; parts = f.parts; here = omega (arith, f.here, inside.0) } in
    let s = stands_with marked c now.place t begins f.piece f.after refl in
    let same : s.piece.instr ≡ i = some_same (instruction_at marked.bytes now.place) s.piece.instr i s.instr is in
    let piece : s.piece ≡ f.piece = first_of s.piece f.piece s.rest f.after (sym s.is) in
    let len : i.len ≡ length f.piece.bytes =
    ap (λ (j : Instr). j.len) (sym same) ∙ (s.len ∙ ap (λ (p : Piece). length p.bytes) piece) in
    let ends : now.place + i.len ≤ c.base + c.length = omega (arith, s.ends, ap (λ (j : Instr). j.len) same) in
    elim (unmarked_or_not (mark_at marked.marks (now.place + k))) [
      | inl is_unmarked ↦ is_unmarked
      | inr marked_there ↦
          let g = piece_there marked c h (now.place + k) (omega (arith, inside.0), omega (arith, ends, less)) marked_there in
          absurd (pieces_apart f.before f.after g.before g.after f.piece g.piece (now.place - c.base) k (sym f.parts ∙ g.parts) f.here
          (omega (arith, g.here, inside.0)) some (omega (arith, less, len)))
    ]
  where
    first_of : (p q : Piece) (xs ys : List Piece) → p ∷ xs ≡ q ∷ ys → p ≡ q
    first_of p q xs ys e = cc

-- in a region no instruction reaches another marked place
pub parted_region : (marked : MarkedText) (chunks : List Chunk) → IsRegion marked chunks → NoneOverlaps marked.bytes marked.marks
parted_region marked chunks region = λ now i k m is some less.
    elim (live_or_free (λ (c : Chunk). IsLive c.state → HoldsValid marked c) chunks now.place region.live) [
      | inl found ↦ parted_live marked found.0 region.whole (found.1 found.2) now i k m found.3 is some less
      | inr free ↦
          let inside = marked_inside marked.bytes marked.bytes marked.marks now region.whole.closed refl m in
          absurd (stop_ends marked.bytes now.place k i inside (region.stops now.place inside free) is some less)
    ]

-- the text of a region is good
pub region_good : (marked : MarkedText) (chunks : List Chunk) (spans : List RetiredSpan) → IsRegion marked chunks → AreSpansOf spans chunks
    → Good marked.bytes marked.marks spans
region_good marked chunks spans region are =
    record {
      closed = region.whole.closed;
      shut = all_spans (IsShut marked.bytes marked.marks) spans chunks are
          (each_shut marked (quiet_spans marked chunks region));
      parted = parted_region marked chunks region;
    }
  where
    each_shut : (marked : MarkedText) → Each (IsQuiet marked.bytes marked.marks) (retired_spans chunks)
        → Each (IsShut marked.bytes marked.marks) (retired_spans chunks)
    each_shut marked quiet = each_map (IsQuiet marked.bytes marked.marks) (IsShut marked.bytes marked.marks)
        (λ span q. shut_if_quiet marked.bytes marked.marks span q) (retired_spans chunks) quiet

-- where a region has no live chunk, its marked places are stops
pub region_stopped : (marked : MarkedText) (chunks : List Chunk) → IsRegion marked chunks → AreStopped marked.bytes marked.marks chunks
region_stopped marked chunks region = λ now m free.
    region.stops now.place (marked_inside marked.bytes marked.bytes marked.marks now region.whole.closed refl m) free

-- what a view keeps from one call to the next
pub record Kept (marks : List Mark) (chunks : List Chunk) (view : List ℕ) : Type 0 where
  pub parted : NoneOverlaps view marks
  pub stopped : AreStopped view marks chunks

-- a region's text keeps what views have to (`Kept`)
pub region_kept : (marked : MarkedText) (chunks : List Chunk) → IsRegion marked chunks → Kept marked.marks chunks marked.bytes
region_kept marked chunks region =
    record { parted = parted_region marked chunks region; stopped = region_stopped marked chunks region }
