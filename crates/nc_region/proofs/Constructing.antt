-- A region that each accepted call leaves, where the call may be accepted.
use Rattle.std.proofs.Common.{◌≡◌, ℕ, suc, ◌+◌, ◌-◌, ◌*◌, ◌/◌, ◌<◌, ◌≤◌, ◌⊎◌, Bool, true, false, List, [], ◌∷◌, ◌++◌, length, set, replicate}
use Rattle.std.proofs.Common.{Some, inl, inr, arith, refl, ◌∙◌, sym, ap, subst, get_or}
use Rattle.std.specs.List.{slice_get, insert}
use Rattle.std.proofs.lemmas.Bool.{cases_lt}
use Rattle.std.proofs.lemmas.Option.{slice_get-get_or}
use Rattle.std.proofs.lemmas.List.{length-replicate, get_or-replicate}
use Rattle.nc_vet.specs.Chunk.{MarkedChunk, Piece}
use Rattle.nc_text.specs.MarkedText.{with_span}
use Rattle.nc_text.specs.Ready.{GetsReady}
use Rattle.nc_text.proofs.Offered.{get_or-with_span_in, get_or-with_span_below, get_or-with_span_above}
use Rattle.nc_gens.specs.declared.view.WordStep.{WordStep}
use Rattle.nc_gens.specs.declared.view.WordStep.TheVariants.{AddedOne}
use Rattle.nc_gens.specs.Trail.{Adds, is_by_keeper}
use Rattle.nc_gens.proofs.Offered.{one_last}
use Rattle.nc_gens.specs.Rule.{generation_raised}
use Rattle.nc_gens.specs.Seen.{KeeperState, HasLooked, least_number}
use Rattle.nc_list.specs.declared.chunk.Chunk.{Chunk}
use Rattle.nc_list.specs.declared.chunk.ChunkState.{ChunkState}
use Rattle.nc_list.specs.declared.chunk.ChunkState.TheVariants.{Live, Retired}
use Rattle.nc_list.specs.Chunks.{IsAscending, FitsAt, Meets}
use Rattle.nc_base.proofs.Offered.{each_map}
use Rattle.nc_list.proofs.Offered.{ascending_above}
use Rattle.nc_acts.specs.declared.acts.Act.TheVariants.{Look}
use Rattle.nc_acts.specs.Log.{only_acts, log_of_create, log_of_delete}
use Rattle.nc_region.specs.Region.{Region, IsLive, IsCreated, live_chunk}
use Rattle.nc_region.specs.Patch.{IsPatched, log_of_patch}
use Rattle.nc_region.specs.Deletion.{HasLive, IsDeleted, IsReclaimed, freed, kept, unmarked, unmarkings}
use Rattle.nc_region.proofs.deleting.Due.{unmarked_bytes}
use Rattle.nc_region.proofs.deleting.Deleted.{deleted_is}
use Rattle.nc_acts.proofs.Offered.{told_logged, acts_back}

-- ---- a deletion

-- the state of a live chunk
live_state : (s : ChunkState) → IsLive s → s ≡ Live
live_state Live live = refl
live_state (Retired stamp) live = absurd live

-- the region after this chunk, which has this index, was deleted
abbrev pub deleted_region : Region → ℕ → Chunk → Region
deleted_region old k c =
    record old {
      marked = record old.marked { bytes = with_span old.marked.bytes (c.base - 65536) (replicate c.length 244) };
      chunks = set old.chunks k (record c { state = Retired (old.keeper.numbers.generation + 1) });
      keeper = record old.keeper { numbers = generation_raised old.keeper.numbers; trail = old.keeper.trail ++ AddedOne ∷ [] };
      logged = old.logged ++ log_of_delete old.marked.marks c.base c.length;
    }

-- the one step that a stamp adds
pub raised_adds : (trail : List WordStep) → Adds is_by_keeper trail (trail ++ AddedOne ∷ []) (AddedOne ∷ [])
raised_adds trail = record {
  later = AddedOne ∷ [];
  all = refl;
  own_are = refl;
  ends = λ others last e. ap is_by_keeper (sym (one_last [] others AddedOne last e));
}

-- a live chunk's deletion leaves what the specs say (`IsDeleted`)
abbrev pub deleted_at : (old : Region) (k : ℕ) (c : Chunk) → slice_get old.chunks k ≡ Some c → c.state ≡ Live
    → old.keeper.numbers.generation < 4611686018427387904
    → IsDeleted old (deleted_region old k c) c.base (old.keeper.numbers.generation + 1)
deleted_at old k c listed live room =
    deleted_is old (deleted_region old k c) k c.base (old.keeper.numbers.generation + 1) c listed live refl room refl refl refl refl
    refl (record { others = refl; adds = raised_adds old.keeper.trail }) refl

-- a live chunk can be deleted unless the generation is the last one
pub deleted_exists : (old : Region) (base : ℕ) → HasLive old.chunks base → old.keeper.numbers.generation < 4611686018427387904
    → (new : Region) × (stamp : ℕ) × IsDeleted old new base stamp
deleted_exists old base has room =
    let listed : slice_get old.chunks has.1.0 ≡ Some has.0 = slice_get-get_or old.chunks has.1.0 has.0 has.1.1 ∙ ap Some has.1.2 in (
      deleted_region old has.1.0 has.0,
      old.keeper.numbers.generation + 1,
      subst (λ (b : ℕ). IsDeleted old (deleted_region old has.1.0 has.0) b (old.keeper.numbers.generation + 1)) has.3
          (deleted_at old has.1.0 has.0 listed (live_state has.0.state has.2) room),
    )

-- ---- a creation

-- where a span fits among ascending chunks of which it overlaps none
fits_somewhere : (from base len : ℕ) (chunks : List Chunk) → IsAscending from chunks → ¬ Meets base len chunks
    → (k : ℕ) × FitsAt base len chunks k
fits_somewhere from base len [] ascending free = (0, (omega arith, tt, tt))
fits_somewhere from base len (d ∷ rest) ascending free =
    elim (cases_lt base (d.base + d.length)) [
      | inl above ↦
          let le : base + len ≤ d.base =
          elim (cases_lt d.base (base + len)) [ inl lt ↦ absurd (free (inl (above, lt))) | inr le ↦ le ] in (
            0,
            (
              omega arith,
              tt,
              (
                le,
                each_map (λ (e : Chunk). d.base + d.length ≤ e.base) (λ (e : Chunk). base + len ≤ e.base)
                    (λ e h. omega (arith, h, le)) rest (ascending_above (d.base + d.length) rest ascending.1),
              ),
            ),
          )
      | inr below ↦
          let r = fits_somewhere (d.base + d.length) base len rest ascending.1 (λ m. free (inr m)) in
          (suc r.0, (omega (arith, r.1.0), (below, r.1.1), r.1.2))
    ]

-- the pages that have places of a span of at least one place, made
abbrev pub pages_made : List Bool → ℕ → ℕ → List Bool
pages_made old at len =
    with_span old ((at - 65536) / 4096) (replicate ((at - 65536 + len - 1) / 4096 + 1 - (at - 65536) / 4096) true)

-- the flags for a span's pages are as many as there are pages from its first to its last
pages_long : (at len : ℕ)
    → length (replicate ((at - 65536 + len - 1) / 4096 + 1 - (at - 65536) / 4096) true) ≡ (at - 65536 + len - 1) / 4096 + 1 - (at - 65536) / 4096
pages_long at len = length-replicate ((at - 65536 + len - 1) / 4096 + 1 - (at - 65536) / 4096) true

-- the pages of a span of the region are pages of the text
pages_fit : (old : List Bool) (at len : ℕ) → 0 < len → at - 65536 + len ≤ 4096 * length old
    → (at - 65536) / 4096 + length (replicate ((at - 65536 + len - 1) / 4096 + 1 - (at - 65536) / 4096) true) ≤ length old
pages_fit old at len some fits = omega (arith, pages_long at len, some, fits)

-- each page that has places of the span is made
page_in : (old : List Bool) (at len page : ℕ) → 0 < len → at - 65536 + len ≤ 4096 * length old → (at - 65536) / 4096 ≤ page
    → page ≤ (at - 65536 + len - 1) / 4096 → get_or (pages_made old at len) page false ≡ true
page_in old at len page some fits from to =
    get_or-with_span_in old ((at - 65536) / 4096) (replicate ((at - 65536 + len - 1) / 4096 + 1 - (at - 65536) / 4096) true) page false
    (pages_fit old at len some fits) from (omega (arith, pages_long at len, from, to))
    ∙ get_or-replicate ((at - 65536 + len - 1) / 4096 + 1 - (at - 65536) / 4096) (page - (at - 65536) / 4096) true false
    (omega (arith, from, to))

-- a page has places of the span, or is made or not as it was
page_of : (old : List Bool) (at len page : ℕ) → 0 < len → at - 65536 + len ≤ 4096 * length old
    → (((at - 65536) / 4096 ≤ page) × (page ≤ (at - 65536 + len - 1) / 4096))
    ⊎ (get_or (pages_made old at len) page false ≡ get_or old page false)
page_of old at len page some fits =
    elim (cases_lt page ((at - 65536) / 4096)) [
      | inl below ↦ inr (get_or-with_span_below old ((at - 65536) / 4096)
          (replicate ((at - 65536 + len - 1) / 4096 + 1 - (at - 65536) / 4096) true) page false (pages_fit old at len some fits) below)
      | inr from ↦ elim (cases_lt ((at - 65536 + len - 1) / 4096) page) [
        | inl above ↦ inr (get_or-with_span_above old ((at - 65536) / 4096)
            (replicate ((at - 65536 + len - 1) / 4096 + 1 - (at - 65536) / 4096) true) page false (pages_fit old at len some fits)
            (omega (arith, pages_long at len, above, from)))
        | inr to ↦ inl (from, to)
      ]
    ]

-- a page from a span's first to its last has a place of the span
place_on : (at len page : ℕ) → 65536 ≤ at → 0 < len → (at - 65536) / 4096 ≤ page → page ≤ (at - 65536 + len - 1) / 4096
    → (offset : ℕ) × (offset < len) × ((at + offset - 65536) / 4096 ≡ page)
place_on at len page low some from to =
    elim (cases_lt (at - 65536) (4096 * page)) [
      | inl lt ↦ (4096 * page - (at - 65536), omega (arith, lt, to, some), omega (arith, lt, low))
      | inr ge ↦ (0, some, omega (arith, from, ge, low))
    ]

-- the pages of a span get ready
pub pages_get_ready : (old : List Bool) (at len : ℕ) → 65536 ≤ at → 0 < len → at - 65536 + len ≤ 4096 * length old
    → GetsReady old (pages_made old at len) at len
pages_get_ready old at len low some fits =
    record {
      kept = λ place was.
          elim (page_of old at len ((place - 65536) / 4096) some fits) [
            | inl among ↦ page_in old at len ((place - 65536) / 4096) some fits among.0 among.1
            | inr same ↦ same ∙ was
          ];
      needed = λ place now.
          elim (page_of old at len ((place - 65536) / 4096) some fits) [
            | inl among ↦
                let on = place_on at len ((place - 65536) / 4096) low some among.0 among.1 in
                inr (record { offset = on.0; within = on.1; same_page = on.2 })
            | inr same ↦ inl (sym same ∙ now)
          ];
    }

-- the region after this chunk was created at an index of the list, with these pages
abbrev pub created_region : Region → MarkedChunk → ℕ → List Bool → Region
created_region old v k made =
    record old {
      marked = record {
        bytes = with_span old.marked.bytes (v.base - 65536) v.code;
        marks = with_span old.marked.marks (v.base - 65536) v.marks;
      };
      made = made;
      chunks = insert old.chunks k (live_chunk v);
      logged = old.logged ++ log_of_create v.base v.code;
    }

-- a chunk's creation leaves what the specs say (`IsCreated`)
pub created_at : (old : Region) (v : MarkedChunk) (k : ℕ) (made : List Bool) → FitsAt v.base (length v.code) old.chunks k
    → GetsReady old.made made v.base (length v.code) → IsCreated old (created_region old v k made) v
created_at old v k made fits gets = record { bytes = refl; marks = refl; chunks = (k, fits, refl); ready = gets; others = refl }

-- a chunk that overlaps no other can be created
pub created_exists : (old : Region) (v : MarkedChunk) (made : List Bool) → IsAscending 65536 old.chunks
    → ¬ Meets v.base (length v.code) old.chunks → GetsReady old.made made v.base (length v.code)
    → (new : Region) × IsCreated old new v
created_exists old v made ascending free gets =
    let fits = fits_somewhere 65536 v.base (length v.code) old.chunks ascending free in
    (created_region old v fits.0 made, created_at old v fits.0 made fits.1 gets)

-- ---- a patch

-- the region after these instructions were put from this address on
abbrev pub patched_region : Region → ℕ → List ℕ → List Piece → Region
patched_region old at bytes news =
    record old {
      marked = record old.marked { bytes = with_span old.marked.bytes (at - 65536) bytes };
      logged = old.logged ++ log_of_patch old.marked.bytes at news;
    }

-- a patch leaves a region
pub patched_exists : (old : Region) (at : ℕ) (bytes : List ℕ) (news : List Piece)
    → IsPatched old (patched_region old at bytes news) at bytes
patched_exists old at bytes news = record { patched = refl; others = refl }

-- ---- a reclaim

-- the region after a reclaim that left its keeper in this state
abbrev pub reclaimed_region : Region → KeeperState → Region
reclaimed_region old keeper =
    let least = least_number keeper.numbers in
    record old {
      marked = unmarked old.marked (freed least old.chunks);
      chunks = kept least old.chunks;
      keeper = keeper;
      logged = old.logged ++ only_acts (Look ∷ unmarkings (freed least old.chunks));
    }

-- a look can be followed by a reclaim
pub reclaimed_exists : (old : Region) (keeper : KeeperState) → HasLooked old.keeper keeper
    → IsReclaimed old (reclaimed_region old keeper) (length (freed (least_number keeper.numbers) old.chunks))
reclaimed_exists old keeper looked =
    let acts = Look ∷ unmarkings (freed (least_number keeper.numbers) old.chunks) in
    record {
      looked = looked;
      chunks = refl;
      count_is = refl;
      marked = refl;
      bytes = unmarked_bytes old.marked (freed (least_number keeper.numbers) old.chunks);
      others = refl;
      acts = told_logged old.logged (old.logged ++ only_acts acts) (only_acts acts) acts (acts_back acts) refl;
      log = refl;
    }
