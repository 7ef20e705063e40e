-- Texts while a patch is made, perhaps not for the first time: each marked place has a stop, or the instruction of the old text or of the
-- final one.
use Rattle.std.proofs.Common.{◌≡◌, ◌≢◌, ℕ, ◌+◌, ◌-◌, ◌<◌, ◌≤◌, ◌⊎◌, true, false, List, [], ◌∷◌, length, get_or, Option, Some, suc, inl, inr}
use Rattle.std.proofs.Common.{arith, refl, ◌∙◌, sym, ap, subst, ⊎_elim}
use Rattle.std.proofs.lemmas.Bool.{cases_lt, false≢true}
use Rattle.std.proofs.lemmas.Bool.Decides.{eqb_tells}
use Rattle.nc_decode.specs.declared.instruction.Instr.{Instr}
use Rattle.nc_decode.specs.declared.instruction.Mark.{Mark}
use Rattle.nc_text.specs.Places.{byte_at, instruction_at}
use Rattle.nc_text.specs.Machine.{State, state}
use Rattle.nc_text.specs.Marks.{IsMarked, mark_at}
use Rattle.nc_text.specs.MarkedText.{with_span}
use Rattle.nc_text.proofs.Offered.{executes, KeepsBytes, same_instruction, length-with_span}
use Rattle.nc_list.specs.declared.chunk.Chunk.{Chunk}
use Rattle.nc_region.specs.schedules.Spans.{RetiredSpan}
use Rattle.nc_region.specs.schedules.World.{World}
use Rattle.nc_region.specs.Patch.{stands_there}
use Rattle.nc_base.proofs.Offered.{some_same}
use Rattle.nc_text.proofs.Offered.{span_within, span_before, span_behind}
use Rattle.nc_region.proofs.Offered.{stands_first, stands_same}
use Rattle.nc_histories.specs.Views.{IsFree}
use Rattle.nc_histories.proofs.Deletion.{Agrees}
use Rattle.nc_histories.proofs.Good.{Good, KeepsInstruction, good_by_places, stop_stays}
use Rattle.nc_histories.proofs.OnePut.{other_clear, not_unmarked}
use Rattle.nc_histories.proofs.Patching.{SoundBy, Replaces}
use Rattle.nc_histories.proofs.Putting.{with_text}

-- an instruction that a patch puts, as it stands in the final text
pub record IsInPlace (marks : List Mark) (chunks : List Chunk) (final : List ℕ) (at : ℕ) (new : List ℕ) : Type 0 where
  pub some : 0 < length new
  pub low : 65536 ≤ at
  pub high : at + length new ≤ 65536 + length final
  pub masked : Option ℕ
  pub marked : IsMarked marks (state at masked)
  pub bytes : (k : ℕ) → k < length new → byte_at final (at + k) ≡ get_or new k 0
  pub len : (i : Instr) → instruction_at final at ≡ Some i → i.len ≡ length new
  pub held : (place : ℕ) → IsFree chunks place → at ≤ place → place < at + length new → ⊥

-- the old text and the final one have what every view keeps
pub record Changing (marks : List Mark) (spans : List RetiredSpan) (chunks : List Chunk) (old final : List ℕ) : Type 0 where
  pub before : SoundBy marks spans chunks old
  pub after : SoundBy marks spans chunks final
  pub as_long : length final ≡ length old

-- at a marked place of a text stands a stop, where the old text differs from the final one, or the instruction of one of these
abbrev pub HasEither : (old final now : List ℕ) (at : ℕ) → Type 0
HasEither old final now at =
    ((byte_at now at ≡ 244) × (KeepsInstruction final old at → ⊥)) ⊎ (KeepsInstruction old now at ⊎ KeepsInstruction final now at)

-- the text has either at each marked place
pub record IsBetween (marks : List Mark) (old final now : List ℕ) : Type 0 where
  pub as_long : length now ≡ length old
  pub each : (s : State) → IsMarked marks s → HasEither old final now s.place

-- the old text is between itself and the final one
pub between_old : (marks : List Mark) (old final : List ℕ) → IsBetween marks old final old
between_old marks old final = record { as_long = refl; each = λ s m. inr (inl (λ i is fits k lt. refl)) }

-- a text between two good ones has what every view keeps
pub between_sound : (marks : List Mark) (spans : List RetiredSpan) (chunks : List Chunk) (old final now : List ℕ)
    → Changing marks spans chunks old final → IsBetween marks old final now → SoundBy marks spans chunks now
between_sound marks spans chunks old final now c b =
    record {
      good = good_by_places old now marks spans c.before.good b.as_long (λ s m.
          elim (b.each s m) [
            | inl stop ↦ inl stop.0
            | inr kept ↦ inr (elim kept [
              | inl o ↦ record { old = old; good = c.before.good; as_long = b.as_long; kept = o }
              | inr f ↦ record { old = final; good = c.after.good; as_long = b.as_long ∙ sym c.as_long; kept = f }
            ])
          ]);
      stopped = λ s m free.
          elim (b.each s m) [
            | inl stop ↦ stop.0
            | inr kept ↦ elim kept [
              | inl o ↦ stop_stays old now marks s c.before.good.closed m o (c.before.stopped s m free)
              | inr f ↦ stop_stays final now marks s c.after.good.closed m f (c.after.stopped s m free)
            ]
          ];
    }

-- ---- places beside an instruction of the patch

-- no marked place lies inside an instruction of the patch
inside_unmarked : (marks : List Mark) (spans : List RetiredSpan) (chunks : List Chunk) (final : List ℕ) (at : ℕ) (new : List ℕ) (k : ℕ)
    → SoundBy marks spans chunks final → IsInPlace marks chunks final at new → 0 < k → k < length new
    → mark_at marks (at + k) ≡ Mark.Unmarked
inside_unmarked marks spans chunks final at new k sound n some less =
    let e = executes final (state at n.masked) n.low (sound.good.closed.safe (state at n.masked) n.marked) in
    sound.good.parted (state at n.masked) e.i k n.marked e.is some (omega (arith, n.len e.i e.is, less))

-- an instruction at another marked place of a good text ends before an instruction of the patch, or begins behind it
apart_from : (marks : List Mark) (spans : List RetiredSpan) (chunks : List Chunk) (final text : List ℕ) (at : ℕ) (new : List ℕ) (s : State)
    (i : Instr) → SoundBy marks spans chunks final → IsInPlace marks chunks final at new → Good text marks spans → IsMarked marks s
    → s.place ≢ at → instruction_at text s.place ≡ Some i → (s.place + i.len ≤ at) ⊎ (at + length new ≤ s.place)
apart_from marks spans chunks final text at new s i sound n good m other is =
    ⊎_elim
    (λ (before : s.place < at).
    ⊎_elim
    (λ (reach : at < s.place + i.len).
    absurd (other_clear text marks spans (state at n.masked) s good n.marked m other i (at - s.place) is (omega (arith, reach, before))
    (omega (arith, before))))
    (λ (ends : s.place + i.len ≤ at). inl ends)
    (cases_lt at (s.place + i.len)))
    (λ (from : at ≤ s.place).
    ⊎_elim
    (λ (within : s.place < at + length new).
    let there : at + (s.place - at) ≡ s.place = omega (arith, from) in
    absurd (not_unmarked marks s m
    (subst (λ (p : ℕ). mark_at marks p ≡ Mark.Unmarked) there
    (inside_unmarked marks spans chunks final at new (s.place - at) sound n (omega (arith, from, other)) (omega (arith, from, within))))))
    (λ (behind : at + length new ≤ s.place). inr behind)
    (cases_lt s.place (at + length new)))
    (cases_lt s.place at)

-- an instruction at another marked place of a good text stays where a text changes at an instruction of the patch alone
stays_beside : (marks : List Mark) (spans : List RetiredSpan) (chunks : List Chunk) (final text now new : List ℕ) (at : ℕ) (bytes : List ℕ)
    (s : State) → SoundBy marks spans chunks final → IsInPlace marks chunks final at bytes → Good text marks spans
    → Agrees at (length bytes) now new → IsMarked marks s → s.place ≢ at → KeepsInstruction text now s.place
    → KeepsInstruction text new s.place
stays_beside marks spans chunks final text now new at bytes s sound n good agrees m other kept = λ i is fits k lt.
    let beside : (s.place + k < at) ⊎ (at + length bytes ≤ s.place + k) =
    elim (apart_from marks spans chunks final text at bytes s i sound n good m other is) [
      | inl l ↦ inl (omega (arith, l, lt))
      | inr b ↦ inr (omega (arith, b))
    ] in
    agrees.outside (s.place + k) (omega (arith, m.0)) beside ∙ kept i is fits k lt

-- a text between two stays so where it changes at an instruction of the patch alone, and then has either there
pub between_more : (marks : List Mark) (spans : List RetiredSpan) (chunks : List Chunk) (old final now new : List ℕ) (at : ℕ)
    (bytes : List ℕ) → Changing marks spans chunks old final → IsInPlace marks chunks final at bytes → IsBetween marks old final now
    → Agrees at (length bytes) now new → HasEither old final new at → IsBetween marks old final new
between_more marks spans chunks old final now new at bytes c n b agrees here =
    record {
      as_long = agrees.as_long ∙ b.as_long;
      each = λ s m.
          elim (eqb_tells s.place at) [
            | inl same ↦ subst (HasEither old final new) (sym same.1) here
            | inr other ↦
                elim (b.each s m) [
                  | inl stop ↦ inl (agrees.outside s.place m.0 (beside s m other.1) ∙ stop.0, stop.1)
                  | inr kept ↦ inr (elim kept [
                    | inl o ↦ inl
                        (stays_beside marks spans chunks final old now new at bytes s c.after n c.before.good agrees m other.1 o)
                    | inr f ↦ inr
                        (stays_beside marks spans chunks final final now new at bytes s c.after n c.after.good agrees m other.1 f)
                  ])
                ]
          ];
    }
  where
    beside : (s : State) → IsMarked marks s → s.place ≢ at → (s.place < at) ⊎ (at + length bytes ≤ s.place)
    beside s m other =
        let e = executes final s m.0 (c.after.good.closed.safe s m) in
        elim (apart_from marks spans chunks final final at bytes s e.i c.after n c.after.good m other e.is) [
          | inl l ↦ ⊎_elim (λ (before : s.place < at). inl before) (λ (from : at ≤ s.place). absurd (omega (arith, from, l, other)))
              (cases_lt s.place at)
          | inr b ↦ inr b
        ]

-- ---- the instruction in place

-- the text with an instruction of the patch in place
abbrev pub with_new : List ℕ → ℕ → List ℕ → List ℕ
with_new now at bytes = with_span now (at - 65536) bytes

-- it changes there alone
pub new_agrees : (now : List ℕ) (at : ℕ) (bytes : List ℕ) → 65536 ≤ at → at + length bytes ≤ 65536 + length now
    → Agrees at (length bytes) now (with_new now at bytes)
new_agrees now at bytes low high =
    record {
      as_long = length-with_span now (at - 65536) bytes (omega (arith, low, high));
      outside = λ p from out.
          elim out [
            | inl l ↦ span_before now at bytes p 0 low high from l
            | inr b ↦ span_behind now at bytes p 0 low high b
          ];
    }

-- it has the bytes of the final text there
pub new_there : (marks : List Mark) (chunks : List Chunk) (final now : List ℕ) (at : ℕ) (bytes : List ℕ)
    → IsInPlace marks chunks final at bytes → length now ≡ length final → (k : ℕ) → k < length bytes
    → byte_at (with_new now at bytes) (at + k) ≡ byte_at final (at + k)
new_there marks chunks final now at bytes n long k lt =
    let e : at + k - at ≡ k = omega arith in
    span_within now at bytes (at + k) 0 n.low (omega (arith, n.high, long)) (omega arith) (omega (arith, lt))
    ∙ (ap (λ (j : ℕ). get_or bytes j 0) e ∙ sym (n.bytes k lt))

-- where the bytes of the final text stand, its instruction does
pub keeps_final : (marks : List Mark) (chunks : List Chunk) (final now : List ℕ) (at : ℕ) (bytes : List ℕ)
    → IsInPlace marks chunks final at bytes
    → ((k : ℕ) → k < length bytes → byte_at now (at + k) ≡ byte_at final (at + k)) → KeepsInstruction final now at
keeps_final marks chunks final now at bytes n there = λ i is fits k lt. there k (omega (arith, lt, n.len i is))

-- a text between two is so with an instruction of the patch in place
pub between_new : (marks : List Mark) (spans : List RetiredSpan) (chunks : List Chunk) (old final now : List ℕ) (at : ℕ) (bytes : List ℕ)
    → Changing marks spans chunks old final → IsInPlace marks chunks final at bytes → IsBetween marks old final now
    → IsBetween marks old final (with_new now at bytes)
between_new marks spans chunks old final now at bytes c n b =
    let long : length now ≡ length final = b.as_long ∙ sym c.as_long in
    between_more marks spans chunks old final now (with_new now at bytes) at bytes c n b
    (new_agrees now at bytes n.low (omega (arith, n.high, long)))
    (inr (inr (keeps_final marks chunks final (with_new now at bytes) at bytes n (new_there marks chunks final now at bytes n long))))

-- an instruction of the patch can replace what stands at its place
pub replaces : (w : World) (chunks : List Chunk) (final now : List ℕ) (before : List (List ℕ)) (at : ℕ) (bytes : List ℕ)
    → Changing w.marked.marks w.retired chunks w.marked.bytes final → IsInPlace w.marked.marks chunks final at bytes
    → IsBetween w.marked.marks w.marked.bytes final now → Replaces (with_text w now before) chunks at bytes
replaces w chunks final now before at bytes c n b =
    let long : length now ≡ length final = b.as_long ∙ sym c.as_long in
    let later = between_new w.marked.marks w.retired chunks w.marked.bytes final now at bytes c n b in
    let sound = between_sound w.marked.marks w.retired chunks w.marked.bytes final (with_new now at bytes) c later in
    record {
      replacing = record {
        some = n.some;
        low = n.low;
        high = omega (arith, n.high, long);
        closed = sound.good.closed;
        apart = λ s i m other is.
            apart_from w.marked.marks w.retired chunks final (with_new now at bytes) at bytes s i c.after n sound.good m other is;
      };
      final = sound;
      masked = n.masked;
      marked = n.marked;
      len = λ i is.
          let e = executes final (state at n.masked) n.low (c.after.good.closed.safe (state at n.masked) n.marked) in
          let kept : KeepsBytes final (with_new now at bytes) at e.i.len =
          λ k lt. new_there w.marked.marks chunks final now at bytes n long k (omega (arith, lt, n.len e.i e.is)) in
          let there = same_instruction final (with_new now at bytes) at e.i (later.as_long ∙ sym c.as_long) e.inside e.is kept in
          let same : e.i ≡ i = some_same (instruction_at (with_new now at bytes) at) e.i i there is in
          ap (λ (j : Instr). j.len) (sym same) ∙ n.len e.i e.is;
      held = n.held;
    }

-- ---- instructions that stood there before

-- bytes that stand at a place pass the test that they do
stands_all : (text : List ℕ) (at : ℕ) (bytes : List ℕ) → ((k : ℕ) → k < length bytes → byte_at text (at + k) ≡ get_or bytes k 0)
    → stands_there text at bytes ≡ true
stands_all text at [] each = refl
stands_all text at (b ∷ rest) each =
    let here : byte_at text at ≡ b =
    subst (λ (p : ℕ). byte_at text p ≡ b) (let e : at + 0 ≡ at = omega arith in e) (each 0 (omega arith)) in
    stands_first text at (b ∷ rest) (omega arith) here
    ∙ stands_all text (at + 1) rest (λ k lt.
    let e : at + suc k ≡ at + 1 + k = omega arith in
    subst (λ (p : ℕ). byte_at text p ≡ get_or rest k 0) e (each (suc k) (omega (arith, lt))))

-- an instruction of the patch that didn't stand in the old text isn't kept there
pub not_kept : (marks : List Mark) (spans : List RetiredSpan) (chunks : List Chunk) (old final : List ℕ) (at : ℕ) (bytes : List ℕ)
    → Changing marks spans chunks old final → IsInPlace marks chunks final at bytes → stands_there old at bytes ≡ false
    → KeepsInstruction final old at → ⊥
not_kept marks spans chunks old final at bytes c n fresh kept =
    let e = executes final (state at n.masked) n.low (c.after.good.closed.safe (state at n.masked) n.marked) in
    false≢true (sym fresh
    ∙ stands_all old at bytes (λ k lt. kept e.i e.is e.permitted.0 k (omega (arith, lt, n.len e.i e.is)) ∙ n.bytes k lt))

-- an instruction of the patch that stood in the old text stands in every text between it and the final one
pub stands_still : (marks : List Mark) (spans : List RetiredSpan) (chunks : List Chunk) (old final now : List ℕ) (at : ℕ) (bytes : List ℕ)
    → Changing marks spans chunks old final → IsInPlace marks chunks final at bytes → stands_there old at bytes ≡ true
    → IsBetween marks old final now → (k : ℕ) → k < length bytes → byte_at now (at + k) ≡ byte_at final (at + k)
stands_still marks spans chunks old final now at bytes c n stood b k lt =
    let e = executes final (state at n.masked) n.low (c.after.good.closed.safe (state at n.masked) n.marked) in
    let there : (j : ℕ) → j < length bytes → byte_at old (at + j) ≡ byte_at final (at + j) =
    λ j less. ap (λ (z : List ℕ). byte_at z (at + j)) (stands_same old at bytes n.low (omega (arith, n.high, c.as_long)) stood)
    ∙ new_there marks chunks final old at bytes n (sym c.as_long) j less in
    let kept : KeepsInstruction final old at = keeps_final marks chunks final old at bytes n there in
    let same = same_instruction final old at e.i (sym c.as_long) e.inside e.is (kept e.i e.is e.permitted.0) in
    elim (b.each (state at n.masked) n.marked) [
      | inl stop ↦ absurd (stop.1 kept)
      | inr either ↦ elim either [
        | inl o ↦ o e.i same e.permitted.0 k (omega (arith, lt, n.len e.i e.is)) ∙ there k lt
        | inr f ↦ f e.i e.is e.permitted.0 k (omega (arith, lt, n.len e.i e.is))
      ]
    ]
