-- A patch is made one instruction after the other.
use Rattle.std.proofs.Common.{◌≡◌, ℕ, ◌+◌, ◌-◌, ◌<◌, ◌≤◌, Bool, true, cond, List, [], ◌∷◌, ◌++◌, length, get_or, drop, zero, suc, ◌&&◌}
use Rattle.std.proofs.Common.{◌==◌, refl, sym, subst, ◌∙◌, ap, arith, append_assoc, eqb-true}
use Rattle.std.proofs.lemmas.Bool.{and_parts, eq-eqb}
use Rattle.std.proofs.lemmas.List.{length-append, get_or_append_left, get_or-append_right, ext_get_or}
use Rattle.nc_decode.specs.declared.instruction.Instr.{Instr}
use Rattle.nc_decode.specs.Spelling.{Spells}
use Rattle.nc_decode.specs.Front.{first_instruction}
use Rattle.nc_decode.specs.Transfers.{target}
use Rattle.nc_decode.proofs.Offered.{exact}
use Rattle.nc_vet.specs.Chunk.{Piece, place, IsTarget}
use Rattle.nc_vet.proofs.Offered.{place-push}
use Rattle.nc_text.specs.Places.{limit_of, byte_at}
use Rattle.nc_text.specs.MarkedText.{MarkedText, IsText, with_span}
use Rattle.nc_text.proofs.Offered.{length-with_span}
use Rattle.nc_list.specs.declared.chunk.Chunk.{Chunk}
use Rattle.nc_acts.specs.declared.acts.Entry.{Entry}
use Rattle.nc_region.specs.Patch.{AreBytesOf, lengths, SparesPairs, GoWell, stands_there}
use Rattle.nc_region.specs.Patch.{log_of_instruction, log_of_patch}
use Rattle.nc_region.specs.machinery.PatchSteps.{CanPatch}
use Rattle.nc_text.proofs.Offered.{place_of, Before, Within, Behind, span_within, span_before, span_behind}
use Rattle.nc_base.proofs.Offered.{some_same}
use Rattle.nc_region.proofs.patching.Exchanging.{target_stays}
use Rattle.nc_region.proofs.patching.Exchanged.{Changes, changed, changed_holds, changed_long}

-- lists of pieces with the same lengths have them first and behind
lengths_first : (o n : Piece) (os ns : List Piece) → lengths (o ∷ os) ≡ lengths (n ∷ ns)
    → (length o.bytes ≡ length n.bytes) × (lengths os ≡ lengths ns)
lengths_first o n os ns e = (cc, cc)

-- the empty list of pieces hasn't the lengths of one with a first piece
lengths_none : (n : Piece) (ns : List Piece) → lengths [] ≡ lengths (n ∷ ns) → ⊥
lengths_none n ns e = cc

-- pieces with the same bytes are the same instruction
same_instr : (o n : Piece) → Spells o.bytes o.instr → Spells n.bytes n.instr → n.bytes ≡ o.bytes → n.instr ≡ o.instr
same_instr o n old new is =
    some_same (first_instruction (o.bytes ++ [])) n.instr o.instr
    ((exact (o.bytes ++ []) n.instr).1
    (record { front = o.bytes; rest = []; parts = refl; spells = subst (λ (z : List ℕ). Spells z n.instr) is new }))
    ((exact (o.bytes ++ []) o.instr).1 (record { front = o.bytes; rest = []; parts = refl; spells = old }))

-- targets that are good in one way are good in another
well_map : (P Q : ℕ → Type 0) → ((to : ℕ) → P to → Q to) → (at : ℕ) (ns : List Piece) → GoWell P at ns → GoWell Q at ns
well_map P Q f at [] w = tt
well_map P Q f at (n ∷ ns) w = (λ d. f (target n.instr at) (w.0 d), well_map P Q f (at + length n.bytes) ns w.1)

-- the first instruction of a patch, and the one that it replaces
pub record Turn (marked : MarkedText) (c : Chunk) (at : ℕ) (new : List ℕ) (patch : CanPatch marked c at
    new) (n : Piece) (ns : List Piece) : Type 0 where
  pub o : Piece
  pub os : List Piece
  pub old : patch.run.old ≡ o ∷ os
  pub change : Changes marked c at patch.run.before (os ++ patch.run.after) o n
  pub lens : lengths os ≡ lengths ns
  pub pairs : SparesPairs (os ++ patch.run.after) ns
  pub well : GoWell (IsTarget c.base (limit_of marked.bytes) patch.holds.valid.pieces) (at + length n.bytes) ns
  pub parts : patch.holds.valid.pieces ≡ patch.run.before ++ o ∷ (os ++ patch.run.after)

-- the next instruction of a patch
pub turn : (marked : MarkedText) (c : Chunk) (at : ℕ) (new : List ℕ) (patch : CanPatch marked c at new) (n : Piece) (ns : List Piece)
    → IsText marked → patch.run.news ≡ n ∷ ns → Turn marked c at new patch n ns
turn marked c at new patch n ns t is = go patch.run.old refl
  where
    go : (old : List Piece) → patch.run.old ≡ old → Turn marked c at new patch n ns
    go [] e = absurd (lengths_none n ns (ap lengths (sym e) ∙ (patch.run.as_long ∙ ap lengths is)))
    go (o ∷ os) e =
        let run = patch.run in
        let h = patch.holds in
        let parts : patch.holds.valid.pieces ≡ patch.run.before ++ o ∷ (os ++ patch.run.after) = patch.run.parts
        ∙ ap (λ (z : List Piece). patch.run.before ++ (z ++ patch.run.after)) e in
        let lens = lengths_first o n os ns (ap lengths (sym e) ∙ (patch.run.as_long ∙ ap lengths is)) in
        let pairs : SparesPairs (o ∷ (os ++ patch.run.after)) (n ∷ ns) =
        subst (λ (z : List Piece). SparesPairs (z ++ patch.run.after) (n ∷ ns)) e
        (subst (SparesPairs (patch.run.old ++ patch.run.after)) is patch.pairs) in
        let old_spells = patch.holds.valid.sound.spelled patch.run.before (os ++ patch.run.after) o parts in
        let new_spells = patch.run.bytes.spelled [] ns n is in
        let well : GoWell (IsTarget c.base (limit_of marked.bytes) patch.holds.valid.pieces) at (n ∷ ns) =
        subst (GoWell (IsTarget c.base (limit_of marked.bytes) patch.holds.valid.pieces) at) is patch.targets in
        let place_is : at ≡ patch.holds.vetted.base + place patch.run.before =
        omega (arith, patch.run.here, patch.holds.base_is) in
        record {
          o = o;
          os = os;
          old = e;
          change = record {
            whole = t;
            holds = patch.holds;
            exchange = record {
              valid = patch.holds.valid;
              parts = parts;
              spells = new_spells;
              as_long = lens.0;
              transfer = pairs.0.transfer;
              register = pairs.0.register;
              mask = λ half. ap (λ (i : Instr). i.masks) (same_instr o n old_spells new_spells (pairs.0.mask half));
              good = λ d.
                  subst (λ (b : ℕ). IsTarget b patch.holds.vetted.limit patch.holds.valid.pieces
                  (target n.instr (patch.holds.vetted.base + place patch.run.before))) (sym patch.holds.base_is)
                  (subst (λ (l : ℕ). IsTarget c.base l patch.holds.valid.pieces
                  (target n.instr (patch.holds.vetted.base + place patch.run.before))) (sym patch.holds.limit_is)
                  (subst (λ (k : ℕ). IsTarget c.base (limit_of marked.bytes) patch.holds.valid.pieces (target n.instr k)) place_is
                  (well.0 d)));
            };
            here = patch.run.here;
          };
          lens = lens.1;
          pairs = pairs.1;
          well = well.1;
          parts = parts;
        }

-- the patch that is left
pub next_patch : (marked : MarkedText) (c : Chunk) (at : ℕ) (new : List ℕ) (patch : CanPatch marked c at new) (n : Piece) (ns : List
    Piece) (t : Turn marked c at new patch n ns) (len : ℕ) (rest : List ℕ) → len ≡ length n.bytes → AreBytesOf rest ns
    → CanPatch (changed marked at n.bytes) c (at + len) rest
next_patch marked c at new patch n ns t len rest e bytes =
    let x = t.change in
    record {
      holds = changed_holds marked c at patch.run.before (t.os ++ patch.run.after) t.o n t.change;
      run = record {
        before = patch.run.before ++ n ∷ [];
        old = t.os;
        after = patch.run.after;
        parts = sym (append_assoc patch.run.before (n ∷ []) (t.os ++ patch.run.after));
        here = omega (arith, place-push patch.run.before n, patch.run.here, e);
        news = ns;
        bytes = bytes;
        as_long = t.lens;
      };
      pairs = t.pairs;
      targets =
          subst (λ (k : ℕ). GoWell (IsTarget c.base (limit_of (with_span marked.bytes (at - 65536) n.bytes))
          (patch.run.before ++ n ∷ (t.os ++ patch.run.after))) (at + k) ns) (sym e)
          (well_map (IsTarget c.base (limit_of marked.bytes) patch.holds.valid.pieces)
          (IsTarget c.base (limit_of (with_span marked.bytes (at - 65536) n.bytes))
          (patch.run.before ++ n ∷ (t.os ++ patch.run.after)))
          (λ to g. subst (λ (l : ℕ). IsTarget c.base l (patch.run.before ++ n ∷ (t.os ++ patch.run.after)) to)
          (ap (λ (k : ℕ). 65536 + k) (sym (changed_long marked c at patch.run.before (t.os ++ patch.run.after) t.o n t.change)))
          (target_stays c.base (limit_of marked.bytes) patch.run.before
          (t.os ++ patch.run.after) t.o n to x.exchange.as_long x.exchange.transfer
          (subst (λ (z : List Piece). IsTarget c.base (limit_of marked.bytes) z to) t.parts g)))
          (at + length n.bytes) ns t.well);
    }

-- two spans, one behind the other
pub spans_join : (text : List ℕ) (at : ℕ) (xs ys : List ℕ) → 65536 ≤ at → at + length xs + length ys ≤ 65536 + length text
    → with_span (with_span text (at - 65536) xs) (at + length xs - 65536) ys ≡ with_span text (at - 65536) (xs ++ ys)
spans_join text at xs ys low fits =
    let first : length (with_span text (at - 65536) xs) ≡ length text = length-with_span text (at - 65536) xs (omega (arith, low, fits)) in
    let both : length (xs ++ ys) ≡ length xs + length ys = length-append xs ys in
    let fits2 : at + length xs + length ys ≤ 65536 + length (with_span text (at - 65536) xs) = omega (arith, first, fits) in
    let fits3 : at + length (xs ++ ys) ≤ 65536 + length text = omega (arith, both, fits) in
    let fits1 : at + length xs ≤ 65536 + length text = omega (arith, fits) in
    let low2 : 65536 ≤ at + length xs = omega (arith, low) in
    ext_get_or 0 (with_span (with_span text (at - 65536) xs) (at + length xs - 65536) ys) (with_span text (at - 65536) (xs ++ ys))
    (length-with_span (with_span text (at - 65536) xs) (at + length xs - 65536) ys (omega (arith, low, fits, first))
    ∙ (first ∙ sym (length-with_span text (at - 65536) (xs ++ ys) (omega (arith, low, fits, both)))))
    (λ j lt.
    let e : 65536 + j - 65536 ≡ j = omega arith in
    subst (λ (k : ℕ). get_or (with_span (with_span text (at - 65536) xs) (at + length xs - 65536) ys) k 0 ≡ get_or
    (with_span text (at - 65536) (xs ++ ys)) k 0) e
    (elim (place_of (at + length xs) (length ys) (65536 + j)) [
      | Before b ↦
          span_before (with_span text (at - 65536) xs) (at + length xs) ys (65536 + j) 0 low2 fits2 (omega arith) b
          ∙ elim (place_of at (length xs) (65536 + j)) [
            | Before f ↦ span_before text at xs (65536 + j) 0 low fits1 (omega arith) f
                ∙ sym (span_before text at (xs ++ ys) (65536 + j) 0 low fits3 (omega arith) f)
            | Within f g ↦ span_within text at xs (65536 + j) 0 low fits1 f g
                ∙ (sym (get_or_append_left xs ys 0 (65536 + j - at) (omega (arith, f, g)))
                ∙ sym (span_within text at (xs ++ ys) (65536 + j) 0 low fits3 f (omega (arith, g, both))))
            | Behind f ↦ absurd (omega (arith, b, f))
          ]
      | Within f g ↦
          let d : 65536 + j - at - length xs ≡ 65536 + j - (at + length xs) = omega (arith, f) in
          span_within (with_span text (at - 65536) xs) (at + length xs) ys (65536 + j) 0 low2 fits2 f g
          ∙ (ap (λ (k : ℕ). get_or ys k 0) (sym d)
          ∙ (sym (get_or-append_right xs ys (length xs) (65536 + j - at) 0 refl (omega (arith, f)))
          ∙ sym (span_within text at (xs ++ ys) (65536 + j) 0 low fits3 (omega (arith, f)) (omega (arith, g, both)))))
      | Behind f ↦
          span_behind (with_span text (at - 65536) xs) (at + length xs) ys (65536 + j) 0 low2 fits2 f
          ∙ (span_behind text at xs (65536 + j) 0 low fits1 (omega (arith, f))
          ∙ sym (span_behind text at (xs ++ ys) (65536 + j) 0 low fits3 (omega (arith, f, both))))
    ]))

-- where the first byte stands in the text, bytes do if those behind it do
pub stands_first : (text : List ℕ) (at : ℕ) (bytes : List ℕ) → 0 < length bytes → byte_at text at ≡ get_or bytes 0 0
    → stands_there text at bytes ≡ stands_there text (at + 1) (drop 1 bytes)
stands_first text at [] some first = absurd (omega (arith, some))
stands_first text at (byte ∷ rest) some first = ap (λ (z : Bool). z && stands_there text (at + 1) rest) (eq-eqb (byte_at text at) byte first)

-- bytes that pass the test that they stand at a place stand there
pub stands_bytes : (text : List ℕ) (at : ℕ) (bytes : List ℕ) → stands_there text at bytes ≡ true → (k : ℕ) → k < length bytes
    → byte_at text (at + k) ≡ get_or bytes k 0
stands_bytes text at [] e k lt = absurd (omega arith)
stands_bytes text at (b ∷ rest) e zero lt =
    let z : at + 0 ≡ at = omega arith in
    ap (byte_at text) z ∙ eqb-true (byte_at text at) b (and_parts (byte_at text at == b) (stands_there text (at + 1) rest) e).0
stands_bytes text at (b ∷ rest) e (suc k) lt =
    let z : at + suc k ≡ at + 1 + k = omega arith in
    ap (byte_at text) z ∙ stands_bytes text (at + 1) rest (and_parts (byte_at text at == b) (stands_there text (at + 1) rest) e).1 k
    (omega arith)

-- bytes that stand there already change nothing
pub stands_same : (text : List ℕ) (at : ℕ) (bytes : List ℕ) → 65536 ≤ at → at + length bytes ≤ 65536 + length text
    → stands_there text at bytes ≡ true → text ≡ with_span text (at - 65536) bytes
stands_same text at bytes low fits e =
    ext_get_or 0 text (with_span text (at - 65536) bytes) (sym (length-with_span text (at - 65536) bytes (omega (arith, low, fits))))
    (λ j lt.
    let f : 65536 + j - 65536 ≡ j = omega arith in
    subst (λ (k : ℕ). get_or text k 0 ≡ get_or (with_span text (at - 65536) bytes) k 0) f
    (elim (place_of at (length bytes) (65536 + j)) [
      | Before b ↦ sym (span_before text at bytes (65536 + j) 0 low fits (omega arith) b)
      | Within a b ↦
          let z : at + (65536 + j - at) ≡ 65536 + j = omega (arith, a) in
          ap (byte_at text) (sym z) ∙ (stands_bytes text at bytes e (65536 + j - at) (omega (arith, a, b))
          ∙ sym (span_within text at bytes (65536 + j) 0 low fits a b))
      | Behind p ↦ sym (span_behind text at bytes (65536 + j) 0 low fits p)
    ]))

-- what stands from a place on is the same in texts that agree there
pub same_stands : (a b : List ℕ) (at : ℕ) (bytes : List ℕ) → ((k : ℕ) → at ≤ k → byte_at a k ≡ byte_at b k)
    → stands_there a at bytes ≡ stands_there b at bytes
same_stands a b at [] h = refl
same_stands a b at (x ∷ rest) h = ap (λ (z : ℕ). (z == x) && stands_there a (at + 1) rest) (h at (omega arith))
    ∙ ap (λ (z : Bool). (byte_at b at == x) && z) (same_stands a b (at + 1) rest (λ k le. h k (omega (arith, le))))

-- the log of what is left is the same over a text that agrees from there on
pub same_log : (a b : List ℕ) (at : ℕ) (ns : List Piece) → ((k : ℕ) → at ≤ k → byte_at a k ≡ byte_at b k)
    → log_of_patch a at ns ≡ log_of_patch b at ns
same_log a b at [] h = refl
same_log a b at (n ∷ ns) h =
    ap (λ (z : Bool). cond z [] (log_of_instruction at n.bytes) ++ log_of_patch a (at + length n.bytes) ns)
    (same_stands a b at n.bytes h)
    ∙ ap (λ (z : List Entry). cond (stands_there b at n.bytes) [] (log_of_instruction at n.bytes) ++ z)
    (same_log a b (at + length n.bytes) ns (λ k le. h k (omega (arith, le))))
