-- What is cut short can be completed.
use Rattle.std.proofs.Common.{◌≡◌, ℕ, zero, suc, ◌+◌, ◌<◌, Bool, true, false, List, [], ◌∷◌, ◌++◌, Result, Ok, Err, ◌==◌, ◌&&◌, cond, refl}
use Rattle.std.proofs.Common.{◌∙◌, arith, inl, inr, nat_lt, ltb-true, not}
use Rattle.std.specs.Result.{is_ok}
use Rattle.nc_decode.specs.declared.instruction.DecodeFault.{DecodeFault}
use Rattle.nc_decode.specs.declared.instruction.DecodeFault.TheVariants.{Truncated, NotPermitted}
use Rattle.nc_decode.specs.declared.entry.Entry.{Entry}
use Rattle.nc_decode.specs.declared.entry.Shape.{Shape}
use Rattle.nc_decode.specs.declared.entry.Prefix.{Prefix}
use Rattle.nc_decode.specs.declared.entry.Prefix.TheVariants.{Absent as Unprefixed, Word, Repeat, RepeatNot, Lock}
use Rattle.nc_decode.specs.machinery.Entries.{opcode_entry}
use Rattle.nc_decode.specs.Rows.{mod_of, reg_of}
use Rattle.nc_decode.specs.machinery.Shapes.{forms_of, permits, has_sib, sized_operand, ◌>>=◌, operand_shape, entry_shape, shape_of}
use Rattle.nc_decode.specs.machinery.Shapes.{escapes, escaped_shape, opcode_shape, prefixed_shape, prefix_of}
use Rattle.nc_decode.specs.Spelling.{operand_len}
use Rattle.nc_decode.proofs.opcodes.EntriesMatchRows.{permits_at, each_prefix}
use Rattle.nc_base.proofs.Offered.{each_below, some}
use Rattle.nc_base.proofs.Offered.{true_or_false, each_below-at, both, not_is, chosen_true, chosen_false, cond_is_true, cond_is_false}
use Rattle.nc_base.proofs.Offered.{cond_true, cond_false}
use Rattle.nc_decode.proofs.opcodes.PermittedIsListed.{permits_is, each_prefix-at}
use Rattle.nc_decode.proofs.reading.EntryReads.{IsBytes, shape_alone, formed_shape}
use Rattle.nc_decode.proofs.reading.SpellingParts.{operand_formed}

-- ---- every entry that permits something permits an operand with no SIB

-- a ModRM byte without SIB for each reg field, in memory and in a register
abbrev plain_forms : List ℕ
plain_forms = 0 ∷ 8 ∷ 16 ∷ 24 ∷ 32 ∷ 40 ∷ 48 ∷ 56 ∷ 192 ∷ 200 ∷ 208 ∷ 216 ∷ 224 ∷ 232 ∷ 240 ∷ 248 ∷ []

-- the form is permitted and has no SIB
abbrev opens_plainly : ℕ → ℕ → Bool
opens_plainly forms m = (permits_at forms (reg_of m) (mod_of m == 3) && not (has_sib m)) && nat_lt m 256

-- an entry that permits an operand permits one without SIB
unfoldable has_plain : Bool → ℕ → Bool
has_plain escaped o =
    each_prefix (λ p.
    elim (forms_of p (opcode_entry escaped o) == 0) [
      | true ↦ true
      | false ↦ elim (opcode_entry escaped o).operand [
        | true ↦ some (opens_plainly (forms_of p (opcode_entry escaped o))) plain_forms
        | false ↦ true
      ]
    ])

-- each entry of an opcode of two bytes that permits an operand permits one without SIB
has_plain_escaped : each_below (has_plain true) 256 ≡ true
unfolding has_plain opcode_entry forms_of
has_plain_escaped = refl

-- each entry of an opcode of one byte that permits an operand permits one without SIB
has_plain_bare : each_below (has_plain false) 256 ≡ true
unfolding has_plain opcode_entry forms_of
has_plain_bare = refl

-- the entry of an opcode of one or two bytes that permits an operand permits one without SIB
has_plain-true : (escaped : Bool) (o : ℕ) → o < 256 → has_plain escaped o ≡ true
has_plain-true true o lt = each_below-at (has_plain true) 256 o has_plain_escaped lt
has_plain-true false o lt = each_below-at (has_plain false) 256 o has_plain_bare lt

-- where some element passes, there is one that does
some_is : {A : Type 0} (t : A → Bool) (xs : List A) → some t xs ≡ true → (x : A) × (t x ≡ true)
some_is t [] e = absurd cc
some_is t (x ∷ xs) e =
    elim (true_or_false (t x)) [
      | inl hit ↦ (x, hit)
      | inr miss ↦ some_is t xs (chosen_false (t x) true (some t xs) true miss e)
    ]

-- a permitted ModRM byte without SIB
pub record IsPlainForm (forms m : ℕ) : Type 0 where
  pub permitted : permits forms m ≡ true
  pub no_sib : has_sib m ≡ false
  pub small : m < 256

-- an entry that permits an operand permits a ModRM byte without SIB
plain_form : (p : Prefix) (escaped : Bool) (o : ℕ) → o < 256 → (forms_of p (opcode_entry escaped o) == 0) ≡ false
    → (opcode_entry escaped o).operand ≡ true → (m : ℕ) × IsPlainForm (forms_of p (opcode_entry escaped o)) m
unfolding has_plain
plain_form p escaped o lt some_form operand =
    let at = each_prefix-at (λ q. elim (forms_of q (opcode_entry escaped o) == 0) [
      | true ↦ true
      | false ↦ elim (opcode_entry escaped o).operand [
        | true ↦ some (opens_plainly (forms_of q (opcode_entry escaped o))) plain_forms
        | false ↦ true
      ]
    ]) p (has_plain-true escaped o lt) in
    let at2 = chosen_false (forms_of p (opcode_entry escaped o) == 0) _ _ true some_form at in
    let w = some_is (opens_plainly (forms_of p (opcode_entry escaped o))) plain_forms
    (chosen_true (opcode_entry escaped o).operand _ _ true operand at2) in
    let a = both (permits_at (forms_of p (opcode_entry escaped o)) (reg_of w.0) (mod_of w.0 == 3) && not (has_sib w.0)) (nat_lt w.0 256) w.1 in
    let b = both (permits_at (forms_of p (opcode_entry escaped o)) (reg_of w.0) (mod_of w.0 == 3)) (not (has_sib w.0)) a.0 in
    (w.0, record { permitted = permits_is _ w.0 ∙ b.0; no_sib = not_is _ b.1; small = ltb-true _ _ a.1 })

-- ---- completing

-- more bytes with which something is read
pub record Completes (f : List ℕ → Result Shape DecodeFault) (b : List ℕ) : Type 0 where
  pub more : List ℕ
  pub shape : Shape
  pub fits : IsBytes more
  pub done : f (b ++ more) ≡ Ok shape

-- the answer that bytes are missing
abbrev cut : Result Shape DecodeFault
cut = Err Truncated

-- the refusal
abbrev refused : Result Shape DecodeFault
refused = Err NotPermitted

-- the answer with a shape
abbrev ok : Shape → Result Shape DecodeFault
ok s = Ok s

-- what comes after the operand's length misses no bytes
bind_cut : (r : Result ℕ DecodeFault) (f : ℕ → Shape) → (r >>= (λ n. ok (f n))) ≡ cut → r ≡ Err Truncated
bind_cut (Ok x) f e = absurd (let g : ok (f x) ≡ cut = e in cc)
bind_cut (Err d) f e = let g : refused_as d ≡ cut = e in cc
  where
    refused_as : DecodeFault → Result Shape DecodeFault
    refused_as x = Err x

-- an answer that is Ok has its value
is_ok_of : (x : Result Shape DecodeFault) → is_ok x ≡ true → (s : Shape) × (x ≡ Ok s)
is_ok_of (Ok s) e = (s, refl)
is_ok_of (Err d) e = absurd cc

-- a list of one byte is bytes
byte_list : (x : ℕ) → x < 256 → IsBytes (x ∷ [])
byte_list x lt zero = lt
byte_list x lt (suc i) = omega arith

-- where bytes are missing for the length of an operand, one byte more gives it
sized_cut : (modrm : ℕ) (b : List ℕ) → sized_operand modrm b ≡ Err Truncated → (k : ℕ) × (sized_operand modrm (b ++ 0 ∷ []) ≡ Ok k)
unfolding sized_operand
sized_cut modrm [] e =
    elim (true_or_false (has_sib modrm)) [
      | inl is ↦ (operand_len modrm 0, rw is refl)
      | inr is_not ↦ (operand_len modrm 0, rw is_not refl)
    ]
sized_cut modrm (sib ∷ b) e =
    elim (true_or_false (has_sib modrm)) [
      | inl is ↦ (operand_len modrm sib, rw is refl)
      | inr is_not ↦ (operand_len modrm 0, rw is_not refl)
    ]

-- without SIB no byte after ModRM is needed for the length of an operand
sized_plain : (modrm : ℕ) → has_sib modrm ≡ false → sized_operand modrm [] ≡ Ok (operand_len modrm 0)
unfolding sized_operand
sized_plain modrm h = rw h refl

-- an operand cut short can be completed
operand_completes : (p : Prefix) (head : ℕ) (e : Entry) (b : List ℕ) (m : ℕ) → IsPlainForm (forms_of p e) m
    → operand_shape p head e b ≡ Err Truncated → Completes (operand_shape p head e) b
unfolding operand_shape
operand_completes p head e [] m is h = record {
  more = m ∷ [];
  shape = formed_shape p head e m
      (operand_len m 0);
  fits = byte_list m is.small;
  done = operand_formed p head e m [] (operand_len m 0) is.permitted
      (sized_plain m is.no_sib);
}
operand_completes p head e (modrm ∷ b) m is h =
    elim (true_or_false (permits (forms_of p e) modrm)) [
      | inl may ↦
          (let short = bind_cut (sized_operand modrm b) (formed_shape p head e modrm)
          (cond_true (permits (forms_of p e) modrm) _ refused cut may h) in
          let w = sized_cut modrm b short in
          record {
            more = 0 ∷ [];
            shape = formed_shape p head e modrm w.0;
            fits = byte_list 0
                (omega arith);
            done = operand_formed p head e modrm (b ++ 0 ∷ []) w.0 may w.1;
          })
      | inr may_not ↦ absurd (let f : refused ≡ cut = cond_false (permits (forms_of p e) modrm) _ refused cut may_not h in cc)
    ]

-- bytes after an opcode that are cut short can be completed
entry_completes : (p : Prefix) (head : ℕ) (escaped : Bool) (o : ℕ) (b : List ℕ) → o < 256
    → entry_shape p head (opcode_entry escaped o) b ≡ Err Truncated → Completes (entry_shape p head (opcode_entry escaped o)) b
unfolding entry_shape
entry_completes p head escaped o b lt h =
    elim (true_or_false (forms_of p (opcode_entry escaped o) == 0)) [
      | inl no_form ↦ absurd (let f : refused ≡ cut = cond_true (forms_of p (opcode_entry escaped o) == 0) refused _ cut no_form h in cc)
      | inr some_form ↦
          (let h2 = cond_false (forms_of p (opcode_entry escaped o) == 0) refused _ cut some_form h in
          elim (true_or_false (opcode_entry escaped o).operand) [
            | inl operand ↦
                (let w = plain_form p escaped o lt some_form operand in
                let c = operand_completes p head (opcode_entry escaped o) b w.0 w.1
                (cond_true (opcode_entry escaped o).operand (operand_shape p head (opcode_entry escaped o) b) _ cut operand h2) in
                record {
                  more = c.more;
                  shape = c.shape;
                  fits = c.fits;
                  done = cond_is_false (forms_of p (opcode_entry escaped o) == 0) refused _ some_form
                      ∙ cond_is_true (opcode_entry escaped o).operand (operand_shape p head (opcode_entry escaped o) (b ++ c.more)) _ operand
                      ∙ c.done;
                })
            | inr bare ↦ absurd (let f : ok (shape_alone p head (opcode_entry escaped o)) ≡ cut = cond_false (opcode_entry escaped o).operand
                (operand_shape p head (opcode_entry escaped o) b) (Ok (shape_alone p head (opcode_entry escaped o))) cut bare h2 in cc)
          ])
    ]

-- a completion that is found by computing
by_test : (f : List ℕ → Result Shape DecodeFault) (b m : List ℕ) → IsBytes m → is_ok (f (b ++ m)) ≡ true → Completes f b
by_test f b m fits t = let w = is_ok_of (f (b ++ m)) t in record { more = m; shape = w.0; fits = fits; done = w.1 }

-- a list of two bytes is bytes
two_bytes : (x y : ℕ) → x < 256 → y < 256 → IsBytes (x ∷ y ∷ [])
two_bytes x y p q zero = p
two_bytes x y p q (suc zero) = q
two_bytes x y p q (suc (suc i)) = omega arith

-- the first of some bytes is a byte
first_byte : (x : ℕ) (b : List ℕ) → IsBytes (x ∷ b) → x < 256
first_byte x b fits = fits 0

-- the others after the first of some bytes are bytes
later_bytes : (x : ℕ) (b : List ℕ) → IsBytes (x ∷ b) → IsBytes b
later_bytes x b fits = λ i. fits (suc i)

-- an opcode of two bytes cut short can be completed
escaped_completes : (p : Prefix) (head : ℕ) (b : List ℕ) → IsBytes b → escapes p ≡ true → escaped_shape p head b ≡ Err Truncated
    → Completes (escaped_shape p head) b
unfolding escaped_shape entry_shape operand_shape sized_operand opcode_entry forms_of permits
escaped_completes Unprefixed head [] fits may h = by_test (escaped_shape Unprefixed head) [] (0xC8 ∷ [])
    (byte_list 0xC8 (omega arith)) refl
escaped_completes Word head [] fits may h = by_test (escaped_shape Word head) [] (0x40 ∷ 0xC0 ∷ [])
    (two_bytes 0x40 0xC0 (omega arith) (omega arith)) refl
escaped_completes Repeat head [] fits may h = absurd cc
escaped_completes RepeatNot head [] fits may h = absurd cc
escaped_completes Lock head [] fits may h = by_test (escaped_shape Lock head) [] (0xAB ∷ 0x00 ∷ [])
    (two_bytes 0xAB 0x00 (omega arith) (omega arith)) refl
escaped_completes p head (o ∷ b) fits may h =
    let c = entry_completes p (head + 1) true o b (first_byte o b fits) h in
    record { more = c.more; shape = c.shape; fits = c.fits; done = c.done }

-- after each prefix an opcode is permitted
opcode_completes_empty : (p : Prefix) (head : ℕ) → Completes (opcode_shape p head) []
unfolding opcode_shape entry_shape operand_shape sized_operand opcode_entry forms_of permits
opcode_completes_empty Unprefixed head = by_test (opcode_shape Unprefixed head) [] (0x90 ∷ []) (byte_list 0x90 (omega arith)) refl
opcode_completes_empty Word head = by_test (opcode_shape Word head) [] (0x90 ∷ []) (byte_list 0x90 (omega arith)) refl
opcode_completes_empty Repeat head = by_test (opcode_shape Repeat head) [] (0xA4 ∷ []) (byte_list 0xA4 (omega arith)) refl
opcode_completes_empty RepeatNot head = by_test (opcode_shape RepeatNot head) [] (0xA6 ∷ []) (byte_list 0xA6 (omega arith)) refl
opcode_completes_empty Lock head = by_test (opcode_shape Lock head) [] (0x00 ∷ 0x00 ∷ [])
    (two_bytes 0x00 0x00 (omega arith) (omega arith)) refl

-- an opcode cut short can be completed
opcode_completes : (p : Prefix) (head : ℕ) (b : List ℕ) → IsBytes b → opcode_shape p head b ≡ Err Truncated
    → Completes (opcode_shape p head) b
unfolding opcode_shape
opcode_completes p head [] fits h = opcode_completes_empty p head
opcode_completes p head (o ∷ b) fits h =
    elim (true_or_false (o == 0x0F)) [
      | inl is ↦
          (let h2 = cond_true (o == 0x0F) (cond (escapes p) (escaped_shape p (head + 1) b) refused) _ cut is h in
          elim (true_or_false (escapes p)) [
            | inl may ↦
                (let c = escaped_completes p (head + 1) b (later_bytes o b fits) may
                (cond_true (escapes p) (escaped_shape p (head + 1) b) refused cut may h2) in
                record {
                  more = c.more;
                  shape = c.shape;
                  fits = c.fits;
                  done = cond_is_true (o == 0x0F) _ _ is ∙ cond_is_true (escapes p)
                      (escaped_shape p (head + 1) (b ++ c.more)) refused may ∙ c.done;
                })
            | inr may_not ↦ absurd (let f : refused ≡ cut = cond_false (escapes p)
                (escaped_shape p (head + 1) b) refused cut may_not h2 in cc)
          ])
      | inr is_not ↦
          (let c = entry_completes p (head + 1) false o b (first_byte o b fits)
          (cond_false (o == 0x0F) (cond (escapes p) (escaped_shape p (head + 1) b) refused) _ cut is_not h) in
          record {
            more = c.more;
            shape = c.shape;
            fits = c.fits;
            done = cond_is_false (o == 0x0F) _ (entry_shape p (head + 1) (opcode_entry false o) (b ++ c.more)) is_not ∙ c.done;
          })
    ]

-- bytes after a prefix that are cut short can be completed
prefixed_completes : (p : Prefix) (first : ℕ) (b : List ℕ) → IsBytes (first ∷ b) → prefixed_shape p (first ∷ b) b ≡ Err Truncated
    → (m : List ℕ) × (s : Shape) × IsBytes m × (prefixed_shape p (first ∷ (b ++ m)) (b ++ m) ≡ Ok s)
unfolding prefixed_shape
prefixed_completes Unprefixed first b fits h = let c = opcode_completes Unprefixed 0 (first ∷ b) fits h in
    (c.more, c.shape, c.fits, c.done)
prefixed_completes Word first b fits h = let c = opcode_completes Word 1 b (later_bytes first b fits) h in
    (c.more, c.shape, c.fits, c.done)
prefixed_completes Repeat first b fits h = let c = opcode_completes Repeat 1 b (later_bytes first b fits) h in
    (c.more, c.shape, c.fits, c.done)
prefixed_completes RepeatNot first b fits h = let c = opcode_completes RepeatNot 1 b (later_bytes first b fits) h in
    (c.more, c.shape, c.fits, c.done)
prefixed_completes Lock first b fits h = let c = opcode_completes Lock 1 b (later_bytes first b fits) h in
    (c.more, c.shape, c.fits, c.done)

-- 90 is read
nop : is_ok (shape_of (0x90 ∷ [])) ≡ true
unfolding shape_of prefixed_shape prefix_of opcode_shape entry_shape operand_shape sized_operand opcode_entry forms_of permits
nop = refl

-- what is cut short can be completed
pub shape_completes : (b : List ℕ) → IsBytes b → shape_of b ≡ Err Truncated → Completes shape_of b
unfolding shape_of
shape_completes [] fits h =
    let c = opcode_completes_empty Unprefixed 0 in
    by_test shape_of [] (0x90 ∷ []) (byte_list 0x90 (omega arith)) nop
shape_completes (first ∷ b) fits h =
    let c = prefixed_completes (prefix_of first) first b fits h in
    record { more = c.0; shape = c.1; fits = c.2; done = c.3 }
