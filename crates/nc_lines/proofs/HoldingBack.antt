-- Replies that are held back, written with others or before them.
use Rattle.std.proofs.Common.{◌≡◌, ◌++◌, ◌+◌, ℕ, List, [], Option, Result, Ok, Err, OnOk, OnErr, length, min, take, sym, ap, ◌∙◌, subst, arith}
use Rattle.std.proofs.Common.{append-nil}
use Rattle.std.specs.Io.KnownBytes.{Appends}
use Rattle.std.proofs.KnownBytes.{Appends-trans}
use Rattle.std.proofs.Math.Seq.{take-append-add}
use Rattle.std.proofs.lemmas.List.{take-append-le, take_min}
use Rattle.nc_lines.specs.machinery.Progress.{HoldsRest, WritesFront}

-- what was held back is written, and then the reply
pub holds_none : {T E : Type 0} (r : Result T E) (before mid after : Option (List ℕ)) (held reply left : List ℕ)
    → Appends before mid held → left ≡ [] → OnOk r (Appends mid after reply) → OnOk r (HoldsRest before after (held ++ reply) left)
holds_none (Ok x) before mid after held reply left h none a = (
  held ++ reply,
  Appends-trans before mid after held reply h a,
  sym (append-nil (held ++ reply)) ∙ ap (λ (t : List ℕ). (held ++ reply) ++ t) (sym none),
)
holds_none (Err e) before mid after held reply left h none a = tt

-- what was held back is written, and then a prefix of the reply
pub writes_more : {T E : Type 0} (r : Result T E) (before mid after : Option (List ℕ)) (held reply : List ℕ)
    → Appends before mid held → OnErr r (WritesFront mid after reply) → OnErr r (WritesFront before after (held ++ reply))
writes_more (Ok x) before mid after held reply h a = tt
writes_more (Err e) before mid after held reply h a = (
  length held + a.0,
  subst (Appends before after) (sym (take-append-add held reply a.0)) (Appends-trans before mid after held (take a.0 reply) h a.1),
)

-- a prefix of what was held back is one of that and the reply
pub front_of_more : (before after : Option (List ℕ)) (held reply : List ℕ) → WritesFront before after held
    → WritesFront before after (held ++ reply)
front_of_more before after held reply h =
    let count = min h.0 (length held) in (
      count,
      subst (Appends before after)
          (sym (take-append-le count held reply (omega arith) ∙ take_min h.0 held)) h.1,
    )
