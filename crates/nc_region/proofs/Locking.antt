-- What a `&` to a lock under a rule holds is the same for each type of one value that stands for the rule. The type is a parameter
-- of the machine's types and of the ghost values, and both read nothing of it.
use Rattle.std.proofs.Common.{◌≡◌, ℕ, T, List, [], ◌∷◌, refl, subst, Option}
use mir.Syntax.{Ty}
use mir.Val.{Val, WT, has_ty}
use denote.Laws.{Typed}
use mathlib.Core.HProp.{h_prop_ext}
use base.Stored.{Coded}
use base.Fml.{Lft, Fml, ftrue}
use denote.Exit.{unchanged}
use denote.RattleType.{RattleType}
use Rattle.std.specs.contracts.marker.Brand as brand
use Rattle.std.specs.declared.marker.Brand.{Brand}
use Rattle.nc_region.specs.Region.{Region}
use Rattle.nc_region.specs.declared.lock.ruled.HasRegion as region
use Rattle.nc_region.specs.declared.lock.ruled.Rule as rule
use Rattle.nc_region.specs.contracts.lock.ruled.RuledLock as ruled

abbrev pub Good : Ty → Val → Type 0
Good τ v = T (has_ty τ v) × WT v

-- values of one type are one value
pub one : (τ : Ty) (vs : List Val) → Typed (τ ∷ []) vs → (v : Val) × (vs ≡ v ∷ []) × Good τ v
one τ [] t = absurd t
one τ (v ∷ []) t = (v, refl, t.0)
one τ (v ∷ w ∷ vs) t = absurd t.1

module _ (T : RattleType) (g : region.Ghosts T.Denot) (first : Option Region) (b o : ℕ) (κ : Lft) where
  -- the rule, at a type of one value
  abbrev ghosts : {D : Type 0} → D → ((x y : D) → x ≡ y) → rule.Ghosts D
  ghosts one only = record { first = first; one = one; only = only }

  -- what a `&` to the lock holds, where K stands for the rule
  abbrev pub lent : (K : RattleType) → K.Denot → ((x y : K.Denot) → x ≡ y) → Fml
  lent K one only = (ruled.the_row T K g (ghosts one only)).shr_at (record { mutex = tt }) b o κ

  -- a type with these values, which owns nothing
  abbrev blank : (D : Type 0) → Coded D → RattleType
  blank D c = record {
    Denot = D;
    mir = brand.the_row.mir;
    written = brand.the_row.written;
    reaches = [];
    lives = [];
    own_val = λ _ _. ftrue;
    exit = λ _. unchanged;
    coded = c;
    shr_at = λ _ _ _ _. ftrue;
  }

  abbrev Brand-only : (x y : Brand) → x ≡ y
  Brand-only x y = refl

  pub lent-any : (K : RattleType) (one : K.Denot) (only : (x y : K.Denot) → x ≡ y)
      → lent brand.the_row (record {}) Brand-only ≡ lent K one only
  lent-any K one only =
      let at : Type 0 → Type 1 = λ D. (c : Coded D) × (x : D) × (p : (x y : D) → x ≡ y)
      × (lent brand.the_row (record {}) Brand-only ≡ lent (blank D c) x p) in
      (subst at (h_prop_ext Brand-only only (λ _. one) (λ _. record {})) (brand.the_row.coded, record {}, Brand-only, refl)).3
