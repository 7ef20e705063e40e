-- Members of lists, and of what is made of each of them.
use Rattle.std.proofs.Common.{◌≡◌, ℕ, zero, suc, ◌+◌, ◌≤◌, List, [], ◌∷◌, map, Some, refl, ap, subst, arith}
use Rattle.std.specs.List.{slice_get}
use Rattle.std.specs.Prelude.{Contains}
use Rattle.nc_list.specs.declared.chunk.Chunk.{Chunk}
use Rattle.nc_base.specs.Each.{Each}
use Rattle.nc_region.specs.Region.{IsAscending}

-- what is made of a member is a member
pub listed_map : {X Y : Type 0} (f : X → Y) (xs : List X) (x : X) → Contains xs x → Contains (map f xs) (f x)
listed_map f [] x h = absurd (omega (arith, h.1))
listed_map f (y ∷ ys) x (zero, l, e) = (0, omega arith, ap f e)
listed_map f (y ∷ ys) x (suc k, l, e) =
    let rest = listed_map f ys x (k, omega (arith, l), e) in (suc rest.0, omega (arith, rest.1), rest.2)

-- a member of a list made by a function is made of a member
pub listed_unmap : {X Y : Type 0} (f : X → Y) (xs : List X) (z : Y) → Contains (map f xs) z → (x : X) × Contains xs x × (f x ≡ z)
listed_unmap f [] z (k, l, e) = absurd (omega (arith, l))
listed_unmap f (y ∷ ys) z (zero, l, e) = (y, (0, omega arith, refl), e)
listed_unmap f (y ∷ ys) z (suc k, l, e) =
    let rest = listed_unmap f ys z (k, omega (arith, l), e) in
    (rest.0, (suc rest.1.0, omega (arith, rest.1.1), rest.1.2), rest.2)

-- what stands at an index is a member
pub listed_at : {X : Type 0} (xs : List X) (k : ℕ) (x : X) → slice_get xs k ≡ Some x → Contains xs x
listed_at [] k x e = absurd cc
listed_at (y ∷ ys) zero x e = (0, omega arith, cc)
listed_at (y ∷ ys) (suc k) x e = let rest = listed_at ys k x e in (suc rest.0, omega (arith, rest.1), rest.2)

-- chunks that ascend from a place lie above it
pub ascending_listed : (from : ℕ) (chunks : List Chunk) (c : Chunk) → IsAscending from chunks → Contains chunks c → from ≤ c.base
ascending_listed from [] c ascending (k, l, e) = absurd (omega (arith, l))
ascending_listed from (d ∷ rest) c ascending (zero, l, e) = subst (λ (x : Chunk). from ≤ x.base) e ascending.0
ascending_listed from (d ∷ rest) c ascending (suc k, l, e) =
    omega (arith, ascending.0, ascending_listed (d.base + d.length) rest c ascending.1 (k, omega (arith, l), e))

-- each of the chunks that ascend from a place lies above it, and above lower ones
pub ascending_each : (from to : ℕ) (chunks : List Chunk) → to ≤ from → IsAscending from chunks → Each (λ (c : Chunk). to ≤ c.base) chunks
ascending_each from to [] le ascending = tt
ascending_each from to (d ∷ rest) le ascending =
    (omega (arith, le, ascending.0), ascending_each (d.base + d.length) to rest (omega (arith, le, ascending.0)) ascending.1)
