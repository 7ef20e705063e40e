-- A region has at most one chunk of a base.
use Rattle.std.proofs.Common.{◌≡◌, ℕ, ◌<◌, ◌≤◌, List, length, get_or, arith, sym, ap, ◌∙◌, ⊎_elim}
use Rattle.std.specs.Prelude.{Contains}
use Rattle.std.proofs.lemmas.Bool.{cases_lt}
use Rattle.std.proofs.lemmas.List.{get_or_default}
use Rattle.nc_text.specs.MarkedText.{MarkedText}
use Rattle.nc_text.specs.Places.{limit_of}
use Rattle.nc_vet.specs.Faults.{HasGoodSpan}
use Rattle.nc_list.specs.declared.chunk.Chunk.{Chunk}
use Rattle.nc_region.specs.Region.{IsRegion}
use Rattle.nc_list.proofs.Offered.{ascending_apart}
use Rattle.nc_base.proofs.Offered.{each_get}

-- a later chunk has another base
later_base : (marked : MarkedText) (chunks : List Chunk) (d : Chunk) → IsRegion marked chunks → (i j : ℕ) → i < j → j < length chunks
    → (get_or chunks i d).base < (get_or chunks j d).base
later_base marked chunks d region i j before lt =
    let good = each_get (λ (x : Chunk). HasGoodSpan x.base (limit_of marked.bytes) x.length) chunks i d (omega (arith, before, lt)) region.placed in
    omega (arith, good.some, ascending_apart 0x10000 chunks i j d region.ascending before lt)

-- listed chunks of one base are one
pub one_of_base : (marked : MarkedText) (chunks : List Chunk) (c d : Chunk) → IsRegion marked chunks → Contains chunks c
    → Contains chunks d → c.base ≡ d.base → c ≡ d
one_of_base marked chunks c d region has other same =
    let first : get_or chunks has.0 c ≡ c = has.2 in
    let second : get_or chunks other.0 c ≡ d = get_or_default chunks other.0 c d other.1 ∙ other.2 in
    let first_base : (get_or chunks has.0 c).base ≡ c.base = ap (λ (x : Chunk). x.base) first in
    let second_base : (get_or chunks other.0 c).base ≡ d.base = ap (λ (x : Chunk). x.base) second in
    ⊎_elim
    (λ (before : has.0 < other.0). absurd
    (omega (arith, later_base marked chunks c region has.0 other.0 before other.1, first_base, second_base, same)))
    (λ (from : other.0 ≤ has.0).
    ⊎_elim
    (λ (behind : other.0 < has.0). absurd
    (omega (arith, later_base marked chunks c region other.0 has.0 behind has.1, first_base, second_base, same)))
    (λ (to : has.0 ≤ other.0).
    let index : has.0 ≡ other.0 = omega (arith, from, to) in
    sym first ∙ (ap (λ (k : ℕ). get_or chunks k c) index ∙ second))
    (cases_lt other.0 has.0))
    (cases_lt has.0 other.0)
