-- What the states of a confined text's paths come to, and which paths there are.
use Rattle.std.proofs.Common.{◌≡◌, ℕ, List, [], ◌∷◌, ◌++◌, Option, Some, None, IsTrue, IsSomeAnd, inl, inr, refl, true, false}
use Rattle.nc_decode.specs.declared.instruction.Instr.{Instr}
use Rattle.nc_decode.specs.declared.instruction.Flow.{Flow}
use Rattle.nc_decode.specs.declared.instruction.Flow.TheVariants.{Next, Branch, Jump, Call, IndirectJump, IndirectCall, Stop}
use Rattle.nc_decode.specs.Transfers.{is_indirect}
use Rattle.nc_decode.proofs.Offered.{exact}
use Rattle.nc_decode.proofs.Offered.{never_barred}
use Rattle.nc_text.specs.Places.{InRegion, instruction_at}
use Rattle.nc_text.specs.Machine.{State, Step, Joined, IsPath, IsSafe, AllSafe, IsConfined, IsMaskedFor, IsPermitted}
use Rattle.nc_text.specs.Headline.{StandsInRegion, Stands}

-- an indirect transfer that may be executed has its register just masked
masked_for : (flow : Flow) (register : ℕ) (masked : Option ℕ) → IsMaskedFor flow register masked → IsTrue (is_indirect flow)
    → masked ≡ Some register
masked_for Next r m is other = let idle : false ≡ true = other in cc
masked_for Branch r m is other = let idle : false ≡ true = other in cc
masked_for Jump r m is other = let idle : false ≡ true = other in cc
masked_for Call r m is other = let idle : false ≡ true = other in cc
masked_for IndirectJump r m is indirect = is
masked_for IndirectCall r m is indirect = is
masked_for Stop r m is other = let idle : false ≡ true = other in cc

-- a state at whose place a permitted instruction stands stands in the region
stands_in_region : (text : List ℕ) (now : State) (found : Option Instr) → instruction_at text now.place ≡ found
    → IsSomeAnd found (IsPermitted now) → InRegion text now.place → StandsInRegion text now
stands_in_region text now None e is inside = absurd is
stands_in_region text now (Some i) e is inside = record {
  low = inside.0;
  high = inside.1;
  instr = i;
  permitted = (exact _ i).0 e;
  allowed = never_barred ((exact _ i).0 e).front i ((exact _ i).0 e).spells;
  inside = is.0;
  masked = masked_for i.flow i.reg now.masked is.1;
}

-- a safe state stands where it may
pub stands_if_safe : (text : List ℕ) (now : State) → IsSafe text now → Stands text now
stands_if_safe text now safe = elim safe [ inl z ↦ inl z | inr r ↦ inr (stands_in_region text now _ refl r.1 r.0) ]

-- each of some safe states is safe
each_safe : (text : List ℕ) (before after : List State) (now : State) → AllSafe text (before ++ now ∷ after) → IsSafe text now
each_safe text [] after now all = all.0
each_safe text (first ∷ before) after now all = each_safe text before after now all.1

-- each state of each path through a confined text stands where it may
pub path_stands : (text : List ℕ) (before after : List State) (now : State) → IsConfined text → IsPath text (before ++ now ∷ after)
    → Stands text now
path_stands text before after now confined path =
    stands_if_safe text now (each_safe text before after now (confined (before ++ now ∷ after) path))

-- joined states stay joined with one more step
joined_more : (text : List ℕ) (first : State) (before : List State) (now next : State) → Joined text first (before ++ now ∷ [])
    → Step text now next → Joined text first (before ++ now ∷ next ∷ [])
joined_more text first [] now next joined step = (joined.0, (step, tt))
joined_more text first (b ∷ before) now next joined step = (joined.0, joined_more text b before now next joined.1 step)

-- a path goes on by each step
pub path_more : (text : List ℕ) (before : List State) (now next : State) → IsPath text (before ++ now ∷ []) → Step text now next
    → IsPath text (before ++ now ∷ next ∷ [])
path_more text [] now next path step = (path.0, path.1, path.2, (step, tt))
path_more text (first ∷ before) now next path step = (path.0, path.1, path.2, joined_more text first before now next path.3 step)
