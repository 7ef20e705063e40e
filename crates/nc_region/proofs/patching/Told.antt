-- The acts in the log of a patch.
use Rattle.std.proofs.Common.{◌≡◌, ℕ, ◌+◌, Bool, true, false, cond, List, [], ◌∷◌, ◌++◌, length, refl, ◌∙◌, ap}
use Rattle.nc_vet.specs.Chunk.{Piece}
use Rattle.nc_acts.specs.declared.acts.Act.{Act}
use Rattle.nc_acts.specs.declared.acts.Act.TheVariants.{Put}
use Rattle.nc_acts.specs.declared.acts.Entry.TheVariants.{Did, Serialized}
use Rattle.nc_acts.specs.Acts.{puts_where}
use Rattle.nc_acts.specs.Log.{acts_in}
use Rattle.nc_region.specs.Patch.{stands_there, any_place, acts_of_instruction, acts_of_patch, log_of_instruction, log_of_patch}
use Rattle.nc_acts.proofs.Offered.{acts_join, acts_before}

-- the acts in the log of one instruction
instruction_acts : (at : ℕ) (bytes : List ℕ) → acts_in (log_of_instruction at bytes) ≡ acts_of_instruction at bytes
instruction_acts at [] = refl
instruction_acts at (byte ∷ []) = refl
instruction_acts at (byte ∷ next ∷ rest) =
    ap (λ (z : List Act). Put at 244 ∷ z)
    (acts_before (puts_where any_place (at + 1) (next ∷ rest)) (Serialized ∷ Did (Put at byte) ∷ []))

-- the acts in the log of an instruction that may stand already are its acts
chosen_acts : (b : Bool) (at : ℕ) (bytes : List ℕ)
    → acts_in (cond b [] (log_of_instruction at bytes)) ≡ cond b [] (acts_of_instruction at bytes)
chosen_acts true at bytes = refl
chosen_acts false at bytes = instruction_acts at bytes

-- the acts in the log of a patch
pub patch_acts : (text : List ℕ) (at : ℕ) (news : List Piece) → acts_in (log_of_patch text at news) ≡ acts_of_patch text at news
patch_acts text at [] = refl
patch_acts text at (p ∷ rest) =
    let b = stands_there text at p.bytes in
    acts_join (cond b [] (log_of_instruction at p.bytes)) (log_of_patch text (at + length p.bytes) rest)
    ∙ (ap (λ (z : List Act). z ++ acts_in (log_of_patch text (at + length p.bytes) rest)) (chosen_acts b at p.bytes)
    ∙ ap (λ (z : List Act). cond b [] (acts_of_instruction at p.bytes) ++ z) (patch_acts text (at + length p.bytes) rest))
