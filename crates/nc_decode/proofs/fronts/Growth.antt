-- What one profile permits, each larger one permits too.
use Rattle.std.proofs.Common.{ℕ, ◌≤◌, List, Option, Some, None, arith}
use Rattle.std.proofs.lemmas.List.Elements.{Contains-append_left}
use Rattle.std.specs.Prelude.{Contains, IfSome}
use Rattle.nc_decode.specs.declared.instruction.Instr.{Instr}
use Rattle.nc_decode.specs.Rows.{Row, PrefixRow, rows, first_rows, later_rows, prefix_rows, first_prefix_rows, later_prefix_rows}
use Rattle.nc_decode.specs.Profiles.{Profile, first_profile, profile}
use Rattle.nc_decode.specs.Spelling.{Parts, Allows, SpellsBy}

-- each row and each line of the first profile is one of the second, and so is each size of a region
pub record IsPartOf (v w : Profile) : Type 0 where
  pub rows : (row : Row) → Contains v.rows row → Contains w.rows row
  pub prefix_rows : (line : PrefixRow) → Contains v.prefix_rows line → Contains w.prefix_rows line
  pub sizes : v.most_bundles ≤ w.most_bundles

-- nothing was taken away since the first profile
pub first_is_part : IsPartOf first_profile profile
unfolding rows prefix_rows
first_is_part = record {
  rows = λ row c. Contains-append_left first_rows later_rows row c;
  prefix_rows = λ line c. Contains-append_left first_prefix_rows later_prefix_rows line c;
  sizes = omega arith;
}

-- a prefix stays allowed
allowed_by_more : (v w : Profile) (p : Parts) (prefix : Option ℕ) → IsPartOf v w
    → IfSome prefix (λ b. (line : PrefixRow) × Contains v.prefix_rows line × Allows line b p)
    → IfSome prefix (λ b. (line : PrefixRow) × Contains w.prefix_rows line × Allows line b p)
allowed_by_more v w p None part h = tt
allowed_by_more v w p (Some b) part h = (h.0, part.prefix_rows h.0 h.1, h.2)

-- an instruction stays one, and says the same about control
pub spelled_by_more : (v w : Profile) (bytes : List ℕ) (i : Instr) → IsPartOf v w → SpellsBy v bytes i → SpellsBy w bytes i
spelled_by_more v w bytes i part s = record {
  parts = s.parts;
  fit = record {
    listed = part.rows s.parts.row s.fit.listed;
    opcode = s.fit.opcode;
    operand = s.fit.operand;
    number = s.fit.number;
    prefix = allowed_by_more v w s.parts s.parts.prefix part s.fit.prefix;
    bytes = s.fit.bytes;
  };
  whole = s.whole;
  says = s.says;
}
