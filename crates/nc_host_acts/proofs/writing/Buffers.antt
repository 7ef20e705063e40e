-- Elements written into the front of a buffer, one after the other.
use Rattle.std.proofs.Common.{◌≡◌, ℕ, ◌+◌, ◌<◌, List, [], ◌∷◌, ◌++◌, length, set, arith, sym, subst, ◌∙◌}
use Rattle.std.specs.Prelude.{map}
use Rattle.std.proofs.lemmas.List.{length-map, map-append, length-append}
use Rattle.nc_acts.specs.declared.acts.Entry.{Entry}
use Rattle.nc_host_acts.specs.declared.act.NcAct.{NcAct}
use Rattle.nc_host_acts.specs.Shown.{entry_of}
use Rattle.nc_host_acts.specs.Written.{HoldsLog}
use Rattle.nc_base.proofs.Offered.{over_one_more}

-- an entry written behind the first ones of a buffer is one more of them
pub write_one : (start now : List NcAct) (count : ℕ) (log : List Entry) (a : Entry) → HoldsLog start now count log → count < length now
    → HoldsLog start (set now count (entry_of a)) (count + 1) (log ++ a ∷ [])
write_one start now count log a h lt =
    let long : length (map entry_of log) ≡ count = length-map log entry_of ∙ sym h.counted in
    record {
      buffer = rw (h.buffer, sym long, map-append entry_of log (a ∷ []))
          (over_one_more (map entry_of log) start (entry_of a) (subst (λ (z : List NcAct). length (map entry_of log) < length z) h.buffer (omega (arith, lt, long))));
      counted = omega (arith, h.counted, length-append log (a ∷ []));
    }
