-- What a vetted chunk says of its span.
use Rattle.std.proofs.Common.{ℕ, List, length, subst}
use Rattle.nc_vet.specs.Chunk.{MarkedChunk}
use Rattle.nc_vet.specs.Faults.{HasGoodSpan}
use Rattle.nc_host.specs.Handles.{IsVetted}
use Rattle.nc_host.proofs.Accepted.{good_span}

pub vetted_span : (base limit : ℕ) (code : List ℕ) (v : MarkedChunk) → IsVetted base limit code v → HasGoodSpan base limit (length code)
vetted_span base limit code v h =
    subst (λ b. HasGoodSpan b limit (length code)) h.0 (subst (λ l. HasGoodSpan v.base l (length code)) h.1
    (subst (λ c. HasGoodSpan v.base v.limit (length c)) h.2 (good_span v.base v.limit v.code v.marks h.3)))
