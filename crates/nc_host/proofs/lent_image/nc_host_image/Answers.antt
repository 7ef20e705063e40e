use Rattle.std.proofs.Common.{◌≡◌, ◌-◌, ℕ, List, length, replicate, arith, ap, sym, subst, ◌∙◌, inr}
use Rattle.nc_decode.specs.declared.instruction.Mark.{Mark}
use Rattle.nc_text.specs.Machine.{IsConfined}
use Rattle.nc_text.specs.MarkedText.{unused_text, with_chunk, with_span}
use Rattle.nc_text.specs.Places.{limit_of}
use Rattle.nc_text.proofs.Offered.{confined_if_closed}
use Rattle.nc_region.proofs.Offered.{valid_chunk_is_closed}
use Rattle.nc_host.specs.Outcomes.{IsAccepted}
use Rattle.nc_host.proofs.Accepted.{only_memory}
use Rattle.nc_host.proofs.lent_image.nc_host_image.Goals as goal

pub returns-in-Err-clause-valid : goal.returns-in-Err-clause-valid
returns-in-Err-clause-valid c = λ marks valid.
    let fault = c.in-Err.ensures.fault.1 in
    inr (fault.2 ∙ only_memory c.args.base (limit_of c.args.image.now) c.args.code.now marks fault.0 valid fault.1)

-- a text that is unused but for a valid chunk is confined
filled_confined : (base : ℕ) (code image : List ℕ) (new : List ℕ) → (marks : List Mark) × IsAccepted base (limit_of image) code marks
    → new ≡ with_span (replicate (length image) 244) (base - 65536) code → IsConfined new
filled_confined base code image new valid filled =
    let limit = limit_of image in
    let same : length image ≡ limit - 65536 = omega arith in
    let closed = (valid_chunk_is_closed (record { base = base; limit = limit; code = code; marks = valid.0 }) valid.1).closed in
    subst IsConfined (sym (filled ∙ ap (λ (n : ℕ). with_span (replicate n 244) (base - 65536) code) same))
    (confined_if_closed (with_chunk (unused_text limit) base code valid.0).bytes (with_chunk (unused_text limit) base code valid.0).marks closed)

pub returns-clause-confined : goal.returns-clause-confined
returns-clause-confined c = λ done.
    filled_confined c.args.base c.args.code.now c.args.image.now c.write_image.new.image c.in_default.ensures.valid c.write_image.ensures
