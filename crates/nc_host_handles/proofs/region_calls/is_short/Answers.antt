use Rattle.std.proofs.lemmas.Bool.{ltb-true, lt-ltb}
use Rattle.nc_host_handles.proofs.region_calls.is_short.Goals as goal

pub returns-then-room-gt0 : goal.returns-then-room-gt0
returns-then-room-gt0 c = (λ t. (c.if-room-gt0.true, ltb-true _ _ t), λ short. lt-ltb _ _ short.1)
