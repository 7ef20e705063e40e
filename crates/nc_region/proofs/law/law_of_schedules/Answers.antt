use Rattle.nc_region.proofs.events.Schedules.{safe_after, none_is_within_freed, usable_after_freed}
use Rattle.nc_region.proofs.events.Moving.{moves_at, bytes_at}
use Rattle.nc_region.proofs.events.Seeing.{as_it_stands, only_as_it_stands, lasts, mixed}
use Rattle.nc_region.proofs.law.law_of_schedules.Goals as goal

pub returns-clause-safe : goal.returns-clause-safe
returns-clause-safe c = safe_after

pub returns-clause-freed : goal.returns-clause-freed
returns-clause-freed c = none_is_within_freed

pub returns-clause-usable : goal.returns-clause-usable
returns-clause-usable c = usable_after_freed

pub returns-clause-moves : goal.returns-clause-moves
returns-clause-moves c = moves_at

pub returns-clause-bytes : goal.returns-clause-bytes
returns-clause-bytes c = bytes_at

pub returns-clause-as_it_stands : goal.returns-clause-as_it_stands
returns-clause-as_it_stands c = λ w. as_it_stands w.marked.bytes w.earlier

pub returns-clause-serialized : goal.returns-clause-serialized
returns-clause-serialized c = λ w view v. only_as_it_stands w.marked.bytes view v

pub returns-clause-lasts : goal.returns-clause-lasts
returns-clause-lasts c = lasts

pub returns-clause-mixed : goal.returns-clause-mixed
returns-clause-mixed c = λ w one other view a b long each. mixed w.marked.bytes w.earlier one other view a b long each
