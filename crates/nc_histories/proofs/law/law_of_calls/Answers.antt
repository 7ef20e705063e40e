use Rattle.std.proofs.Common.{[]}
use Rattle.nc_region.proofs.Offered.{safe_after}
use Rattle.nc_histories.specs.Histories.{NoneYet}
use Rattle.nc_histories.proofs.Entries.{stops_of, stops_then}
use Rattle.nc_histories.proofs.Keeping.{begins, keeper}
use Rattle.nc_histories.proofs.OneMoreCall.{goes_on, created, deleted}
use Rattle.nc_histories.proofs.Patched.{patched}
use Rattle.nc_histories.proofs.Reclaimed.{reclaimed}
use Rattle.nc_histories.proofs.Refusals.{refused_same}
use Rattle.nc_histories.proofs.law.law_of_calls.Goals as goal

pub returns-clause-begins : goal.returns-clause-begins
returns-clause-begins c = λ limit seats events r lawful marked chunks own threads found range.
    (begins limit seats events r lawful marked chunks own threads found range).led

pub returns-clause-goes_on : goal.returns-clause-goes_on
returns-clause-goes_on c = λ limit seats before events old new h others is threads.
    (goes_on limit seats before events old new h others is threads).led

pub returns-clause-refused : goal.returns-clause-refused
returns-clause-refused c = refused_same

pub returns-clause-created : goal.returns-clause-created
returns-clause-created c = λ limit seats before events old new v h region valid lim is own threads.
    (created limit seats before events old new v [] h region valid lim is NoneYet own threads).led

pub returns-clause-deleted : goal.returns-clause-deleted
returns-clause-deleted c = λ limit seats before events old new base stamp h region is own threads.
    (deleted limit seats before events old new base stamp (stops_of old.marked.marks base is.chunk.length) [] h region is
    (stops_then old.marked.marks base is.chunk.length) NoneYet own threads).led

pub returns-clause-reclaimed : goal.returns-clause-reclaimed
returns-clause-reclaimed c = λ limit seats before events old new count h region is own threads found.
    (reclaimed limit seats before events old new count h region is own threads found).led

pub returns-clause-patched : goal.returns-clause-patched
returns-clause-patched c = λ limit seats before events old new at bytes news h region lawful b is own threads.
    (patched limit seats before events old new at bytes news [] h region lawful b is NoneYet own threads).led

pub returns-clause-keeper : goal.returns-clause-keeper
returns-clause-keeper c = λ limit seats before events old new h marked chunks own threads found range.
    (keeper limit seats before events old new h marked chunks own threads found range).led

pub returns-clause-safe : goal.returns-clause-safe
returns-clause-safe c = λ limit seats events later r h. safe_after limit seats events later h.lawful h.allowed
