use Rattle.std.proofs.Common.{length, refl}
use Rattle.std.proofs.lemmas.Option.{slice_get_read}
use Rattle.nc_work.proofs.vetting.fn.judge_all.for_places.Goals as goal

pub returns : goal.returns
returns g c = (
  c.index-jobs-number.result,
  slice_get_read c.captures.jobs.now (length c.captures.jobs.now) c.args.number c.index-jobs-number.result refl c.requires c.index-jobs-number.is,
  c.judge_job.ensures,
)
