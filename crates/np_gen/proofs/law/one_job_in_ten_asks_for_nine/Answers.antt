use Rattle.np_gen.proofs.DrillSite.{large_jobs}
use Rattle.np_gen.proofs.law.one_job_in_ten_asks_for_nine.Goals as goal

pub returns : goal.returns
returns c = large_jobs
