use Rattle.np_layout.proofs.Sets.{job_changes-lay-out, jobs-lay-out}
use Rattle.np_layout.proofs.laws.sets_of_jobs_lay_out.Goals as goal

pub returns-clause-put : goal.returns-clause-put
returns-clause-put c = jobs-lay-out

pub returns-clause-change : goal.returns-clause-change
returns-clause-change c = job_changes-lay-out
