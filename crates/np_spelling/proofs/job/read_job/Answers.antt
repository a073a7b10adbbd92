use Rattle.np_spelling.proofs.Prelude.{ap, arith, length}
use Rattle.np_spelling.proofs.Readers.{left_of}
use Rattle.np_spelling.proofs.Records.{job_read}
use Rattle.np_spelling.proofs.job.read_job.Goals as goal

pub answer-requires : goal.answer-requires
answer-requires c = omega (arith, left_of job_read _ _ _ c.job-found.ensures, ap length c.new-cursor.ensures)
