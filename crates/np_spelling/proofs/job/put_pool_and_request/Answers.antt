use Rattle.np_spelling.proofs.Prelude.{append_assoc, refl}
use Rattle.np_spelling.proofs.job.put_pool_and_request.Goals as goal

pub returns : goal.returns
returns c = rw (c.in_ok-put_request_between.ensures, c.in_ok-put_u16_behind.ensures) (simp append_assoc refl)
