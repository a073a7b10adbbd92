use Rattle.np_spelling.proofs.Prelude.{role_in}
use Rattle.np_spelling.proofs.role.role.Goals as goal

pub returns : goal.returns
unfolding role_in
returns c = rw (c.in_ok-acts.ensures, c.in_ok-starts.ensures, c.in_ok-strikes.ensures) c.spelled.ensures
