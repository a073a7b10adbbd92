use Rattle.np_gen.proofs.Prelude.{draw, next_state, refl}
use Rattle.np_gen.proofs.law.a_worked_draw.Goals as goal

pub returns : goal.returns
unfolding next_state draw
returns c = record { state = refl; value = refl }
