use Rattle.np_config_text.proofs.Prelude.{refl}
use Rattle.np_config_text.proofs.Values.{config_on_literals}
use Rattle.np_config_text.proofs.law.a_worked_text_is_read_and_printed.Goals as goal

pub returns-clause-read : goal.returns-clause-read
unfolding config_on_literals
returns-clause-read c = refl

pub returns-clause-printed : goal.returns-clause-printed
unfolding config_on_literals
returns-clause-printed c = refl
