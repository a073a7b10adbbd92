use Rattle.np_machine.proofs.Prelude.{filter_same, rules}
use Rattle.np_machine.proofs.queue.drop_session.Goals as goal

pub returns : goal.returns
returns c = filter_same _ _ _ (λ x b f' k. search rules) _ _ c.retain.ensures.filtered
