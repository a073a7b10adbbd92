use Rattle.np_tables.proofs.Prelude.{filter_same, rules}
use Rattle.np_tables.proofs.settle.drop_registrations.Goals as goal

pub returns : goal.returns
returns c = filter_same _ _ _ (λ x b f' k. search rules) _ _ c.retain.ensures.filtered
