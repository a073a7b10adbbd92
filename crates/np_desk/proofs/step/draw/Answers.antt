use Rattle.np_desk.proofs.Prelude.{rules}
use Rattle.np_desk.proofs.DeskRule.{draws}
use Rattle.np_desk.proofs.step.draw.Goals as goal

pub compare_exchange-found-requires : goal.compare_exchange-found-requires
compare_exchange-found-requires g c = (search rules, search rules, draws _ _ _ _ _ _ _ _ _ (search rules) (search rules) (search rules))
