use Rattle.np_desk.proofs.Prelude.{rules}
use Rattle.np_desk.proofs.DeskRule.{looks}
use Rattle.np_desk.proofs.step.take.Goals as goal

pub load-found-requires : goal.load-found-requires
load-found-requires g c = (search rules, search rules, looks _ _ _ _ _ _ _ c.args.ticket (search rules) (search rules))
