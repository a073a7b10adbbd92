use Rattle.np_check.proofs.Prelude.{arith}
use Rattle.np_check.proofs.Bounds.{times_fit}
use Rattle.np_check.proofs.ready.many.Goals as goal

pub times-requires-clause-instances : goal.times-requires-clause-instances
times-requires-clause-instances c = times_fit c.from.result c.args.amount.instances (omega (arith, c.from.ensures)) c.requires.instances

pub times-requires-clause-cores : goal.times-requires-clause-cores
times-requires-clause-cores c = times_fit c.from.result c.args.amount.cores (omega (arith, c.from.ensures)) c.requires.cores

pub times-requires-clause-ram : goal.times-requires-clause-ram
times-requires-clause-ram c = times_fit c.from.result c.args.amount.ram (omega (arith, c.from.ensures)) c.requires.ram
