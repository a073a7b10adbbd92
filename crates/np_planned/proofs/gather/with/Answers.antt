use Rattle.np_planned.proofs.Prelude.{pushed_row}
use Rattle.np_planned.proofs.gather.with.Goals as goal

pub returns : goal.returns
returns c = pushed_row c.push.result 68 c.args.row c.push.new.self c.args.spot c.push.ensures.room c.push.ensures.pushed c.requires
