use Rattle.np_rounds.proofs.Prelude.{rules}
use Rattle.np_rounds.proofs.crew.play_planned.Goals as goal

pub returns : goal.returns
returns g c =
    record {
      own = search rules;
      part = search rules;
      work = search rules;
      round = c.round-end.ensures.round;
      entries = search rules;
    }
