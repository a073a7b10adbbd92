use Rattle.np_rounds.proofs.Prelude.{EndsAs, driving_of, false, first_phase, rules, sight_of, work_of}
use Rattle.np_rounds.proofs.OneRound.{allowed_part}
use Rattle.np_rounds.proofs.crew.play_plainly.Goals as goal

pub returns : goal.returns
returns g c =
    let work = work_of c.args.crew.worker in
    let before = driving_of g.D.Driver.facts g.D.Driver.plan g.D.Driver.sound g.D.Driver.room c.args.crew.worker in
    let now = driving_of g.D.Driver.facts g.D.Driver.plan g.D.Driver.sound g.D.Driver.room c.round-end.new.self in
    record {
      own = search rules;
      part = search rules;
      work = search rules;
      round = allowed_part false c.args.desk.now.origin.fixed (first_phase work) (sight_of c.args.crew.pass) (sight_of c.round-end.new.turns.pass) before now (EndsAs work before now c.round-end.result) c.round-end.ensures.round;
      entries = search rules;
    }
