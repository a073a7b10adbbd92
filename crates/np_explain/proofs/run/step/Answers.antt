use Rattle.np_explain.proofs.Prelude.{RunsOn-fits}
use Rattle.np_explain.proofs.Goes.{GoesOn-applied, IsPlayed-applied}
use Rattle.np_explain.proofs.run.step.Goals as goal

pub note-requires : goal.note-requires
note-requires c = RunsOn-fits _ _ _ _ c.know_soundness.ensures.site c.know_soundness.ensures.runs

pub returns-clause-played : goal.returns-clause-played
returns-clause-played c =
    let more = c.in_ok-reply.ensures in
    IsPlayed-applied c.args.run.now.machine c.apply.new.self c.args.event c.requires.played.first c.requires.room c.in_ok-reply.reply c.args.run.now.tally c.note.new.self
    more.ok more.earlier more.reply more.runs c.requires.played c.note.ensures

pub returns-clause-goes_on : goal.returns-clause-goes_on
returns-clause-goes_on c = GoesOn-applied c.args.run.now.machine c.apply.new.self c.args.event c.requires.played.first c.requires.room c.in_ok-reply.ensures.ok
