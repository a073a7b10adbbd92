use Rattle.np_rounds.proofs.Prelude.{false, inl, true, ◌∙◌}
use Rattle.np_rounds.proofs.Players.{ended_carried, ended_count, ended_driven, ended_failed, ended_plans, ended_played, ended_rooms, ended_runs, ended_settled, ended_sounds}
use Rattle.np_rounds.proofs.rounds.run_rounds.Goals as goal

pub play_site-requires-clause-rested : goal.play_site-requires-clause-rested
play_site-requires-clause-rested g c κs within = inl (c.in_ok-board.ensures.journal)

pub returns-clause-settled : goal.returns-clause-settled
returns-clause-settled g c = λ room.
    let played = c.in_ok-played.played in let told = c.in_ok-played.ensures in
    ended_settled c.args.config played.configuration played.journal played.state c.in_ok-played.full
    c.know_soundness.ensures (told.configuration ∙ c.in_ok-board.ensures.configuration) c.know_soundness-2.ensures.runs
    (told.settled room) told.stops room

pub returns-clause-drivers : goal.returns-clause-drivers
returns-clause-drivers g c = ended_count g.D.Driver.facts g.D.Driver.plan g.D.Driver.sound g.D.Driver.room c.args.plans c.args.config c.in_ok-board.board.configuration c.in_ok-workers.workers.items c.play_site.new.workers.items c.args.drivers.items c.in_ok-drivers.drivers.items
    c.in_ok-board.board.journal c.in_ok-played.played.journal c.in_ok-played.full c.in_ok-workers.ensures.drivings c.in_ok-drivers.ensures c.in_ok-board.ensures.configuration c.in_ok-board.ensures.journal c.in_ok-played.ensures.laps
    ∙ c.requires.drivers

pub returns-clause-plans : goal.returns-clause-plans
returns-clause-plans g c = ended_plans g.D.Driver.facts g.D.Driver.plan g.D.Driver.sound g.D.Driver.room c.args.plans c.args.config c.in_ok-board.board.configuration c.in_ok-workers.workers.items c.play_site.new.workers.items c.args.drivers.items c.in_ok-drivers.drivers.items
    c.in_ok-board.board.journal c.in_ok-played.played.journal c.in_ok-played.full c.in_ok-workers.ensures.drivings c.in_ok-drivers.ensures c.in_ok-board.ensures.configuration c.in_ok-board.ensures.journal c.in_ok-played.ensures.laps

pub returns-clause-sounds : goal.returns-clause-sounds
returns-clause-sounds g c = ended_sounds g.D.Driver.facts g.D.Driver.plan g.D.Driver.sound g.D.Driver.room c.args.plans c.args.config c.in_ok-board.board.configuration c.in_ok-workers.workers.items c.play_site.new.workers.items c.args.drivers.items c.in_ok-drivers.drivers.items
    c.in_ok-board.board.journal c.in_ok-played.played.journal c.in_ok-played.full c.in_ok-workers.ensures.drivings c.in_ok-drivers.ensures c.in_ok-board.ensures.configuration c.in_ok-board.ensures.journal c.in_ok-played.ensures.laps

pub returns-clause-rooms : goal.returns-clause-rooms
returns-clause-rooms g c = ended_rooms g.D.Driver.facts g.D.Driver.plan g.D.Driver.sound g.D.Driver.room c.args.plans c.args.config c.in_ok-board.board.configuration c.in_ok-workers.workers.items c.play_site.new.workers.items c.args.drivers.items c.in_ok-drivers.drivers.items
    c.in_ok-board.board.journal c.in_ok-played.played.journal c.in_ok-played.full c.in_ok-workers.ensures.drivings c.in_ok-drivers.ensures c.in_ok-board.ensures.configuration c.in_ok-board.ensures.journal c.in_ok-played.ensures.laps

pub returns-clause-played : goal.returns-clause-played
returns-clause-played g c = ended_played g.D.Driver.facts g.D.Driver.plan g.D.Driver.sound g.D.Driver.room c.args.plans c.args.config c.in_ok-board.board.configuration c.in_ok-workers.workers.items c.play_site.new.workers.items c.args.drivers.items c.in_ok-drivers.drivers.items
    c.in_ok-board.board.journal c.in_ok-played.played.journal c.in_ok-played.full c.in_ok-workers.ensures.drivings c.in_ok-drivers.ensures c.in_ok-board.ensures.configuration c.in_ok-board.ensures.journal c.in_ok-played.ensures.laps
    c.in_ok-workers.ensures.numbered

pub returns-clause-driven : goal.returns-clause-driven
returns-clause-driven g c = ended_driven g.D.Driver.facts g.D.Driver.plan g.D.Driver.sound g.D.Driver.room c.args.plans c.args.config c.in_ok-board.board.configuration c.in_ok-workers.workers.items c.play_site.new.workers.items c.args.drivers.items c.in_ok-drivers.drivers.items
    c.in_ok-board.board.journal c.in_ok-played.played.journal c.in_ok-played.full c.in_ok-workers.ensures.drivings c.in_ok-drivers.ensures c.in_ok-board.ensures.configuration c.in_ok-board.ensures.journal c.in_ok-played.ensures.laps
    c.in_ok-workers.ensures.numbered (ended_runs c.args.config c.in_ok-played.played.configuration c.in_ok-played.played.journal c.in_ok-played.played.state (c.in_ok-played.ensures.configuration ∙ c.in_ok-board.ensures.configuration) c.know_soundness-2.ensures.runs) false

pub returns-clause-planned : goal.returns-clause-planned
returns-clause-planned g c = ended_driven g.D.Driver.facts g.D.Driver.plan g.D.Driver.sound g.D.Driver.room c.args.plans c.args.config c.in_ok-board.board.configuration c.in_ok-workers.workers.items c.play_site.new.workers.items c.args.drivers.items c.in_ok-drivers.drivers.items
    c.in_ok-board.board.journal c.in_ok-played.played.journal c.in_ok-played.full c.in_ok-workers.ensures.drivings c.in_ok-drivers.ensures c.in_ok-board.ensures.configuration c.in_ok-board.ensures.journal c.in_ok-played.ensures.laps
    c.in_ok-workers.ensures.numbered (ended_runs c.args.config c.in_ok-played.played.configuration c.in_ok-played.played.journal c.in_ok-played.played.state (c.in_ok-played.ensures.configuration ∙ c.in_ok-board.ensures.configuration) c.know_soundness-2.ensures.runs) true

pub returns-clause-carried : goal.returns-clause-carried
returns-clause-carried g c = ended_carried g.D.Driver.facts g.D.Driver.plan g.D.Driver.sound g.D.Driver.room c.args.plans c.args.config c.in_ok-board.board.configuration c.in_ok-workers.workers.items c.play_site.new.workers.items c.args.drivers.items c.in_ok-drivers.drivers.items
    c.in_ok-board.board.journal c.in_ok-played.played.journal c.in_ok-played.full c.in_ok-workers.ensures.drivings c.in_ok-drivers.ensures c.in_ok-board.ensures.configuration c.in_ok-board.ensures.journal c.in_ok-played.ensures.laps
    c.in_ok-workers.ensures.numbered (ended_runs c.args.config c.in_ok-played.played.configuration c.in_ok-played.played.journal c.in_ok-played.played.state (c.in_ok-played.ensures.configuration ∙ c.in_ok-board.ensures.configuration) c.know_soundness-2.ensures.runs)

pub returns-clause-failed : goal.returns-clause-failed
returns-clause-failed g c = ended_failed g.D.Driver.facts g.D.Driver.plan g.D.Driver.sound g.D.Driver.room c.args.plans c.args.config c.in_ok-board.board.configuration c.in_ok-workers.workers.items c.play_site.new.workers.items c.args.drivers.items c.in_ok-drivers.drivers.items
    c.in_ok-board.board.journal c.in_ok-played.played.journal c.in_ok-played.full c.in_ok-workers.ensures.drivings c.in_ok-drivers.ensures c.in_ok-board.ensures.configuration c.in_ok-board.ensures.journal c.in_ok-played.ensures.laps
    c.in_ok-workers.ensures.numbered (ended_runs c.args.config c.in_ok-played.played.configuration c.in_ok-played.played.journal c.in_ok-played.played.state (c.in_ok-played.ensures.configuration ∙ c.in_ok-board.ensures.configuration) c.know_soundness-2.ensures.runs)
