use Rattle.np_top.proofs.Prelude.{AllByRecursion, Entry, IsTyped, WasAnswered, driving, map, subst}
use Rattle.np_top.proofs.Sites.{driven_either, ended_so, lines_as, new_empty, new_servers, played_by}
use Rattle.np_top.proofs.playing.play_over.Goals as goal

pub returns-clause-lines : goal.returns-clause-lines
returns-clause-lines g c =
    let ended = c.in_ok-ended.ended in let told = c.in_ok-ended.ensures in
    let none = new_servers g.D.Driver.facts c.args.drivers.items c.requires.new in
    let says = WasAnswered (map (driving g.D.Driver.facts g.D.Driver.plan g.D.Driver.sound g.D.Driver.room) ended.drivers.items) in
    lines_as says c.args.config c.know_soundness.ensures c.args.plans ended.board.journal
    (driven_either says c.args.plans c.args.config ended.board.journal (λ off. told.driven off none) (λ on. told.planned on none))
    (subst (AllByRecursion (λ (e : Entry). IsTyped e.event)) c.journal.ensures c.numbers_are_within_their_types.ensures)

pub returns-clause-driven : goal.returns-clause-driven
returns-clause-driven g c =
    let ended = c.in_ok-ended.ended in let told = c.in_ok-ended.ensures in
    let none = new_servers g.D.Driver.facts c.args.drivers.items c.requires.new in
    driven_either (WasAnswered (map (driving g.D.Driver.facts g.D.Driver.plan g.D.Driver.sound g.D.Driver.room) ended.drivers.items)) c.args.plans c.args.config ended.board.journal (λ off. told.driven off none) (λ on. told.planned on none)

pub returns-clause-carried : goal.returns-clause-carried
returns-clause-carried g c = λ off. c.in_ok-ended.ensures.carried off (new_empty g.D.Driver.facts c.args.drivers.items c.requires.new)

pub returns-clause-failed : goal.returns-clause-failed
returns-clause-failed g c = λ off. c.in_ok-ended.ensures.failed off c.requires.new

pub returns-clause-ended : goal.returns-clause-ended
returns-clause-ended g c =
    let board = c.in_ok-ended.ended.board in (
      ended_so c.args.config board.configuration board.journal board.state c.in_ok-ended.ended.full c.in_ok-ended.ensures.configuration c.know_soundness-2.ensures.runs
          c.in_ok-ended.ensures.settled c.in_ok-ended.ensures.full,
      played_by c.args.plans g.D.Driver.facts g.D.Driver.plan g.D.Driver.sound g.D.Driver.room c.args.config c.args.drivers.items c.in_ok-ended.ended.drivers.items board.journal c.in_ok-ended.ended.full
          (new_servers g.D.Driver.facts c.args.drivers.items c.requires.new) c.in_ok-ended.ensures.played,
    )
