use Rattle.np_rounds.proofs.Prelude.{Configuration, Entry, HasLaps, List, Runs-legal, Stops, ap, players_of, subst, sym}
use Rattle.np_rounds.proofs.OneRound.{closed_seen}
use Rattle.np_rounds.proofs.rounds.play_board.Goals as goal

pub set_up-requires : goal.set_up-requires
set_up-requires g c = record { legal = Runs-legal c.args.board.configuration c.args.board.journal c.args.board.state c.know_soundness.ensures.runs }

pub returns-clause-stops : goal.returns-clause-stops
returns-clause-stops g c =
    let is = closed_seen c.in-Ok.desk c.play_at.new.pass c.close.result.journal c.in_ok-full.ensures.own
    (c.know.ensures.whole c.in_ok-full.ensures.whole) c.know.ensures.begins c.close.ensures.history c.close.ensures.mine in
    subst (λ (j : List Entry). Stops c.in_ok-full.full j) (sym is) c.in_ok-full.ensures.stops

pub returns-clause-laps : goal.returns-clause-laps
returns-clause-laps g c =
    let is = closed_seen c.in-Ok.desk c.play_at.new.pass c.close.result.journal c.in_ok-full.ensures.own
    (c.know.ensures.whole c.in_ok-full.ensures.whole) c.know.ensures.begins c.close.ensures.history c.close.ensures.mine in
    let site = ap (λ o. o.fixed) c.in-Ok.ensures.desk in
    let before = players_of g.D.Driver.facts g.D.Driver.plan g.D.Driver.sound g.D.Driver.room c.args.workers.now.items in
    let now = players_of g.D.Driver.facts g.D.Driver.plan g.D.Driver.sound g.D.Driver.room c.play_at.new.workers.items in
    subst (λ (d : Configuration). HasLaps c.args.plans d c.args.board.journal before c.close.result.journal now c.in_ok-full.full) site
    (subst (λ (j : List Entry). HasLaps c.args.plans c.in-Ok.desk.origin.fixed c.args.board.journal before j now c.in_ok-full.full) (sym is)
    (subst (λ (j : List Entry). HasLaps c.args.plans c.in-Ok.desk.origin.fixed j before c.play_at.new.pass.seen now c.in_ok-full.full) c.in-Ok.ensures.seen.0
    c.in_ok-full.ensures.laps))
