use Rattle.np_rounds.proofs.Prelude.{Configuration, HasLaps, Stops, false, players_of, refl, subst, ◌∙◌}
use Rattle.np_rounds.proofs.Players.{laps_none, laps_on}
use Rattle.np_rounds.proofs.rounds.play_site.Goals.{then-full-via-then-full, then-full-via-else-full+then-settled}
use Rattle.np_rounds.proofs.rounds.play_site.Goals as goal

pub loop-init : goal.loop-init
loop-init g c = record {
  configuration = refl;
  rested = c.requires.rested;
  laps = laps_none c.args.plans c.args.board.configuration c.args.board.journal (players_of g.D.Driver.facts g.D.Driver.plan g.D.Driver.sound g.D.Driver.room c.args.workers.now.items);
}

pub loop-preserved : goal.loop-preserved
loop-preserved g c =
    let was = players_of g.D.Driver.facts g.D.Driver.plan g.D.Driver.sound g.D.Driver.room c.loop.workers.items in
    let now = players_of g.D.Driver.facts g.D.Driver.plan g.D.Driver.sound g.D.Driver.room c.play_board.new.workers.items in
    let journal = c.in_ok-played.played.journal in
    let more = subst (λ (d : Configuration). HasLaps c.args.plans d c.loop.board.journal was journal now c.in_ok-played.full) c.loop.invariant.configuration c.in_ok-played.ensures.laps in
    record {
      configuration = c.in_ok-played.ensures.configuration ∙ c.loop.invariant.configuration;
      rested = subst (λ b. Stops b journal) c.if-full.false c.in_ok-played.ensures.stops;
      laps = laps_on c.args.plans c.args.board.configuration c.args.board.journal (players_of g.D.Driver.facts g.D.Driver.plan g.D.Driver.sound g.D.Driver.room c.args.workers.now.items) c.loop.board.journal was journal now false
          c.loop.invariant.laps (subst (λ b. HasLaps c.args.plans c.args.board.configuration c.loop.board.journal was journal now b) c.if-full.false more);
    }

pub returns-then-full-clause-settled : goal.returns-then-full-clause-settled
returns-then-full-clause-settled g c = λ room. elim c.then-full.branch [
  | then-full-via-then-full w ↦ let full = w.if-full.true in absurd cc
  | then-full-via-else-full+then-settled w ↦ w.settled.ensures.0 w.if-settled.true
]

pub returns-then-full-clause-laps : goal.returns-then-full-clause-laps
returns-then-full-clause-laps g c =
    let was = players_of g.D.Driver.facts g.D.Driver.plan g.D.Driver.sound g.D.Driver.room c.loop.workers.items in
    let now = players_of g.D.Driver.facts g.D.Driver.plan g.D.Driver.sound g.D.Driver.room c.play_board.new.workers.items in
    let journal = c.in_ok-played.played.journal in
    laps_on c.args.plans c.args.board.configuration c.args.board.journal (players_of g.D.Driver.facts g.D.Driver.plan g.D.Driver.sound g.D.Driver.room c.args.workers.now.items) c.loop.board.journal was journal now c.in_ok-played.full
    c.loop.invariant.laps (subst (λ (d : Configuration). HasLaps c.args.plans d c.loop.board.journal was journal now c.in_ok-played.full) c.loop.invariant.configuration c.in_ok-played.ensures.laps)
