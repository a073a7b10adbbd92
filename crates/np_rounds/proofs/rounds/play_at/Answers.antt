use Rattle.np_rounds.proofs.Prelude.{IsTick, Stops, false, not-false, not-true, players_of, subst, true, ◌∙◌}
use Rattle.np_rounds.proofs.Players.{laps_full, laps_none, laps_still, laps_tick, workers_sound}
use Rattle.np_rounds.proofs.rounds.play_at.Goals as goal

pub loop-init : goal.loop-init
loop-init g c = record {
  own = c.requires.own;
  whole = c.requires.whole;
  rested = c.requires.rested;
  laps = laps_none c.args.plans c.args.desk.now.origin.fixed c.args.pass.now.seen (players_of g.D.Driver.facts g.D.Driver.plan g.D.Driver.sound g.D.Driver.room c.args.workers.now.items);
}

pub returns-then-together-clause-laps : goal.returns-then-together-clause-laps
returns-then-together-clause-laps g c = laps_full c.args.plans c.args.desk.now.origin.fixed c.args.pass.now.seen (players_of g.D.Driver.facts g.D.Driver.plan g.D.Driver.sound g.D.Driver.room c.args.workers.now.items) c.loop.pass.seen (players_of g.D.Driver.facts g.D.Driver.plan g.D.Driver.sound g.D.Driver.room c.loop.workers.items)
    c.play_round.new.pass.seen (players_of g.D.Driver.facts g.D.Driver.plan g.D.Driver.sound g.D.Driver.room c.play_round.new.workers.items) c.in_ok-together.together.full c.loop.invariant.laps c.in_ok-together.ensures.round
    (workers_sound g.D.Driver.facts g.D.Driver.plan g.D.Driver.sound g.D.Driver.room g.D.Driver.soundness c.play_round.new.workers.items) c.if-together.true

pub returns-then-not-together-clause-laps : goal.returns-then-not-together-clause-laps
returns-then-not-together-clause-laps g c = laps_still c.args.plans c.args.desk.now.origin.fixed c.args.pass.now.seen (players_of g.D.Driver.facts g.D.Driver.plan g.D.Driver.sound g.D.Driver.room c.args.workers.now.items) c.loop.pass.seen (players_of g.D.Driver.facts g.D.Driver.plan g.D.Driver.sound g.D.Driver.room c.loop.workers.items)
    c.play_round.new.pass.seen (players_of g.D.Driver.facts g.D.Driver.plan g.D.Driver.sound g.D.Driver.room c.play_round.new.workers.items) c.in_ok-together.together.full c.loop.invariant.laps c.in_ok-together.ensures.round
    (workers_sound g.D.Driver.facts g.D.Driver.plan g.D.Driver.sound g.D.Driver.room g.D.Driver.soundness c.play_round.new.workers.items) c.if-together.false (c.in_ok-together.ensures.still (not-true c.in_ok-together.together.moved c.if-not-together.true))

pub returns-then-branch-clause-laps : goal.returns-then-branch-clause-laps
returns-then-branch-clause-laps g c = laps_tick c.args.plans c.args.desk.now.origin.fixed c.args.pass.now.seen (players_of g.D.Driver.facts g.D.Driver.plan g.D.Driver.sound g.D.Driver.room c.args.workers.now.items) c.loop.pass.seen (players_of g.D.Driver.facts g.D.Driver.plan g.D.Driver.sound g.D.Driver.room c.loop.workers.items)
    c.play_round.new.pass.seen (players_of g.D.Driver.facts g.D.Driver.plan g.D.Driver.sound g.D.Driver.room c.play_round.new.workers.items) c.in_ok-together.together.full c.loop.invariant.laps c.in_ok-together.ensures.round
    (workers_sound g.D.Driver.facts g.D.Driver.plan g.D.Driver.sound g.D.Driver.room g.D.Driver.soundness c.play_round.new.workers.items)
    c.tick.new.pass.seen true c.if-together.false (c.in_ok-together.ensures.moved (not-false c.in_ok-together.together.moved c.if-not-together.false))
    (subst (λ b. IsTick c.args.desk.now.origin.fixed c.play_round.new.pass.seen c.tick.new.pass.seen b) c.if-branch.true c.in_ok-tick.ensures.tick)

pub loop-preserved : goal.loop-preserved
loop-preserved g c = record {
  own = c.in_ok-tick.ensures.own;
  whole = c.in_ok-tick.ensures.part ∙ c.in_ok-together.ensures.whole;
  rested = subst (λ b. Stops b c.tick.new.pass.seen) c.if-branch.false c.in_ok-tick.ensures.stops;
  laps = laps_tick c.args.plans c.args.desk.now.origin.fixed c.args.pass.now.seen (players_of g.D.Driver.facts g.D.Driver.plan g.D.Driver.sound g.D.Driver.room c.args.workers.now.items) c.loop.pass.seen (players_of g.D.Driver.facts g.D.Driver.plan g.D.Driver.sound g.D.Driver.room c.loop.workers.items)
      c.play_round.new.pass.seen (players_of g.D.Driver.facts g.D.Driver.plan g.D.Driver.sound g.D.Driver.room c.play_round.new.workers.items) c.in_ok-together.together.full c.loop.invariant.laps c.in_ok-together.ensures.round
      (workers_sound g.D.Driver.facts g.D.Driver.plan g.D.Driver.sound g.D.Driver.room g.D.Driver.soundness c.play_round.new.workers.items)
      c.tick.new.pass.seen false c.if-together.false (c.in_ok-together.ensures.moved (not-false c.in_ok-together.together.moved c.if-not-together.false))
      (subst (λ b. IsTick c.args.desk.now.origin.fixed c.play_round.new.pass.seen c.tick.new.pass.seen b) c.if-branch.false c.in_ok-tick.ensures.tick);
}
