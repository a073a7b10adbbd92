use Rattle.np_rounds.proofs.Prelude.{Ask, Event, IsTick, Stops, ap, false, is_plain_full, sight_of, subst, sym, ◌∙◌}
use Rattle.np_rounds.proofs.OneRound.{grows_turn, knows, tick_stops, whole_tick}
use Rattle.np_rounds.proofs.PlainLemmas.{plain_turn}
use Rattle.np_rounds.proofs.rounds.tick.Goals as goal

pub returns-clause-stops : goal.returns-clause-stops
returns-clause-stops g c =
    let site = c.args.desk.now.origin.fixed in
    let plain = plain_turn site (sight_of c.args.pass.now) (sight_of c.turn.new.self) (Ask.Do Event.Tick) c.in_ok-turn.turn c.in_ok-turn.ensures.turn in
    subst (λ b. Stops b c.turn.new.self.seen) (sym (c.is_full.ensures ∙ ap is_plain_full plain.1))
    (tick_stops site (sight_of c.args.pass.now) (sight_of c.turn.new.self) plain.0 plain.2)

pub returns-clause-tick : goal.returns-clause-tick
returns-clause-tick g c =
    let site = c.args.desk.now.origin.fixed in
    let plain = plain_turn site (sight_of c.args.pass.now) (sight_of c.turn.new.self) (Ask.Do Event.Tick) c.in_ok-turn.turn c.in_ok-turn.ensures.turn in
    subst (λ b. IsTick site c.args.pass.now.seen c.turn.new.self.seen b) (sym (c.is_full.ensures ∙ ap is_plain_full plain.1))
    (whole_tick c.args.desk.now c.args.pass.now c.turn.new.self plain.0
    (knows c.args.desk.now c.args.pass.now c.turn.new.self c.requires.own c.know.ensures.rising c.know.ensures.begins (c.know.ensures.whole c.requires.whole)
    (c.in_ok-turn.ensures.whole (c.in_ok-turn.ensures.part ∙ c.requires.whole))
    (grows_turn false site (sight_of c.args.pass.now) (sight_of c.turn.new.self) (Ask.Do Event.Tick) plain.0 plain.2))
    plain.2)
