use Rattle.np_board.proofs.Prelude.{refl, sight_of, sym, ◌∙◌}
use Rattle.np_board.proofs.SeriesTurns.{next-ticket, no-ticket}
use Rattle.np_board.proofs.planner.Planner.tickets.Goals as goal

pub loop-init : goal.loop-init
loop-init g c = record {
  own = c.requires.own;
  desk = refl;
  part = refl;
  took = no-ticket g.S.Series.asks g.S.Series.hears c.args.self.now.desk.now.origin.fixed (sight_of c.args.self.now.pass) c.args.series.now c.args.left.now;
}

pub loop-preserved-then-left-before : goal.loop-preserved-then-left-before
loop-preserved-then-left-before g c = record {
  own = c.ticket.ensures.own;
  desk = c.ticket.ensures.desk ∙ c.loop.invariant.desk;
  part = c.ticket.ensures.part ∙ c.loop.invariant.part;
  took = next-ticket g.S.Series.asks g.S.Series.hears c.loop.self.desk.now c.args.self.now.desk.now (sight_of c.args.self.now.pass) (sight_of c.loop.self.pass) (sight_of c.ticket.new.self.pass) c.args.series.now c.loop.series c.ticket.new.series
      c.args.left.now c.loop.left c.ticket.new.left c.in-Some-ask.field-0 c.loop.invariant.desk c.loop.invariant.took (sym c.ask.ensures ∙ c.in-Some-ask.is) c.if-left-eq0.false c.ticket.ensures.turns;
}

pub loop-preserved : goal.loop-preserved
loop-preserved g c = record {
  own = c.ticket.ensures.own;
  desk = c.ticket.ensures.desk ∙ c.loop.invariant.desk;
  part = c.ticket.ensures.part ∙ c.loop.invariant.part;
  took = next-ticket g.S.Series.asks g.S.Series.hears c.loop.self.desk.now c.args.self.now.desk.now (sight_of c.args.self.now.pass) (sight_of c.loop.self.pass) (sight_of c.ticket.new.self.pass) c.args.series.now c.loop.series c.ticket.new.series
      c.args.left.now c.loop.left c.ticket.new.left c.in-Some-ask.field-0 c.loop.invariant.desk c.loop.invariant.took (sym c.ask.ensures ∙ c.in-Some-ask.is) c.if-left-eq0.false c.ticket.ensures.turns;
}

pub returns-in_err-ticket-clause-turns : goal.returns-in_err-ticket-clause-turns
returns-in_err-ticket-clause-turns g c = next-ticket g.S.Series.asks g.S.Series.hears c.loop.self.desk.now c.args.self.now.desk.now (sight_of c.args.self.now.pass) (sight_of c.loop.self.pass) (sight_of c.ticket.new.self.pass) c.args.series.now c.loop.series c.ticket.new.series
    c.args.left.now c.loop.left c.ticket.new.left c.in-Some-ask.field-0 c.loop.invariant.desk c.loop.invariant.took (sym c.ask.ensures ∙ c.in-Some-ask.is) c.if-left-eq0.false c.ticket.ensures.turns
