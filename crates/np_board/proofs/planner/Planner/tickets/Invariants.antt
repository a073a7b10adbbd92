use Rattle.np_board.proofs.Prelude.{IsOf, TookWithTickets, sight_of, ◌≡◌}
use Rattle.np_board.proofs.planner.Planner.tickets.Given as goal

abbrev pub invariant-loop : goal.invariant-loop
invariant-loop g l = record {
  own : IsOf l.self.pass l.self.desk.now;
  desk : l.self.desk.now ≡ l.fn.self.desk.now;
  part : l.self.pass.part ≡ l.fn.self.pass.part;
  took : TookWithTickets g.S.Series.asks g.S.Series.hears l.fn.self.desk.now.origin.fixed (sight_of l.fn.self.pass) l.fn.series l.fn.left (sight_of l.self.pass) l.series l.left;
}
