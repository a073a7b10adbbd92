use Rattle.np_worker.proofs.Prelude.{Ok, err_from_is_err_and, refl}
use Rattle.np_worker.proofs.Walks.{one_turn, no_turn, with_recorded, counts_turn}
use Rattle.np_worker.proofs.act.take_turn.Goals as goal

pub returns-in_err-turn-clause-part : goal.returns-in_err-turn-clause-part
returns-in_err-turn-clause-part g c = λ p d may of. let e = err_from_is_err_and c.from_residual.result c.from_residual.ensures.1 in no_turn p (g.T.Turns.sight c.args.turns.now) (g.T.Turns.sight c.turn.new.self) d c.in_err-turn.ensures.turn (rw e.1 tt)

pub returns-in_err-entries-clause-part : goal.returns-in_err-entries-clause-part
returns-in_err-entries-clause-part g c = λ p d may of. let e = err_from_is_err_and c.from_residual-in_err-entries.result c.from_residual-in_err-entries.ensures.1 in one_turn p (g.T.Turns.sight c.args.turns.now) (g.T.Turns.sight c.turn.new.self) d c.args.ask c.in_ok-turn.turn may of (with_recorded g.T.Turns.answers g.T.Turns.recorded c.requires.recorded (g.T.Turns.fixed c.args.turns.now) (g.T.Turns.sight c.args.turns.now) (g.T.Turns.sight c.turn.new.self) c.args.ask (Ok c.in_ok-turn.turn) c.in_ok-turn.ensures.turn) (rw e.1 tt)

pub returns-clause-part : goal.returns-clause-part
returns-clause-part g c = λ p d may of. one_turn p (g.T.Turns.sight c.args.turns.now) (g.T.Turns.sight c.turn.new.self) d c.args.ask c.in_ok-turn.turn may of (with_recorded g.T.Turns.answers g.T.Turns.recorded c.requires.recorded (g.T.Turns.fixed c.args.turns.now) (g.T.Turns.sight c.args.turns.now) (g.T.Turns.sight c.turn.new.self) c.args.ask (Ok c.in_ok-turn.turn) c.in_ok-turn.ensures.turn) (refl, refl)

pub returns-clause-count : goal.returns-clause-count
returns-clause-count g c = let h = with_recorded g.T.Turns.answers g.T.Turns.recorded c.requires.recorded (g.T.Turns.fixed c.args.turns.now) (g.T.Turns.sight c.args.turns.now) (g.T.Turns.sight c.turn.new.self) c.args.ask (Ok c.in_ok-turn.turn) c.in_ok-turn.ensures.turn in counts_turn c.args.entries.now c.in_ok-entries.field-0 c.args.ask c.in_ok-turn.turn h.0 (g.T.Turns.sight c.args.turns.now) (g.T.Turns.sight c.turn.new.self) c.in_ok-entries.ensures h.3
