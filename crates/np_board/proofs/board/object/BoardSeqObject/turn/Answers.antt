use Rattle.np_board.proofs.Prelude.{IfOk-weaker}
use Rattle.np_board.proofs.BoardTurns.{plan-history, plan-legal, taken-answers}
use Rattle.np_board.proofs.board.object.BoardSeqObject.turn.Goals as goal

pub returns-clause-fixed : goal.returns-clause-fixed
returns-clause-fixed c = (plan-history c.args.self.now c.take_turn.new.self c.args.ask c.take_turn.result c.take_turn.ensures.turn c.take_turn.ensures.err).0

pub returns-clause-legal : goal.returns-clause-legal
returns-clause-legal c =
    plan-legal c.args.self.now c.take_turn.new.self c.args.ask c.take_turn.result c.requires.legal c.take_turn.ensures.turn c.take_turn.ensures.err

pub returns-clause-answer : goal.returns-clause-answer
returns-clause-answer c = IfOk-weaker c.take_turn.result _ _ (taken-answers c.args.self.now c.take_turn.new.self c.args.ask) c.take_turn.ensures.turn

pub returns-clause-history : goal.returns-clause-history
returns-clause-history c = (plan-history c.args.self.now c.take_turn.new.self c.args.ask c.take_turn.result c.take_turn.ensures.turn c.take_turn.ensures.err).1
