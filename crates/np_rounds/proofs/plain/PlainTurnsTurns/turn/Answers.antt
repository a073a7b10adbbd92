use Rattle.np_rounds.proofs.Prelude.{sight_of}
use Rattle.np_rounds.proofs.PlainLemmas.{no_other}
use Rattle.np_rounds.proofs.plain.PlainTurnsTurns.turn.Goals as goal

pub unreachable-requires : goal.unreachable-requires
unreachable-requires g c = no_other c.args.self.now.desk.now.origin.fixed (sight_of c.args.self.now.pass) (sight_of c.turn.new.self) c.args.ask c.in_ok-turn.field-0 c.in_ok-turn.ensures.turn c.in_default.not-Plain
