use Rattle.np_desk.proofs.Prelude.{rules}
use Rattle.np_desk.proofs.DeskRule.{starts_at, first_pass}
use Rattle.np_desk.proofs.desk.Desk.set_up.Goals as goal

pub new-requires : goal.new-requires
new-requires g c = starts_at _ _ _ _ c.args.object _ _ c.of-about.ensures (search rules) c.requires.legal

pub invariant_of-result-in-Ok-new : goal.invariant_of-result-in-Ok-new
invariant_of-result-in-Ok-new g c = first_pass g.M.SeqObject.history g.M.SeqObject.fixed g.M.SeqObject.legal c.args.object c.of-about.result.value c.in-Ok-new.seat.me c.of-about.ensures c.requires.legal c.in-Ok-new.ensures.ok.4
