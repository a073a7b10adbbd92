use Rattle.np_explain_lines.proofs.Parts.{then_more}
use Rattle.np_explain_lines.proofs.part.put_no_turn.Goals as goal

pub returns : goal.returns
returns c = then_more c.put_most.result c.args.out.now.items c.put.new.out.items c.put_most.new.out.items _ _ c.in_ok-put.ensures c.put_most.ensures
