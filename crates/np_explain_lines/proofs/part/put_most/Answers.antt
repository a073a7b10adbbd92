use Rattle.np_explain_lines.proofs.Parts.{then_more}
use Rattle.np_explain_lines.proofs.part.put_most.Goals as goal

pub returns : goal.returns
returns c = then_more c.put_number.result c.args.out.now.items c.put.new.out.items c.put_number.new.out.items _ _ c.in_ok-put.ensures (rw c.from.ensures at c.put_number.ensures.ok)
