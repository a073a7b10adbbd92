use Rattle.np_explain_lines.proofs.Parts.{then_more}
use Rattle.np_explain_lines.proofs.part.put_next.Goals as goal

pub returns : goal.returns
returns c = then_more c.put_label.result c.args.out.now.items c.put.new.out.items c.put_label.new.out.items _ _ c.in_ok-put.ensures c.put_label.ensures
