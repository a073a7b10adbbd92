use Rattle.np_explain_lines.proofs.Prelude.{Ok, ℕ}
use Rattle.np_explain_lines.proofs.Parts.{then_two}
use Rattle.np_explain_lines.proofs.amount.put_amount.Goals as goal

pub returns : goal.returns
returns c =
    then_two {A = Unit {0}} {E = ℕ} (Ok tt) c.args.out.now.items c.put_part.new.out.items c.put_part-2.new.out.items c.put_part-3.new.out.items _ _ _
    c.in_ok-put_part.ensures c.in_ok-put_part-2.ensures c.in_ok-put_part-3.ensures
