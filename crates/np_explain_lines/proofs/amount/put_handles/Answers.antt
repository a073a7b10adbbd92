use Rattle.np_explain_lines.proofs.amount.put_handles.Goals as goal

pub returns : goal.returns
returns c = rw c.from.ensures at (rw c.most_handles-most.ensures at c.put_part.ensures)
