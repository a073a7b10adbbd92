use Rattle.np_spelling.proofs.Prelude.{drop, rest_text, ◌++◌, ◌≡◌}
use Rattle.np_spelling.proofs.list.put_rest.Given as goal

abbrev pub invariant-loop-item : goal.invariant-loop-item
invariant-loop-item g l = l.out.items ++ rest_text g.T.Part.word (drop l.item-index l.items) ≡ l.fn.out.items ++ rest_text g.T.Part.word l.items
