use Rattle.np_tree_rows.proofs.Prelude.{List, ap, length, rows_at, ℕ, ◌∙◌}
use Rattle.np_tree_rows.proofs.bytes.count_at.Goals as goal

pub returns : goal.returns
returns c = c.children.ensures ∙ ap (λ (p : List ℕ). length (rows_at c.args.tree.now p)) (c.text.ensures ∙ c.of.ensures)
