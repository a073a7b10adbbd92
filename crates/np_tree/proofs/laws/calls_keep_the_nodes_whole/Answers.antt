use Rattle.np_tree.proofs.Prelude.{next_change}
use Rattle.np_tree.proofs.WholeLemmas.{IsWhole-after_end, IsWhole-after_multi, IsWhole-after_part, IsWhole-after_raise, IsWhole-new_tree}
use Rattle.np_tree.proofs.laws.calls_keep_the_nodes_whole.Goals as goal

pub returns : goal.returns
returns c = record {
  begin = IsWhole-new_tree;
  part = IsWhole-after_part;
  multi = IsWhole-after_multi;
  end = λ t session whole. IsWhole-after_end (next_change t) session t.nodes whole;
  raise = IsWhole-after_raise;
}
