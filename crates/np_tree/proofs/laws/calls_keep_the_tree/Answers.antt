use Rattle.np_tree.proofs.CallLemmas.{IsTree-after_begin, IsTree-after_end, IsTree-after_multi, IsTree-after_raise, IsTree-new_tree, IsTreeUpTo-after_part}
use Rattle.np_tree.proofs.laws.calls_keep_the_tree.Goals as goal

pub returns : goal.returns
returns c = record {
  new = IsTree-new_tree;
  part = IsTreeUpTo-after_part;
  multi = IsTree-after_multi;
  begin = IsTree-after_begin;
  end = IsTree-after_end;
  raise = IsTree-after_raise;
}
