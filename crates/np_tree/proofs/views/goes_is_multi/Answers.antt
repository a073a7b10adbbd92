use Rattle.np_tree.proofs.CallLemmas.{answered-goes, checks-leave-the-tree, goes-after, goes-answered, goes-under-one-number, goes-unrefused}
use Rattle.np_tree.proofs.views.goes_is_multi.Goals as goal

pub returns : goal.returns
returns c = record {
  answered = goes-answered;
  after = goes-after;
  unrefused = goes-unrefused;
  number = goes-under-one-number;
  checks = checks-leave-the-tree;
  back = answered-goes;
}
