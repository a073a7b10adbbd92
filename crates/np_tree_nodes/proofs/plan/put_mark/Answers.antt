use Rattle.np_tree_nodes.proofs.KeptLemmas.{IsSplit-mark}
use Rattle.np_tree_nodes.proofs.plan.put_mark.Goals as goal

pub place-place-requires : goal.place-place-requires
place-place-requires c = record { split = IsSplit-mark c.args.session c.as_bytes.result.now c.args.marks.now c.requires }
