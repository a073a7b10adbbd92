use Rattle.np_tree_nodes.proofs.PlanLemmas.{Plans-removal}
use Rattle.np_tree_nodes.proofs.lists.NodeLists.removal_with.Goals as goal

pub returns-clause-plan : goal.returns-clause-plan
returns-clause-plan c =
    Plans-removal c.args.change c.args.found.place c.args.found.node.now c.args.self.now.nodes c.args.self.now.marks c.touch_above.result c.args.mark
    c.requires.kept c.requires.there c.requires.mark c.touch_above.ensures.nodes c.touch_above.ensures.can
