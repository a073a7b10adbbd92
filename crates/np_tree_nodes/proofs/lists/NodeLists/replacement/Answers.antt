use Rattle.np_tree_nodes.proofs.Prelude.{Some, refl, with_bytes, ◌+◌}
use Rattle.np_tree_nodes.proofs.PlanLemmas.{Plans-touch}
use Rattle.np_tree_nodes.proofs.lists.NodeLists.replacement.Goals as goal

pub returns : goal.returns
returns c =
    let node = c.args.found.node.now in
    let bytes = c.args.bytes.now in
    rw (c.requires.version, c.in_ok-copy.ensures)
    (Plans-touch c.args.found.place node (record { bytes = Some bytes; facts = record node.facts { version = node.facts.version + 1; mzxid = c.args.change } }) (with_bytes c.args.change bytes)
    c.args.self.now.nodes c.args.self.now.marks c.requires.kept c.requires.there (λ _. refl) (λ _. refl) refl)
