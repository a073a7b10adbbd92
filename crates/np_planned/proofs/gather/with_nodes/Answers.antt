use Rattle.np_planned.proofs.Prelude.{List, NodeId, Spot, ap, append_assoc, arith, get_or, length, length-append, length-take-le, of_node, of_nodes, rules, sym, take, take_more, ◌++◌, ◌<◌, ◌∙◌, ◌≡◌, ◌≤◌}
use Rattle.np_planned.proofs.Fresh.{length-of_nodes, of_nodes-more}
use Rattle.np_planned.proofs.gather.with_nodes.Goals as goal

pub with_node-more-requires : goal.with_node-more-requires
with_node-more-requires c =
    let taken = take c.loop-node.node-index c.args.nodes.now in
    let few : length taken ≤ c.loop-node.node-index = omega (arith, length-take-le c.loop-node.node-index c.args.nodes.now (omega arith)) in
    rw c.loop-node.invariant (omega (arith, length-append {A = Spot} c.args.row (of_nodes taken), length-of_nodes taken, few, c.requires.room, c.requires.few, c.loop-node-test.true))

pub loop-node-preserved : goal.loop-node-preserved
loop-node-preserved c =
    let taken = take c.loop-node.node-index c.args.nodes.now in
    let within : c.loop-node.node-index < length c.args.nodes.now = omega (arith, c.loop-node-test.true) in
    let item : NodeId = get_or c.args.nodes.now c.loop-node.node-index (record { 0 = 0 }) in
    let is : c.with_node-more.result ≡ c.loop-node.more ++ of_node item = search rules in
    is
    ∙ (ap (λ (spots : List Spot). spots ++ of_node item) c.loop-node.invariant
    ∙ (append_assoc c.args.row (of_nodes taken) (of_node item)
    ∙ (ap (λ (spots : List Spot). c.args.row ++ spots) (sym (of_nodes-more taken item))
    ∙ ap (λ (numbers : List NodeId). c.args.row ++ of_nodes numbers) (sym (take_more c.args.nodes.now c.loop-node.node-index (record { 0 = 0 }) within)))))
