use Rattle.np_steps.proofs.Prelude.{NodeRecord, Some, ap, node_text, sym, ◌∙◌}
use Rattle.np_steps.proofs.RecordRows.{allocation-none, allocation-pushed, node-away, node-there, on-ok}
use Rattle.np_steps.proofs.grow.push_allocation.Goals as goal

pub returns : goal.returns
returns g c =
    let s = g.R.Rows.state c.args.rows.now in
    let there = node-there c.args.allocation.node s.nodes c.in-Some-node.kept (sym c.node.ensures ∙ c.in-Some-node.is) in
    on-ok c.push_node_wait.result
    (λ joined. allocation-pushed c.args.ops.now.items c.push_set.new.ops.items c.push_node_wait.new.ops.items c.args.maker c.in-Some.field-0 c.args.allocation.node s.nodes there.0 c.args.allocation.request c.args.allocation.tenant _
    c.in-Some.is there.1.0
    (sym (ap (λ (k : NodeRecord). node_text (record k { allocated_to = Some c.args.allocation.request; tenant = c.args.allocation.tenant })) there.1.1))
    c.in_ok-push_set.ensures joined)
    (c.push_node_wait.ensures (g.R.Rows.site c.args.rows.now) s there.0 c.requires.stored there.1.0)

pub returns-in_default-node : goal.returns-in_default-node
returns-in_default-node g c =
    let s = g.R.Rows.state c.args.rows.now in
    allocation-none c.args.ops.now.items c.args.maker c.in-Some.field-0 c.args.allocation.node s.nodes c.args.allocation.request c.args.allocation.tenant c.in-Some.is
    (node-away c.args.allocation.node s.nodes (sym c.node.ensures ∙ c.in_default-node.is))
