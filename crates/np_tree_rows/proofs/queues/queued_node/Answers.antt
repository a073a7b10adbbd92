use Rattle.np_tree_rows.proofs.Prelude.{List, NodeLock, ap, false, list_any, path_of, rows_at, sym, true, ℕ, ◌∙◌, ◌≡◌}
use Rattle.np_tree_rows.proofs.Registered.{is_waiting, node-queued}
use Rattle.np_tree_rows.proofs.queues.queued_node.Goals as goal

pub returns-then-waits : goal.returns-then-waits
returns-then-waits c config s stored =
    let t = c.args.tree.now in
    let path : c.text.result.now ≡ path_of (NodeLock c.in_ok-node.node) = c.text.ensures ∙ c.of-lock.ensures in
    node-queued config s t stored c.args.at c.args.session c.in_ok-node.node true (c.in_ok-node.ensures config s stored)
    (ap (λ (p : List ℕ). list_any (is_waiting c.args.session) (rows_at t p)) (sym path) ∙ sym c.waits.ensures ∙ c.if-waits.true)

pub returns-else-waits : goal.returns-else-waits
returns-else-waits c config s stored =
    let t = c.args.tree.now in
    let path : c.text.result.now ≡ path_of (NodeLock c.in_ok-node.node) = c.text.ensures ∙ c.of-lock.ensures in
    node-queued config s t stored c.args.at c.args.session c.in_ok-node.node false (c.in_ok-node.ensures config s stored)
    (ap (λ (p : List ℕ). list_any (is_waiting c.args.session) (rows_at t p)) (sym path) ∙ sym c.waits.ensures ∙ c.if-waits.false)
