use Rattle.np_tree_rows.proofs.Prelude.{request_queue}
use Rattle.np_tree_rows.proofs.Shown.{request-unqueued, request-waits}
use Rattle.np_tree_rows.proofs.request_table.request_queue.Goals as goal

pub returns-then-not-has_text : goal.returns-then-not-has_text
returns-then-not-has_text c config s stored = request-unqueued config s c.args.tree.now stored c.args.request c.args.at c.if-not-has_text.ensures.no

pub returns : goal.returns
returns c config s stored =
    let waits = request-waits config s c.args.tree.now stored c.args.request c.if-not-has_text.ensures.yes in
    c.waiting_at.ensures waits.0 (request_queue c.args.request s.requests) waits.1
