use Rattle.np_tree_rows.proofs.Prelude.{Ok, Result, rules, ◌<◌, ◌^◌, ◌∙◌}
use Rattle.np_tree_rows.proofs.NodeReads.{node-read, node-unread}
use Rattle.np_tree_rows.proofs.Shown.{read-none, read-some}
use Rattle.np_tree_rows.proofs.node_table.node.Goals as goal

pub returns-in_err-bytes : goal.returns-in_err-bytes
returns-in_err-bytes c config s stored =
    let small : c.args.node.0 < 2 ^ 32 = search rules in
    c.from_residual.ensures ∙ node-unread config s c.args.tree.now stored c.args.node small c.in_err-bytes.ensures

pub returns-in-Ok : goal.returns-in-Ok
returns-in-Ok c config s stored =
    let small : c.args.node.0 < 2 ^ 32 = search rules in
    read-some _ c.in-Ok.kept (node-read config s c.args.tree.now stored c.args.node small c.in_ok-bytes.bytes.now (Ok c.in-Ok.kept) c.in_ok-bytes.ensures c.in-Ok.ensures.all)

pub returns-in-Err : goal.returns-in-Err
returns-in-Err c config s stored =
    let small : c.args.node.0 < 2 ^ 32 = search rules in
    read-none _ c.in-Err.field-0 (node-read config s c.args.tree.now stored c.args.node small c.in_ok-bytes.bytes.now (Result.Err c.in-Err.field-0) c.in_ok-bytes.ensures c.in-Err.ensures.all)
