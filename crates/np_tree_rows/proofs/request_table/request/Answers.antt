use Rattle.np_tree_rows.proofs.Prelude.{Ok, Result, ◌∙◌}
use Rattle.np_tree_rows.proofs.Shown.{read-none, read-some, request-none, request-read, request-unread}
use Rattle.np_tree_rows.proofs.request_table.request.Goals as goal

pub returns-then-not-has_text : goal.returns-then-not-has_text
returns-then-not-has_text c config s stored = request-none config s c.args.tree.now stored c.args.request c.if-not-has_text.ensures.no

pub returns-in_err-bytes : goal.returns-in_err-bytes
returns-in_err-bytes c config s stored = c.from_residual.ensures ∙ request-unread config s c.args.tree.now stored c.args.request c.if-not-has_text.ensures.yes c.in_err-bytes.ensures

pub returns-in-Ok : goal.returns-in-Ok
returns-in-Ok c config s stored = read-some _ c.in-Ok.kept (request-read config s c.args.tree.now stored c.args.request c.if-not-has_text.ensures.yes c.in_ok-bytes.bytes.now (Ok c.in-Ok.kept) c.in_ok-bytes.ensures c.in-Ok.ensures.all)

pub returns-in-Err : goal.returns-in-Err
returns-in-Err c config s stored = read-none _ c.in-Err.field-0 (request-read config s c.args.tree.now stored c.args.request c.if-not-has_text.ensures.yes c.in_ok-bytes.bytes.now (Result.Err c.in-Err.field-0) c.in_ok-bytes.ensures c.in-Err.ensures.all)
