use Rattle.np_tree_rows.proofs.Prelude.{ap, request_of, ◌∙◌}
use Rattle.np_tree_rows.proofs.Registered.{has-text}
use Rattle.np_tree_rows.proofs.Shown.{request-named, request-unnamed}
use Rattle.np_tree_rows.proofs.request_table.request_at.Goals as goal

pub returns-in_err-name-clause-request : goal.returns-in_err-name-clause-request
returns-in_err-name-clause-request c config s stored = c.from_residual.ensures ∙ request-unnamed config s c.args.tree.now stored c.args.at c.in_err-name.ensures

pub returns-clause-request : goal.returns-clause-request
returns-clause-request c config s stored = c.read_request.ensures ∙ ap request_of c.as_bytes.ensures.value ∙ request-named config s c.args.tree.now stored c.args.at c.in_ok-name.name.now c.in_ok-name.ensures

pub returns-clause-text : goal.returns-clause-text
returns-clause-text c = has-text c.as_bytes.result.now c.read_request.result c.read_request.ensures
