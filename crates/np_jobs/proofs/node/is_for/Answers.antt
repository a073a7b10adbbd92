use Rattle.np_jobs.proofs.Prelude.{sym, ◌∙◌}
use Rattle.np_jobs.proofs.Nodes.{for-none, for-is}
use Rattle.np_jobs.proofs.node.is_for.Goals as goal

pub returns-in-None : goal.returns-in-None
returns-in-None g c =
    sym (for-none (g.R.Rows.site c.args.rows.now) (g.R.Rows.state c.args.rows.now) c.requires c.args.requester c.args.node (sym c.node.ensures ∙ c.in-None.is))

pub returns-in-Some : goal.returns-in-Some
returns-in-Some g c =
    c.is_given_to.ensures
    ∙ sym (for-is (g.R.Rows.site c.args.rows.now) (g.R.Rows.state c.args.rows.now) c.requires c.args.requester c.args.node c.in-Some.kept (sym c.node.ensures ∙ c.in-Some.is))
