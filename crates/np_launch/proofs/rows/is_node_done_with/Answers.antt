use Rattle.np_launch.proofs.Prelude.{Option, RequestRecord, ap, is_none, sym, ◌∙◌}
use Rattle.np_launch.proofs.Finds.{none-is, done-is}
use Rattle.np_launch.proofs.rows.is_node_done_with.Goals as goal

pub returns : goal.returns
returns g c =
    none-is c.is_none.result c.served_request.result c.is_none.ensures
    ∙ ap (λ (o : Option RequestRecord). is_none o) c.served_request.ensures
    ∙ sym (done-is (g.R.Rows.site c.args.rows.now) (g.R.Rows.state c.args.rows.now) c.requires c.args.pool c.args.node c.in-Some.kept (sym c.node.ensures ∙ c.in-Some.is) c.if-kept.false)
