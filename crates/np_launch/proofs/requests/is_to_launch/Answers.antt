use Rattle.np_launch.proofs.Prelude.{Option, RequestRecord, ap, false, has_failed_node, not, option_map_or, sym, ◌∙◌}
use Rattle.np_launch.proofs.Finds.{launch-is}
use Rattle.np_launch.proofs.requests.is_to_launch.Goals as goal

pub returns-in-None : goal.returns-in-None
returns-in-None g c =
    sym (launch-is (g.R.Rows.site c.args.rows.now) (g.R.Rows.state c.args.rows.now) c.requires c.args.pool c.args.node c.in-Some.kept (sym c.in-Some.ensures)
    ∙ ap (λ (o : Option RequestRecord). option_map_or (λ q. not (has_failed_node (g.R.Rows.state c.args.rows.now) q)) o false) (sym c.in-None.ensures))

pub returns-in-Some-served_request : goal.returns-in-Some-served_request
returns-in-Some-served_request g c =
    ap not c.has_failed_node.ensures
    ∙ sym (launch-is (g.R.Rows.site c.args.rows.now) (g.R.Rows.state c.args.rows.now) c.requires c.args.pool c.args.node c.in-Some.kept (sym c.in-Some.ensures)
    ∙ ap (λ (o : Option RequestRecord). option_map_or (λ q. not (has_failed_node (g.R.Rows.state c.args.rows.now) q)) o false) (sym c.in-Some-served_request.ensures))
