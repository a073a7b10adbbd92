use Rattle.np_classes.proofs.Prelude.{ap, groups_of_node, groups_of_request, is_id_before, is_node_before, node_before, queue_before, request_before, same_node, same_request, unheld_groups}
use Rattle.np_classes.proofs.MemberLemmas.{classes-noted, moved-by}
use Rattle.np_classes.proofs.classes.Classes.note.Goals as goal

pub returns : goal.returns
returns g c site s ch touched reached all past same_site after was =
    classes-noted site (g.R.Rows.site c.args.rows.now) s (g.R.Rows.state c.args.rows.now) ch touched c.args.past.now c.args.self.now _
    (moved-by is_node_before same_node (groups_of_node (g.R.Rows.site c.args.rows.now) (g.R.Rows.state c.args.rows.now)) node_before _ _ _ _ _ _
    (ap (λ (x : _). x.nodes) c.self.view_is) (ap (λ (x : _). x.nodes) c.past.view_is) c.as_slice.ensures.value c.move_nodes.ensures)
    (moved-by is_id_before same_request (unheld_groups (g.R.Rows.state c.args.rows.now)) queue_before _ _ _ _ _ _
    (moved-by is_id_before same_request (groups_of_request (g.R.Rows.state c.args.rows.now)) request_before _ _ _ _ _ _
    (ap (λ (x : _). x.requests) c.self.view_is) (ap (λ (x : _). x.requests) c.past.view_is) c.as_slice-2.ensures.value c.move_requests.ensures.members)
    (ap (λ (x : _). x.queues) c.past.view_is) c.as_slice-3.ensures.value c.move_queues.ensures)
    reached all past same_site after was
