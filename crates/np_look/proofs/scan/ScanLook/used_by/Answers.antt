use Rattle.np_look.proofs.Prelude.{NodeEntry, NodeView, RequestView, amount_for, amount_of_node, ap, arith, is_pending_of, is_tenant, node_seen, node_view, refl, request_seen, request_view, rest_for, rest_of_request, sym, ◌*◌, ◌+◌, ◌∙◌, ◌≡◌}
use Rattle.np_look.proofs.Looks.{total_seen, few-plus}
use Rattle.np_look.proofs.scan.ScanLook.used_by.Goals as goal

pub loop-at-preserved : goal.loop-at-preserved
loop-at-preserved g c =
    let here : c.amount_for.result ≡ amount_for (g.R.Rows.site c.args.self.now.rows.now) c.args.tenant (node_seen c.in-Some.view) = c.amount_for.ensures.amount ∙ ap (λ k. amount_for k c.args.tenant (node_seen c.in-Some.view)) c.config.ensures in
    record {
      sum = c.plus-of_nodes.ensures ∙ rw (c.loop-at.invariant.sum, here) (sym (total_seen (amount_of_node (g.R.Rows.site c.args.self.now.rows.now)) (λ (e : NodeEntry). is_tenant c.args.tenant e.kept.tenant) node_view (λ (v : NodeView). amount_for (g.R.Rows.site c.args.self.now.rows.now) c.args.tenant (node_seen v)) (λ e. refl) (g.R.Rows.state c.args.self.now.rows.now).nodes c.loop-at.at c.in-Some.view (sym c.in-Some.ensures)));
      few = rw c.plus-of_nodes.ensures (few-plus c.loop-at.of_nodes c.amount_for.result c.loop-at.at 1 (c.loop-at.at + 1) refl c.loop-at.invariant.few c.amount_for.ensures.few);
    }

pub loop-at-2-preserved : goal.loop-at-2-preserved
loop-at-2-preserved g c =
    let here : c.rest_for.result ≡ rest_for (g.R.Rows.site c.args.self.now.rows.now) c.args.tenant (request_seen c.in-Some-request_view.view) = c.rest_for.ensures.rest ∙ ap (λ k. rest_for k c.args.tenant (request_seen c.in-Some-request_view.view)) c.config-in-loop-at-2.ensures in
    record {
      sum = c.plus-of_requests.ensures ∙ rw (c.loop-at-2.invariant.sum, here) (sym (total_seen (rest_of_request (g.R.Rows.site c.args.self.now.rows.now)) (is_pending_of (g.R.Rows.site c.args.self.now.rows.now) c.args.tenant) request_view (λ (v : RequestView). rest_for (g.R.Rows.site c.args.self.now.rows.now) c.args.tenant (request_seen v)) (λ e. refl) (g.R.Rows.state c.args.self.now.rows.now).requests c.loop-at-2.at c.in-Some-request_view.view (sym c.in-Some-request_view.ensures)));
      few = rw c.plus-of_requests.ensures (few-plus c.loop-at-2.of_requests c.rest_for.result (c.loop-at-2.at * 32) 32 ((c.loop-at-2.at + 1) * 32) (omega arith) c.loop-at-2.invariant.few c.rest_for.ensures.few);
    }
