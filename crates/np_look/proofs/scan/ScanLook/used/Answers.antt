use Rattle.np_look.proofs.Prelude.{NodeEntry, NodeView, amount_at, amount_of, ap, node_seen, node_view, refl, sym, ◌+◌, ◌==◌, ◌∙◌, ◌≡◌}
use Rattle.np_look.proofs.Looks.{total_seen, few-plus}
use Rattle.np_look.proofs.scan.ScanLook.used.Goals as goal

pub loop-at-preserved : goal.loop-at-preserved
loop-at-preserved g c =
    let here : c.amount_at.result ≡ amount_at (g.R.Rows.site c.args.self.now.rows.now) c.args.pool (node_seen c.in-Some.view) = c.amount_at.ensures.amount ∙ ap (λ k. amount_at k c.args.pool (node_seen c.in-Some.view)) c.config.ensures in
    record {
      sum = c.plus-sum.ensures ∙ rw (c.loop-at.invariant.sum, here) (sym (total_seen (λ (e : NodeEntry). amount_of (g.R.Rows.site c.args.self.now.rows.now) c.args.pool e.kept.label) (λ (e : NodeEntry). e.kept.pool.0 == c.args.pool.0) node_view (λ (v : NodeView). amount_at (g.R.Rows.site c.args.self.now.rows.now) c.args.pool (node_seen v)) (λ e. refl) (g.R.Rows.state c.args.self.now.rows.now).nodes c.loop-at.at c.in-Some.view (sym c.in-Some.ensures)));
      few = rw c.plus-sum.ensures (few-plus c.loop-at.sum c.amount_at.result c.loop-at.at 1 (c.loop-at.at + 1) refl c.loop-at.invariant.few c.amount_at.ensures.few);
    }
