use Rattle.np_look.proofs.Prelude.{NodeEntry, NodeView, add-one, arith, false, is_given_to, is_queued, is_to_leave, node_queue, node_seen, node_view, refl, sym, true, ◌∙◌, ◌≡◌}
use Rattle.np_look.proofs.Looks.{listed_here, listed_past, passed_later, passed_over}
use Rattle.np_look.proofs.scan.ScanLook.node_to_leave.Goals.{then-not-waits_at_node-via-then-not-waits_at_node, then-not-waits_at_node-via-else-not-waits_at_node+then-is_given_to}
use Rattle.np_look.proofs.scan.ScanLook.node_to_leave.Goals as goal

pub loop-place-preserved-then-not-waits_at_node : goal.loop-place-preserved-then-not-waits_at_node
loop-place-preserved-then-not-waits_at_node g c =
    let over = λ (fails : is_to_leave (g.R.Rows.site c.args.self.now.rows.now) (g.R.Rows.state c.args.self.now.rows.now) c.args.requester c.args.session (node_seen c.in_ok-view.view) ≡ false).
    passed_over (λ (v : NodeView). is_to_leave (g.R.Rows.site c.args.self.now.rows.now) (g.R.Rows.state c.args.self.now.rows.now) c.args.requester c.args.session (node_seen v)) node_view (is_to_leave (g.R.Rows.site c.args.self.now.rows.now) (g.R.Rows.state c.args.self.now.rows.now) c.args.requester c.args.session) (λ e. refl) (g.R.Rows.state c.args.self.now.rows.now).nodes c.loop-place.place c.in_ok-view.view c.loop-place.left (sym c.in_ok-view.ensures) fails in
    elim c.then-not-waits_at_node.branch [
      | then-not-waits_at_node-via-then-not-waits_at_node w ↦
          let waits : is_queued c.args.session (node_queue c.in_ok-view.view.id (g.R.Rows.state c.args.self.now.rows.now).nodes) ≡ false = cc in
          rw add-one (sym (over (rw waits refl)) ∙ c.loop-place.invariant)
      | then-not-waits_at_node-via-else-not-waits_at_node+then-is_given_to w ↦
          let waits : is_queued c.args.session (node_queue c.in_ok-view.view.id (g.R.Rows.state c.args.self.now.rows.now).nodes) ≡ true = cc in
          let given : is_given_to (g.R.Rows.site c.args.self.now.rows.now) (g.R.Rows.state c.args.self.now.rows.now) c.args.requester c.in_ok-view.view.kept ≡ true = cc in
          rw add-one (sym (over (rw (waits, given) refl)) ∙ c.loop-place.invariant)
    ]

pub returns-then-left-eq0 : goal.returns-then-left-eq0
returns-then-left-eq0 g c =
    let waits : is_queued c.args.session (node_queue c.in_ok-view.view.id (g.R.Rows.state c.args.self.now.rows.now).nodes) ≡ true = cc in
    let given : is_given_to (g.R.Rows.site c.args.self.now.rows.now) (g.R.Rows.state c.args.self.now.rows.now) c.args.requester c.in_ok-view.view.kept ≡ false = cc in
    let passes : is_to_leave (g.R.Rows.site c.args.self.now.rows.now) (g.R.Rows.state c.args.self.now.rows.now) c.args.requester c.args.session (node_seen c.in_ok-view.view) ≡ true = rw (waits, given) refl in
    listed_here (λ (v : NodeView). is_to_leave (g.R.Rows.site c.args.self.now.rows.now) (g.R.Rows.state c.args.self.now.rows.now) c.args.requester c.args.session (node_seen v)) node_view (is_to_leave (g.R.Rows.site c.args.self.now.rows.now) (g.R.Rows.state c.args.self.now.rows.now) c.args.requester c.args.session) (λ e. refl) (λ v. v.id) (g.R.Rows.state c.args.self.now.rows.now).nodes c.loop-place.place c.loop-place.left c.args.at c.in_ok-view.view (sym c.in_ok-view.ensures) passes c.if-left-eq0.true c.loop-place.invariant

pub loop-place-preserved : goal.loop-place-preserved
loop-place-preserved g c =
    let waits : is_queued c.args.session (node_queue c.in_ok-view.view.id (g.R.Rows.state c.args.self.now.rows.now).nodes) ≡ true = cc in
    let given : is_given_to (g.R.Rows.site c.args.self.now.rows.now) (g.R.Rows.state c.args.self.now.rows.now) c.args.requester c.in_ok-view.view.kept ≡ false = cc in
    let passes : is_to_leave (g.R.Rows.site c.args.self.now.rows.now) (g.R.Rows.state c.args.self.now.rows.now) c.args.requester c.args.session (node_seen c.in_ok-view.view) ≡ true = rw (waits, given) refl in
    rw add-one (sym (passed_later (λ (v : NodeView). is_to_leave (g.R.Rows.site c.args.self.now.rows.now) (g.R.Rows.state c.args.self.now.rows.now) c.args.requester c.args.session (node_seen v)) node_view (is_to_leave (g.R.Rows.site c.args.self.now.rows.now) (g.R.Rows.state c.args.self.now.rows.now) c.args.requester c.args.session) (λ e. refl) (g.R.Rows.state c.args.self.now.rows.now).nodes c.loop-place.place c.in_ok-view.view c.loop-place.left (sym c.in_ok-view.ensures) passes c.if-left-eq0.false) ∙ c.loop-place.invariant)

pub returns : goal.returns
returns g c =
    listed_past (is_to_leave (g.R.Rows.site c.args.self.now.rows.now) (g.R.Rows.state c.args.self.now.rows.now) c.args.requester c.args.session) (λ (e : NodeEntry). e.id) (g.R.Rows.state c.args.self.now.rows.now).nodes c.loop-place.place c.loop-place.left c.args.at (omega (arith, c.nodes-place-end.ensures, c.loop-place-test.false)) c.loop-place.invariant
