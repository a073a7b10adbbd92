use Rattle.np_look.proofs.Prelude.{NodeEntry, NodeView, None, add-one, ap, arith, drop, drop-past, false, find, is_given_to, is_queued, is_to_lock, node_queue, node_seen, node_view, option_map, refl, slice_get_past, sym, true, ◌∙◌, ◌≡◌}
use Rattle.np_look.proofs.Looks.{found_here, found_later}
use Rattle.np_look.proofs.scan.ScanLook.node_to_lock.Goals.{else-is_given_to-via-then-is_given_to+else-not-waits_at_node, else-is_given_to-via-else-is_given_to}
use Rattle.np_look.proofs.scan.ScanLook.node_to_lock.Goals as goal

pub returns-then-not-waits_at_node : goal.returns-then-not-waits_at_node
returns-then-not-waits_at_node g c =
    let given : is_given_to (g.R.Rows.site c.args.self.now.rows.now) (g.R.Rows.state c.args.self.now.rows.now) c.args.requester c.in_ok-view.view.kept ≡ true = cc in
    let waits : is_queued c.args.session (node_queue c.in_ok-view.view.id (g.R.Rows.state c.args.self.now.rows.now).nodes) ≡ false = cc in
    let passes : is_to_lock (g.R.Rows.site c.args.self.now.rows.now) (g.R.Rows.state c.args.self.now.rows.now) c.args.requester c.args.session (node_seen c.in_ok-view.view) ≡ true = rw (given, waits) refl in
    sym (ap (option_map (λ (e : NodeEntry). e.id)) (sym c.loop-at.invariant)
    ∙ found_here (λ (v : NodeView). is_to_lock (g.R.Rows.site c.args.self.now.rows.now) (g.R.Rows.state c.args.self.now.rows.now) c.args.requester c.args.session (node_seen v)) node_view (is_to_lock (g.R.Rows.site c.args.self.now.rows.now) (g.R.Rows.state c.args.self.now.rows.now) c.args.requester c.args.session) (λ e. refl) (λ v. v.id) (g.R.Rows.state c.args.self.now.rows.now).nodes c.loop-at.at c.in_ok-view.view (sym c.in_ok-view.ensures) passes)

pub loop-at-preserved : goal.loop-at-preserved
loop-at-preserved g c =
    let later = λ (fails : is_to_lock (g.R.Rows.site c.args.self.now.rows.now) (g.R.Rows.state c.args.self.now.rows.now) c.args.requester c.args.session (node_seen c.in_ok-view.view) ≡ false).
    found_later (λ (v : NodeView). is_to_lock (g.R.Rows.site c.args.self.now.rows.now) (g.R.Rows.state c.args.self.now.rows.now) c.args.requester c.args.session (node_seen v)) node_view (is_to_lock (g.R.Rows.site c.args.self.now.rows.now) (g.R.Rows.state c.args.self.now.rows.now) c.args.requester c.args.session) (λ e. refl) (g.R.Rows.state c.args.self.now.rows.now).nodes c.loop-at.at c.in_ok-view.view (sym c.in_ok-view.ensures) fails in
    elim c.else-is_given_to.branch [
      | else-is_given_to-via-then-is_given_to+else-not-waits_at_node w ↦
          let given : is_given_to (g.R.Rows.site c.args.self.now.rows.now) (g.R.Rows.state c.args.self.now.rows.now) c.args.requester c.in_ok-view.view.kept ≡ true = cc in
          let waits : is_queued c.args.session (node_queue c.in_ok-view.view.id (g.R.Rows.state c.args.self.now.rows.now).nodes) ≡ true = cc in
          rw add-one (sym (later (rw (given, waits) refl)) ∙ c.loop-at.invariant)
      | else-is_given_to-via-else-is_given_to w ↦
          let given : is_given_to (g.R.Rows.site c.args.self.now.rows.now) (g.R.Rows.state c.args.self.now.rows.now) c.args.requester c.in_ok-view.view.kept ≡ false = cc in
          rw add-one (sym (later (rw given refl)) ∙ c.loop-at.invariant)
    ]

pub returns : goal.returns
returns g c =
    let none : find (is_to_lock (g.R.Rows.site c.args.self.now.rows.now) (g.R.Rows.state c.args.self.now.rows.now) c.args.requester c.args.session) (drop c.loop-at.at (g.R.Rows.state c.args.self.now.rows.now).nodes) ≡ None = rw (drop-past (g.R.Rows.state c.args.self.now.rows.now).nodes c.loop-at.at (slice_get_past (g.R.Rows.state c.args.self.now.rows.now).nodes c.loop-at.at (omega (arith, c.nodes-at-end.ensures, c.loop-at-test.false)))) refl in
    ap (option_map (λ (e : NodeEntry). e.id)) (sym none ∙ c.loop-at.invariant)
