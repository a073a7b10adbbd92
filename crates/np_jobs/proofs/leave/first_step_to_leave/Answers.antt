use Rattle.np_jobs.proofs.Prelude.{ChoosesToLeave, NoLeave, NodeId, Some, arith, before-end, below_more, node_to_leave, none-chosen, same-there, sym, ◌≡◌}
use Rattle.np_jobs.proofs.Nodes.{to_leave, below-nodes, leaves-none}
use Rattle.np_jobs.proofs.leave.first_step_to_leave.Goals as goal

pub returns-in_default : goal.returns-in_default
returns-in_default g c =
    leaves-none (g.L.Look.site c.args.look.now) (g.L.Look.state c.args.look.now) c.requires.reached c.args.rows.now.requester c.args.session c.requires.current
    (λ k n found. c.loop-at.invariant k (before-end (to_leave (g.L.Look.site c.args.look.now) (g.L.Look.state c.args.look.now) c.args.rows.now.requester c.args.session) c.loop-at.at k n (sym c.in_default.ensures) found) n found)

pub loop-at-preserved : goal.loop-at-preserved
loop-at-preserved g c =
    below_more (λ k. (n : NodeId) → node_to_leave (g.L.Look.site c.args.look.now) c.args.rows.now.requester c.args.session k (g.L.Look.state c.args.look.now) ≡ Some n → NoLeave (g.L.Look.site c.args.look.now) (g.L.Look.state c.args.look.now) c.args.rows.now.requester c.args.session n) c.loop-at.at c.loop-at.invariant
    (λ n found. same-there (NoLeave (g.L.Look.site c.args.look.now) (g.L.Look.state c.args.look.now) c.args.rows.now.requester c.args.session) c.in-Some.node n _ (sym c.in-Some.ensures) found
    (none-chosen (ChoosesToLeave (g.L.Look.site c.args.look.now) (g.L.Look.state c.args.look.now) c.args.rows.now.requester c.args.session c.in-Some.node) c.step_to_leave-found.result (sym c.if-is_some.ensures) c.step_to_leave-found.ensures))

pub returns : goal.returns
returns g c =
    leaves-none (g.L.Look.site c.args.look.now) (g.L.Look.state c.args.look.now) c.requires.reached c.args.rows.now.requester c.args.session c.requires.current
    (λ k n found. c.loop-at.invariant k (omega (arith, below-nodes (g.L.Look.site c.args.look.now) (g.L.Look.state c.args.look.now) c.args.rows.now.requester c.args.session k n found, c.loop-at-test.false, rw c.rows.ensures.state at c.nodes-at-end.ensures)) n found)
