use Rattle.np_tree_rows.proofs.Prelude.{List, NodeEntry, NodeId, add-one, ap, arith, is_queued, length, rows_at, slice_get, sym, ℕ, ◌∙◌, ◌≡◌, ◌≤◌}
use Rattle.np_tree_rows.proofs.NodeReads.{nodes-counted}
use Rattle.np_tree_rows.proofs.Registered.{first-here, first-later, first-over, passing-past}
use Rattle.np_tree_rows.proofs.queues.queued_node_at.Goals as goal

pub loop-place-preserved-in_default : goal.loop-place-preserved-in_default
loop-place-preserved-in_default c config s stored =
    rw add-one (sym (first-over (λ (e : NodeEntry). is_queued c.args.session e.queue) (λ (e : NodeEntry). e.id) s.nodes c.loop-place.place c.loop-place.left (c.in_default.ensures config s stored)) ∙ c.loop-place.invariant config s stored)

pub returns-then-left-eq0 : goal.returns-then-left-eq0
returns-then-left-eq0 c config s stored =
    sym (sym (c.loop-place.invariant config s stored) ∙ first-here (λ (e : NodeEntry). is_queued c.args.session e.queue) (λ (e : NodeEntry). e.id) s.nodes c.loop-place.place c.loop-place.left c.in-Some.node (c.in-Some.ensures config s stored) c.if-left-eq0.true)

pub loop-place-preserved : goal.loop-place-preserved
loop-place-preserved c config s stored =
    rw add-one (sym (first-later (λ (e : NodeEntry). is_queued c.args.session e.queue) (λ (e : NodeEntry). e.id) s.nodes c.loop-place.place c.loop-place.left c.in-Some.node (c.in-Some.ensures config s stored) c.if-left-eq0.false) ∙ c.loop-place.invariant config s stored)

pub returns : goal.returns
returns c config s stored =
    let counted : c.children-place-end.result ≡ length s.nodes = c.children-place-end.ensures ∙ ap (λ (p : List ℕ). length (rows_at c.args.tree.now p)) (c.text.ensures ∙ c.of.ensures) ∙ nodes-counted config s c.args.tree.now stored in
    let past : length s.nodes ≤ c.loop-place.place = (let end = c.loop-place-test.false in omega (arith, counted, end)) in
    sym (ap (λ (ids : List NodeId). slice_get ids c.loop-place.left) (passing-past (λ (e : NodeEntry). is_queued c.args.session e.queue) (λ (e : NodeEntry). e.id) s.nodes c.loop-place.place past)) ∙ c.loop-place.invariant config s stored
