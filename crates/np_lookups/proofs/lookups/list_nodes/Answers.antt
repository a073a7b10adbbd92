use Rattle.np_lookups.proofs.Prelude.{NodeId, ap, arith, is_node_before, length, node_equal, node_one_way, none_there, option_map, queued_nodes, same_node, sym, ◌<◌, ◌∙◌}
use Rattle.np_lookups.proofs.QueueLemmas.{copied-other, copied-next, nodes-rise}
use Rattle.np_lookups.proofs.lookups.list_nodes.Goals.{in-Some+in_ok-insert, in_default}
use Rattle.np_lookups.proofs.lookups.list_nodes.Goals as goal

pub insert-requires : goal.insert-requires
insert-requires g c =
    copied-other is_node_before same_node node_one_way node_equal _ (nodes-rise _ _ c.requires c.args.session)
    c.loop-at.at c.in-Some.node (sym c.in-Some.ensures) _ c.loop-at.invariant

pub loop-at-preserved : goal.loop-at-preserved
loop-at-preserved g c =
    elim c.match-queued_node_at.branch [
      | in-Some+in_ok-insert w ↦
          w.list-is
          ∙ copied-next is_node_before same_node node_one_way node_equal _ (nodes-rise _ _ c.requires c.args.session)
          c.loop-at.at w.in-Some.node (sym w.in-Some.ensures) _ c.loop-at.invariant _ w.in_ok-insert.ensures.ok
      | in_default w ↦
          let within : c.loop-at.at < length (queued_nodes c.args.session (g.R.Rows.state c.args.rows.now)) = omega (arith, c.queued_nodes-at-end.ensures) in
          absurd (none_there (λ (n : NodeId). n) _ c.loop-at.at within (ap (option_map (λ (n : NodeId). n)) (sym w.in_default.ensures)))
    ]
