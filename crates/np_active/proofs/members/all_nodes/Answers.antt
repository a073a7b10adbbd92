use Rattle.np_active.proofs.Prelude.{NodeEntry, ap, arith, groups_of_node, is_node_before, length, made-next, nodes-in_order, none_there, same_node, sym, ◌<◌, ◌∙◌}
use Rattle.np_active.proofs.Changes.{given-made}
use Rattle.np_active.proofs.members.all_nodes.Goals.{in-Some+in_ok-add_node, in_default}
use Rattle.np_active.proofs.members.all_nodes.Goals as goal

pub loop-at-preserved : goal.loop-at-preserved
loop-at-preserved g c =
    elim c.match-node_at.branch [
      | in-Some+in_ok-add_node w ↦
          made-next is_node_before same_node nodes-in_order (λ (e : NodeEntry). e.id) (groups_of_node (g.R.Rows.site c.args.rows.now) (g.R.Rows.state c.args.rows.now)) (g.R.Rows.state c.args.rows.now).nodes c.loop-at.at w.in-Some.node _ _ w.in-Some.ensures c.loop-at.invariant
          (ap (λ (m : _). m.members) w.groups-is ∙ w.in_ok-add_node.ensures)
      | in_default w ↦
          let within : c.loop-at.at < length (g.R.Rows.state c.args.rows.now).nodes = omega (arith, c.nodes-at-end.ensures) in
          absurd (none_there (λ (e : NodeEntry). e.id) _ c.loop-at.at within (sym w.in_default.ensures))
    ]

pub returns : goal.returns
returns g c =
    given-made (g.R.Rows.site c.args.rows.now) (g.R.Rows.state c.args.rows.now) c.loop-at.at _ c.requires.reached
    (omega (arith, c.nodes-at-end.ensures, c.loop-at.auto.at-end, c.loop-at-test.false)) c.loop-at.invariant
