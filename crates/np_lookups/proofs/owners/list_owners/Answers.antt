use Rattle.np_lookups.proofs.Prelude.{NodeId, ap, arith, owner_of, ◌∙◌}
use Rattle.np_lookups.proofs.OwnerLemmas.{owners-more, owners-all}
use Rattle.np_lookups.proofs.owners.list_owners.Goals as goal

pub loop-number-preserved : goal.loop-number-preserved
loop-number-preserved g c =
    let node : NodeId = record { 0 = c.loop-number.number } in
    owners-more _ c.loop-number.number _ _ _ c.loop-number.invariant c.in_ok-push.ensures.items
    (c.owner.ensures ∙ ap (λ (rows : _). owner_of node (g.R.Rows.state rows).jobs) c.over-scan.ensures)

pub returns : goal.returns
returns g c = owners-all _ _ c.requires c.loop-number.number _ (omega (arith, c.next_node-number-end.ensures, c.loop-number.auto.number-end, c.loop-number-test.false)) c.loop-number.invariant
