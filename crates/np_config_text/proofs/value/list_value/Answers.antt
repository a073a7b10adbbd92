use Rattle.np_config_text.proofs.Prelude.{ap, array, items_of, map, take_all, view-Array, ◌∙◌}
use Rattle.np_config_text.proofs.Values.{values_more}
use Rattle.np_config_text.proofs.value.list_value.Goals as goal

pub loop-row-preserved : goal.loop-row-preserved
loop-row-preserved g c = values_more (g.T.Shown.shown c.args.config.now) _ _ _ _ _ _ c.loop-row-test.true c.row-item.is c.in_ok-value.ensures c.in_ok-push.ensures.items c.loop-row.invariant

pub returns : goal.returns
returns g c = view-Array _ ∙ ap (λ ds. array (items_of ds)) (c.loop-row.invariant ∙ ap (map (g.T.Shown.shown c.args.config.now)) (take_all _ _ c.loop-row-test.false))
