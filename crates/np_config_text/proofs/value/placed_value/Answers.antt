use Rattle.np_config_text.proofs.Prelude.{ap, array, items_of, placed, take_all, view-Array, ◌∙◌}
use Rattle.np_config_text.proofs.Values.{placed_more}
use Rattle.np_config_text.proofs.value.placed_value.Goals as goal

pub loop-place-preserved : goal.loop-place-preserved
loop-place-preserved g c = placed_more (g.T.Placed.shown c.args.config.now) _ _ _ _ _ _ c.loop-place-test.true c.index-rows-place.is c.in_ok-value_at.ensures c.in_ok-push.ensures.items c.loop-place.invariant

pub returns : goal.returns
returns g c = view-Array _ ∙ ap (λ ds. array (items_of ds)) (c.loop-place.invariant ∙ ap (placed (g.T.Placed.shown c.args.config.now) 0) (take_all _ _ c.loop-place-test.false))
