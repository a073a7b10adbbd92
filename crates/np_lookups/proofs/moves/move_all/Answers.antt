use Rattle.np_lookups.proofs.Prelude.{AreBy, Configuration, List, Past, Some, ap, arith, length, passes_moved, slice_get, subst, take, take-all, there-at, ℕ, ◌+◌, ◌∙◌, ◌≡◌}
use Rattle.np_lookups.proofs.Members.{move-next, room-next}
use Rattle.np_lookups.proofs.moves.move_all.Goals as goal

pub loop-past-preserved : goal.loop-past-preserved
loop-past-preserved g c =
    let there : slice_get c.args.moved.now c.loop-past.past-index ≡ Some c.past-item.result = there-at c.args.moved.now c.loop-past.past-index c.past-item.result c.loop-past-test.true c.past-item.is in
    let pools : c.pools_of-pools.result ≡ length (g.R.Rows.site c.args.rows.now).pools = c.pools_of-pools.ensures ∙ ap (λ (config : Configuration). length config.pools) c.config-config.ensures in
    record {
      members = λ passes kept are.
          move-next (g.R.Rows.site c.args.rows.now) (g.R.Rows.state c.args.rows.now) c.args.lines.now c.args.moved.now c.loop-past.past-index c.past-item.result there passes
          c.config-config.result.now c.pools_of-pools.result c.request-now.result c.loop-past.groups.members _ c.config-config.ensures pools c.request-now.ensures c.move_request.ensures.members kept
          (c.loop-past.invariant.members passes kept are);
      room =
          let next = room-next (length c.args.moved.now) c.loop-past.past-index (length (g.R.Rows.site c.args.rows.now).pools + 1) c.loop-past-test.true in
          omega arith;
    }

pub returns : goal.returns
returns g c passes kept are =
    let last : c.loop-past.past-index ≡ length c.args.moved.now = omega arith in
    subst (λ (moved : List Past). AreBy (passes_moved (g.R.Rows.site c.args.rows.now) (g.R.Rows.state c.args.rows.now) c.args.lines.now moved passes) c.loop-past.groups.members)
    (ap (λ (n : ℕ). take n c.args.moved.now) last ∙ take-all c.args.moved.now) (c.loop-past.invariant.members passes kept are)
