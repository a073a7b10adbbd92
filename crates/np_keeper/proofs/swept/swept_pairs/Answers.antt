use Rattle.np_keeper.proofs.Prelude.{Roomy, Swept, SweptPairs, ap, arith, slice_get, swept_at, under, ◌∙◌}
use Rattle.np_keeper.proofs.Queued.{all_put, none_missing, none_seen, pair_in, pair_is_new, pair_put}
use Rattle.np_keeper.proofs.swept.swept_pairs.Goals.{in-Some+in_ok-put, in_default}
use Rattle.np_keeper.proofs.swept.swept_pairs.Goals as goal

pub put-requires : goal.put-requires
put-requires c =
    pair_is_new (under SweptPairs c.args.tree.now) c.loop-at.at c.loop-at.table.rows (swept_at c.args.tree.now) c.loop-at.invariant c.in-Some.pair c.in-Some.ensures c.requires

pub loop-at-preserved : goal.loop-at-preserved
loop-at-preserved c =
    let rows = under SweptPairs c.args.tree.now in
    elim c.match-pair_at.branch [
      | in-Some+in_ok-put w ↦
          pair_put rows c.loop-at.at c.loop-at.table.rows (swept_at c.args.tree.now) c.loop-at.invariant w.in-Some.pair _ w.in-Some.ensures
          (ap (λ (table : Roomy Swept). table.rows) w.table-is ∙ w.in_ok-put.ensures)
      | in_default w ↦
          absurd (none_missing rows c.loop-at.at (omega (arith, c.count-at-end.ensures, c.loop-at-test.true)) (none_seen pair_in (slice_get rows c.loop-at.at) w.in_default.ensures))
    ]

pub returns : goal.returns
returns c =
    all_put (under SweptPairs c.args.tree.now) c.loop-at.at c.loop-at.table.rows (swept_at c.args.tree.now) c.loop-at.invariant
    (omega (arith, c.count-at-end.ensures, c.loop-at-test.false, c.loop-at.auto.at-end))
