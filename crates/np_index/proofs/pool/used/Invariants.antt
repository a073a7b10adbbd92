use Rattle.np_index.proofs.Prelude.{map, number_of, offers_of, take, times, total, ◌*◌, ◌≡◌, ◌≤◌}
use Rattle.np_index.proofs.pool.used.Given as goal

abbrev pub invariant-loop-offer : goal.invariant-loop-offer
invariant-loop-offer g l = record {
  sum : l.sum ≡ total (map (λ o. times (number_of l.pool o.label (g.R.Rows.state l.rows).nodes) o.amount) (take l.offer-index (offers_of (g.R.Rows.site l.rows) l.pool)));
  instances : l.sum.instances ≤ l.offer-index * 262144000000;
  cores : l.sum.cores ≤ l.offer-index * 262144000000;
  ram : l.sum.ram ≤ l.offer-index * 262144000000;
}
