use Rattle.np_look.proofs.Prelude.{amount_of, map, take, total, ◌*◌, ◌≡◌, ◌≤◌}
use Rattle.np_look.proofs.count.amount_of_all.Given as goal

abbrev pub invariant-loop-label : goal.invariant-loop-label
invariant-loop-label l = record {
  sum : l.sum ≡ total (map (amount_of l.config l.pool) (take l.label-index l.labels));
  instances : l.sum.instances ≤ l.label-index * 1000000;
  cores : l.sum.cores ≤ l.label-index * 1000000;
  ram : l.sum.ram ≤ l.label-index * 1000000;
}
