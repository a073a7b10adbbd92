-- the rows before the key come first, so a binary search finds where they end
use Rattle.np_lists.proofs.Prelude.{IsPartitionPoint-from_clause, rules}
use Rattle.np_lists.proofs.Searches.{parted}
use Rattle.np_lists.proofs.rows.split_of.Goals as goal

pub returns-clause-point : goal.returns-clause-point
returns-clause-point g c =
    IsPartitionPoint-from_clause (λ row. g.O.Order.before (g.O.Order.key row) c.args.key) c.args.rows.now c.partition_point.result c.partition_point.ensures.partitioned
    (parted (λ a b. g.O.Order.before (g.O.Order.key a) (g.O.Order.key b)) (λ row. g.O.Order.before (g.O.Order.key row) c.args.key) (λ a b. g.met.O.Order.transitive (g.O.Order.key a) (g.O.Order.key b) c.args.key) c.args.rows.now c.requires)
    (λ a r f' k. search rules)
