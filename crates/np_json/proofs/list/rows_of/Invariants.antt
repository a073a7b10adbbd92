use Rattle.np_json.proofs.Prelude.{drop, items_from, items_view, ◌+◌, ◌≡◌}
use Rattle.np_json.proofs.list.rows_of.Given as goal

abbrev pub invariant-loop-index : goal.invariant-loop-index
invariant-loop-index g l = record {
  read : items_from (g.R.Rows.reads l.context) l.at l.index l.rows (items_view (drop l.index l.values)) ≡ items_from (g.R.Rows.reads l.context) l.at 0 l.fn.rows (items_view l.values);
  count : g.R.Rows.count l.rows ≡ g.R.Rows.count l.fn.rows + l.index;
}
