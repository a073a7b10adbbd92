use Rattle.np_tables.proofs.Prelude.{AllByRecursion, length, rows_of, take, ◌≡◌}
use Rattle.np_tables.proofs.TableLemmas.{IsRoomy}
use Rattle.np_tables.proofs.handles.reserve_handles.Given as goal

abbrev pub invariant-loop-at : goal.invariant-loop-at
invariant-loop-at l = record {
  length : length l.handles.items ≡ length l.initial.handles.items;
  rows : rows_of l.handles.items ≡ rows_of l.initial.handles.items;
  room : AllByRecursion IsRoomy (take l.at l.handles.items);
}
