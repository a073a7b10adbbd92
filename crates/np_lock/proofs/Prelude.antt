-- The names from elsewhere that the proofs cite, passed on from one place. Declares nothing.
pub use Rattle.np_lists.proofs.Changes.{Rises-filter, all-filter, all-find, all-push, all-weaker, filter-not_none, find-passes, insert_before-end, none-list_any}
pub use Rattle.np_lists.proofs.Plain.{by_bool, drop-past, drop-there, past-end}
pub use Rattle.np_lock.specs.Calls.{Leaves, Releases, ahead_in, find_owned, first_of, join_answer, path_in, EmptiesAreLocks, EndsLeave, PartsJoin, PartsLeave, QueuesAreShown, IsGivenOut, IsLock, IsQueue, Wait, of_others, prefix, queue_at, row_of_wait, wait_path}
pub use Rattle.np_lock.specs.Faults.{fault_of}
pub use Rattle.np_lock.specs.declared.answer.LockFault.{LockFault}
pub use Rattle.np_path.proofs.PartsLemmas.{is_element-numbered, is_path-below}
pub use Rattle.np_path.proofs.PathLaws.{HasParts-below}
pub use Rattle.np_path.specs.Grammar.{name_fault}
pub use Rattle.np_path.specs.Makes.{Makes}
pub use Rattle.np_path.specs.declared.path.Path.{Path}
pub use Rattle.np_text.proofs.OrderLemmas.{nat_cmp-more, slice_cmp-ten}
pub use Rattle.np_tree.proofs.RelationLemmas.{apart-below, child-line, creates-show, delete-changes, deletes-show, ends-show, ok-then, rows-nothing, rows-rise, seen-is-row, unspent-goes}
pub use Rattle.np_tree.proofs.RowLemmas.{other-name, other-name_back}
pub use Rattle.np_tree.proofs.WholeLemmas.{child_answer-passed, children_of-ephemeral}
pub use Rattle.np_tree.specs.Whole.{Answers, OwnerLives}
pub use Rattle.np_tree.specs.Prelude.{AllByRecursion, Any, EphemeralSequential, IsTree, IsWhole, Node, NonePass, Rises, Row, Seen, Stat, TreeRefusal, TreeState, after_create, after_delete, after_end, at_path, below, child_name, children_of, counter_at, create_answer, delete_answer, find_named, is_at, is_element, is_in, is_named, is_owner, is_path, list_any, name_of, need, option_map, parent_of, row_of, rows_at, seen_at, seen_in, seen_of, stat_at, stat_of, stat_of_child, ten_digits_of, unspent, with_next_number, without, ◌>>=◌, ◌>>◌}
pub use Rattle.np_tree.specs.Relations.{Creates, Deletes, is_kept}
pub use Rattle.np_tree.specs.Views.{row_before, row_given, with_row}
pub use Rattle.np_tree_nodes.proofs.PlaceLemmas.{bytes_eq-from, bytes_eq-is}
pub use Rattle.np_tree_nodes.specs.declared.op.OpDone.{OpDone}
pub use Rattle.np_tree_nodes.specs.declared.refusal.TreeFault.{TreeFault}
pub use Rattle.np_tree_nodes.specs.declared.refusal.TreeFault.TheVariants.{NoMemory, Refused}
pub use Rattle.std.proofs.Common.{Bool, Err, List, None, Ok, Option, Result, Some, ap, arith, cond, drop, false, get_or, length, map, not, refl, subst, suc, sym, true, zero, ℕ, [], ◌++◌, ◌+◌, ◌<◌, ◌||◌, ◌∙◌, ◌∷◌, ◌≡◌, ◌≤◌}
pub use Rattle.std.proofs.lemmas.Bool.{eqb-true, false_from_ne_true, leb-true, ltb-false, ltb-true}
pub use Rattle.std.proofs.lemmas.Bool.Decides.{nat_tests}
pub use Rattle.std.proofs.lemmas.Iterator.Adapters.{position_from-zero}
pub use Rattle.std.proofs.lemmas.List.{drop_all, length-map, map-append}
pub use Rattle.std.proofs.lemmas.List.Folds.{find_at}
pub use Rattle.std.proofs.lemmas.Option.{slice_get-get_or, slice_get-map, slice_get_past}
pub use Rattle.std.proofs.lemmas.Result.{err_from_is_err_and}
pub use Rattle.std.specs.Cmp.Lexicographic.{slice_cmp}
pub use Rattle.std.specs.List.{position_from, position_or_len}
pub use Rattle.std.specs.Ordering.{is_lt, nat_cmp}
pub use Rattle.std.specs.Prelude.{IsOk, filter, filter_map, find, is_some, nat_lt, option_and_then, slice_get, ◌==◌}
