-- The names from elsewhere that the proofs cite, passed on from one place. Declares nothing.
pub use Rattle.np_lists.proofs.Changes.{Rises-filter, all-change_first, all-change_first_to, all-filter, all-filter_to, all-find, all-insert_before, all-mapped, all-push, all-weaker, filter-not_none, filter-nothing, find-filter, find-insert_before, find-map, find-passes, found-change_first, length-filter-filter, none-list_any}
pub use Rattle.np_lists.proofs.Plain.{and-apart, bind-ok, both-ways, by_bool, bytes_eq-apart, found-ok, from-map_some, is-below, length-none, need-ok, none-is, then-ok}
pub use Rattle.np_lists.proofs.Searches.{none-find}
pub use Rattle.np_path.proofs.PartsLemmas.{is_path-below}
pub use Rattle.np_path.proofs.PathLaws.{HasParts-below, IsChild-of, root-of}
pub use Rattle.np_session.specs.Known.{Known}
pub use Rattle.np_session.specs.declared.fault.SessionFault.{SessionFault}
unfoldable pub use Rattle.np_text.specs.Number.{ten_digits_of}
pub use Rattle.np_tree.specs.Dates.{BeginsLater, CallsLater, EndsLater, FreshListed, FreshSeen, IsFresh, IsLater, LaterJoined, LaterThanItself, RaisesLater, ReservesLater, Since, Tag, UndatedBytesAreNotLater, UndatedLossIsNotLater, tag_of}
pub use Rattle.np_tree.specs.Several.{CanCreate, ChecksGo, CreatesGo, CreatesUnderGo, DeletesGo, SetsGo, AnsweredGoes, ChecksLeaveTheTree, ClearsEmpty, ClearsGo, Elsewhere, Goes, GoesAfter, GoesAnswered, GoesEmpty, GoesFront, GoesJoined, GoesUnderOneNumber, GoesUnrefused, GoesWhole, PathsAreTheirParts, RoomFalls, RoomGives, delete_parts, dir_of}
pub use Rattle.np_tree.specs.Whole.{Holds, state_of, AllStand, BeginsKeepTree, CallsKeepTree, CallsKeepWhole, EndsKeepTree, HasParent, HasRoot, IsDated, IsPart, IsTree, IsTreeUpTo, IsWhole, OwnerLives, PartsKeepTree, RaisesKeepTree, RaisesKeepWhole, Stand}
pub use Rattle.np_tree.specs.Lower.{AllByRecursion, AllPaths, Any, AtPart, Expect, HasRoom, IsKept, IsSorted, KeepsStart, MakesName, Mode, Node, NonePass, Op, OpDone, Rises, Stops, TreeRefusal, TreeState, after_begin, after_create_under, after_delete, after_end, after_loss, after_multi, after_part, after_parts, after_raise, after_set, and_then, answers_from, at_path, below, change_first, change_node, child_answer, children_of, create_answer, create_under_answer, delete_answer, fits, found, insert_before, insert_node, is_at, is_check, is_child, is_element, is_ephemeral, is_expected, is_in, is_none, is_owned, is_owner, is_parent, is_path, is_sequential, list_any, made_path, name_of, need, new_node, new_tree, next_change, nodes_after_end, option_map, parent_of, part_answer, path_before, root, root_node, set_answer, there, unspent, where_found, with_bytes, with_child, with_counter, with_new_child, with_next_number, without, without_child, without_child_above, without_node}
pub use Rattle.np_tree.specs.Relations.{counter_at, Creates, CreatesAnswer, CreatesShow, CreatesUnderShow, Deletes, DeletesShow, EndsShow, NothingBelowNothing, PartsChangeNodesAlone, RaisesShow, RowsRise, SeenIsRow, SetsShow, counter_after, is_kept, unless_owned}
pub use Rattle.np_tree.specs.Views.{ChildrenByName, ParentsComeFirst, named_before, Row, Seen, find_named, is_named, name_before, name_given, row_before, row_given, row_of, row_with, rows_at, seen_at, seen_in, seen_of, seen_with, with_row}
pub use Rattle.np_tree.specs.declared.inner.Inner.{Inner}
pub use Rattle.np_tree_nodes.proofs.KeptLemmas.{AllPaths-change_node, AllPaths-map, HasRoom-filter, HasRoom-insert, IsKept-root, IsSorted-change_node, IsSorted-map, KeepsOwner, KeepsPath, at_path-change_here, at_path-change_other, at_path-paths-none, length-children-paths, paths_of-change_node, paths_of-map}
pub use Rattle.np_tree_nodes.proofs.PlaceLemmas.{AllPaths-filter, AllPaths-insert_node, AllPaths-without_node, IsKey, IsSorted-filter, IsSorted-insert_node, IsSorted-without_node, bytes_eq-from, bytes_eq-is, child-half, half-not_root, insert_node-at, later-others, parent-first, parent-half, path_before-itself, path_before-trans}
pub use Rattle.np_tree_nodes.proofs.PlanLemmas.{HasRoom-paths, IsMade-made_path, MakesName-child}
pub use Rattle.np_tree_nodes.specs.After.{after_removal}
pub use Rattle.np_tree_nodes.specs.Calls.{is_below}
pub use Rattle.np_tree_nodes.specs.Nodes.{before_of}
pub use Rattle.np_tree_nodes.specs.Order.{node_before, place_of}
pub use Rattle.np_tree_nodes.specs.Prelude.{◌>>=◌, ◌>>◌}
pub use Rattle.np_tree_nodes.specs.declared.lists.NodeLists.{NodeLists}
pub use Rattle.np_tree_nodes.specs.declared.refusal.MultiFault.TheVariants.{NoMemory, Refused}
pub use Rattle.std.proofs.Common.{Bool, Err, List, None, Ok, Option, Result, Some, ap, append-nil, arith, codes, cond, drop, false, get_or, length, lit≤, map, not, refl, subst, suc, sym, take, true, ℕ, [], ◌&&◌, ◌++◌, ◌+◌, ◌<◌, ◌||◌, ◌∙◌, ◌∷◌, ◌≡◌, ◌≤◌}
pub use Rattle.std.proofs.lemmas.Bool.{eqb-true, false_from_ne_true, leb-true, ltb-true, not-false, not-true, or_left, or_parts}
pub use Rattle.std.proofs.lemmas.Bool.Decides.{nat_tests}
pub use Rattle.std.proofs.lemmas.Cmp.{nat_list_cmp_total, tied_itself}
pub use Rattle.std.proofs.lemmas.List.{drop_more, length-map, length-take-le, take-append-drop, take_all, take_more}
pub use Rattle.std.proofs.lemmas.List.Folds.{list_any-append}
pub use Rattle.std.specs.Cmp.Lexicographic.{slice_cmp}
unfoldable pub use Rattle.std.specs.Fmt.{digits}
pub use Rattle.std.specs.Ordering.{is_lt, nat_cmp, ordering_then}
pub use Rattle.std.specs.Prelude.{IsOk, OnErr, OnOk, filter, find, nat_le, nat_lt, ◌==◌}
pub use Rattle.std.specs.Str.{bytes_eq}
