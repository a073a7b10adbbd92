-- The names from elsewhere that the proofs cite, passed on from one place. Declares nothing.
pub use Rattle.np_lists.proofs.Changes.{AtKept, IsBetween, Rises-between, Rises-filter, Rises-insert, Rises-keys, Rises-remove, all-at, all-filter, all-from_at, all-get_or, all-insert, all-insert_before, all-keys, all-remove, all-weaker, change_at-back, change_at-same, filter-between, filter-map, filter-not_none, filter-remove, find-change_first, find-insert, find-remove, found-change_first, insert-remove, insert_before-point, length-change_at, length-filter-filter, length-filter-insert, length-filter-remove, list_any-insert, list_any-map, list_any-none, list_any-remove, list_any-there, map-each, map-keys, map-map, map-same, none-list_any, none-remove, prefix_len-le, remove-insert, slice_get-change_first}
pub use Rattle.np_lists.proofs.Plain.{above-apart, and-apart, and_false, and_true, by_bool, bytes_eq-apart, length-map}
pub use Rattle.np_lists.proofs.Searches.{IsPartitionPoint-rises, IsSplit-rises, absent, change_first-at, change_first-none, find-first, find-none, none-find}
pub use Rattle.np_path.proofs.PartsLemmas.{AfterLast-name, IsNameAt-below, before_last-last, begins_with_slash, is_element-numbered, is_path-below, is_slash-is}
pub use Rattle.np_path.proofs.PathLaws.{HasParts-below, IsChild-of, halves-whole, root-of}
pub use Rattle.np_text.proofs.OrderLemmas.{then-assoc}
pub use Rattle.np_tree_nodes.specs.After.{after_loss, after_removal, new_node, nodes_after_end, with_bytes, with_child, with_new_child, without_child, without_child_above}
pub use Rattle.np_tree_nodes.specs.Answer.{made_path}
pub use Rattle.np_tree_nodes.specs.Calls.{with_counter}
pub use Rattle.np_tree_nodes.specs.Edits.{CanTakeBack, CanTouch, CanUndo, after_undo, kept_of, marks_before, nodes_before, with_swap, with_touch}
pub use Rattle.np_tree_nodes.specs.Finds.{FindsGap, IsPlace, IsStretch, stands_before}
pub use Rattle.np_tree_nodes.specs.Kept.{EndsOne, HasRoom, IsKept, Plans}
pub use Rattle.np_tree_nodes.specs.Lower.{FirstAt, IsSplit, NonePass, below, change_at, is_element, is_kept, is_path, is_slash, name_of, or_root, parent_of, root, slashed, ten_digits_of}
pub use Rattle.np_tree_nodes.specs.Marks.{AreRanked, MarkEphemerals, is_ephemeral_of, is_mark, mark_before, mark_place, new_mark}
pub use Rattle.np_tree_nodes.specs.Names.{MakesName, half_of}
pub use Rattle.np_tree_nodes.specs.Nodes.{at_path, before_of, change_node, children_of, insert_node, is_at, is_child, is_owned, is_owner, is_parent, path_before, without_node}
pub use Rattle.np_tree_nodes.specs.Order.{AllPaths, IsSorted, node_before, place_of}
pub use Rattle.np_tree_nodes.specs.Plans.{IsSpot, TakesMark, mark_step}
pub use Rattle.np_tree_nodes.specs.Steps.{CanStep, after_step}
pub use Rattle.np_tree_nodes.specs.Tests.{is_ephemeral, is_sequential}
pub use Rattle.np_tree_nodes.specs.TreeState.{root_node}
pub use Rattle.np_tree_nodes.specs.declared.edit.Edit.{Edit}
pub use Rattle.np_tree_nodes.specs.declared.edit.Swap.{Swap}
pub use Rattle.np_tree_nodes.specs.declared.edit.Touch.{Touch}
pub use Rattle.np_tree_nodes.specs.declared.find.Spot.{Spot}
pub use Rattle.np_tree_nodes.specs.declared.kind.Mode.{Mode}
pub use Rattle.np_tree_nodes.specs.declared.mark.Mark.{Mark}
pub use Rattle.np_tree_nodes.specs.declared.node.Facts.{Facts}
pub use Rattle.np_tree_nodes.specs.declared.node.Node.{Node}
pub use Rattle.np_tree_nodes.specs.declared.step.Step.{Step}
pub use Rattle.np_tree_nodes.specs.declared.step.Step.TheVariants.{Nothing, Put, Take}
pub use Rattle.std.proofs.Common.{Bool, Equal, Greater, Less, List, None, Option, Ordering, Some, ap, arith, cond, drop, false, get_or, length, lit≤, map, not, refl, subst, suc, sym, take, true, vec_len, zero, ℕ, [], ◌&&◌, ◌++◌, ◌+◌, ◌-◌, ◌<◌, ◌==◌, ◌||◌, ◌∙◌, ◌∷◌, ◌≡◌, ◌≤◌}
pub use Rattle.std.proofs.lemmas.Bool.{and_from, and_left, and_parts, and_right, eq-eqb, eqb-true, false_from_ne_true}
pub use Rattle.std.proofs.lemmas.Bool.Decides.{nat_tests}
pub use Rattle.std.proofs.lemmas.Cmp.{nat_cmp_total, nat_list_cmp_total, on_total, then_total, tied_itself}
pub use Rattle.std.proofs.lemmas.List.{append-nil, length-append}
pub use Rattle.std.proofs.lemmas.List.Edits.{length-remove}
pub use Rattle.std.proofs.lemmas.List.Sums.{prefix_len-le-length}
pub use Rattle.std.proofs.lemmas.Map.Lookups.{exact_bytes}
pub use Rattle.std.proofs.lemmas.Map.Text.{is_eq-slice_cmp}
pub use Rattle.std.proofs.lemmas.Option.{slice_get-get_or, slice_get-map, slice_get_within}
pub use Rattle.std.proofs.lemmas.Slice.Eq.{bytes_eq-Decides}
pub use Rattle.std.specs.Bool.{then_some}
pub use Rattle.std.specs.Cmp.{IsTotalOrder}
pub use Rattle.std.specs.Cmp.Lexicographic.{slice_cmp}
pub use Rattle.std.specs.List.{AllByRecursion, insert, list_all, list_any, prefix_len, remove}
pub use Rattle.std.specs.List.Sorted.{IsPartitionPoint}
pub use Rattle.std.specs.Option.{option_map}
pub use Rattle.std.specs.Ordering.{is_le, is_lt, nat_cmp, ordering_reverse, ordering_then}
pub use Rattle.std.specs.Prelude.{filter, if◌then◌else◌, is_some, slice_get}
pub use Rattle.std.specs.Str.{bytes_eq}
