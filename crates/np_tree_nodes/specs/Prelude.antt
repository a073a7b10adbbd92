-- The names of nodes that are cited most, and of what they stand on, passed on from one place. Declares nothing.
pub use Rattle.np_lists.specs.Refusals.{◌>>=◌, ◌>>◌}
pub use Rattle.np_tree_nodes.specs.After.{after_create, after_create_under, after_delete, after_end, after_loss, after_part, after_set, new_node, next_change, nodes_after_end, where_found, with_bytes, with_child, with_new_child, with_next_number, without_child, without_child_above}
pub use Rattle.np_tree_nodes.specs.Answer.{child_answer, create_answer, create_under_answer, delete_answer, made_path, part_answer, set_answer}
pub use Rattle.np_tree_nodes.specs.Calls.{after_begin, after_raise, may_raise, with_counter, with_spare}
pub use Rattle.np_tree_nodes.specs.Kept.{IsKept}
pub use Rattle.np_tree_nodes.specs.Multi.{AtPart, Stops, after_multi, after_parts, and_then, answers_from, is_check, is_numbered}
pub use Rattle.np_tree_nodes.specs.Names.{MakesName}
pub use Rattle.np_tree_nodes.specs.Nodes.{at_path, change_node, children_of, insert_node, is_at, is_child, is_owned, is_owner, is_parent, path_before, stat_of, without_node}
pub use Rattle.np_tree_nodes.specs.Order.{AllPaths, IsSorted}
pub use Rattle.np_tree_nodes.specs.Tests.{is_sequential, unspent}
pub use Rattle.np_tree_nodes.specs.TreeState.{TreeState, new_tree, root_node}
pub use Rattle.std.specs.Bool.{OnFalse, OnTrue}
pub use Rattle.std.specs.List.{AllByRecursion, AllZip, list_all, list_any, range_with_len}
pub use Rattle.std.specs.Option.{is_none, is_some, option_copied, option_map, option_map_or}
pub use Rattle.np_tree_nodes.specs.Lower.{JobId, NoMemory, NodeId, NonePass, RequestId, Rises, SessionId, below, change_at, change_first, found, insert_before, is_element, is_in, is_path, name_of, need, number_of, parent_of, remove_first, request_of, request_text_of, root, sequence_of, ten_digits_of, without}
