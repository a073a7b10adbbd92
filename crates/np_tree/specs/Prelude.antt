-- Those of the tree and of its nodes that are cited most, passed on from one place. Declares nothing.
pub use Rattle.np_tree_nodes.specs.Prelude.{NoMemory, ◌>>=◌, ◌>>◌}
pub use Rattle.np_tree.specs.Dates.{IsLater, Since}
pub use Rattle.np_tree.specs.Several.{owner_at, Goes, HasRoomFor, delete_parts}
pub use Rattle.np_tree.specs.Relations.{bytes_at, child_name, counter_at, stat_at, stat_of_child, counter_after}
pub use Rattle.np_tree.specs.Views.{Row, Seen, find_named, is_named, row_before, row_of, row_with, rows_at, seen_at, seen_in, seen_of, with_row}
pub use Rattle.np_tree.specs.Whole.{IsPart, IsTree, IsWhole}
pub use Rattle.np_tree.specs.Lower.{AllByRecursion, AllZip, Any, AtPart, Ephemeral, EphemeralSequential, JobId, Mode, Node, NodeId, NonePass, OnFalse, OnTrue, Op, Persistent, PersistentSequential, RequestId, Rises, SessionId, Stat, TreeRefusal, TreeState, after_begin, after_create, after_create_under, after_delete, after_end, after_loss, after_multi, after_part, after_parts, after_set, and_then, answers_from, at_path, below, change_at, change_first, change_node, child_answer, children_of, create_answer, create_under_answer, delete_answer, insert_before, is_at, is_check, is_child, is_element, is_in, is_none, is_numbered, is_owned, is_owner, is_path, is_sequential, is_some, list_all, list_any, name_of, need, new_tree, next_change, number_of, option_copied, option_map, option_map_or, parent_of, part_answer, range_with_len, remove_first, request_of, request_text_of, root, sequence_of, set_answer, stat_of, ten_digits_of, unspent, where_found, with_bytes, with_new_child, with_next_number, with_spare, without, without_child, without_child_above, without_node}
