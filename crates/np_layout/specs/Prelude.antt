-- Those of the layout and of the tree that are cited most, passed on from one place. Declares nothing.
pub use Rattle.np_layout.specs.Carried.{AreHolders, HasSpellings, IsCarried, IsStored, is_pair_before}
pub use Rattle.np_layout.specs.Deletes.{node_parts, request_parts, wait_at, AreDistinct, delete, node_deletes, request_deletes}
pub use Rattle.np_layout.specs.Decoded.{decoded}
pub use Rattle.np_layout.specs.Rows.{make, tree_session}
pub use Rattle.np_layout.specs.Layout.{HasNodeLock, HasQueue, IsWait, LaysOut, under}
pub use Rattle.np_layout.specs.Place.{IsGood, above, path_of, place_name}
pub use Rattle.np_layout.specs.Roles.{place_of_role}
pub use Rattle.np_layout.specs.Sets.{HasGoodIds, set}
pub use Rattle.np_tree.specs.Prelude.{answers_from, new_tree}
pub use Rattle.np_layout.specs.Lower.{AllByRecursion, AllZip, Any, AtPart, BadRecord, Ephemeral, Goes, HasRoomFor, IsJob, IsLater, IsNode, IsNodeId, IsPart, IsRequest, IsRole, IsSession, IsSessionRole, IsTree, IsWhole, Mode, Node, NodeId, NonePass, OnFalse, OnTrue, Op, Persistent, PersistentSequential, Rises, Row, Seen, SessionId, Since, Stat, TreeRefusal, TreeState, after_begin, after_create_under, after_end, after_loss, after_multi, after_part, after_parts, after_set, and_then, at_path, below, bytes_at, change_node, child_answer, child_name, children_of, counter_at, delete_parts, find_named, insert_before, is_at, is_check, is_child, is_element, is_in, is_named, is_numbered, is_owned, is_owner, is_path, is_some, job_text, list_all, list_any, name_of, next_change, node_text, option_copied, option_map, option_map_or, parent_of, part_answer, range_with_len, remove_first, request_record_text, role_text, root, row_before, row_of, rows_at, seen_at, seen_in, seen_of, session_text, stat_at, stat_of, stat_of_child, ten_digits_of, where_found, with_new_child, with_next_number, with_row, with_spare, without_child, without_child_above, without_node}
