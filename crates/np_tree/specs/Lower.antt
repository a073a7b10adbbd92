-- What the definitions take from the crates below, passed on from one place. Declares nothing.
pub use Rattle.np_session.specs.Begins.{Begins}
pub use Rattle.np_tree_nodes.specs.Answer.{check_answer, create_answer, create_under_answer, delete_answer, made_path, set_answer}
pub use Rattle.np_tree_nodes.specs.Finds.{IsPlace}
pub use Rattle.np_tree_nodes.specs.Kept.{HasRoom}
pub use Rattle.np_tree_nodes.specs.Multi.{path_of}
pub use Rattle.np_tree_nodes.specs.Plans.{IsSpot}
pub use Rattle.np_tree_nodes.specs.Prelude.{AllByRecursion, AllPaths, AllZip, AtPart, IsKept, IsSorted, JobId, MakesName, NodeId, NonePass, OnFalse, OnTrue, RequestId, Rises, SessionId, Stops, TreeState, after_begin, after_create, after_create_under, after_delete, after_end, after_loss, after_multi, after_part, after_parts, after_raise, after_set, and_then, answers_from, at_path, below, change_at, change_first, change_node, child_answer, children_of, found, insert_before, insert_node, is_at, is_check, is_child, is_element, is_in, is_none, is_numbered, is_owned, is_owner, is_parent, is_path, is_sequential, is_some, list_all, list_any, may_raise, name_of, need, new_node, new_tree, next_change, nodes_after_end, number_of, option_copied, option_map, option_map_or, parent_of, part_answer, path_before, range_with_len, remove_first, request_of, request_text_of, root, root_node, sequence_of, stat_of, ten_digits_of, unspent, where_found, with_bytes, with_child, with_counter, with_new_child, with_next_number, with_spare, without, without_child, without_child_above, without_node}
pub use Rattle.np_tree_nodes.specs.Tests.{fits, is_ephemeral, is_expected, there}
pub use Rattle.np_tree_nodes.specs.Undo.{KeepsStart}
pub use Rattle.np_tree_nodes.specs.declared.kind.Expect.{Expect}
pub use Rattle.np_tree_nodes.specs.declared.kind.Expect.TheVariants.{Any, Exactly}
pub use Rattle.np_tree_nodes.specs.declared.kind.Mode.{Mode}
pub use Rattle.np_tree_nodes.specs.declared.kind.Mode.TheVariants.{Ephemeral, EphemeralSequential, Persistent, PersistentSequential}
pub use Rattle.np_tree_nodes.specs.declared.kind.Stat.{Stat}
pub use Rattle.np_tree_nodes.specs.declared.node.Node.{Node}
pub use Rattle.np_tree_nodes.specs.declared.op.Op.{Op}
pub use Rattle.np_tree_nodes.specs.declared.op.OpDone.{OpDone}
pub use Rattle.np_tree_nodes.specs.declared.refusal.MultiFault.{MultiFault}
pub use Rattle.np_tree_nodes.specs.declared.refusal.TreeFault.{TreeFault}
pub use Rattle.np_tree_nodes.specs.declared.refusal.TreeFault.TheVariants.{NoMemory, Refused}
pub use Rattle.np_tree_nodes.specs.declared.refusal.TreeRefusal.{TreeRefusal}
pub use Rattle.np_tree_nodes.specs.declared.refusal.TreeRefusal.TheVariants.{SessionExpired}
