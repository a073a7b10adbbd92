-- What the definitions take from the crates below, passed on from one place. Declares nothing.
pub use Rattle.np_changes.specs.Prelude.{AllByRecursion, Configuration, HasText, JobId, JobRecord, NodeEntry, NodeId, NodeRecord, NonePass, PoolId, Registration, RequestEntry, RequestId, RequestRecord, RequesterId, Rises, Role, RoleRecord, SemId, SessionFacts, SessionId, SessionRecord, State, handles_of, has_handle, is_among, is_pair, is_queued, is_session, is_swept, list_any, node_entry, node_in, node_queue, number_of, option_map, range_with_len, registered, request_entry, request_in, request_of, request_queue, role_in, session_of}
pub use Rattle.np_layout.specs.Prelude.{AllZip, AreHolders, BadRecord, IsGood, IsJob, IsRole, IsSession, IsSessionRole, IsStored, IsWait, IsWhole, OnFalse, OnTrue, Row, Seen, Stat, TreeState, above, at_path, bytes_at, child_name, children_of, counter_at, decoded, find_named, is_at, is_in, is_named, is_owner, is_some, job_text, name_of, option_copied, option_map_or, path_of, place_name, place_of_role, role_text, row_before, row_of, rows_at, seen_at, seen_in, seen_of, session_text, stat_at, stat_of, stat_of_child, ten_digits_of, tree_session, under, with_row}
pub use Rattle.np_look.specs.Readers.{queued_nodes, queued_requests}
pub use Rattle.np_look.specs.Jobs.{node_view, request_view}
