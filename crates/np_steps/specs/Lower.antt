-- What the definitions take from the crates below, passed on from one place. Declares nothing.
pub use Rattle.np_changes.specs.Prelude.{AllByRecursion, Configuration, EachAfter, HasText, IsSound, Job, JobId, JobRecord, NoMemory, NodeEntry, NodeId, NodeRecord, NodesPremise, PoolId, RequestEntry, RequestId, RequestRecord, RequestsPremise, Role, RoleRecord, SemId, SessionFacts, SessionId, State, TenantId, allocated, change_at, change_first, change_janitor, change_launcher, change_requester, change_role, edited, freed, freed_from, grown, has_handle, in_use, is_among, is_queued, is_request, is_swept, jobs_changed, list_any, marked, new_record, node_entry, node_in, node_queue, nodes_changed, nodes_left, one_more_act, one_more_start, option_map_or, put_job, put_node, request_entry, request_in, request_queue, requests_changed, requests_left, role_in, same_request, semaphores_of, session_of, struck_unless, with_deed, with_handle, with_mark, without_handle}
pub use Rattle.np_layout.specs.Deletes.{node_parts, request_parts, request_prefix, wait_at}
pub use Rattle.np_layout.specs.Parts.{acquire_parts, allocate_parts, by_session, change_parts, deed_parts, each_changed, grown_parts, handles_parts, jobs_parts, join_parts, leave_parts, nodes_of, nodes_parts, parts_of, release_parts, requests_parts, role_parts, session_parts, settled_parts, tick_parts, where_there}
pub use Rattle.np_layout.specs.Prelude.{Any, HasNodeLock, HasQueue, HasSpellings, IsCarried, IsGood, IsJob, IsNode, IsRequest, IsRole, IsSessionRole, IsStored, Op, PersistentSequential, Row, TreeState, below, child_name, delete, delete_parts, is_numbered, is_owner, is_some, job_text, list_all, make, node_deletes, node_text, option_copied, option_map, path_of, place_of_role, request_deletes, request_record_text, role_text, rows_at, session_text, set, tree_session, under}
pub use Rattle.np_layout.specs.Ways.{GrowthReady, IsReady, NodesReady, in_call, with_deeds}
pub use Rattle.np_layout.specs.declared.place.Place.TheVariants.{Handle, Launcher, Node, NodeLock, Request, RequestLock, Requests, Session, Swept, Tick}
pub use Rattle.np_text.specs.declared.word.NodeState.TheVariants.{InUse}
