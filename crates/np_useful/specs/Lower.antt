-- What the definitions take from the crates below, passed on from one place. Declares nothing.
pub use Rattle.np_changes.specs.Prelude.{AllByRecursion, Configuration, Done, EachTurn, EndAs, Entry, Event, Fault, FaultKind, Fits, Janitor, Job, JobId, JobRecord, Launcher, Locked, NodeEntry, NodeId, NodeRecord, NodeState, Outcome, PoolId, Reaper, Reason, Reply, RequestEntry, RequestId, RequestRecord, Requester, RequesterId, Role, SessionFacts, SessionId, SomeTurn, State, Turn, after, blocking, first_unoffered, has_handle, holder, is_asked, is_declined_by, is_fulfilled, is_in_use, is_new, is_node, is_over, is_pending, is_pending_by, is_queued, is_requested, is_role, is_session, is_session_of, is_spent, is_swept, judge, list_any, maker, maker_of, may_fit, may_release, missing_handles, never_fits, next_label, node_entry, node_holder, node_in, node_queue, option_map, option_map_or, option_or, outcome_of, registered, request_entry, request_holder, request_in, request_queue, requester_or_janitor, role_in, role_of, same_request, same_role, session_of, standing, tenant_never_fits, turns}
pub use Rattle.np_look.specs.Readers.{current_of, jobs_from, queued_nodes, queued_requests, speaker_from}
pub use Rattle.np_machine.specs.Laws.{acts_of, speaks_for}
pub use Rattle.np_machine.specs.Node.{owner_from}
pub use Rattle.np_machine.specs.Reasons.{is_old_hold, is_old_ready, is_paused}
