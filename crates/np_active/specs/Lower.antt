-- What the definitions take from the crates below, passed on from one place. Declares nothing.
pub use Rattle.np_changes.specs.Prelude.{AllByRecursion, Configuration, Fits, IsPlanned, IsReached, Janitor, Job, JobId, JobRecord, Launcher, NodeEntry, NodeId, NodeRecord, NonePass, Phase, Reaper, RequestEntry, RequestId, RequestRecord, RequestState, Requester, RequesterId, Rises, Role, SemId, SessionFacts, SessionId, State, TenantId, allocated, by_maker, change_first, changed, edited, first_full, grown, has_handle, has_live_session, is_asked, is_failed, is_fulfilled, is_full, is_new, is_over, is_queued, is_request, is_requesters, is_using, jobs_changed, joined, left, list_any, most, node_entry, node_in, node_queue, nodes_changed, nodes_left, option_map, option_map_or, option_or, put_node_queue, remove_node, request_in, requests_changed, same_request, same_role, session_of, speaks_for, with_mark}
pub use Rattle.np_changes.specs.declared.changes.Changes.{Changes}
pub use Rattle.np_changes.specs.declared.changes.JobsChange.{JobsChange}
pub use Rattle.np_changes.specs.declared.changes.RequestEdit.{RequestEdit}
pub use Rattle.np_changes.specs.declared.changes.RequestsChange.{RequestsChange}
pub use Rattle.np_classes.specs.Listed.{IsTouched, TouchedOf}
pub use Rattle.np_classes.specs.Touched.{changes_node, ends_at_node, grows_node, touches_job, touches_node, unclaims_node}
pub use Rattle.np_lists.specs.Groups.{group_after, group_from, has_member, ids_in, is_group_before, is_member_before, same_group}
pub use Rattle.np_lists.specs.Moves.{Placed, is_among, with_all_moved, with_groups, with_moved}
pub use Rattle.np_lists.specs.declared.groups.Group.{Group}
pub use Rattle.np_lists.specs.declared.groups.Member.{Member}
pub use Rattle.np_look.specs.Given.{asker, given_to, handed_to, is_given_to, is_to_leave, is_to_lock, node_to_leave, node_to_lock}
pub use Rattle.np_look.specs.Jobs.{is_job_to_acquire, is_job_to_begin, is_job_to_finish, is_job_to_release, is_job_to_take, is_own, is_supplied, job_to_acquire, job_to_begin, job_to_finish, job_to_release, job_to_take, may_acquire, may_begin, was_given}
pub use Rattle.np_look.specs.Keys.{is_job_before, is_node_before, is_session_before, job_equal, job_one_way, job_some_way, node_equal, node_one_way, same_job, same_node, same_session, session_equal, session_one_way, session_some_way}
pub use Rattle.np_look.specs.Readers.{current_of, first_mute, jobs_from, mute_from, queued_nodes, request_state_of, speaker_from}
