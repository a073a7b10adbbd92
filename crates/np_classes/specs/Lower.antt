-- What the definitions take from the crates below, passed on from one place. Declares nothing.
pub use Rattle.np_changes.specs.Prelude.{AllByRecursion, Configuration, Declined, Fits, IsPlanned, IsReached, JobId, JobRecord, LabelId, NodeEntry, NodeId, NodeRecord, NonePass, Phase, PoolId, RequestEntry, RequestId, RequestRecord, Rises, SemId, SessionFacts, SessionId, State, TenantId, allocated, change_at, change_first, changed, edited, freed, grown, handles_changed, has_handle, holder, insert_before, is_asked, is_declined_by, is_failed, is_id_before, is_new, is_pending, is_queued, is_ready, is_request, is_requested, is_session, jobs_changed, joined, left, list_any, muted, new_node, next_id, next_label, node_holder, node_in, node_queue, nodes_changed, nodes_left, option_map, option_map_or, put_node_queue, put_request_queue, registers, request_holder, request_in, request_queue, requests_changed, requests_left, same_request, semaphores_of, session_of, sessions_changed, standing, tenant_of_request, with_handle, with_mark, without_handle}
pub use Rattle.np_changes.specs.declared.changes.Changes.{Changes}
pub use Rattle.np_changes.specs.declared.changes.Growth.{Growth}
pub use Rattle.np_changes.specs.declared.changes.HandlesChange.{HandlesChange}
pub use Rattle.np_changes.specs.declared.changes.JobsChange.{JobsChange}
pub use Rattle.np_changes.specs.declared.changes.NodesChange.{NodesChange}
pub use Rattle.np_changes.specs.declared.changes.RequestsChange.{RequestsChange}
pub use Rattle.np_changes.specs.declared.changes.SessionsChange.{SessionsChange}
pub use Rattle.np_lists.specs.Groups.{group_after, group_from, has_member, ids_in, is_member_before, same_group}
pub use Rattle.np_lists.specs.Moves.{Placed, is_among, shift, with_all_moved, with_groups, with_moved}
pub use Rattle.np_lists.specs.declared.groups.Group.{Group}
pub use Rattle.np_lists.specs.declared.groups.Member.{Member}
pub use Rattle.np_look.specs.Keys.{is_job_before, is_node_before, is_session_before, job_equal, job_one_way, job_some_way, job_transitive, node_equal, node_one_way, node_some_way, node_transitive, request_equal, request_one_way, request_some_way, request_transitive, same_job, same_node, same_session, session_equal, session_one_way, session_some_way, session_transitive}
pub use Rattle.np_look.specs.Readers.{due_of, is_unclaimed, queued_nodes, queued_requests, unheld_kind}
pub use Rattle.np_look.specs.declared.asked.UnheldKind.{UnheldKind}
