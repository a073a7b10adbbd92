-- What the definitions take from the crates below, passed on from one place. Declares nothing.
pub use Rattle.np_changes.specs.Prelude.{AllByRecursion, AsksForJob, Configuration, Declined, EndAs, EndsNode, Entry, Event, FinishesJob, Fits, Frees, GivesUp, GrowthPremise, IsPlanned, IsReached, IsSound, Job, JobId, JobRecord, JobsPremise, LabelId, Locked, MakerPremise, Marked, NodeEntry, NodeId, NodeRecord, NodeState, NodesPremise, NonePass, Phase, PoolId, Premises, PutsJob, PutsNode, Reports, RequestEntry, RequestId, RequestRecord, RequesterId, RequestsPremise, Rises, SessionFacts, SessionId, SessionsPremise, Starts, State, TakesOver, TenantId, Withdraws, all_in_use, allocated, change_at, change_first, changed, count_by, edited, ended, ended_as, first_unoffered, freed, freed_from, grown, holder, in_use, insert_before, is_asked, is_building, is_declined_by, is_id_before, is_marked, is_new, is_open_to, is_over, is_pinned_away, is_queued, is_ready, is_request, is_requested, is_session, is_tenant, is_using, jobs_changed, joined, judge, left, limit_of_tenant, list_any, marked, muted, never_fits, new_job, new_record, next, next_id, node_entry, node_in, node_queue, nodes_changed, nodes_left, option_map, option_map_or, owner_of, plan, position, remove_first, remove_node, request_after_withdraw, request_entry, request_holder, request_in, request_queue, requests_changed, requests_left, same_request, sessions_changed, start, state_after, tenant_of_request, unended, with_mark}
pub use Rattle.np_changes.specs.declared.changes.Changes.{Changes}
pub use Rattle.np_changes.specs.declared.changes.Growth.{Growth}
pub use Rattle.np_changes.specs.declared.changes.JobsChange.{JobsChange}
pub use Rattle.np_changes.specs.declared.changes.Maker.{Maker}
pub use Rattle.np_changes.specs.declared.changes.NodesChange.{NodesChange}
pub use Rattle.np_changes.specs.declared.changes.RequestsChange.{RequestsChange}
pub use Rattle.np_changes.specs.declared.changes.SessionsChange.{SessionsChange}
pub use Rattle.np_classes.specs.Touched.{touches_request}
pub use Rattle.np_lists.specs.Groups.{group_after, group_from, has_member, ids_in, is_group_before, is_member_before, member, same_group, same_member, with_member, without_member}
pub use Rattle.np_lists.specs.declared.groups.Group.{Group}
pub use Rattle.np_lists.specs.declared.groups.Member.{Member}
pub use Rattle.np_look.specs.Keys.{is_job_before, is_node_before, node_equal, node_one_way, request_equal, request_one_way, same_job, same_node}
pub use Rattle.np_look.specs.Readers.{has_limit, is_unfinished_job, queued_nodes, queued_requests, unfinished_from, unfinished_of}
