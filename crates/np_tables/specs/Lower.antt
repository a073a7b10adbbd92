-- What the definitions take from the crates below, passed on from one place. Declares nothing.
pub use Rattle.np_changes.specs.Changes.{grown, nodes_changed, nodes_left, requests_changed, requests_left, settled}
pub use Rattle.np_changes.specs.Prelude.{AllByRecursion, Configuration, Done, Event, Fits, IsFitSite, IsPlanned, IsReached, IsSound, Janitor, JobId, JobRecord, LabelId, Launcher, Locked, NodeEntry, NodeId, NonePass, PoolId, Reason, Refusal, Registration, RequestEntry, RequestFits, RequestId, RequestRecord, Requester, Rises, Role, RoleFits, RoleRecord, SessionFacts, SessionId, State, TenantId, all_in_use, all_with_handle, all_without_handle, allocated, by_maker, change_at, change_first, change_janitor, change_launcher, change_requester, change_role, change_session, changed, edited, ended, freed_from, handles_changed, handles_of, has_handle, in_use, insert_before, insert_request, is_among, is_id_before, is_queued, is_request, is_session, is_swept, janitor, jobs_changed, joined, judge, judge_decline, judge_take_ready, launcher, left, made_by, maker, marked, most, muted, new_job, new_record, next, next_id, next_label, no_deeds, node_entry, node_in, node_left, node_queue, one_more_act, one_more_start, option_map, option_map_or, plan, position, put_job, put_node_queue, put_request_queue, registered, registers, registrations_left, remove_first, request_entry, request_in, request_left, request_of_job, request_queue, requester, role_in, same_request, semaphores_of, session_of, sessions_changed, start, struck_unless, with_deed, with_found, with_given, with_handle, with_mark, with_pair, without_handle}
pub use Rattle.np_changes.specs.declared.changes.Changes.{Changes}
pub use Rattle.np_changes.specs.declared.changes.Growth.{Growth}
pub use Rattle.np_changes.specs.declared.changes.Maker.{Maker}
pub use Rattle.np_changes.specs.declared.changes.RequestEdit.{RequestEdit}
pub use Rattle.np_changes.specs.declared.changes.RequestsChange.{RequestsChange}
pub use Rattle.np_changes.specs.declared.changes.SessionsChange.{SessionsChange}
pub use Rattle.np_lists.specs.Roomy.{Roomy}
pub use Rattle.np_look.specs.Jobs.{node_view, request_view}
pub use Rattle.np_look.specs.Keys.{is_node_before, node_equal, node_one_way, node_some_way, node_transitive, request_equal, request_one_way, request_some_way, request_transitive, same_node}
pub use Rattle.np_look.specs.Readers.{queued_nodes, queued_requests}
