-- What the definitions take from the crates below, passed on from one place. Declares nothing.
pub use Rattle.np_changes.specs.Prelude.{Amount, AmountFits, Configuration, Fits, IsFew, IsPlanned, IsReached, Job, JobId, JobRecord, LabelId, Limit, NodeEntry, NodeFits, NodeId, NodeRecord, NodeState, Phase, PoolId, Registration, RequestEntry, RequestId, RequestRecord, RequestState, RequesterId, Role, SessionFacts, SessionId, State, Swept, TenantId, ahead_of, amount_of, amount_of_all, amount_of_node, asked_of, blocking, changed, comes_before, count_of, count_of_tenant, earlier, first_full, first_of, fits, handles_of, has_handle, has_live_session, holder, is_asked, is_candidate, is_declined_by, is_failed, is_fulfilled, is_full, is_id_before, is_last_pool, is_marked, is_new, is_open_to, is_over, is_pair, is_pair_after, is_paused, is_pending, is_pending_by, is_pending_of, is_pinned_away, is_pool, is_queued, is_ready, is_requested, is_requesters, is_session, is_short, is_spare, is_spent_min_ready, is_stuck, is_swept, is_tenant, is_using, least, limit_of, limit_of_tenant, list_all, list_any, may_fit, most, new_job, new_record, node_entry, node_holder, node_in, node_queue, nothing, option_map, option_map_or, option_or, owner_of, plus, ready_count, registered, request_holder, request_in, request_queue, rest_of_request, role_in, same_request, same_role, session_of, speaks_for, standing, tenant_of_request, total, undeclined}
pub use Rattle.np_machine.specs.Count.{is_offered, offer_of, offers_of, retries_of}
pub use Rattle.np_machine.specs.Reasons.{due_tick, next_label, ready_age}
pub use Rattle.np_machine.specs.Request.{is_coming, is_free_ready, is_min_ready_for}
pub use Rattle.np_machine.specs.Tenants.{is_short_of, passes_tenant, tenant_never_fits}
