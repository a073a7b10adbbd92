-- The names from elsewhere that the proofs cite, passed on from one place. Declares nothing.
pub use Rattle.np_amount.proofs.Sums.{nothing-plus, plus-comm, total-append, total_more}
pub use Rattle.np_amount.specs.Amounts.{is_within}
pub use Rattle.np_changes.specs.declared.asked.Asked.{Asked}
pub use Rattle.np_lists.proofs.Changes.{all-find}
pub use Rattle.np_lists.proofs.Plain.{by_bool, drop-past, drop-there}
pub use Rattle.np_look.specs.Given.{is_given_to, is_to_leave, is_to_lock}
pub use Rattle.np_look.specs.Jobs.{is_job_to_acquire, is_job_to_begin, is_job_to_finish, is_job_to_release, is_job_to_take, comes_first, held_by, is_sooner, node_seen, node_view, request_seen, request_view}
pub use Rattle.np_look.specs.Lower.{Amount, AmountFits, Configuration, Fits, IsFew, JobId, JobRecord, LabelId, Limit, NodeEntry, NodeFits, NodeId, NodeRecord, PoolId, Registration, RequestEntry, RequestId, RequestRecord, Role, SessionFacts, SessionId, State, TenantId, ahead_of, amount_of, amount_of_all, amount_of_node, blocking, comes_before, count_of, count_of_tenant, earlier, first_full, fits, has_handle, holder, is_candidate, is_coming, is_declined_by, is_free_ready, is_full, is_last_pool, is_marked, is_offered, is_open_to, is_pending_by, is_pending_of, is_queued, is_requesters, is_session, is_short, is_short_of, is_spare, is_spent_min_ready, is_stuck, is_tenant, least, limit_of_tenant, list_all, list_any, may_fit, most, new_job, new_record, next_label, node_entry, node_queue, nothing, option_map, option_map_or, plus, ready_count, rest_of_request, session_of, speaks_for, tenant_of_request, total, undeclined}
pub use Rattle.np_look.specs.Readers.{amount_at, amount_for, due_of, first_mute, has_limit, has_request_under_way, is_declined_by_all, is_unclaimed, is_under_way_by, is_unfinished_job, is_unheld_as, is_unheld_by, is_unheld_pending, jobs_from, limited_tenant, mute_from, rest_for, short_label, sooner, soonest, speaker_from}
pub use Rattle.np_look.specs.declared.asked.NodeView.{NodeView}
pub use Rattle.np_look.specs.declared.asked.RequestView.{RequestView}
pub use Rattle.np_look.specs.declared.asked.UnheldKind.{UnheldKind}
pub use Rattle.std.proofs.Common.{Bool, List, None, Option, Some, add-one, ap, arith, below_more, cond, drop, false, get_or, length, map, refl, suc, sym, take, true, zero, ℕ, [], ◌*◌, ◌++◌, ◌+◌, ◌-◌, ◌<◌, ◌∙◌, ◌∷◌, ◌≡◌, ◌≤◌}
pub use Rattle.std.proofs.lemmas.Bool.Decides.{nat_tests}
pub use Rattle.std.proofs.lemmas.List.{length-map, map-append, take_more}
pub use Rattle.std.proofs.lemmas.List.Elements.{filter-append}
pub use Rattle.std.proofs.lemmas.List.Sums.{fold-append, length-filter, position_or_len_is, sum_by-cons}
pub use Rattle.std.proofs.lemmas.Option.{get_or_from_slice_get, slice_get-map, slice_get_past, slice_get_within}
pub use Rattle.std.specs.List.{position, position_or_len}
pub use Rattle.std.specs.Prelude.{count_by, filter, find, fold, if◌then◌else◌, is_none, is_some, nat_lt, not, option_and_then, slice_get, ◌&&◌, ◌==◌, ◌||◌}
