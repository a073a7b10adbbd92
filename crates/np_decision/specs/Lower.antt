-- What the definitions take from the crates below, passed on from one place. Declares nothing.
pub use Rattle.np_changes.specs.Plan.{asked_for, asked_to_keep, end_in, made_by, new_node, nodes_after_fulfil, plan_accept, plan_acquire, plan_crash, plan_create, plan_decline, plan_done, plan_end_node, plan_expire, plan_fail_declined, plan_finish, plan_free_node, plan_fulfil, plan_gone, plan_lock_node, plan_lock_request, plan_mark_deleting, plan_min_ready, plan_open, plan_register, plan_release, plan_reset, plan_revise, plan_start, plan_submit, plan_sweep, plan_take, plan_take_ready, plan_tick, plan_unlock_node, plan_unlock_request, plan_withdraw, request_after_fulfil, request_after_withdraw, same}
pub use Rattle.np_changes.specs.Prelude.{Configuration, Fits, Janitor, Job, JobId, JobRecord, LabelId, Launcher, NodeEntry, NodeFits, NodeId, NodeRecord, PoolId, Reason, Refusal, RequestId, RequestRecord, SemId, SessionId, State, amount_of_all, asked_of, count_of, first_of, fits, found, is_building, is_filled, is_marked, is_offered, is_pending_by, is_pinned_away, is_pool, is_request, is_session_of, is_short, is_spent, is_true, judge, limit_of, list_all, list_any, need, new_record, next_label, node_entry, node_in, option_map, owner_of, plan, request_in, retries_of, role_of, tenant_never_fits}
pub use Rattle.np_changes.specs.declared.asked.Asked.{Asked}
pub use Rattle.np_changes.specs.declared.changes.Growth.TheVariants.{Allocate}
pub use Rattle.np_event.specs.declared.reply.Done.TheVariants.{Plain}
pub use Rattle.np_look.specs.Readers.{tenant_of_job}
pub use Rattle.np_machine.specs.Node.{ended_as, is_own, is_server, is_wanted, judge_create, judge_done, judge_end_node, judge_free_node, judge_gone, judge_lock_node, judge_mark_deleting, judge_start, judge_sweep, judge_take_ready, judge_unlock_node, launched, may_delete, owner_from, place_reply, standing, starts_of, state_after_launch}
pub use Rattle.np_machine.specs.Reasons.{due_tick, is_past, ready_age}
pub use Rattle.np_machine.specs.Request.{in_state_for, judge_accept, judge_decline, judge_fail_declined, judge_fulfil, judge_lock_request, judge_min_ready, judge_register, judge_reset, judge_revise, judge_submit, judge_unlock_request, lock_pending, lock_request_as, other_than, unfilled, unlock_request_as}
pub use Rattle.np_machine.specs.Semaphore.{ending_of, has_failed_request, is_busy_with, is_finishable, judge_acquire, judge_finish, judge_release, judge_take, judge_withdraw, may_finish, may_release, requester_or_janitor, unended, unheld}
pub use Rattle.np_machine.specs.Session.{is_role, judge_crash, judge_expire, judge_open}
pub use Rattle.np_machine.specs.Tests.{Answer, Check, by_node_holder, by_registrant, by_request_holder, janitor, job_at, launcher, maker, missing_handles, node_at, none_missing, not_blocked, of_pool, of_requester, quota_short, record_of, request_at, requester, wrong_job, wrong_node, wrong_request}
