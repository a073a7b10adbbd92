-- The names of the machine that are cited most, and of what it stands on, passed on from one place. Declares nothing.
pub use Rattle.np_lists.specs.Refusals.{◌>>=◌, ◌>>◌}
pub use Rattle.np_machine.specs.Caused.{Caused, HasCause, IsTrueDecline, is_report_on}
pub use Rattle.np_machine.specs.Count.{amount_of, amount_of_all, count_of, is_kind, is_offered, is_short, limit_of, offers_of, retries_of}
pub use Rattle.np_machine.specs.Entries.{NodeEntry, RequestEntry}
pub use Rattle.np_machine.specs.Fates.{Fate, fate_of, fates}
pub use Rattle.np_machine.specs.Fenced.{ByHolder, Fenced, TakenBack}
pub use Rattle.np_machine.specs.First.{blocking, earlier, first_of, is_candidate, is_open_to, least, may_fit}
pub use Rattle.np_machine.specs.History.{Runs, after, replayed, state_after}
pub use Rattle.np_machine.specs.Kept.{Kept, LosesNothing, RemovesNode}
pub use Rattle.np_machine.specs.Kinds.{is_asked, is_building, is_deleting, is_failed, is_failed_node, is_fulfilled, is_in_use, is_new, is_over, is_pending, is_ready, is_requested, is_using}
pub use Rattle.np_machine.specs.Laws.{same_role, speaks_for}
pub use Rattle.np_machine.specs.LiveHolder.{is_node}
pub use Rattle.np_machine.specs.Node.{allocated, create_by, create_for, created, ended_as, given_up, is_pair, is_pair_after, is_server, is_swept, is_wanted, judge_create, judge_done, judge_end_node, judge_free_node, judge_gone, judge_lock_node, judge_mark_deleting, judge_start, judge_sweep, judge_take_ready, judge_unlock_node, launched, made, marked, node_ended, node_freed, one_more_start, place_reply, reported, standing, start_by, started, starts_of, took_ready, with_mark, with_node, with_pair}
pub use Rattle.np_machine.specs.Order.{comes_before, is_declined_by, is_id_before, is_pending_by, is_pinned_away, is_pool}
pub use Rattle.np_machine.specs.Plan.{outcome_of}
pub use Rattle.np_machine.specs.Reasons.{first_unoffered, is_paused, is_spare, is_spent, is_stuck, is_true, never_fits, next_label, ready_age}
pub use Rattle.np_machine.specs.Request.{accept_by, accepted, decline_by, declined, declined_with, failed, fulfilled, given_back, in_state_for, insert_request, is_coming, is_filled, is_free_ready, is_spent_min_ready, judge_accept, judge_decline, judge_fail_declined, judge_fulfil, judge_lock_request, judge_min_ready, judge_register, judge_reset, judge_revise, judge_submit, judge_unlock_request, kept_ready, lock_request_as, next_id, other_than, ready_count, registers, request_of_job, revise_request, revised, submit_for, submitted, undeclined, unfilled, unlock_request_as}
pub use Rattle.np_machine.specs.Safe.{Safe}
pub use Rattle.np_machine.specs.Semaphore.{acquired, all_in_use, all_with_handle, all_without_handle, ending_of, finished, first_full, has_live_session, in_use, is_finishable, is_full, is_requesters, judge_acquire, judge_finish, judge_release, judge_take, judge_withdraw, may_finish, may_release, released, requester_or_janitor, take_for, take_from, taken, unended, unheld, with_handle, withdrawn, without_handle}
pub use Rattle.np_machine.specs.Session.{crashed, ended, expired, is_role, judge_expire, judge_open, muted, node_left, request_left, struck_unless}
pub use Rattle.np_machine.specs.State.{State, new_job, no_deeds, start}
pub use Rattle.np_machine.specs.Step.{acting, effect, judge, maker_of, next, one_more_act, reply_of, with_act}
pub use Rattle.np_machine.specs.Tables.{ahead_of, all_freed, change_janitor, change_launcher, change_requester, change_role, change_session, freed, freed_from, handles_of, has_handle, holder, is_among, is_marked, is_queued, is_request, is_session, is_session_of, joined, left, node_entry, node_holder, node_in, node_queue, put_job, put_node, put_node_queue, put_request, put_request_queue, registered, remove_node, remove_request, request_entry, request_holder, request_in, request_queue, role_in, role_of, same_request, session_of}
pub use Rattle.np_machine.specs.Tenants.{amount_of_node, count_of_tenant, is_pending_of, is_tenant, limit_of_tenant, rest_of_request, tenant_never_fits, tenant_of_request}
pub use Rattle.np_machine.specs.Tests.{Answer, after_found, as_launcher, by_node_holder, by_registrant, by_request_holder, janitor, launcher, maker, missing_handles, node_at, none_missing, not_declined, of_pool, own_job, request_at, requester, wrong_node, wrong_request}
pub use Rattle.np_machine.specs.Turns.{EachTurn, SomeTurn, Turn, is_done, turns, turns_from}
pub use Rattle.std.specs.List.{AllByRecursion, AllZip, count_by, flat_map, list_all, list_any, position, range_with_len}
pub use Rattle.std.specs.Option.{is_some, option_copied, option_map, option_map_or, option_or}
pub use Rattle.np_machine.specs.Lower.{Amount, Configuration, Declined, Done, EachAfter, EndAs, Ending, Entry, Event, Fault, FaultKind, HasText, IsAtMost, IsJob, IsOffer, IsPool, IsPriority, IsSound, IsTaken, IsWanted, Janitor, Job, JobId, JobRecord, Label, LabelId, Launcher, Limit, Marked, NoMemory, NodeId, NodeRecord, NodeState, NonePass, Offer, Outcome, Phase, Pool, PoolId, REQUESTERS, Reaper, Reason, Refusal, Reply, RequestId, RequestRecord, RequestState, Requester, RequesterId, Rises, Role, RoleRecord, Sem, SemId, SessionId, SessionRecord, StandsByOwner, Tenant, TenantId, bar, change_at, change_first, fits, found, insert_before, is_line, line, lines_of, minus, need, no_limit, nothing, number_of, plus, remove_first, request_of, request_text_of, sequence_of, ten_digits_of, times, total, vacant}
