-- Those of changes and of the machine that are cited most, passed on from one place. Declares nothing.
pub use Rattle.np_changes.specs.Asked.{asked_of, new_record}
pub use Rattle.np_changes.specs.Changes.{by_maker, changed, edited, grown, handles_changed, jobs_changed, nodes_changed, nodes_left, registrations_left, requests_changed, requests_left, semaphores_of, sessions_changed, with_deed}
pub use Rattle.np_changes.specs.Fits.{AmountFits, Fits, IsFew, IsFitSite, NodeFits, RequestFits, RoleFits, most}
pub use Rattle.np_changes.specs.Plan.{asked_for, asked_to_keep, made_by, new_node, plan, request_after_withdraw, same, with_found, with_given}
pub use Rattle.np_changes.specs.Planned.{IsPlanned, IsReached}
pub use Rattle.np_changes.specs.Premises.{AsksForJob, AsksToKeep, EditPremise, EmptiesRequest, EndsNode, FinishesJob, Frees, GivesUp, GoesFulfilled, GoesWithdrawn, GrowthPremise, IsHeard, JobsPremise, MakerPremise, MayDecline, NodesPremise, Premises, PutsJob, PutsNode, Reports, RequestsPremise, SessionsPremise, Starts, TakesOver, Withdraws}
pub use Rattle.np_changes.specs.Readers.{is_last_pool, owner_of}
pub use Rattle.np_machine.specs.Prelude.{◌>>=◌, ◌>>◌}
pub use Rattle.np_changes.specs.Lower.{AllByRecursion, AllZip, Amount, Answer, Caused, Configuration, Declined, Done, EachAfter, EachTurn, EndAs, Ending, Entry, Event, Fate, Fault, FaultKind, Fenced, HasText, IsAtMost, IsJob, IsOffer, IsPool, IsPriority, IsSound, IsTaken, IsTrueDecline, IsWanted, Janitor, Job, JobId, JobRecord, Kept, Label, LabelId, Launcher, Limit, Locked, Marked, NoMemory, NodeEntry, NodeId, NodeRecord, NodeState, NonePass, Offer, Outcome, Phase, Pool, PoolId, REQUESTERS, Reaper, Reason, Refusal, Registration, Reply, RequestEntry, RequestId, RequestRecord, RequestState, Requester, RequesterId, Rises, Role, RoleRecord, Runs, Safe, Sem, SemId, SessionFacts, SessionId, SessionRecord, SomeTurn, StandsByOwner, State, Swept, Tenant, TenantId, Turn, accept_by, accepted, acquired, acting, after, after_found, ahead_of, all_freed, all_in_use, all_with_handle, all_without_handle, allocated, amount_of, amount_of_all, amount_of_node, as_launcher, bar, blocking, by_node_holder, by_registrant, by_request_holder, change_at, change_first, change_janitor, change_launcher, change_requester, change_role, change_session, comes_before, count_by, count_of, count_of_tenant, crashed, create_by, create_for, created, decline_by, declined, declined_with, earlier, effect, ended, ended_as, ending_of, expired, failed, fate_of, fates, finished, first_full, first_of, first_unoffered, fits, flat_map, found, freed, freed_from, fulfilled, given_back, given_up, handles_of, has_handle, has_live_session, holder, in_state_for, in_use, insert_before, insert_request, is_among, is_asked, is_building, is_candidate, is_coming, is_declined_by, is_deleting, is_done, is_failed, is_failed_node, is_filled, is_finishable, is_free_ready, is_fulfilled, is_full, is_id_before, is_in_use, is_kind, is_line, is_marked, is_new, is_node, is_offered, is_open_to, is_over, is_pair, is_pair_after, is_paused, is_pending, is_pending_by, is_pending_of, is_pinned_away, is_pool, is_queued, is_ready, is_report_on, is_request, is_requested, is_requesters, is_role, is_server, is_session, is_session_of, is_short, is_some, is_spare, is_spent, is_spent_min_ready, is_stuck, is_swept, is_tenant, is_true, is_using, is_wanted, janitor, joined, judge, judge_accept, judge_acquire, judge_create, judge_decline, judge_done, judge_end_node, judge_fail_declined, judge_finish, judge_free_node, judge_fulfil, judge_gone, judge_lock_node, judge_lock_request, judge_mark_deleting, judge_min_ready, judge_open, judge_register, judge_release, judge_reset, judge_revise, judge_start, judge_submit, judge_sweep, judge_take, judge_take_ready, judge_unlock_node, judge_unlock_request, judge_withdraw, kept_ready, launched, launcher, least, left, limit_of, limit_of_tenant, line, lines_of, list_all, list_any, lock_request_as, made, maker, maker_of, marked, may_finish, may_fit, may_release, minus, missing_handles, muted, need, never_fits, new_job, next, next_id, next_label, no_deeds, no_limit, node_at, node_ended, node_entry, node_freed, node_holder, node_in, node_left, node_queue, none_missing, not_declined, nothing, number_of, of_pool, offers_of, one_more_act, one_more_start, option_copied, option_map, option_map_or, option_or, other_than, outcome_of, own_job, place_reply, plus, position, put_job, put_node, put_node_queue, put_request, put_request_queue, range_with_len, ready_age, ready_count, registered, registers, released, remove_first, remove_node, remove_request, replayed, reply_of, reported, request_at, request_entry, request_holder, request_in, request_left, request_of, request_of_job, request_queue, requester, requester_or_janitor, rest_of_request, retries_of, revise_request, revised, role_in, role_of, same_request, same_role, session_of, speaks_for, standing, start, start_by, started, starts_of, state_after, struck_unless, submit_for, submitted, take_for, take_from, taken, ten_digits_of, tenant_never_fits, tenant_of_request, times, took_ready, total, turns, turns_from, undeclined, unended, unfilled, unheld, unlock_request_as, vacant, with_act, with_handle, with_mark, with_node, with_pair, withdrawn, without_handle, wrong_node, wrong_request}
