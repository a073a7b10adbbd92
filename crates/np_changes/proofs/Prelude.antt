-- The names that the proofs cite most, passed on from one place. Declares nothing.
pub use Rattle.np_amount.proofs.Sums.{IsAtMost-part, IsAtMost-plus, IsAtMost-refl, IsAtMost-trans, fits-less, nothing-plus, plus-assoc, plus-comm, same_amount, times-suc, total_push}
pub use Rattle.np_changes.specs.Fits.{AllApart, AmountFits, Fits, IsFitSite, JobFits, JobRowFits, NodeFits, OffersFit, RequestFits, RoleFits, most}
pub use Rattle.np_changes.specs.Holders.{HoldersHold}
pub use Rattle.np_changes.specs.Lower.{Caused, Declined, DistinctNodes, Done, EachAfter, EndAs, Ending, Fenced, FulfilledOwn, IsGiven, IsJob, IsLabel, IsLiveHolder, IsLiveRequestHolder, IsOffer, IsPool, IsProvider, IsSound, Janitor, Job, JobId, JobRecord, Kept, Label, Launcher, NoRepeat, NodeState, Offer, OneHolder, Outcome, OwnsItsLabels, Phase, Reaper, RequestState, Requester, RequesterId, Role, RoleRecord, Safe, StandsByOwner, Swept, WithinMax, WithinQuota, WithinTenantQuota, accept_by, accepted, acquired, after_found, all_with_handle, all_without_handle, amount_of_node, as_launcher, blocking, change_at, change_janitor, change_launcher, change_requester, count_of_tenant, create_by, create_for, created, decline_by, declined, declined_with, ended_as, expired, failed, finished, first_full, first_unoffered, found, fulfilled, given_back, given_up, has_node, holds_after, holds_from, in_state_for, is_asked, is_declined_by, is_ending, is_fulfilled, is_full, is_held, is_holding, is_in_use, is_kind, is_locking, is_marked, is_new, is_new_node, is_node, is_pair_after, is_pending_of, is_pinned_away, is_queued, is_role, is_swept, is_tenant, is_unlocking, is_wanted, janitor, judge_accept, judge_acquire, judge_decline, judge_done, judge_end_node, judge_expire, judge_fail_declined, judge_finish, judge_free_node, judge_fulfil, judge_gone, judge_mark_deleting, judge_min_ready, judge_open, judge_register, judge_release, judge_reset, judge_revise, judge_start, judge_submit, judge_sweep, judge_unlock_node, judge_unlock_request, judge_withdraw, kept_ready, launcher, limit_of_tenant, lock_request_as, locks_after, locks_from, made, maker, missing_handles, new_job, no_deeds, node_at, node_ended, node_freed, offers_of, one_more_act, one_more_start, own_job, position, put_request, released, reported, request_entry, request_of_job, requester, rest_of_request, revise_request, revised, role_of, session_of, start_by, started, starts_of, struck_unless, submit_for, submitted, take_for, take_from, taken, tenant_of, times, took_ready, undeclined, unlock_request_as, vacant, with_handle, with_mark, with_pair, withdrawn, without_handle, wrong_request}
pub use Rattle.np_changes.specs.Parts.{AllocationsListed, DistinctSessions, Invariant, IsAsking, IsAtRest, IsAttempted, IsFor, IsLauncher, IsLive, IsLiveQueue, IsNumbered, IsQueued, IsRegistered, IsServed, JobIn, JobsOrPinned, JobsStand, RequestsStand, RunsWhileBuilding, StandsIn}
pub use Rattle.np_changes.specs.Plan.{end_in, made_by, request_after_withdraw, same, with_found, with_given}
pub use Rattle.np_changes.specs.Prelude.{AllByRecursion, Amount, Answer, AsksForJob, AsksToKeep, Configuration, EachTurn, EditPremise, EndsNode, Entry, Event, Frees, GivesUp, GoesFulfilled, GoesWithdrawn, GrowthPremise, IsAtMost, IsFew, IsHeard, IsTrueDecline, JobsPremise, LabelId, Limit, Locked, MakerPremise, MayDecline, NodeEntry, NodeId, NodeRecord, NodesPremise, Pool, PoolId, Premises, PutsJob, Reason, Refusal, Registration, Reply, Reports, RequestEntry, RequestId, RequestRecord, RequestsPremise, Rises, Runs, Sem, SemId, SessionFacts, SessionId, SessionsPremise, SomeTurn, Starts, State, TakesOver, Tenant, TenantId, Turn, acting, after, ahead_of, all_freed, all_in_use, allocated, amount_of, amount_of_all, asked_for, by_maker, change_first, change_session, changed, count_of, crashed, edited, effect, ended, fits, freed, freed_from, grown, handles_changed, handles_of, has_handle, holder, in_use, insert_before, insert_request, is_among, is_building, is_deleting, is_done, is_failed, is_failed_node, is_filled, is_id_before, is_offered, is_pending, is_pending_by, is_pool, is_ready, is_report_on, is_request, is_requested, is_session, is_session_of, is_short, is_spent, is_true, jobs_changed, joined, judge, judge_create, judge_lock_node, judge_lock_request, judge_take, judge_take_ready, launched, left, limit_of, list_all, list_any, maker_of, muted, need, never_fits, new_node, new_record, next, next_id, next_label, no_limit, node_entry, node_holder, node_in, node_left, node_queue, nodes_changed, nodes_left, nothing, option_map, option_map_or, place_reply, plan, plus, put_job, put_node, put_node_queue, put_request_queue, registered, registers, registrations_left, remove_first, remove_node, remove_request, replayed, reply_of, request_holder, request_in, request_left, request_queue, requests_changed, requests_left, retries_of, same_request, semaphores_of, sessions_changed, start, state_after, tenant_never_fits, tenant_of_request, total, turns_from, unended, unfilled, unheld, with_act, with_node, ◌>>◌}
pub use Rattle.np_changes.specs.Premises.{EmptiesRequest, FinishesJob, Gains, GainsNew, HasRoom, IsHeldNode, IsMade, IsTaken, IsUnlocked, IsWorkedOn, LeavesRequest, MayFail, MayFulfil, MayGiveBack, MayRevise, MayServe, PutsNode, Withdraws}
pub use Rattle.np_changes.specs.Readers.{is_last_pool, owner_of}
pub use Rattle.np_changes.specs.Steps.{AfterEveryStep}
pub use Rattle.np_changes.specs.declared.asked.Asked.{Asked}
pub use Rattle.np_changes.specs.declared.changes.Changes.{Changes}
pub use Rattle.np_changes.specs.declared.changes.Deed.{Deed}
pub use Rattle.np_changes.specs.declared.changes.Growth.{Growth}
pub use Rattle.np_changes.specs.declared.changes.HandlesChange.{HandlesChange}
pub use Rattle.np_changes.specs.declared.changes.JobsChange.{JobsChange}
pub use Rattle.np_changes.specs.declared.changes.Maker.{Maker}
pub use Rattle.np_changes.specs.declared.changes.NodesChange.{NodesChange}
pub use Rattle.np_changes.specs.declared.changes.RequestEdit.{RequestEdit}
pub use Rattle.np_changes.specs.declared.changes.RequestsChange.{RequestsChange}
pub use Rattle.np_changes.specs.declared.changes.SessionsChange.{SessionsChange}
pub use Rattle.np_config.specs.declared.row.Provider.{Provider}
pub use Rattle.np_lists.proofs.Changes.{Differ, Rises-filter, Rises-keys, all-at, all-change_at, all-change_at_to, all-change_first, all-change_first_to, all-filter, all-filter_to, all-find, all-from_at, all-insert_before, all-keys, all-map, all-mapped, all-push, all-remove_first, all-set, all-weaker, change_at-set, change_first-absent, change_first-same, differ-push, few, find-insert_before, find-map, find-passes, kept-change_at, length-change_at, length-change_first, length-filter_at_most, length-insert_before, length-remove_first, list_any-insert_before, list_any-none, map-keys, none-list_any, slice_get-change_at, slice_get-change_at_other}
pub use Rattle.np_lists.proofs.Plain.{above-apart, and-apart, from-map_some, map-some, member-there, set-here, set-other, some-of, some-unless, some-within}
pub use Rattle.np_lists.proofs.Searches.{change_first-nowhere, change_first-position, find-none, none-find}
pub use Rattle.np_machine.proofs.Ids.{request-equal, request-itself, session-equal}
pub use Rattle.np_machine.proofs.Rises.{RisesFrom-next}
pub use Rattle.np_machine.proofs.Runs.{Runs-prefix, replayed-push, state_after-push}
pub use Rattle.np_machine.proofs.Steps.{after_found-keeps, after_given-keeps, next-keeps}
pub use Rattle.np_machine.specs.Caused.{CausedFrom, DeclinedByAll, FailsNow, HasCause, HasDeclined, LaunchesSpent, ReportsFailure, has_failed, reports_on}
pub use Rattle.np_machine.specs.Count.{number_of}
pub use Rattle.np_machine.specs.Fenced.{ByHolder, IsFenced, IsRightful, TakenBack, given_back_by}
pub use Rattle.np_machine.specs.Kept.{EndsRequest, LosesNothing, NodesKept, RemovesNode, RequestsKept, SameRecords, is_gone, is_loss, is_node_made, is_request_end, is_request_made}
pub use Rattle.np_machine.specs.Node.{effect_create, effect_done, effect_end_node, effect_free_node, effect_gone, effect_lock_node, effect_mark_deleting, effect_start, effect_sweep, effect_take_ready, effect_unlock_node, may_delete}
pub use Rattle.np_machine.specs.Order.{is_elsewhere}
pub use Rattle.np_machine.specs.Prelude.{◌>>=◌}
pub use Rattle.np_machine.specs.Request.{all_declined, asked_by, effect_accept, effect_decline, effect_fail_declined, effect_fulfil, effect_lock_request, effect_min_ready, effect_register, effect_reset, effect_revise, effect_submit, effect_unlock_request, kept_ready_by}
pub use Rattle.np_machine.specs.Semaphore.{effect_acquire, effect_finish, effect_release, effect_take, effect_withdraw, may_take}
pub use Rattle.np_machine.specs.Session.{effect_crash, effect_expire}
pub use Rattle.np_machine.specs.Tests.{as_janitor, as_requester, quota_short}
pub use Rattle.np_machine.specs.Turns.{IsAccepted}
pub use Rattle.np_text.specs.declared.word.Reason.TheVariants.{NeverFits}
pub use Rattle.std.proofs.Common.{Bool, Err, List, None, Ok, Option, Result, Some, [], ap, append-nil, append_assoc, arith, cond, drop, eq-eqb, eqb-true, false, fold, get_or, if◌then◌else◌, inl, inr, is_none, is_ok, is_some, le_antisymm, le_of_eq, length, length-append, lt_of_lt_of_le, map, nat_lt, not, refl, slice_get, subst, subst₂, suc, sym, take, true, unwrap_or, zero, ℕ, ◌&&◌, ◌*◌, ◌++◌, ◌+◌, ◌<◌, ◌==◌, ◌||◌, ◌∙◌, ◌∷◌, ◌≡◌, ◌≢◌, ◌≤◌, ◌⊎◌}
pub use Rattle.std.proofs.Math.Path.{ap₂}
pub use Rattle.std.proofs.lemmas.Bool.{and_from, and_left, and_parts, and_right, both_ways, cond-false, cond-true, false_from_ne_true, false≢true, ne_eqb, not-false, not-true, not_from_false, or_cases, or_from, or_left, or_parts, true≢false}
pub use Rattle.std.proofs.lemmas.Bool.Decides.{nat_tests}
pub use Rattle.std.proofs.lemmas.List.{length-map, map-append, take_all}
pub use Rattle.std.proofs.lemmas.List.Elements.{All-contains, All-head, All-tail, Contains-push_cases}
pub use Rattle.std.proofs.lemmas.List.Folds.{Any-from_list_any, list_any-append}
pub use Rattle.std.proofs.lemmas.List.Quantifiers.{position-Some}
pub use Rattle.std.proofs.lemmas.List.Sums.{AllPass-from_list_all, count_by-le-length, length-filter, sum_by-cons, sum_by_push}
pub use Rattle.std.proofs.lemmas.Nat.{mul-le}
pub use Rattle.std.proofs.lemmas.Option.{none-some, same_Some, slice_get_within}
pub use Rattle.std.specs.Prelude.{All, Contains, IfSome, count_by, filter, find, option_and_then, slice_set, ◌-◌}
