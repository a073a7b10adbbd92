-- The names from elsewhere that the proofs cite, passed on from one place. Declares nothing.
pub use Rattle.np_changes.proofs.Accepted.{ok-is, on-check, on-found, on-given, on-need, on-not, on-vacant, plan-next}
pub use Rattle.np_changes.proofs.Lookups.{kept-is, node-apart, request-apart, row-of, same_pool}
pub use Rattle.np_changes.proofs.Premises.{premises}
pub use Rattle.np_changes.proofs.Runs.{invariant-Runs, invariant-changed, invariant-start}
pub use Rattle.np_changes.proofs.Turns.{CameBy, came, edit-premise, pending-open, requested-open}
pub use Rattle.np_changes.specs.Parts.{Invariant, IsLauncher, IsNumbered}
pub use Rattle.np_changes.specs.Prelude.{Job}
pub use Rattle.np_changes.specs.declared.changes.Changes.{Changes}
pub use Rattle.np_changes.specs.declared.changes.Growth.{Growth}
pub use Rattle.np_changes.specs.declared.changes.Maker.{Maker}
pub use Rattle.np_changes.specs.declared.changes.RequestEdit.{RequestEdit}
pub use Rattle.np_changes.specs.declared.changes.SessionsChange.{SessionsChange}
pub use Rattle.np_janitor.specs.Lower.{AllByRecursion, Chooses, ChoosesOf, ChoosesOfAny, ChoosesRelease, Configuration, Declined, Done, EditPremise, Entry, Event, EventKind, Fault, FaultKind, GrowthPremise, IsFirst, IsFirstThatPasses, IsReached, IsSound, IsUseful, Janitor, JobId, JobKind, JobRecord, Launcher, MayDecline, NamesCurrent, NodeEntry, NodeId, NodeKind, NodeRecord, NodeState, NoneOf, NoneOpens, NoneReleased, Phase, PoolId, Premises, REQUESTERS, Reaper, Reason, Registration, RequestEntry, RequestId, RequestKind, RequestRecord, RequestState, Requester, RequesterId, Rises, Role, SessionFacts, SessionId, State, UnheldKind, changed, current_of, declined_with, due_after, due_of, edited, ended, first_declined_by_all, first_due, first_mute, first_unheld_pending, grown, has_current, has_due, has_some_handle, holder, is_asked, is_cleanable, is_cleanable_as, is_current, is_declined_by, is_declined_by_all, is_due, is_expire, is_failed, is_finishable, is_id_before, is_last_pool, is_maker_of, is_mute, is_node_of, is_old_hold, is_old_ready, is_past, is_paused, is_pending, is_pending_by, is_pool, is_requested, is_role, is_stopped, is_struck_by, is_unclaimed, is_unheld, is_unheld_as, is_unheld_pending, is_using, janitor, job_is, jobs_from, judge, left, list_all, maker, maker_of, may_finish, most, mute_from, muted, next, next_fault, node_entry, option_map, option_map_or, passes, passing, plan, ready_age, request_entry, request_holder, request_in, request_state_of, requester_or_janitor, same_kind, same_request, same_role, session_of, sessions_changed, sooner, soonest, start, state_after, strikes_of, undeclined, unheld_kind, unheld_kind_as}
pub use Rattle.np_janitor.specs.Struck.{due_at, lacks_registration, lock_due_at, tried_kinds, ChoosesFinish, NoneFinished, before_fail, janitor_order, ChoosesStrike, due_kind, strike_by, strike_of, strike_on}
pub use Rattle.np_lists.proofs.Changes.{all-at, all-change_at, all-filter_to, all-find, all-from_at, all-push, all-weaker, find-passes}
pub use Rattle.np_lists.proofs.Plain.{by_bool, false-apart, none-is, not-below, not-zero, some-of, some-unless}
pub use Rattle.np_lists.proofs.Searches.{none-find}
pub use Rattle.np_look.proofs.Looks.{session-at}
pub use Rattle.np_look.specs.Jobs.{is_job_to_finish, job_to_finish}
pub use Rattle.np_machine.proofs.Ids.{request-itself}
pub use Rattle.np_machine.specs.Request.{lock_pending}
pub use Rattle.np_useful.proofs.Useful.{StandsIn, among, before-end, below-jobs, current-has, current-names, current-speaks, kinds-choose, made-by, opening-chooses, passes-useful, passing-is, passing-none, same-role, same-there, useful-passes}
pub use Rattle.np_useful.specs.Kinds.{job_event}
pub use Rattle.std.proofs.Common.{Bool, List, None, Ok, Option, Some, ap, arith, below_more, cond, eqb-true, false, inl, inr, length, refl, subst, suc, sym, true, true≢false, zero, ℕ, [], ◌++◌, ◌+◌, ◌-◌, ◌<◌, ◌∙◌, ◌∷◌, ◌≡◌, ◌≤◌}
pub use Rattle.std.proofs.lemmas.Bool.{and_from, and_parts, cond-true, eq-eqb, or_left, or_parts, or_right, true_from_ne_false}
pub use Rattle.std.proofs.lemmas.Bool.Decides.{nat_tests}
pub use Rattle.std.proofs.lemmas.List.Elements.{All-get_or}
pub use Rattle.std.proofs.lemmas.List.Folds.{list_any-append}
pub use Rattle.std.proofs.lemmas.List.Sums.{sum_by-cons}
pub use Rattle.std.proofs.lemmas.Option.{get_or_from_slice_get, same_Some, slice_get_within}
pub use Rattle.std.specs.Prelude.{count_by, filter, find, fold, get_or, if◌then◌else◌, is_none, is_ok, is_some, nat_lt, not, option_and_then, slice_get, ◌&&◌, ◌==◌, ◌||◌}
