-- The names from elsewhere that the proofs cite, passed on from one place. Declares nothing.
pub use Rattle.np_changes.proofs.Accepted.{needed, ok-is, on-check, on-found, on-given, on-need, on-vacant}
pub use Rattle.np_changes.proofs.Lookups.{same_node, same_node-is}
pub use Rattle.np_changes.proofs.RequestStates.{PassesAt, any-place, node-place}
pub use Rattle.np_changes.proofs.Runs.{fulfilled-Runs, invariant-Runs}
pub use Rattle.np_changes.specs.Parts.{Invariant}
pub use Rattle.np_changes.specs.Prelude.{EndAs, Job, REQUESTERS, ◌>>=◌}
pub use Rattle.np_janitor.proofs.Janitors.{finishable-by, none-chosen}
pub use Rattle.np_janitor.proofs.Nodes.{each-node, maker-is}
pub use Rattle.np_janitor.proofs.Undeclined.{sessions-of_site}
pub use Rattle.np_jobs.specs.Steps.{ArePoolsIdle, AreRequestersIdle, IsIdle, IsPoolIdle, ChoosesInWindow, ChoosesOfNew, ChoosesToAcquire, ChoosesToFinish, ChoosesToLeave, ChoosesToTake, ChoosesToTakeOne, ChoosesUnderWay, NoLeave, NoNewStep, NoTake, NoneUnderWay, leaving, phase_is, requester_kinds}
pub use Rattle.np_jobs.specs.Lower.{AllByRecursion, Chooses, ChoosesOf, ChoosesOfAny, ChoosesRelease, Configuration, Done, Event, EventKind, IsReached, IsSettled, IsSound, IsUseful, Janitor, JobId, JobKind, JobRecord, Launcher, NodeEntry, NodeId, NodeKind, NodeRecord, NodeState, NoneOf, NoneOpens, NoneReleased, POOLS, Phase, Reaper, Refusal, RequestEntry, RequestId, RequestRecord, RequestState, Requester, RequesterId, Role, SemId, SessionFacts, SessionId, State, by_node_holder, first_full, has_fulfilled_request, has_handle, is_asked, is_asked_by, is_current, is_for, is_fulfilled, is_full, is_handed_over, is_in_use, is_in_window, is_job_to_acquire, is_job_to_begin, is_job_to_finish, is_job_to_take, is_listed, is_maker_of, is_new, is_over, is_own, is_queued, is_ready, is_role, is_supplied, is_unfinished, is_unfinished_job, job_is, job_to_acquire, job_to_begin, job_to_finish, job_to_take, jobs_from, jobs_of, judge, list_any, maker, maker_of, may_acquire, may_begin, missing_handles, node_entry, node_in, node_is, node_queue, none_missing, option_map, option_map_or, own_job, passes, request_entry, request_in, request_state_of, requester, row_holds, same_request, same_role, session_of, takes_part, unfinished_from, waits_for_handles, was_given, window_of}
pub use Rattle.np_launch.proofs.Finds.{count-cons, named, one, row-there, such-one}
pub use Rattle.np_lists.proofs.Changes.{all-at, find-passes, length-filter_at_most, list_any-there}
pub use Rattle.np_lists.proofs.Plain.{and-first, and-second, both-ways, by_bool, false-apart, from-map_some, member-there, none-is, some-within, then-ok}
pub use Rattle.np_lists.proofs.Searches.{none-find}
pub use Rattle.np_look.proofs.Looks.{session-at}
pub use Rattle.np_look.specs.Given.{asker, handed_to, is_given_to, is_to_leave, is_to_lock, node_to_leave, node_to_lock}
pub use Rattle.np_machine.specs.Safe.{IsGiven, OwnsItsLabels}
pub use Rattle.np_machine.specs.Semaphore.{is_finishable, may_finish, may_release, may_take, requester_or_janitor, unheld}
pub use Rattle.np_useful.proofs.Useful.{IsAmong, StandsIn, among, and-parts, before-end, below-jobs, current-speaks, find-place, job-maker, kinds-choose, made-by, named-place, node-maker, node-queued, opening-chooses, passes-useful, same-role, same-there, useful-passes}
pub use Rattle.np_useful.specs.Candidates.{is_from_node_queue}
pub use Rattle.np_useful.specs.Kinds.{job_event, node_event}
pub use Rattle.std.proofs.Common.{Bool, Err, List, None, Ok, Option, Result, Some, ap, arith, below_more, drop, false, length, refl, subst, suc, sym, take, true, zero, ℕ, [], ◌+◌, ◌<◌, ◌∙◌, ◌∷◌, ◌≡◌, ◌≤◌}
pub use Rattle.std.proofs.lemmas.Bool.{eqb-true, false_from_ne_true, not-true, or_right, true_from_ne_false}
pub use Rattle.std.proofs.lemmas.Bool.Decides.{nat_tests}
pub use Rattle.std.proofs.lemmas.List.{length-map}
pub use Rattle.std.proofs.lemmas.Option.{slice_get_within}
pub use Rattle.std.specs.List.{zip}
pub use Rattle.std.specs.Prelude.{count_by, filter, find, if◌then◌else◌, is_ok, is_some, map, is_none, nat_le, nat_lt, not, option_and_then, slice_get, ◌&&◌, ◌-◌, ◌==◌, ◌||◌, ◌↔◌}
