-- The names from elsewhere that the proofs cite, passed on from one place. Declares nothing.
pub use Rattle.np_changes.proofs.Accepted.{launcher-heard, ok-is, on-found, on-given, on-need, on-not, on-vacant, plan-next}
pub use Rattle.np_changes.proofs.Lookups.{kept-is, node-apart, request-apart, request_queue-left, row-of, same_node-is, same_pool}
pub use Rattle.np_changes.proofs.Premises.{premises}
pub use Rattle.np_changes.proofs.Queues.{IsNotOver, facts-stay, queue-after}
pub use Rattle.np_changes.proofs.RequestStates.{any-place, node-place}
pub use Rattle.np_changes.proofs.Runs.{invariant-Runs, invariant-next, invariant-start}
pub use Rattle.np_changes.proofs.Turns.{holder-waits}
pub use Rattle.np_changes.proofs.Waits.{served-by}
pub use Rattle.np_changes.specs.Parts.{Invariant, IsLauncher, IsNumbered, IsServed, StandsIn}
pub use Rattle.np_changes.specs.Plan.{plan, plan_lock_request, same}
pub use Rattle.np_changes.specs.Prelude.{◌>>=◌, ◌>>◌}
pub use Rattle.np_changes.specs.declared.asked.Asked.{Asked}
pub use Rattle.np_changes.specs.declared.changes.Changes.{Changes}
pub use Rattle.np_changes.specs.declared.changes.Growth.{Growth}
pub use Rattle.np_changes.specs.declared.changes.Maker.{Maker}
pub use Rattle.np_changes.specs.declared.changes.SessionsChange.{SessionsChange}
pub use Rattle.np_launch.specs.Computed.{computed_at, computed_places, decline_at, first_free, first_reason, first_takable, is_reason, is_takable, pool_of, pool_of_role, reason_of, same_reason, take_ready_at, is_near_below, is_served_by_sister, launcher_requests, near_pool, sister_requests, unserved_requests}
pub use Rattle.np_launch.specs.Lower.{Chooses, ChoosesOf, ChoosesOpening, Configuration, Done, Entry, Event, GrowthPremise, IsFirst, IsFirstThatPasses, IsHeard, IsReached, IsUseful, Label, LabelId, Launcher, Lock, MakerPremise, Node, NodeEntry, NodeId, NodeKind, NodeRecord, NoneOf, NoneOpens, Outcome, Pool, PoolId, Premises, Reason, Refusal, Registration, Request, RequestEntry, RequestId, RequestKind, RequestRecord, RequestState, Rises, Role, SessionFacts, SessionId, State, as_launcher, asked_of, blocking, changed, earlier, first_of, first_unoffered, free_ready_of, grown, has_current, has_failed_node, holder, is_as_planned, is_by_registrant, is_candidate, is_current, is_declined_by, is_first_reason, is_held_near, is_id_before, is_in_hand, is_kind, is_listed, is_maker_of, is_node, is_pending, is_pending_by, is_pinned_away, is_planned, is_pool, is_queued, is_ready, is_request, is_requested, is_served_near, is_session, is_session_of, is_sister, is_sister_launcher, is_spare, is_spent, is_to_launch, is_wanted_by, judge, judge_lock_request, launcher, least, lock_request_as, maker, maker_of, may_take_ready, need, never_fits, new_record, next, next_label, node_entry, node_holder, node_in, node_is, node_queue, option_map, option_map_or, other_than, outcome_of, passes, passing, pending_requests, provider_of, queued_nodes, queued_requests, registered, registrations_left, request_entry, request_holder, request_in, request_is, request_queue, requests_changed, requests_left, requests_near, role_of, same_outcome, same_request, same_role, session_of, start, state_after, tenant_never_fits, vacant, wrong_node, wrong_request}
pub use Rattle.np_launch.specs.Planned.{served_request, ChoosesComputed, ChoosesLaunched, ChoosesOfAnyKind, NoneComputed, NoneLaunched, launcher_order, is_in_hand_at, ChoosesPlanned, ChoosesPlannedOf, ChoosesPlannedOfAny, NonePlanned, planned_at, planned_order, planned_places}
pub use Rattle.np_launch.specs.declared.computed.ComputedKind.{ComputedKind}
pub use Rattle.np_launch.specs.declared.launcher.LaunchKind.{LaunchKind}
pub use Rattle.np_launch.specs.declared.launcher.LaunchKind.TheVariants.{Plain}
pub use Rattle.np_launch.specs.declared.planned.PlannedKind.{PlannedKind}
pub use Rattle.np_lists.proofs.Changes.{all-at, all-filter_to, all-find, all-from_at, find-filter, find-insert_before, find-passes, length-filter_at_most, list_any-there}
pub use Rattle.np_lists.proofs.Plain.{by_bool, equal-itself, equal-numbers, false-apart, from-map_some, map-some, member-there, not-past, not-zero, or_true, past-end, some-unless}
pub use Rattle.np_lists.proofs.Searches.{find-none, none-find}
pub use Rattle.np_look.proofs.Looks.{any_found, any_later, as_it_is, count_here}
pub use Rattle.np_look.specs.Jobs.{request_view}
pub use Rattle.np_look.specs.declared.asked.RequestView.{RequestView}
pub use Rattle.np_machine.proofs.Ids.{node-itself, request-equal, request-itself, session-equal}
pub use Rattle.np_useful.proofs.Useful.{current-has, current-opens, current-speaks, drop-past, find-place, first-chooses, holder-queued, made-by, named-place, passes-useful, passing-is, passing-none, queued-node, queued-request, same-role, useful-passes}
pub use Rattle.np_useful.specs.declared.kind.EventKind.{EventKind}
pub use Rattle.std.proofs.Common.{Bool, Err, List, None, Ok, Option, Result, Some, [], add-one, ap, arith, cond, drop, false, length, refl, subst, suc, sym, take, true, true≢false, zero, ℕ, ◌+◌, ◌-◌, ◌<◌, ◌∙◌, ◌∷◌, ◌≡◌, ◌≤◌}
pub use Rattle.std.proofs.lemmas.Bool.{and_parts, not-true, true_from_ne_false}
pub use Rattle.std.proofs.lemmas.Bool.Decides.{nat_tests}
pub use Rattle.std.proofs.lemmas.List.{length-map}
pub use Rattle.std.proofs.lemmas.List.Sums.{count_by-le-length, length-filter, sum_by-cons}
pub use Rattle.std.proofs.lemmas.Option.{option_and_then_some, slice_get_within}
pub use Rattle.std.specs.Cmp.{both_ways}
pub use Rattle.std.specs.Cmp.Derive.{both_true}
pub use Rattle.std.specs.List.{AllByRecursion, list_any}
pub use Rattle.std.specs.Prelude.{count_by, filter, find, fold, if◌then◌else◌, is_none, is_ok, is_some, map, nat_lt, not, option_and_then, slice_get, ◌&&◌, ◌==◌, ◌||◌}
