-- The names from elsewhere that the proofs cite, passed on from one place. Declares nothing.
pub use Rattle.np_changes.proofs.Accepted.{plan-next}
pub use Rattle.np_changes.proofs.Jobs.{jobs-grown}
pub use Rattle.np_changes.proofs.Lookups.{find-push_new, find-push_other, freed-id, freed-queue, grown-node, grown-numbered, leave-node, next-more, node_in-allocated, node_in-below, node_in-freed, node_in-in_use, node_in-other, node_in-put, node_in-remove, node_in-removed, nodes-after, numbered, row-of, session-low, used_from}
pub use Rattle.np_changes.proofs.Premises.{premises}
pub use Rattle.np_changes.proofs.RequestStates.{found-same, node-place, owns-if}
pub use Rattle.np_changes.proofs.Runs.{invariant-Runs, invariant-changed, invariant-start}
pub use Rattle.np_changes.specs.Parts.{DistinctSessions, Invariant, IsLive, IsLiveQueue, IsNumbered, IsQueued}
pub use Rattle.np_changes.specs.Premises.{IsMade, IsTaken}
pub use Rattle.np_changes.specs.declared.asked.Asked.{Asked}
pub use Rattle.np_classes.proofs.MemberLemmas.{ids-in_order, row-passes}
pub use Rattle.np_classes.proofs.Untouched.{request-untouched}
pub use Rattle.np_lists.proofs.Changes.{Rises-filter, all-at, all-change_at, all-filter, all-find, all-from_at, all-map, all-mapped, all-set, all-weaker, change_at-back, change_at-past, change_at-set, change_first-same, filter-nothing, find-passes, insert_before-end, length-change_at, length-filter_at_most, list_any-map, list_any-none, list_any-there, none-list_any, past-rank, slice_get-change_at, slice_get-change_at_other}
pub use Rattle.np_lists.proofs.Members.{IsLeast, group-equal, has-with, has-without, ids-has, ids-rise, least-found, member-equal, none-after, prefix-rank, rises-with, rises-without, same-itself, same-list}
pub use Rattle.np_lists.proofs.Plain.{above-apart, and-first, and-second, and_false, and_true, below-apart, by_bool, contrapositive, equal-numbers, find-alike, from-map_some, is-below, length-map, length-set, member-there, none-is, not-past, or_false, past-end, same_number, set-here, set-other, take-all, there-at}
pub use Rattle.np_lists.proofs.Searches.{apart, find-none, none-find, remove_first-none, slice_get-left, slice_get-middle}
pub use Rattle.np_look.proofs.Looks.{none_there, position-here, position-later, queue-fits, take_there}
pub use Rattle.np_look.specs.Jobs.{request_view}
pub use Rattle.np_look.specs.declared.asked.RequestView.{RequestView}
pub use Rattle.np_lookups.specs.Lookups.{holder_at, lists_ended, lists_joined, lists_left, lists_removed, lists_without, lookups_grown, lookups_settled, owners_changed, owners_grown, owners_taken_back, owners_with, queue_at, unfinished_changed, ids_of, list_at, with_id, without_id, AreLookupsOf, AreNodesOf, AreOwners, AreRequestsOf, AreUnfinished, HasRoom, LookupsOf, owner_at}
pub use Rattle.np_lookups.specs.Open.{is_like, is_of_line, line_of, same_labels, AreOpen, AreRequested, IsLineFrom, IsOpenFrom, IsWaiting, OpenOf, closed_group, first_line, is_closed_rank, is_closed_to, is_found_in, is_requested_at, line_after, line_if, open_group, pool_of, rank_is_in, ranks_of, IsRunEnd, count_before, is_run}
pub use Rattle.np_lookups.specs.Lower.{AllByRecursion, AsksForJob, Changes, Configuration, Declined, EndAs, EndsNode, Entry, Event, FinishesJob, Frees, GivesUp, Group, Growth, GrowthPremise, IsPlanned, IsReached, IsSound, Job, JobId, JobRecord, JobsChange, JobsPremise, LabelId, Locked, Maker, MakerPremise, Marked, Member, NodeEntry, NodeId, NodeRecord, NodeState, NodesChange, NodesPremise, NonePass, Phase, PoolId, Premises, PutsJob, PutsNode, Reports, RequestEntry, RequestId, RequestRecord, RequesterId, RequestsChange, RequestsPremise, Rises, SessionFacts, SessionId, SessionsChange, SessionsPremise, Starts, State, TakesOver, TenantId, Withdraws, all_in_use, allocated, change_at, change_first, changed, edited, ended, ended_as, first_unoffered, freed, freed_from, group_from, grown, has_limit, has_member, holder, ids_in, in_use, insert_before, is_asked, is_building, is_declined_by, is_group_before, is_id_before, is_job_before, is_marked, is_member_before, is_new, is_node_before, is_open_to, is_over, is_pinned_away, is_queued, is_ready, is_request, is_requested, is_session, is_tenant, is_unfinished_job, is_using, jobs_changed, joined, judge, left, list_any, marked, member, muted, never_fits, new_job, new_record, next, next_id, node_entry, node_equal, node_in, node_one_way, node_queue, nodes_changed, nodes_left, option_map, option_map_or, owner_of, plan, position, queued_nodes, queued_requests, remove_first, remove_node, request_after_withdraw, request_entry, request_equal, request_in, request_one_way, request_queue, requests_changed, requests_left, same_group, same_job, same_node, same_request, sessions_changed, start, state_after, touches_request, unended, unfinished_from, with_mark}
pub use Rattle.np_lookups.specs.Moves.{AreAsKept, AreBy, IsEither, closed_member, is_found_closed, is_found_open, open_member, passes_moved, passes_with, rank_of, same_members, with_moved, with_one, without_one}
pub use Rattle.np_lookups.specs.Waits.{AreListed, IsPrepared, is_listed, past_of, has_ended, by, ending, joins_node, joins_request, leaves_node, leaves_request, removed_node, removed_request}
pub use Rattle.np_lookups.specs.Ranks.{is_rank_before, rank_equal, rank_one_way, rank_some_way, rank_transitive, same_rank}
pub use Rattle.np_lookups.specs.declared.moves.Past.{Past}
pub use Rattle.np_lookups.specs.declared.ranks.Rank.{Rank}
pub use Rattle.np_lookups.specs.declared.waits.Wait.{Wait}
pub use Rattle.np_machine.specs.First.{blocking, short_tenant}
pub use Rattle.np_machine.specs.Order.{is_elsewhere}
pub use Rattle.np_machine.specs.Tenants.{limit_of_tenant, passes_tenant, tenant_of_request}
pub use Rattle.np_text.specs.declared.word.RequestState.TheVariants.{Requested}
pub use Rattle.std.proofs.Common.{Bool, IfSome, List, None, Option, Some, ap, append-nil, arith, cond, drop, eq-eqb, eqb-true, false, get_or, inl, inr, le_refl, length, length-append, map, not, refl, subst, suc, sym, take, true, vec_len, zero, ℕ, [], ◌*◌, ◌++◌, ◌+◌, ◌-◌, ◌<◌, ◌∙◌, ◌∷◌, ◌≡◌, ◌≤◌, ◌⊎◌}
pub use Rattle.std.proofs.lemmas.Bool.{and_from, cases_lt, eqb-false, false_from_ne_true, false≢true, or_left, or_right}
pub use Rattle.std.proofs.lemmas.Bool.Decides.{nat_tests}
pub use Rattle.std.proofs.lemmas.List.{length-take-le, map-append, take_all}
pub use Rattle.std.proofs.lemmas.List.Elements.{All-get_or, filter-append}
pub use Rattle.std.proofs.lemmas.List.Folds.{list_any-append}
pub use Rattle.std.proofs.lemmas.List.Sums.{count_by-le-length, sum_by-cons}
pub use Rattle.std.proofs.lemmas.Option.{get_or_from_slice_get, none-some, same_Some, slice_get-get_or, slice_get_past, slice_get_within}
pub use Rattle.std.proofs.lemmas.Slice.Eq.{slice_eq-Decides}
pub use Rattle.std.specs.Bool.{Decides}
pub use Rattle.std.specs.List.{count_by, prefix_len}
pub use Rattle.std.specs.Prelude.{filter, find, if◌then◌else◌, is_none, is_ok, is_some, nat_lt, option_and_then, replicate, slice_get, slice_set, unwrap_or, ◌&&◌, ◌==◌, ◌||◌}
