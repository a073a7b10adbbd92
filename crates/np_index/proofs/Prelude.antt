-- The names from elsewhere that the proofs cite, passed on from one place. Declares nothing.
pub use Rattle.np_active.proofs.Searches.{lines_left, found-least as key-least, found-there as key-there, none-found as no-key}
pub use Rattle.np_active.specs.Placed.{IsPast, PastOf}
pub use Rattle.np_amount.proofs.Sums.{minus-plus, nothing-plus, plus-assoc, plus-comm, same_amount, times-suc, total-filter_at_most, total_more}
pub use Rattle.np_changes.proofs.Accepted.{plan-next}
pub use Rattle.np_changes.proofs.Lookups.{later-node-apart, later-request-apart, numbered, rises-insert_before, rises-remove_first, rows-few, same_label}
pub use Rattle.np_changes.proofs.NodeAmounts.{IsPart, part_bound, passed_total, swapped}
pub use Rattle.np_changes.proofs.Runs.{invariant-Runs}
pub use Rattle.np_changes.proofs.Shapes.{RequestShape, Shaped, shape-Runs, shape-next, sound_fits}
pub use Rattle.np_changes.specs.declared.asked.Asked.{Asked}
pub use Rattle.np_classes.proofs.MemberLemmas.{classes-same, filter-each, ids-in_order, row-passes, rows-found, same-declines, same_node-self}
pub use Rattle.np_classes.proofs.Untouched.{record-stays}
pub use Rattle.np_config.specs.Configuration.{default_tenant}
pub use Rattle.np_index.specs.Index.{candidate_of, candidate_ranks, earlier_rank, in_order, is_past, may_take_up, next_among, open_record, IsIndexOf, IsPreparedFor, first_of_set, is_late, is_of_set, taken_by, third_if}
pub use Rattle.np_index.specs.Lower.{ActiveOf, AllByRecursion, Amount, AmountFits, AreActive, AreClasses, AreGiven, AreGivenGroups, AreJobGroups, AreListed, AreLookupsOf, AreNodeGroups, AreOpen, AreRequestGroups, AreSessionGroups, Changes, ClassesOf, Configuration, Declined, Fits, Group, IsFew, IsFitSite, IsJob, IsLineFrom, IsOpenFrom, IsPlanned, IsReached, IsSound, IsTouched, IsWaiting, IsWalkedPast, Job, JobId, LabelId, NodeEntry, NodeId, Offer, OpenOf, PoolId, Rank, Registration, RequestEntry, RequestFits, RequestId, RequestRecord, Rises, StandsByOwner, State, TenantId, TouchedOf, amount_of, amount_of_all, amount_of_node, asked_of, blocking, change_at, changed, comes_before, coming_group, coming_group_of, count_of, decline_set, declined_group, declined_group_of, due_of, earlier, first_due, first_line, first_of, first_unheld_pending, fits, free_group, free_ready_of, group_after, group_from, group_if, has_member, holder, ids_in, insert_before, is_among, is_candidate, is_closed_rank, is_coming, is_declined_by, is_declined_by_all, is_free_ready, is_group_before, is_id_before, is_kind, is_member_before, is_pending, is_pending_by, is_pending_of, is_rank_before, is_ready, is_requested, is_requested_at, is_short, is_spare, is_spent_min_ready, is_still_requested, is_stuck, is_tenant, is_unclaimed, is_under_way_by, is_unheld_as, is_unheld_pending, kind_group, least, limit_of, limit_of_tenant, limited_tenant, line_after, line_of, list_any, lookups_made, member, minus, new_record, next, next_label, next_label_group_of, node_entry, node_groups, node_is_in, nothing, option_map, option_map_or, pending_group, pending_group_of, pending_requests, pinned_label_group_of, plus, rank_equal, rank_of, rank_one_way, rank_transitive, ranks_of, remove_first, request_entry, request_groups, request_holder, request_in, request_is_in, request_view, rest_of, rest_of_request, same_group, same_kind, same_member, same_rank, same_request, sooner, soonest, spare_group, spent_group, spent_group_of, tenant_group, tenant_of_request, times, total, undeclined, unheld_class, unheld_group, unheld_group_of, unheld_kind, unheld_pending_group, unheld_pending_group_of}
pub use Rattle.np_index.specs.Waiting.{AreAwaited, AreSmall, IsSmall, OthersStay, amount_at, awaited_by, exchange, first_rest, rest_at, rest_by, with_rest, without_rest, beside_if, is_in_tenant_group, is_beside, is_pinned_as, is_stuck_as, is_stuck_label, is_under_way_as, label_group, label_if}
pub use Rattle.np_index.specs.declared.awaited.Rest.{Rest}
pub use Rattle.np_lists.proofs.Changes.{EachAfter-at, Rises-filter, all-at, all-filter, all-filter_to, all-find, all-from_at, all-insert_before, all-weaker, change_at-past, change_at-set, filter-nothing, find-passes, length-change_at, length-filter_at_most, list_any-insert_before, list_any-none, none-list_any, slice_get-change_at}
pub use Rattle.np_lists.proofs.Members.{IsLeast, group-apart, group-equal, group-is, group-itself, group-not_before, group-one_way, group-some_way, group-transitive, group-turned, ids-has, ids-rise, least-found, same-list}
pub use Rattle.np_lists.proofs.Plain.{and-first, and-second, and_false, and_true, any-same, below-apart, both-ways, by_bool, contrapositive, drop-past, not-past, past-end, suc-not_zero, drop-there as there}
pub use Rattle.np_lists.proofs.Searches.{find-none, none-find}
pub use Rattle.np_lists.specs.Moves.{is_place}
pub use Rattle.np_lists.specs.declared.groups.Member.{Member}
pub use Rattle.np_look.proofs.Looks.{any_found, any_later, as_it_is, blocks, has_room, none_there, total_seen}
pub use Rattle.np_look.specs.Keys.{is_node_before, node_equal, node_one_way, request_equal, request_one_way, same_node}
pub use Rattle.np_look.specs.declared.asked.RequestView.{RequestView}
pub use Rattle.np_look.specs.declared.asked.UnheldKind.{UnheldKind}
pub use Rattle.np_lookups.proofs.LineLemmas.{closed-shut, filter-open_from, first-line, line-blocks, next-line, rank-waits, ranks-are, same_rank-itself, waits-there}
pub use Rattle.np_machine.proofs.Ids.{request-equal, request-itself}
pub use Rattle.np_machine.specs.Count.{number_of, offers_of}
pub use Rattle.std.proofs.Common.{Bool, Global, List, None, Option, Some, Vec, add-one, ap, arith, cond, drop, false, get_or, inl, inr, length, length-drop, map, nat_lt, not, refl, slice_get, subst, suc, sym, take, true, zero, ℕ, [], ◌*◌, ◌++◌, ◌+◌, ◌-◌, ◌<◌, ◌^◌, ◌∙◌, ◌∷◌, ◌≡◌, ◌≤◌, ◌⊎◌}
pub use Rattle.std.proofs.Math.Bool.{or-false}
pub use Rattle.std.proofs.lemmas.Bool.{and_from, cases_order, eq-eqb, eqb-true, false_from_ne_true, not-true, or_right}
pub use Rattle.std.proofs.lemmas.Bool.Decides.{nat_tests}
pub use Rattle.std.proofs.lemmas.List.{length-map, length-replicate, length-take, replicate_more, take_all}
pub use Rattle.std.proofs.lemmas.List.Sums.{length-filter, sum_by-cons}
pub use Rattle.std.proofs.lemmas.Option.{get_or_from_slice_get, slice_get-get_or, slice_get-map, slice_get_past, slice_get_within}
pub use Rattle.std.specs.Prelude.{IfSome, count_by, filter, find, fold, if◌then◌else◌, is_none, is_some, option_and_then, replicate, slice_set, ◌&&◌, ◌==◌, ◌||◌}
