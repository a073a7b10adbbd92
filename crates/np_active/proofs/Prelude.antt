-- The names from elsewhere that the proofs cite, passed on from one place. Declares nothing.
pub use Rattle.np_active.specs.Active.{ActiveOf, AreActive, AreGroups, AreJobGroups, AreSessionGroups, JobKind, SessionKind, ending_ones, is_job_in, is_job_of, is_kind_in, is_of_kind, job_group, lacking_group, lacking_ones, live_group, live_ones, mute_group, mute_ones, prompt_group, prompt_ones, releasing_ones, role_group, session_group, speakers, supplied_ones, waiting_group, waiting_ones, line_of, same_semaphores}
pub use Rattle.np_active.specs.Given.{IsBest, at_line, comes_first, earlier_job, first_line, first_of_line, is_free, line_after, line_if, may_begin_of, AreGivenGroups, given_group, groups_by, groups_of_node, locked_group, IsPrepared, PreparedOf, placed_node, nodes_by_job, nodes_by_state, nodes_of_request, touches_given, groups_within, locked_groups}
pub use Rattle.np_active.specs.Lower.{AllByRecursion, Changes, Configuration, Group, IsReached, IsTouched, Job, JobId, JobRecord, JobsChange, Member, NodeEntry, NodeId, NodeRecord, Placed, RequestEntry, RequestId, RequestRecord, RequestState, RequesterId, RequestsChange, Rises, Role, SemId, SessionFacts, SessionId, State, TenantId, TouchedOf, allocated, asker, change_first, changed, current_of, edited, first_full, first_mute, given_to, grown, handed_to, has_handle, has_live_session, has_member, ids_in, is_among, is_asked, is_fulfilled, is_full, is_given_to, is_group_before, is_job_before, is_job_to_acquire, is_job_to_begin, is_member_before, is_node_before, is_queued, is_session_before, is_supplied, is_to_leave, is_to_lock, job_equal, job_one_way, job_some_way, job_to_acquire, job_to_begin, jobs_changed, jobs_from, joined, left, list_any, mute_from, node_entry, node_equal, node_in, node_one_way, node_queue, node_to_leave, node_to_lock, nodes_changed, nodes_left, option_map, option_map_or, option_or, put_node_queue, queued_nodes, request_in, request_state_of, requests_changed, same_group, same_job, same_node, same_request, same_role, same_session, session_equal, session_one_way, session_some_way, speaker_from, speaks_for, touches_job, touches_node, unclaims_node, with_all_moved, with_mark, with_moved}
pub use Rattle.np_active.specs.Placed.{groups_of_job, groups_of_session, kind_by, kind_of_job, kind_of_rows, kinds_of_facts, no_kinds, IsPast, PastOf, job_before, past_job, past_session, session_before}
pub use Rattle.np_changes.proofs.Jobs.{jobs-grown}
pub use Rattle.np_changes.proofs.Lookups.{calm-request, found-grown, grown-numbered, later-node-apart, left-request, node_in-allocated, node_in-later, node_in-queue, node_queue-allocated, node_queue-freed, node_queue-in_use, node_queue-left, node_queue-new, node_queue-nowhere, node_queue-other, node_queue-put, node_queue-queue, node_queue-remove, node_queue-removed, numbered, request_in-edit, request_in-remove, same_node-is, same_semaphore}
pub use Rattle.np_changes.proofs.Runs.{invariant-Runs}
pub use Rattle.np_changes.proofs.Shapes.{length-left}
pub use Rattle.np_changes.specs.Parts.{Invariant, IsListed, IsNumbered}
pub use Rattle.np_changes.specs.declared.changes.Growth.{Growth}
pub use Rattle.np_changes.specs.declared.changes.Maker.{Maker}
pub use Rattle.np_changes.specs.declared.changes.NodesChange.{NodesChange}
pub use Rattle.np_changes.specs.declared.changes.SessionsChange.{SessionsChange}
pub use Rattle.np_classes.proofs.MemberLemmas.{below, below-next, below-none, grouped-moved, ids-in_order, jobs-in_order, made, made-all, made-next, moved-by, nodes-in_order, none-found, row-passes, rows-found, same_node-self, sessions-in_order}
pub use Rattle.np_classes.proofs.Untouched.{asked-untouched, handle-untouched, job-untouched, node-untouched, session-untouched}
pub use Rattle.np_classes.specs.Placed.{AreGrouped, IsOrder, placed_all}
pub use Rattle.np_lists.proofs.Changes.{Rises-filter, all-weaker, filter-nothing, find-passes, kept-change_at}
pub use Rattle.np_lists.proofs.Members.{each-moved, group-apart, group-equal, group-one_way, group-turned, ids-has, ids-rise, rises-all_moved, same-itself, same-list}
pub use Rattle.np_lists.proofs.Plain.{and_false, any-same, by_bool, contrapositive, drop-there, equal-numbers, not-below, past-end, same_number, set-other}
pub use Rattle.np_lists.specs.Ranks.{outside}
pub use Rattle.np_look.proofs.Looks.{none_there, queue-fits, take_there}
pub use Rattle.np_machine.proofs.Ids.{request-equal, request-itself}
pub use Rattle.std.proofs.Common.{Bool, List, None, Option, Some, add-one, ap, append_assoc, arith, cond, drop, false, inl, inr, length, length-append, map, not, refl, subst, suc, sym, take, true, zero, ℕ, [], ◌*◌, ◌++◌, ◌+◌, ◌-◌, ◌<◌, ◌^◌, ◌∙◌, ◌∷◌, ◌≡◌, ◌≤◌, ◌⊎◌}
pub use Rattle.std.proofs.lemmas.Bool.{and_parts, cases_order, not-true, or_parts}
pub use Rattle.std.proofs.lemmas.Bool.Decides.{nat_tests}
pub use Rattle.std.proofs.lemmas.List.{map-append, take_all}
pub use Rattle.std.proofs.lemmas.List.Folds.{list_any-append}
pub use Rattle.std.proofs.lemmas.Option.{slice_get-map, slice_get_past, slice_get_within}
pub use Rattle.std.proofs.lemmas.Simd.{map-map}
pub use Rattle.std.proofs.lemmas.Slice.Eq.{slice_eq-Decides}
pub use Rattle.std.specs.Bool.{Decides}
pub use Rattle.std.specs.Prelude.{filter, find, is_none, is_some, nat_lt, option_and_then, slice_get, vec_capacity, vec_len, ◌&&◌, ◌==◌}
