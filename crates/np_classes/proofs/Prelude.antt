-- The names from elsewhere that the proofs cite, passed on from one place. Declares nothing.
pub use Rattle.np_changes.proofs.Jobs.{jobs-grown}
pub use Rattle.np_changes.proofs.Lookups.{calm-request, found-grown, grown-request, left-request, made-look, node_in-allocated, node_in-freed, node_in-in_use, node_in-left, node_in-other, node_in-put, node_in-queue, node_in-remove, node_queue-allocated, node_queue-freed, node_queue-in_use, node_queue-left, node_queue-nowhere, node_queue-other, node_queue-put, node_queue-queue, node_queue-remove, numbered, remove-alone, request_in-below, request_in-edit, request_in-insert, request_in-queue, request_in-remove, request_queue-edit, request_queue-insert, request_queue-left, request_queue-nowhere, request_queue-queue, request_queue-remove, used_from}
pub use Rattle.np_changes.proofs.Premises.{premises}
pub use Rattle.np_changes.proofs.Queues.{facts_in}
pub use Rattle.np_changes.proofs.Runs.{invariant-Runs}
pub use Rattle.np_changes.specs.Parts.{AllocationsListed, Invariant, IsAsking, IsNumbered, JobIn, JobsStand}
pub use Rattle.np_changes.specs.Premises.{EditPremise, EmptiesRequest, GoesWithdrawn, IsMade, IsTaken, NodesPremise, Premises, RequestsPremise}
pub use Rattle.np_changes.specs.declared.asked.Asked.{Asked}
pub use Rattle.np_changes.specs.declared.changes.Maker.{Maker}
pub use Rattle.np_changes.specs.declared.changes.RequestEdit.{RequestEdit}
pub use Rattle.np_classes.specs.Classes.{AreClasses, AreNodeGroups, AreRequestGroups, ClassesOf, decline_set, node_groups, node_is_in, request_groups, request_is_in, unheld_pending_group, unheld_pending_group_of}
unfoldable pub use Rattle.np_classes.specs.Classes.{decline_digits}
pub use Rattle.np_classes.specs.Placed.{AreGrouped, IsOrder, placed_all, groups_of_node, groups_of_request, no_node_groups, no_request_groups, node_before, past_node, past_queue, past_request, queue_before, request_before, unheld_groups}
pub use Rattle.np_classes.specs.Listed.{IsTouched, TouchedOf, changed_nodes, changed_requests, ended, grown_nodes, grown_queues, grown_requests, left_queues, touched_nodes, touched_queues, touched_requests, unclaimed_nodes, IsPast, PastOf}
pub use Rattle.np_classes.specs.Lower.{AllByRecursion, Changes, Configuration, Declined, Group, Growth, HandlesChange, IsPlanned, IsReached, JobId, JobRecord, JobsChange, Member, NodeEntry, NodeId, NodeRecord, NodesChange, NonePass, Phase, Placed, PoolId, RequestEntry, RequestId, RequestRecord, RequestsChange, Rises, SemId, SessionFacts, SessionId, SessionsChange, State, TenantId, allocated, change_at, change_first, changed, edited, freed, grown, handles_changed, has_handle, has_member, holder, is_among, is_asked, is_declined_by, is_id_before, is_job_before, is_member_before, is_new, is_node_before, is_pending, is_queued, is_request, is_session, is_session_before, is_unclaimed, job_equal, job_one_way, job_some_way, job_transitive, jobs_changed, joined, left, list_any, muted, new_node, node_equal, node_holder, node_in, node_one_way, node_queue, node_some_way, node_transitive, nodes_changed, nodes_left, option_map_or, put_node_queue, put_request_queue, queued_nodes, queued_requests, registers, request_equal, request_holder, request_in, request_one_way, request_queue, request_some_way, request_transitive, requests_changed, requests_left, same_group, same_job, same_node, same_request, same_session, semaphores_of, session_equal, session_of, session_one_way, session_some_way, session_transitive, sessions_changed, shift, standing, tenant_of_request, with_all_moved, with_groups, with_handle, with_mark, with_moved, without_handle}
pub use Rattle.np_classes.specs.Touched.{asker_of, beginning, changed_job, changes_node, changes_request, ends_at_node, ends_at_request, grows_node, grows_request, grows_request_queue, job_of_request, leaves_request_queue, releasing, stopping, taking, touched_jobs, touched_sessions, touches_job, touches_node, touches_request, touches_request_queue, touches_session, unclaims_node}
pub use Rattle.np_lists.proofs.Changes.{all-filter, all-mapped, filter-not_none, kept-change_at, list_any-insert_before, list_any-none, none-list_any, slice_get-change_at_other}
pub use Rattle.np_lists.proofs.Members.{all-moved, each-moved, group-equal, rises-all_moved}
pub use Rattle.np_lists.proofs.Plain.{contrapositive, map-push, or_false, or_true, set-other, take-all}
pub use Rattle.np_look.proofs.Looks.{none_there, take_there}
pub use Rattle.std.proofs.Common.{Bool, List, None, Option, Some, ap, arith, cond, drop, false, inl, inr, length, map, refl, subst, suc, sym, take, true, zero, ℕ, [], ◌*◌, ◌++◌, ◌+◌, ◌-◌, ◌<◌, ◌^◌, ◌∙◌, ◌∷◌, ◌≡◌, ◌≢◌, ◌≤◌, ◌⊎◌}
pub use Rattle.std.proofs.Math.Nat.{pow-le-pow_right}
pub use Rattle.std.proofs.lemmas.Bool.{cases_lt, or_parts}
pub use Rattle.std.proofs.lemmas.Bool.Decides.{nat_tests}
pub use Rattle.std.proofs.lemmas.List.Folds.{list_any-append}
pub use Rattle.std.proofs.lemmas.Simd.{map-map}
pub use Rattle.std.specs.Option.{option_map}
pub use Rattle.std.specs.Prelude.{filter, find, fold, if◌then◌else◌, is_none, nat_lt, option_and_then, option_to_list, slice_get, unwrap_or, ◌&&◌, ◌==◌, ◌||◌}
