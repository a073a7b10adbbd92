-- The names from elsewhere that the proofs cite, passed on from one place. Declares nothing.
pub use Rattle.np_changes.proofs.Accepted.{decline-first, launcher-role, plan-next, take_ready-room}
pub use Rattle.np_changes.proofs.Jobs.{jobs-grown}
pub use Rattle.np_changes.proofs.Lookups.{request-apart}
pub use Rattle.np_changes.proofs.Premises.{premises}
pub use Rattle.np_changes.proofs.Runs.{invariant-Runs, ok-what}
pub use Rattle.np_changes.proofs.Shapes.{Shaped, shape-Runs, shape-next, sound_fits}
pub use Rattle.np_changes.specs.Parts.{IsNumbered}
pub use Rattle.np_changes.specs.Premises.{EndsSession, Premises, SessionsPremise}
pub use Rattle.np_changes.specs.declared.changes.JobsChange.{JobsChange}
pub use Rattle.np_changes.specs.declared.changes.NodesChange.{NodesChange}
pub use Rattle.np_lists.proofs.Changes.{all-at, all-filter, all-find, all-get_or, all-map, all-mapped, all-set, all-weaker, change_at-past, change_at-set, change_first-same, filter-not_none, insert_before-end, length-change_at, none-list_any}
pub use Rattle.np_lists.proofs.Plain.{equal-itself, is-below}
pub use Rattle.np_machine.proofs.Ids.{request-itself}
pub use Rattle.np_tables.specs.CanChange.{CanSettle, TakesEdit, edited_in_room, IsCountable, Kept, CanEnd, changed_in_queues, AreQueuesOf, has_place, rooms_of, rows_of}
pub use Rattle.np_tables.specs.Lower.{AllByRecursion, Changes, Configuration, Done, Event, Fits, Growth, IsFitSite, IsPlanned, IsReached, Janitor, JobId, JobRecord, LabelId, Launcher, Locked, Maker, NodeEntry, NodeId, NonePass, PoolId, Reason, Refusal, Registration, RequestEntry, RequestFits, RequestId, RequestRecord, Requester, RequestsChange, Rises, Role, RoleFits, RoleRecord, Roomy, SessionFacts, SessionId, SessionsChange, State, TenantId, all_in_use, all_with_handle, all_without_handle, allocated, by_maker, change_at, change_first, changed, edited, ended, grown, insert_before, is_among, is_id_before, is_node_before, is_queued, is_session, janitor, jobs_changed, joined, judge, judge_decline, judge_take_ready, launcher, left, made_by, maker, marked, muted, new_job, next, next_label, no_deeds, node_in, node_left, node_queue, nodes_changed, one_more_act, one_more_start, option_map_or, plan, put_node_queue, put_request_queue, remove_first, request_entry, request_in, request_left, request_of_job, request_queue, requester, requests_changed, same_node, same_request, session_of, start, struck_unless, with_found, with_given, with_handle, with_mark, without_handle}
pub use Rattle.std.proofs.Common.{Bool, Err, List, None, Ok, Option, Result, Some, add-one, ap, arith, cond, drop, false, get_or, length, refl, rules, subst, suc, sym, take, true, zero, ℕ, [], ◌++◌, ◌-◌, ◌<◌, ◌^◌, ◌∙◌, ◌∷◌, ◌≡◌, ◌≤◌}
pub use Rattle.std.proofs.lemmas.Bool.Decides.{nat_tests}
pub use Rattle.std.proofs.lemmas.Fn.{filter_same}
pub use Rattle.std.proofs.lemmas.List.{at_drop_all, length-map, length-set, take_all}
pub use Rattle.std.proofs.lemmas.List.Quantifiers.{position-Some}
pub use Rattle.std.proofs.lemmas.Option.{slice_get-get_or, slice_get_within}
pub use Rattle.std.specs.List.{insert, position, position_or_len}
pub use Rattle.std.specs.Prelude.{filter, find, is_ok, is_some, map, nat_lt, replicate, slice_get, slice_set, ◌==◌, ◌||◌}
