-- What the definitions take from the crates below, passed on from one place. Declares nothing.
pub use Rattle.np_active.specs.Active.{ActiveOf, AreActive, AreJobGroups, AreSessionGroups}
pub use Rattle.np_active.specs.Given.{AreGiven, AreGivenGroups, IsPrepared as AreGivenPrepared, GivenOf, PreparedOf as GivenPrepared, HasRoom as HasRoomForGiven, IsPast as IsWalkedPast}
pub use Rattle.np_active.specs.Placed.{PastOf as ActivePast, HasRoom as HasRoomForActive, IsPast as IsActivePast}
pub use Rattle.np_changes.specs.Prelude.{AllByRecursion, Amount, AmountFits, Configuration, Declined, Fits, IsFew, IsFitSite, IsJob, IsPlanned, IsReached, IsSound, Job, JobId, LabelId, NodeEntry, NodeId, Offer, PoolId, Registration, RequestEntry, RequestFits, RequestId, RequestRecord, Rises, SessionId, StandsByOwner, State, TenantId, amount_of, amount_of_all, amount_of_node, asked_of, blocking, change_at, changed, comes_before, count_of, count_of_tenant, earlier, first_of, fits, has_live_session, holder, insert_before, is_candidate, is_coming, is_declined_by, is_free_ready, is_id_before, is_kind, is_open_to, is_paused, is_pending, is_pending_by, is_pending_of, is_ready, is_requested, is_short, is_spare, is_spent_min_ready, is_stuck, is_tenant, least, limit_of, limit_of_tenant, list_any, minus, new_record, next, next_label, node_entry, node_in, nothing, option_map, option_map_or, owner_of, plus, ready_count, remove_first, request_entry, request_holder, request_in, rest_of_request, same_request, tenant_of_request, times, total, undeclined}
pub use Rattle.np_changes.specs.declared.changes.Changes.{Changes}
pub use Rattle.np_changes.specs.declared.changes.SessionsChange.{SessionsChange}
pub use Rattle.np_classes.specs.Classes.{AreClasses, AreNodeGroups, AreRequestGroups, ClassesOf, coming_group, coming_group_of, decline_set, declined_group, declined_group_of, free_group, group_if, is_among, is_still_requested, kind_group, next_label_group, next_label_group_of, node_groups, node_is_in, pending_group, pending_group_of, pinned_label_group, pinned_label_group_of, request_groups, request_is_in, spare_group, spent_group, spent_group_of, tenant_group, unheld_class, unheld_group, unheld_group_of, unheld_pending_group, unheld_pending_group_of}
pub use Rattle.np_classes.specs.Listed.{HasRoom as HasRoomForPast, IsPast, IsTouched, PastOf, TouchedOf}
pub use Rattle.np_lists.specs.Groups.{group_after, group_from, has_member, ids_in, is_group_before, is_member_before, member, same_group, same_member}
pub use Rattle.np_lists.specs.declared.groups.Group.{Group}
pub use Rattle.np_look.specs.Given.{node_to_leave, node_to_lock}
pub use Rattle.np_look.specs.Jobs.{job_to_acquire, job_to_begin, job_to_finish, job_to_release, job_to_take, request_view}
pub use Rattle.np_look.specs.Readers.{current_of, due_of, first_declined_by_all, first_due, first_mute, first_unheld_pending, free_ready_of, has_request_under_way, is_declined_by_all, is_unclaimed, is_under_way_by, is_unheld_as, is_unheld_pending, limited_tenant, pending_requests, queued_nodes, queued_requests, rest_of, same_kind, sooner, soonest, unfinished_of, unheld_kind}
pub use Rattle.np_lookups.specs.Lookups.{AreLookupsOf, IsPrepared as AreLookupsPrepared, LookupsOf, PreparedOf as LookupsPrepared, lookups_made}
pub use Rattle.np_lookups.specs.Moves.{rank_of}
pub use Rattle.np_lookups.specs.Open.{AreOpen, IsLineFrom, IsOpenFrom, IsWaiting, OpenOf, first_line, is_closed_rank, is_requested_at, line_after, line_of, ranks_of}
pub use Rattle.np_lookups.specs.Ranks.{is_rank_before, rank_equal, rank_one_way, rank_transitive, same_rank}
pub use Rattle.np_lookups.specs.Waits.{AreListed, IsPrepared as AreMovedOf, HasRoom as HasRoomForMoved}
pub use Rattle.np_lookups.specs.declared.moves.Past.{Past}
pub use Rattle.np_lookups.specs.declared.ranks.Rank.{Rank}
