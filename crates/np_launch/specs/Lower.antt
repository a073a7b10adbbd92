-- What the definitions take from the crates below, passed on from one place. Declares nothing.
pub use Rattle.np_changes.specs.Prelude.{AllByRecursion, Configuration, Done, Entry, Event, Fits, GrowthPremise, IsHeard, IsReached, Janitor, Label, LabelId, Launcher, MakerPremise, NodeEntry, NodeId, NodeRecord, Outcome, Pool, PoolId, Premises, Reaper, Reason, Refusal, Registration, RequestEntry, RequestId, RequestRecord, RequestState, Requester, Rises, Role, SessionFacts, SessionId, State, as_launcher, asked_of, blocking, changed, earlier, first_of, first_unoffered, grown, holder, is_candidate, is_declined_by, is_id_before, is_kind, is_node, is_pending, is_pending_by, is_pinned_away, is_pool, is_queued, is_ready, is_request, is_requested, is_role, is_session, is_session_of, is_spare, is_spent, judge, judge_lock_request, launcher, least, list_any, lock_request_as, maker, maker_of, need, never_fits, new_record, next, next_label, node_entry, node_holder, node_in, node_queue, option_map, option_map_or, other_than, outcome_of, registered, registrations_left, request_entry, request_holder, request_in, request_queue, requests_changed, requests_left, role_of, same_request, same_role, session_of, start, state_after, tenant_never_fits, vacant, wrong_node, wrong_request}
pub use Rattle.np_look.specs.Readers.{free_ready_of, is_declined, pending_requests, queued_nodes, queued_requests}
pub use Rattle.np_machine.specs.Plan.{fail_starts_of}
pub use Rattle.np_useful.specs.Candidates.{candidate, places}
pub use Rattle.np_useful.specs.Driven.{is_planned}
pub use Rattle.np_useful.specs.Launcher.{concurrency_of, has_failed_node, has_turn_left, is_as_planned, is_by_registrant, is_done_with, is_first_reason, is_held_near, is_in_hand, is_listed, is_served_near, is_sister, is_sister_launcher, is_to_launch, is_under_way, is_wanted_by, may_take_ready, node_is, provider_of, registered_row, request_is, requests_near, same_outcome}
pub use Rattle.np_useful.specs.Sessions.{has_current, is_current}
pub use Rattle.np_useful.specs.Useful.{Chooses, ChoosesOf, ChoosesOpening, IsFirst, IsFirstThatPasses, IsUseful, NoneOf, NoneOpens, is_maker_of, passes, passing}
pub use Rattle.np_useful.specs.declared.kind.EventKind.TheVariants.{Node, Request}
pub use Rattle.np_useful.specs.declared.kind.NodeKind.{NodeKind}
pub use Rattle.np_useful.specs.declared.kind.RequestKind.{RequestKind}
pub use Rattle.np_useful.specs.declared.kind.RequestKind.TheVariants.{Lock}
