-- What the definitions take from the crates below, passed on from one place. Declares nothing.
pub use Rattle.np_changes.specs.Prelude.{AllByRecursion, Configuration, Declined, Done, EditPremise, Entry, Event, Fault, FaultKind, Fits, GrowthPremise, IsReached, IsSound, Janitor, JobId, JobRecord, Launcher, MayDecline, NodeEntry, NodeId, NodeRecord, NodeState, Phase, PoolId, Premises, REQUESTERS, Reaper, Reason, Registration, RequestEntry, RequestId, RequestRecord, RequestState, Requester, RequesterId, Rises, Role, SessionFacts, SessionId, State, changed, declined_with, edited, ended, grown, holder, is_asked, is_declined_by, is_failed, is_finishable, is_id_before, is_last_pool, is_pending, is_pending_by, is_pool, is_requested, is_role, is_using, janitor, judge, left, list_all, maker, maker_of, may_finish, most, muted, next, node_entry, node_holder, option_map, option_map_or, plan, request_entry, request_holder, request_in, requester_or_janitor, same_request, same_role, session_of, sessions_changed, start, state_after, undeclined}
pub use Rattle.np_look.specs.Readers.{current_of, due_after, due_of, first_declined_by_all, first_due, first_mute, first_unheld_pending, is_declined_by_all, is_unclaimed, is_unheld, is_unheld_as, is_unheld_pending, jobs_from, mute_from, request_state_of, same_kind, sooner, soonest, unheld_kind, unheld_kind_as}
pub use Rattle.np_look.specs.declared.asked.UnheldKind.{UnheldKind}
pub use Rattle.np_machine.specs.Reasons.{is_old_hold, is_old_ready, is_past, is_paused, ready_age}
pub use Rattle.np_useful.specs.Cleanable.{is_cleanable, is_cleanable_as, is_left_over, is_to_go}
pub use Rattle.np_useful.specs.Launcher.{has_some_handle, is_node_of, job_is, node_is, request_is}
pub use Rattle.np_useful.specs.Sessions.{has_current, has_due, is_current, is_due, is_expire, is_stopped, is_struck_by, next_fault, strikes_of}
pub use Rattle.np_useful.specs.Useful.{Chooses, ChoosesOf, ChoosesOfAny, ChoosesRelease, IsFirst, IsFirstThatPasses, IsUseful, NamesCurrent, NoneOf, NoneOpens, NoneReleased, is_maker_of, is_mute, passes, passing}
pub use Rattle.np_useful.specs.declared.kind.EventKind.{EventKind}
pub use Rattle.np_useful.specs.declared.kind.EventKind.TheVariants.{Job, Node, Request}
pub use Rattle.np_useful.specs.declared.kind.JobKind.{JobKind}
pub use Rattle.np_useful.specs.declared.kind.NodeKind.{NodeKind}
pub use Rattle.np_useful.specs.declared.kind.RequestKind.{RequestKind}
