-- What the definitions take from the crates below, passed on from one place. Declares nothing.
pub use Rattle.np_changes.specs.Prelude.{AllByRecursion, Configuration, Done, EndAs, Event, Fits, IsReached, IsSound, Janitor, JobId, JobRecord, Launcher, NodeEntry, NodeId, NodeRecord, NodeState, Phase, PoolId, Reaper, Refusal, RequestEntry, RequestId, RequestRecord, RequestState, Requester, RequesterId, Role, SemId, SessionFacts, SessionId, State, by_node_holder, first_full, has_handle, is_asked, is_fulfilled, is_full, is_in_use, is_new, is_over, is_queued, is_ready, is_role, judge, list_any, maker, maker_of, missing_handles, node_entry, node_in, node_queue, none_missing, option_map, option_map_or, own_job, request_entry, request_in, requester, same_request, same_role, session_of}
pub use Rattle.np_look.specs.Jobs.{is_job_to_acquire, is_job_to_begin, is_job_to_finish, is_job_to_take, is_own, is_supplied, job_to_acquire, job_to_begin, job_to_finish, job_to_take, may_acquire, may_begin, was_given}
pub use Rattle.np_look.specs.Readers.{is_unfinished_job, jobs_from, request_state_of, unfinished_from}
pub use Rattle.np_text.specs.declared.limit.TheConstants.{POOLS, REQUESTERS}
pub use Rattle.np_useful.specs.Useful.{Chooses, ChoosesOf, ChoosesOfAny, ChoosesRelease, NoneOf, NoneOpens, NoneReleased, passes, has_fulfilled_request, is_asked_by, is_for, is_handed_over, is_left_as, is_to_acquire, same_end, waits_for_handles, IsSettled, takes_part, IsUseful, is_maker_of, row_holds, is_in_window, is_unfinished, jobs_of, window_of}
pub use Rattle.np_useful.specs.Launcher.{has_some_handle, is_listed, job_is, node_is}
pub use Rattle.np_useful.specs.Sessions.{is_current}
pub use Rattle.np_useful.specs.declared.kind.EventKind.{EventKind}
pub use Rattle.np_useful.specs.declared.kind.EventKind.TheVariants.{Job, Node}
pub use Rattle.np_useful.specs.declared.kind.JobKind.{JobKind}
pub use Rattle.np_useful.specs.declared.kind.NodeKind.{NodeKind}
