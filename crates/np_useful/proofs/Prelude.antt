-- The names from elsewhere that the proofs cite, passed on from one place. Declares nothing.
pub use Rattle.np_changes.proofs.Accepted.{ok-is, on-check, on-found, on-given, on-need}
pub use Rattle.np_changes.proofs.Lookups.{same_node-is}
pub use Rattle.np_lists.proofs.Changes.{all-from_at, find-passes, find-rank, list_any-there, rank}
pub use Rattle.np_lists.proofs.Plain.{by_bool, drop-past, drop-there, equal-numbers, from-map_some, get-map, past-end, some-unless}
pub use Rattle.np_look.specs.Jobs.{is_job_to_release, job_to_release}
pub use Rattle.np_machine.proofs.Ids.{request-equal}
pub use Rattle.np_useful.specs.Candidates.{candidate, is_from_node_queue, is_from_request_queue, node_named, places, request_named}
pub use Rattle.np_useful.specs.Kinds.{job_event, node_event, request_event}
pub use Rattle.np_useful.specs.Launcher.{is_by_registrant, has_some_handle, job_is}
pub use Rattle.np_useful.specs.Lower.{AllByRecursion, Configuration, Done, Event, Fault, Janitor, Job, JobId, JobRecord, Launcher, Locked, NodeEntry, NodeId, Reaper, RequestEntry, RequestId, Requester, RequesterId, Role, SessionFacts, SessionId, State, current_of, has_handle, holder, is_over, is_queued, is_session_of, jobs_from, judge, maker, maker_of, may_release, node_entry, node_holder, node_in, node_queue, option_map, option_map_or, option_or, queued_nodes, queued_requests, request_entry, request_holder, request_in, request_queue, requester_or_janitor, same_request, same_role, speaker_from, speaks_for}
pub use Rattle.np_useful.specs.Sessions.{has_current, is_current, is_stopped, may_open}
pub use Rattle.np_useful.specs.Useful.{Chooses, ChoosesOf, ChoosesOfAny, ChoosesOpening, NamesCurrent, NoneOf, NoneOpens, NoneReleased, IsFirst, IsFirstThatPasses, passes, passing, IsUseful, is_maker_of, row_holds}
pub use Rattle.np_useful.specs.declared.kind.EventKind.{EventKind}
pub use Rattle.np_useful.specs.declared.kind.JobKind.{JobKind}
pub use Rattle.np_useful.specs.declared.kind.NodeKind.{NodeKind}
pub use Rattle.np_useful.specs.declared.kind.RequestKind.{RequestKind}
pub use Rattle.std.proofs.Common.{Bool, List, None, Ok, Option, Some, add-one, ap, arith, below_more, cond, drop, false, length, refl, subst, suc, sym, take, true, zero, ℕ, [], ◌+◌, ◌-◌, ◌<◌, ◌∙◌, ◌∷◌, ◌≡◌, ◌≤◌}
pub use Rattle.std.proofs.lemmas.Bool.{and_from, and_parts, or_from, or_right}
pub use Rattle.std.proofs.lemmas.Bool.Decides.{nat_tests}
pub use Rattle.std.proofs.lemmas.List.{drop_all}
pub use Rattle.std.proofs.lemmas.Option.{slice_get_within}
pub use Rattle.std.specs.List.{list_any}
pub use Rattle.std.specs.Prelude.{filter, find, if◌then◌else◌, is_ok, is_some, map, nat_lt, not, slice_get, ◌&&◌, ◌==◌, ◌||◌}
