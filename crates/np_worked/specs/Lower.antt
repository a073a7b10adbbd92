-- What the definitions take from the crates below, passed on from one place. Declares nothing.
pub use Rattle.np_config.specs.Configuration.{configuration}
pub use Rattle.np_config.specs.declared.row.Provider.{Provider}
pub use Rattle.np_event.specs.declared.reply.Found.{Found}
pub use Rattle.np_io.specs.Memory.{Rose}
pub use Rattle.np_layout.specs.Rows.{first_directories, make}
pub use Rattle.np_layout.specs.Prelude.{LaysOut}
pub use Rattle.np_machine.specs.Caused.{Caused, CausedFrom, HasDeclined}
pub use Rattle.np_machine.specs.Fenced.{ByHolder, Fenced, IsFenced, TakenBack}
pub use Rattle.np_machine.specs.Kept.{EndsRequest, NodesKept, RequestsKept}
pub use Rattle.np_machine.specs.LiveHolder.{IsLiveHolder, IsLiveRequestHolder}
pub use Rattle.np_machine.specs.Prelude.{Configuration, Declined, Done, EachTurn, EndAs, Ending, Entry, Event, Fate, FaultKind, HasCause, Janitor, Job, JobId, JobRecord, Kept, Label, LabelId, Launcher, Limit, LosesNothing, NodeEntry, NodeId, NodeRecord, NodeState, Offer, Outcome, Phase, Pool, PoolId, Reaper, Reason, Refusal, RemovesNode, Reply, RequestEntry, RequestId, RequestRecord, RequestState, Requester, Role, Sem, SemId, SessionId, State, Tenant, TenantId, Turn, after, fates, judge, maker_of, new_job, no_deeds, no_limit, node_in, option_map, outcome_of, replayed, request_in, role_in, start, turns}
pub use Rattle.np_machine.specs.Safe.{OneHolder, Safe, WithinMax}
pub use Rattle.np_tree.specs.After.{after_end, after_set}
pub use Rattle.np_tree.specs.Calls.{after_begin}
pub use Rattle.np_tree.specs.Multi.{after_parts}
pub use Rattle.np_tree.specs.Prelude.{Any, Ephemeral, EphemeralSequential, Op, Persistent, PersistentSequential, Row, list_any}
pub use Rattle.np_tree.specs.TreeState.{TreeState, new_tree}
pub use Rattle.np_useful.specs.Driven.{Driven, DrivenBy, IsDrivenTurn, IsReportOfLaunch, IsSweepOfServer, Says}
pub use Rattle.np_useful.specs.Useful.{IsSettled, IsUseful, is_maker_of, row_holds}
