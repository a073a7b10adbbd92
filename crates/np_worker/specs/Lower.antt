-- What the definitions take from the crates below, passed on from one place. Declares nothing.
pub use Rattle.np_cloud.specs.Calls.{Answers, IsAsPlanned, KeepsCounts, with_launch, with_launched, without_number}
pub use Rattle.np_cloud.specs.Facts.{DriverFacts}
pub use Rattle.np_cloud.specs.Inventory.{ArePlanned}
pub use Rattle.np_cloud.specs.Sound.{DistinctNumbers, Soundness, is_number, numbers_of}
pub use Rattle.np_cloud.specs.declared.driver.Launch.{Launch}
pub use Rattle.np_cloud.specs.declared.driver.Server.{Server}
pub use Rattle.np_cloud.specs.declared.driver.Tag.{Tag}
pub use Rattle.np_cloud.specs.declared.driver.TheConstants.{MOST_LAUNCHES}
pub use Rattle.np_desk.specs.Part.{IsWhole, second_half}
pub use Rattle.np_desk.specs.Rule.{AreRising, StartsWith}
pub use Rattle.np_desk.specs.Series.{Answered, Asked, Heard, IsOver, Records, Took, Turned, Unturned, Walked, entries_of}
pub use Rattle.np_desk.specs.Step.{DeskView, IsOf, PassView, Sight, sight_of}
pub use Rattle.np_event.specs.declared.reply.Found.{Found}
pub use Rattle.np_io.specs.Memory.{Rose}
pub use Rattle.np_machine.specs.Prelude.{AllByRecursion, Configuration, Done, EachAfter, Ending, Entry, Event, Janitor, Launcher, NoMemory, NodeEntry, NodeId, NodeRecord, NodeState, Outcome, Phase, PoolId, Reaper, Refusal, Reply, RequestState, Requester, RequesterId, Role, Runs, SessionId, SomeTurn, State, Turn, after, is_deleting, is_swept, is_wanted, judge, list_any, maker_of, next, node_holder, node_in, option_map, option_map_or, reply_of, role_of, start, turns}
pub use Rattle.np_useful.specs.Driven.{BeginsLaunch, Driven, DrivenBy, DrivenFrom, IsDrivenTurn, IsOfUse, IsReportOfLaunch, IsSweepOfServer, IsTickBetween, NamesServer, Says, WasOfUse, WasUseful, as_planned, is_planned, is_report_of, is_tick}
pub use Rattle.np_useful.specs.Sessions.{has_current, is_current}
pub use Rattle.np_useful.specs.Useful.{IsSettled, IsUseful, is_maker_of}
