-- What the definitions take from the crates below, passed on from one place. Declares nothing.
pub use Rattle.np_changes.specs.Prelude.{AllByRecursion, Configuration, Done, Entry, Event, IsFitSite, Janitor, Launcher, NoMemory, NodeId, NodeRecord, Pool, PoolId, Reply, Role, Runs, SessionId, State, after, change_at, is_deleting, is_server, is_session_of, is_some, is_swept, is_wanted, judge, node_holder, node_in, node_queue, option_map_or, remove_first, reply_of, start}
pub use Rattle.np_desk.specs.Series.{AnsweredAtOnce, Asked, Heard, Took, TookAtOnce, Walk, Walked}
pub use Rattle.np_keeper.specs.Keeper.{Holds, IsHeld}
pub use Rattle.np_layout.specs.Prelude.{IsLater, IsStored, Since, TreeState, decoded, insert_before, list_any}
pub use Rattle.np_planned.specs.Spots.{FreshCommits, path_at, paths_at, spots_of}
pub use Rattle.np_planned.specs.Stale.{IsFirstStale, SpotsHaveParents, SpotsHavePaths, StaleHasParent}
pub use Rattle.np_planned.specs.declared.spot.Spot.{Spot}
pub use Rattle.np_rules.specs.Running.{Ran, Running, RunsOn, answer_of, applied, has_room, ran_of}
pub use Rattle.np_watch.specs.Watching.{AreFreshPaths, has_key, is_fired, is_watched, key_before, watch_of, with_watch}
pub use Rattle.np_watch.specs.declared.watch.Watch.{Watch}
pub use Rattle.np_worker.specs.Answers.{Also, IsDue, IsKept, IsNotKept, answers_act, answers_also, answers_do, answers_due, answers_sweep}
pub use Rattle.np_worker.specs.Prelude.{Answered, DeskView, IsFull, IsOf, IsReplied, IsSettled, IsUseful, Records, Sight, Turned, Unturned, WasUseful, answers, entries_of, is_legal, is_planned, recorded, sight_of}
pub use Rattle.np_worker.specs.declared.ask.Ask.{Ask}
pub use Rattle.np_worker.specs.declared.ask.Turn.{Turn}
