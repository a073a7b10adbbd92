-- What the definitions take from the crates below, passed on from one place. Declares nothing.
pub use Rattle.np_layout.specs.Prelude.{BadRecord, HasNodeLock, HasQueue, IsGood, IsNodeId, IsRequest, IsSession, IsSessionRole, IsStored, IsWait, Node, Row, Seen, Since, Stat, TreeState, above, at_path, below, bytes_at, find_named, is_path, is_some, path_of, place_name, seen_at, seen_in, seen_of, session_text, stat_at, stat_of, under}
pub use Rattle.np_layout.specs.declared.place.Place.{Place}
pub use Rattle.np_lists.specs.Rising.{FirstAt}
pub use Rattle.np_machine.specs.Prelude.{AllByRecursion, Configuration, Entry, Event, NodeId, Reason, RequestId, Role, Runs, State, judge, node_in, node_queue, option_map_or, registered, request_in, request_queue, role_of, session_of}
pub use Rattle.np_useful.specs.Driven.{is_planned}
pub use Rattle.np_watch.specs.Watching.{AreFreshPaths, IsFreshPath, change_at_path, change_by, is_fresh, is_fresh_by, stat_above}
