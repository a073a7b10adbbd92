-- What the definitions take from the crates below, passed on from one place. Declares nothing.
pub use Rattle.np_changes.specs.Prelude.{Configuration, Event, Fits, IsPlanned, IsReached, IsSound, JobId, MakerPremise, NodeEntry, Reply, RequestEntry, RequestFits, RequestId, SemId, SessionFacts, SessionId, SessionsPremise, State, Swept, changed, handles_of, is_id_before, judge, list_all, list_any, most, new_job, next, no_deeds, node_queue, option_map_or, plan, reply_of, request_entry, request_queue, same_request, session_of, start}
pub use Rattle.np_changes.specs.declared.changes.Changes.{Changes}
pub use Rattle.np_changes.specs.declared.changes.Growth.{Growth}
pub use Rattle.np_changes.specs.declared.changes.SessionsChange.{SessionsChange}
pub use Rattle.np_decision.specs.Verdicts.{answer_of}
pub use Rattle.np_layout.specs.Decoded.{TreesHaveOneState, pair_named, session_at, sessions_from, swept_at}
pub use Rattle.np_layout.specs.Parts.{Stands, enacted, parts_of, with_begin, with_end, writer}
pub use Rattle.np_layout.specs.Prelude.{AllByRecursion, AreHolders, AtPart, Goes, HasGoodIds, HasRoomFor, IsCarried, IsGood, IsLater, IsPart, IsStored, IsWhole, LaysOut, Mode, Node, NonePass, Op, Rises, Row, TreeRefusal, TreeState, after_begin, after_create_under, after_multi, after_part, after_parts, and_then, answers_from, at_path, decoded, insert_before, is_check, is_in, is_numbered, is_pair_before, job_text, name_of, new_tree, next_change, option_map, parent_of, part_answer, range_with_len, role_text, rows_at, tree_session, under, where_found, with_new_child, with_next_number, with_spare}
pub use Rattle.np_layout.specs.Rows.{first_directories, first_parts, first_tree, make, make_each}
pub use Rattle.np_layout.specs.Ways.{EventsEnact, IsAccepted, IsEnacted, IsReady, IsTyped, IsTypedEdit, IsTypedGrowth, IsTypedNodes, IsTypedRequests}
pub use Rattle.np_layout.specs.declared.place.Place.TheVariants.{JanitorRole, Job, Jobs, LauncherRole, Launchers, Nodepool, Nodes, Poolsim, RequestLocks, RequesterRole, Requests, Roles, Semaphore, Semaphores, Sessions, SweptPairs, Tick, Zuul}
pub use Rattle.np_look.specs.Keys.{is_node_before, node_equal, node_one_way, node_some_way, pair_equal, pair_one_way, request_equal, request_one_way, request_some_way, same_node, same_pair}
pub use Rattle.np_tables.specs.CanChange.{IsCountable, rows_of}
pub use Rattle.np_tree_nodes.specs.Prelude.{sequence_of}
