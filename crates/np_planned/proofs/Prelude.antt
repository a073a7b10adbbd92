-- The names from elsewhere that the proofs cite, passed on from one place. Declares nothing.
pub use Rattle.np_changes.proofs.Accepted.{launcher-maker, launcher-role}
pub use Rattle.np_changes.proofs.Runs.{invariant-Runs}
pub use Rattle.np_changes.specs.Parts.{Invariant, IsLive, IsLiveQueue, IsQueued, IsServed, StandsIn}
pub use Rattle.np_changes.specs.Prelude.{◌>>=◌, ◌>>◌, AllZip, Answer, Done, HasText, LabelId, NodeEntry, NodeRecord, PoolId, Refusal, Registration, RequestEntry, RequestRecord, RequestState, SessionFacts, SessionId, SessionRecord, found, in_state_for, is_building, is_failed_node, is_filled, is_pending, is_pending_by, is_pool, is_queued, is_session, is_session_of, is_true, launcher, list_any, maker, need, node_at, node_entry, node_holder, option_map, request_at, request_entry, request_holder, starts_of, unfilled, unlock_request_as}
pub use Rattle.np_layout.proofs.Deletes.{found-node, is_node_it, is_request_it, request-good, request-queue}
pub use Rattle.np_layout.proofs.Names.{is_path-of, parts-of}
pub use Rattle.np_layout.proofs.Reading.{session-read}
pub use Rattle.np_layout.proofs.Steps.{seen-named}
pub use Rattle.np_layout.specs.Rows.{persistent}
pub use Rattle.np_lists.proofs.Changes.{all-find, all-from_at}
pub use Rattle.np_lists.proofs.Plain.{by_bool, found-ok, found-some, from-map_some, need-ok, there-at}
pub use Rattle.np_machine.specs.Tests.{by_node_holder, by_registrant, by_request_holder, in_pending_by, none_missing, not_declined, of_pool, wrong_node, wrong_request}
pub use Rattle.np_path.proofs.PathLaws.{HasParts-below}
pub use Rattle.np_planned.specs.Lower.{AllByRecursion, BadRecord, Configuration, Event, FirstAt, HasNodeLock, HasQueue, IsFreshPath, IsGood, IsNodeId, IsRequest, IsSession, IsSessionRole, IsStored, IsWait, Node, NodeId, Place, Reason, RequestId, Role, Row, Seen, Since, Stat, State, TreeState, above, at_path, below, bytes_at, change_at_path, change_by, find_named, is_fresh, is_fresh_by, is_path, is_planned, is_some, judge, node_in, node_queue, option_map_or, path_of, place_name, registered, request_in, request_queue, role_of, seen_at, seen_in, seen_of, session_of, session_text, stat_above, stat_at, stat_of, under}
pub use Rattle.np_planned.specs.Spots.{FreshCommits, listed, of_node, of_nodes, of_reason, of_request, of_role, path_at, paths_at, place_of, spots_of}
pub use Rattle.np_planned.specs.Stale.{Agree, SpotsDecide, HavePaths, SpotsHaveParents, SpotsHavePaths, StaleHasParent, is_stale}
pub use Rattle.np_planned.specs.declared.spot.Spot.{Spot}
pub use Rattle.np_spelling.proofs.Readers.{pushed_row}
pub use Rattle.np_spelling.proofs.Records.{node_all}
pub use Rattle.np_spelling.proofs.RequestForm.{request_all}
pub use Rattle.np_spelling.specs.Reading.{answer, node_in as node_record_in, request_record_in, session_in}
pub use Rattle.np_tree.proofs.RelationLemmas.{fresh-listed, fresh-seen}
pub use Rattle.np_tree.specs.Dates.{Tag, tag_of, tags_at}
pub use Rattle.np_tree_rows.proofs.NodeReads.{node-read, node-unread, node-waits}
pub use Rattle.np_tree_rows.proofs.Registered.{registered-owner}
pub use Rattle.np_tree_rows.proofs.Shown.{IsRead, bytes-seen, request-read, request-unread, request-waits}
pub use Rattle.np_tree_rows.proofs.Stored.{kept_of, session-bytes, session-sound}
pub use Rattle.np_useful.proofs.Useful.{holder-queued}
pub use Rattle.np_watch.proofs.FreshLemmas.{stale-is-later, test-says-fresh}
pub use Rattle.std.proofs.Common.{Bool, Err, List, None, Ok, Option, Result, Some, ap, append_assoc, arith, below_more, codes, cond, false, get_or, length, length-append, length-take-le, map, not, refl, rules, subst, suc, sym, take, true, unwrap_or, zero, ℕ, [], ◌*◌, ◌++◌, ◌+◌, ◌-◌, ◌<◌, ◌^◌, ◌∙◌, ◌∷◌, ◌≡◌, ◌≤◌}
pub use Rattle.std.proofs.lemmas.Bool.{and_parts, eqb-true, not-false, not-true}
pub use Rattle.std.proofs.lemmas.Bool.Decides.{nat_tests}
pub use Rattle.std.proofs.lemmas.List.{take_more}
pub use Rattle.std.proofs.lemmas.Option.{get_or_from_slice_get, slice_get_within}
pub use Rattle.std.specs.Prelude.{IfSome, find, is_ok, option_and_then, slice_get, ◌&&◌, ◌==◌, ◌||◌}
