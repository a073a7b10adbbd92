-- The names from elsewhere that the proofs cite, passed on from one place. Declares nothing.
pub use Rattle.np_changes.proofs.Accepted.{plan-next}
pub use Rattle.np_changes.proofs.Lookups.{session-low}
pub use Rattle.np_changes.proofs.Runs.{invariant-Runs}
pub use Rattle.np_changes.proofs.Shapes.{Fits-Runs, sound_fits}
pub use Rattle.np_changes.specs.Parts.{Invariant}
pub use Rattle.np_changes.specs.declared.changes.Maker.{Maker}
pub use Rattle.np_keeper.specs.Keeper.{CanBegin, CanEnd, CanMake, HasSpare, Holds, IsHeld, MayChange, made, most_changes, room_left}
pub use Rattle.np_keeper.specs.Lower.{AllByRecursion, AreHolders, AtPart, Changes, Configuration, Event, EventsEnact, Fits, Goes, Growth, HasGoodIds, HasRoomFor, IsAccepted, IsCarried, IsCountable, IsEnacted, IsLater, IsPart, IsPlanned, IsReached, IsReady, IsSound, IsStored, IsTyped, IsWhole, JanitorRole, Job, JobId, Jobs, LauncherRole, Launchers, LaysOut, MakerPremise, Mode, Node, NodeEntry, Nodepool, Nodes, NonePass, Op, Poolsim, Reply, RequestEntry, RequestFits, RequestId, RequestLocks, RequesterRole, Requests, Rises, Roles, Row, SemId, Semaphore, Semaphores, SessionFacts, SessionId, Sessions, SessionsChange, SessionsPremise, Stands, State, Swept, SweptPairs, Tick, TreeRefusal, TreeState, TreesHaveOneState, Zuul, after_begin, after_create_under, after_multi, after_part, after_parts, and_then, answers_from, at_path, changed, decoded, enacted, first_directories, first_parts, first_tree, handles_of, insert_before, is_check, is_id_before, is_in, is_node_before, is_numbered, is_pair_before, job_text, judge, list_all, list_any, make, make_each, most, name_of, new_job, new_tree, next, next_change, no_deeds, node_equal, node_one_way, node_queue, node_some_way, option_map, option_map_or, pair_equal, pair_named, pair_one_way, parent_of, part_answer, parts_of, range_with_len, reply_of, request_entry, request_equal, request_one_way, request_queue, request_some_way, role_text, rows_at, rows_of, same_node, same_pair, same_request, session_at, session_of, sessions_from, start, swept_at, tree_session, under, where_found, with_begin, with_end, with_new_child, with_next_number, with_spare, writer}
pub use Rattle.np_layout.proofs.Carried.{steps-are-carried}
pub use Rattle.np_layout.proofs.ChangeParts.{deeds-enact, jobs-enact, nodes-enact, requests-enact, sessions-enact, ticks-enact}
pub use Rattle.np_layout.proofs.Elsewhere.{same-lays}
pub use Rattle.np_layout.proofs.Events.{events-are-ready, events-enact}
pub use Rattle.np_layout.proofs.FirstTrees.{first-goes, first-lays, starts-are-carried}
pub use Rattle.np_layout.proofs.GrowthParts.{growths-enact, handles-enact}
pub use Rattle.np_layout.proofs.OneState.{trees-have-one_state}
pub use Rattle.np_layout.proofs.Rows.{put_all}
pub use Rattle.np_layout.proofs.Spelled.{records-are-spelled}
pub use Rattle.np_layout.proofs.Stands.{changes-after, number-of, room-after, room-less}
pub use Rattle.np_layout.specs.declared.place.Place.{Place}
pub use Rattle.np_lists.proofs.Changes.{all-at, all-find, all-weaker, insert_before-end}
pub use Rattle.np_lists.proofs.Plain.{by_bool, past-end}
pub use Rattle.np_lists.specs.Roomy.{Roomy}
pub use Rattle.np_look.proofs.Looks.{queue-fits}
pub use Rattle.np_look.specs.Jobs.{node_view, request_view}
pub use Rattle.np_look.specs.declared.asked.NodeView.{NodeView}
pub use Rattle.np_look.specs.declared.asked.RequestView.{RequestView}
pub use Rattle.np_lookups.proofs.QueueLemmas.{apart, itself, none-later}
unfoldable pub use Rattle.np_text.specs.Number.{digits_within, number_of}
pub use Rattle.np_text.specs.Request.{request_from}
unfoldable pub use Rattle.np_text.specs.Request.{request_of, sequence_of}
pub use Rattle.np_tree.proofs.CallLemmas.{answered-goes, checks-leave-the-tree, goes-under-one-number, goes-unrefused}
pub use Rattle.np_tree.proofs.LaterLemmas.{begins-later, calls-later, ends-later, later-joined, later-than-itself, reserves-later}
pub use Rattle.np_tree.proofs.RelationLemmas.{parts-change_nodes_alone}
pub use Rattle.np_tree_nodes.specs.declared.op.OpDone.{OpDone}
pub use Rattle.np_tree_nodes.specs.declared.refusal.MultiFault.TheVariants.{NoMemory}
pub use Rattle.np_tree_rows.specs.Rows.{SiteState}
pub use Rattle.std.proofs.Common.{Bool, Err, Global, List, None, Ok, OnErr, OnOk, Option, Result, Some, Vec, add-one, ap, arith, cond, drop, false, get_or, inl, inr, length, map, not, refl, rules, subst, suc, sym, take, true, zero, ℕ, [], ◌&&◌, ◌*◌, ◌++◌, ◌+◌, ◌-◌, ◌<◌, ◌^◌, ◌∙◌, ◌∷◌, ◌≡◌, ◌≤◌, ◌⊎◌}
pub use Rattle.std.proofs.lemmas.Bool.{false_from_ne_true}
pub use Rattle.std.proofs.lemmas.Bool.Decides.{nat_tests}
pub use Rattle.std.proofs.lemmas.List.{append-nil, append_assoc, length-append, take_more}
pub use Rattle.std.proofs.lemmas.List.Folds.{list_all-append}
pub use Rattle.std.proofs.lemmas.List.FromFn.{length-map-range_with_len, map-range_with_len_more}
pub use Rattle.std.proofs.lemmas.Option.{get_or_from_slice_get, slice_get_within}
pub use Rattle.std.proofs.lemmas.Result.{on_err_weaker, on_ok_weaker}
pub use Rattle.std.specs.Fmt.{decimal}
unfoldable pub use Rattle.std.specs.Fmt.{digits}
pub use Rattle.std.specs.Prelude.{IsOk, find, min, nat_lt, slice_get, unwrap_or, ◌==◌}
