-- The names from elsewhere that the proofs cite, passed on from one place. Declares nothing.
pub use Rattle.np_changes.proofs.Accepted.{plan-found, plan-next}
pub use Rattle.np_changes.proofs.Jobs.{jobs-grown}
pub use Rattle.np_changes.proofs.Lookups.{node_in-below, numbered, remove-alone, rises-insert_before, row-of}
pub use Rattle.np_changes.proofs.Premises.{premises}
pub use Rattle.np_changes.proofs.Queues.{registered-still}
pub use Rattle.np_changes.specs.Changes.{settled}
pub use Rattle.np_changes.specs.Prelude.{node_in, ◌>>◌}
pub use Rattle.np_changes.specs.Premises.{EmptiesRequest, FinishesJob, Gains, IsMade, IsTaken, IsWorkedOn, MayFulfil, PutsNode, Withdraws}
pub use Rattle.np_changes.specs.declared.asked.Asked.{Asked}
pub use Rattle.np_layout.specs.Carried.{IsOrdered}
pub use Rattle.np_layout.specs.Decoded.{TreesHaveOneState, handle_at, handles_at, janitors_at, job_at, jobs_at, launchers_at, no_node, no_request, no_session, node_at, node_named, nodes_at, owner_of, pair_named, queue_at, registration_at, registrations_at, request_at, request_named, requesters_at, requests_at, role_at, session_at, sessions_at, sessions_from, swept_at, text_at, tick_at}
pub use Rattle.np_layout.specs.Deletes.{HandlesLayOut, NodeWaitsLayOut, PartsLayOut, RegistrationsLayOut, RequestWaitsLayOut, SweptPairsLayOut, request_prefix, DeleteLaysOut, HandlesGoLayOut, MayDelete, NodeWaitsGoLayOut, RequestWaitsGoLayOut, without_session}
pub use Rattle.np_layout.specs.Layout.{AreJobs, AreLaunchers, AreLive, AreNodeLocks, AreNodes, AreRequestLocks, AreRequests, AreRoles, AreSemaphores, AreSessions, AreSwept, HasHandles, HasLeaves, IsFrame, IsNodeRow, directories, next_under}
pub use Rattle.np_layout.specs.Lower.{AllocationsListed, AsksForJob, AsksToKeep, Changes, Configuration, Deed, DistinctSessions, EachAfter, EditPremise, Ending, EndsIn, EndsNode, EphemeralSequential, Event, Fits, Frees, GivesUp, GoesFulfilled, GoesWithdrawn, Growth, GrowthPremise, HandlesChange, HasParts, HasText, Invariant, IsAsked, IsDeclined, IsLabel, IsLiveQueue, IsMarked, IsNodeId, IsNumbered, IsOffer, IsPool, IsPriority, IsReason, IsServed, IsSound, IsWanted, JobId, JobRecord, JobsChange, JobsPremise, LabelId, Locked, Maker, MakerPremise, Marked, MayDecline, NodeEntry, NodeFits, NodeId, NodeRecord, NodeState, NodesChange, NodesPremise, Offer, Phase, Pool, PoolId, Premises, PutsJob, Reason, Registration, Reports, RequestEdit, RequestEntry, RequestFits, RequestId, RequestRecord, RequestState, RequestsChange, RequestsPremise, Role, RoleFits, RoleRecord, SemId, SessionFacts, SessionRecord, SessionsChange, SessionsPremise, SpellsNode, StandsByOwner, Starts, State, Swept, TakesOver, TenantId, all_freed, all_in_use, all_with_handle, all_without_handle, allocated, answer, by_maker, change_at, change_first, change_janitor, change_launcher, change_requester, change_role, change_session, changed, counter_after, create_answer, create_under_answer, declined_text, delete_answer, edited, ended, ended_as, ending_of, flag_text, freed, freed_from, grown, handles_changed, handles_of, has_handle, in_use, insert_before, insert_request, is_among, is_building, is_id_before, is_offered, is_pair_after, is_pending, is_pool, is_queued, is_request, is_requested, is_role, is_sequential, is_session, is_swept, job_end, job_front, job_in, jobs_changed, joined, judge, label_text, launched, left, list_text, marked, marked_text, max_u32, max_u64, muted, new_job, new_node, new_record, next, next_id, next_label, no_deeds, node_entry, node_front, node_id_text, node_left, node_queue, node_server, node_tenant, nodes_changed, nodes_left, number_of, offers_of, one_more_act, one_more_start, option_map_or, owner_at, plan, put_job, put_node, put_node_queue, put_request_queue, registered, registers, registrations_left, remove_node, remove_request, request_after_withdraw, request_entry, request_in, request_job, request_left, request_of, request_pinned, request_pool, request_queue, request_record_in, requests_changed, requests_left, rest_text, retries_of, role_name, row_with, same, same_request, semaphores_of, sequence_of, session_in, session_of, sessions_changed, set_answer, start, struck_unless, tenant_of_request, unended, with_bytes, with_deed, with_handle, with_mark, with_pair, without, without_handle}
pub use Rattle.np_layout.specs.Parts.{acquire_parts, allocate_parts, change_parts, deed_parts, each_changed, enacted, grown_parts, handles_parts, jobs_parts, join_parts, leave_parts, nodes_of, nodes_parts, parts_of, release_parts, requests_parts, role_parts, session_parts, settled_parts, tick_parts, where_there, with_begin, with_end, writer, Enacts, Stands}
unfoldable pub use Rattle.np_layout.specs.Place.{path_of}
pub use Rattle.np_layout.specs.Prelude.{AllByRecursion, AllZip, Any, AreDistinct, AreHolders, Ephemeral, Goes, HasGoodIds, HasNodeLock, HasQueue, HasRoomFor, HasSpellings, IsCarried, IsGood, IsJob, IsNode, IsPart, IsRequest, IsRole, IsSession, IsSessionRole, IsStored, IsWait, IsWhole, LaysOut, Mode, NonePass, Op, Persistent, PersistentSequential, Rises, Row, Seen, SessionId, TreeRefusal, TreeState, above, after_begin, after_create_under, after_end, after_loss, after_multi, after_part, after_parts, answers_from, at_path, below, change_node, children_of, counter_at, delete, delete_parts, find_named, is_at, is_check, is_child, is_element, is_in, is_named, is_owned, is_owner, is_pair_before, is_path, job_text, list_all, list_any, make, name_of, new_tree, next_change, node_deletes, node_parts, node_text, option_map, parent_of, part_answer, place_name, range_with_len, remove_first, request_deletes, request_parts, request_record_text, role_text, root, row_before, row_of, rows_at, seen_at, seen_in, seen_of, session_text, set, ten_digits_of, tree_session, under, wait_at, where_found, with_new_child, with_next_number, with_row, without_child, without_child_above, without_node}
pub use Rattle.np_layout.specs.Rows.{first_directories, first_parts, first_tree, make_each, by_name, handle_row, janitor_role_row, job_row, launcher_role_row, launcher_row, persistent, places, request_lock_row, request_row, requester_role_row, rows_from, semaphore_row, session_row, swept_row, wait_row}
pub use Rattle.np_layout.specs.Sets.{JobsLayOut, RolesLayOut, SetLaysOut, TicksLayOut}
pub use Rattle.np_layout.specs.Ways.{EventsEnact, IsApart, IsEnacted, IsReady, called, in_call, EventsAreEnacted, EventsAreReady, IsAccepted, IsTyped, IsTypedEdit, IsTypedGrowth, IsTypedNodes, IsTypedRequests, RecordsAreSpelled, StartsAreCarried, StepsAreCarried, DeedsEnact, GrowthReady, GrowthsEnact, HandlesEnact, JobsEnact, NodesEnact, NodesReady, RequestsEnact, SessionReady, SessionsEnact, TicksEnact, WaitOnce, with_deeds}
pub use Rattle.np_layout.specs.declared.place.Place.{Place}
pub use Rattle.np_layout.specs.declared.place.Place.TheVariants.{Handle, JanitorRole, Job, Jobs, Launcher, LauncherRole, Launchers, Node, NodeLock, Node as NodePlace, NodeWait, Nodepool, Nodes, Poolsim, Request, RequestLock, RequestLocks, RequestWait, RequesterRole, Requests, Roles, Root, Semaphore, Semaphores, Session, Sessions, SweptPairs, Swept as SweptPlace, Tick, Zuul}
pub use Rattle.np_lists.proofs.Changes.{Rises-filter, Rises-keys, all-at, all-change_at, all-change_at_to, all-change_first, all-filter, all-filter_to, all-find, all-insert_before, all-map, all-mapped, all-push, all-remove_first, all-set, all-weaker, change_at-set, change_first-absent, change_first-same, filter-not_none, find-change_first, find-passes, found-change_first, insert_before-end, length-change_at, length-filter_at_most, list_any-insert_before, list_any-none, map-keys, none-list_any, remove_first-absent, slice_get-change_at, slice_get-change_at_other}
pub use Rattle.np_lists.proofs.Plain.{bytes_eq-apart, decimal-short, equal-itself, from-map_some, low-min, map-push, member-there, or_false, or_true, set-here, some-within}
pub use Rattle.np_lists.proofs.Searches.{find-none, none-find}
pub use Rattle.np_machine.proofs.Ids.{node-itself, request-equal, request-itself, session-equal}
pub use Rattle.np_machine.specs.Node.{since_after_launch}
pub use Rattle.np_machine.specs.Prelude.{Declined, Outcome, RequesterId, is_asked, is_declined_by, is_fulfilled, is_new, is_pair, maker, ◌>>=◌}
pub use Rattle.np_path.proofs.GrammarLemmas.{is_path-no_fault}
pub use Rattle.np_path.proofs.PartsLemmas.{is_path-below}
pub use Rattle.np_path.proofs.PathLaws.{HasParts-below, IsChild-of}
pub use Rattle.np_path.specs.Grammar.{path_fault, is_dots}
pub use Rattle.np_path.specs.Makes.{Makes}
pub use Rattle.np_path.specs.declared.fault.PathFault.TheVariants.{Bad}
pub use Rattle.np_spelling.proofs.Records.{job_all, node_all, role_all, session_all}
pub use Rattle.np_spelling.proofs.RequestForm.{request_all}
pub use Rattle.np_spelling.specs.Reading.{role_in}
pub use Rattle.np_text.proofs.OrderLemmas.{all_ascii_digits-ten, length-ten, nat_cmp-less, slice_cmp-request_text, slice_cmp-ten, ten-le-length}
pub use Rattle.np_text.proofs.RequestLemmas.{decimal_three, request_of-text}
pub use Rattle.np_text.proofs.SpellingLemmas.{model, number_of-decimal, sequence_of-ten_digits_of, some_injective}
unfoldable pub use Rattle.np_text.specs.Request.{request_text_of}
pub use Rattle.np_text.specs.Word.{ending_word, node_state_word, phase_word, reason_text_of, request_state_word}
pub use Rattle.np_text.specs.declared.limit.TheConstants.{JOB_LABELS, POOLS}
pub use Rattle.np_tree.proofs.CallLemmas.{checks-leave-the-tree, goes-after, goes-answered, goes-joined, goes-under-one-number}
pub use Rattle.np_tree.proofs.LaterLemmas.{goes-whole}
pub use Rattle.np_tree.proofs.RelationLemmas.{apart-below, creates-go, creates-show, creates-under-go, creates-under-show, deletes-go, deletes-show, ends-show, nothing-below_nothing, ok-then, parts-change_nodes_alone, room-falls, room-gives, rows-elements, rows-rise, rows-without, seen-is-row, seen-node, seen-none, sets-go}
pub use Rattle.np_tree.proofs.RowLemmas.{child-above, other-name, other-name_back, rows-changed, rows-changed_other, rows_in}
pub use Rattle.np_tree.proofs.WholeLemmas.{IsWhole-after_end, IsWhole-after_part, IsWhole-new_tree, children_of-ephemeral}
pub use Rattle.np_tree.specs.Relations.{Creates, Deletes, Ends, is_kept}
pub use Rattle.np_tree.specs.Several.{CanCreate, HasRoom}
pub use Rattle.np_tree.specs.Views.{name_before, name_given, row_given}
pub use Rattle.np_tree_nodes.proofs.KeptLemmas.{length-children-paths, paths_of-change_node}
pub use Rattle.np_tree_nodes.proofs.PlaceLemmas.{bytes_eq-from, bytes_eq-is, lt-neither, lt-one_way, lt-trans}
pub use Rattle.np_tree_nodes.specs.declared.kind.Expect.{Expect}
pub use Rattle.np_tree_nodes.specs.declared.op.OpDone.{OpDone}
pub use Rattle.std.proofs.Common.{All, Bool, Equal, Err, Greater, IfSome, IsAscii, IsOk, Less, List, None, Ok, Option, Result, Some, ap, append_assoc, arith, bytes_eq, codes, cond, decimal, drop, drop_at, eq-eqb, eqb, eqb-true, false, filter, filter_map, find, fold, get_or, if◌then◌else◌, inl, inr, is_lt, is_ok, is_some, le-leb, length, length-append, length-set, lit≤, map, nat_cmp, nat_le, nat_lt, not, option_and_then, refl, slice_get, subst, suc, sym, take, take_at, true, unwrap_or, zero, ℕ, [], ◌%◌, ◌&&◌, ◌*◌, ◌++◌, ◌+◌, ◌/◌, ◌<◌, ◌==◌, ◌^◌, ◌||◌, ◌∙◌, ◌∷◌, ◌≡◌, ◌≤◌, ◌⊎◌}
pub use Rattle.std.proofs.Math.Path.{ap₂}
pub use Rattle.std.proofs.lemmas.Bool.{and_from, and_parts, eqb-false, not-true, or_left, or_right}
pub use Rattle.std.proofs.lemmas.Bool.Decides.{nat_tests}
pub use Rattle.std.proofs.lemmas.Cmp.{nat_list_cmp_total}
pub use Rattle.std.proofs.lemmas.Fmt.{decimal_digit, decimal_nonempty, decimal_step, digits_decimal, length-decimal-le}
pub use Rattle.std.proofs.lemmas.List.{drop-set, length-map, map-append}
pub use Rattle.std.proofs.lemmas.List.Elements.{All-head, All-tail}
pub use Rattle.std.proofs.lemmas.List.Folds.{list_all-append, list_any-append}
pub use Rattle.std.proofs.lemmas.List.Sums.{fold-append}
pub use Rattle.std.proofs.lemmas.Map.Lookups.{exact_bytes}
pub use Rattle.std.proofs.lemmas.Option.{slice_get_within}
pub use Rattle.std.proofs.lemmas.Str.{IsAscii-append, IsUtf8-from_ascii}
pub use Rattle.std.proofs.lemmas.Str.Ascii.{IsAscii-cons, IsAscii-nil}
pub use Rattle.std.specs.Char.{is_ascii_alphanumeric}
pub use Rattle.std.specs.Cmp.Lexicographic.{slice_cmp}
unfoldable pub use Rattle.std.specs.Fmt.{digits}
pub use Rattle.std.specs.List.{cons_option}
pub use Rattle.std.specs.Ordering.{ordering_then}
pub use Rattle.std.specs.Prelude.{slice_set, ◌-◌}
pub use Rattle.std.specs.Str.{IsUtf8, all_ascii_digits}
