-- The names from elsewhere that the proofs cite, passed on from one place. Declares nothing.
pub use Rattle.np_changes.specs.Prelude.{AllZip, option_copied}
pub use Rattle.np_layout.proofs.ChangeParts.{all-joined}
pub use Rattle.np_layout.proofs.Creates.{node_before, rises-zip}
pub use Rattle.np_layout.proofs.Deletes.{found-node, is_node_it, is_request_it, lock-names, node-named as named-by, node-tells, request-good, request-named as request-named-by, request-queue}
pub use Rattle.np_layout.proofs.Names.{is_path-of, parts-of}
pub use Rattle.np_layout.proofs.Rows.{Tells, all-numbered, all-put, any-by_name, any-mapped, at-range, rows_put, tells-mapped}
pub use Rattle.np_layout.proofs.Steps.{named-here, named-other}
pub use Rattle.np_layout.specs.Layout.{HasHandles, HasNodeLock, HasQueue, IsNodeRow}
pub use Rattle.np_layout.specs.Rows.{by_name, handle_row, janitor_role_row, job_row, launcher_role_row, launcher_row, persistent, places, request_lock_row, request_row, requester_role_row, rows_from, semaphore_row, session_row, swept_row}
pub use Rattle.np_layout.specs.declared.place.Place.{Place}
pub use Rattle.np_layout.specs.declared.place.Place.TheVariants.{Handle, JanitorRole, Job, Jobs, Launcher, LauncherRole, Launchers, Node, NodeLock, Nodes, Poolsim, Request, RequestLock, RequestLocks, RequesterRole, Requests, Roles, Semaphore, Semaphores, Session, Sessions, Swept, SweptPairs, Tick}
pub use Rattle.np_lists.proofs.Changes.{all-at, all-find, all-weaker, filter-nothing, find-passes, length-insert_before, list_any-none}
pub use Rattle.np_lists.proofs.Plain.{by_bool, get-map, map-some, past-end}
pub use Rattle.np_lists.proofs.Searches.{none-find}
pub use Rattle.np_look.specs.declared.asked.NodeView.{NodeView}
pub use Rattle.np_look.specs.declared.asked.RequestView.{RequestView}
pub use Rattle.np_machine.proofs.Ids.{node-itself, request-itself}
pub use Rattle.np_machine.specs.declared.state.Swept.{Swept as SweptPair}
pub use Rattle.np_spelling.specs.Spelling.{IsRequest, SpellsNode, SpellsRequest}
pub use Rattle.np_text.proofs.OrderLemmas.{ten-le-length}
pub use Rattle.np_text.proofs.RequestLemmas.{request_of-spelled, request_of-text}
pub use Rattle.np_text.proofs.SpellingLemmas.{digits_value-zeros, number_of-decimal}
unfoldable pub use Rattle.np_text.specs.Number.{ten_digits_of}
pub use Rattle.np_tree.proofs.RelationLemmas.{nothing-below_nothing, rows-nothing, rows-rise, seen-is-row}
pub use Rattle.np_tree.proofs.RowLemmas.{other-name}
pub use Rattle.np_tree_nodes.proofs.PlaceLemmas.{bytes_eq-from, bytes_eq-is}
pub use Rattle.np_tree_rows.specs.Lower.{AllByRecursion, AreHolders, BadRecord, Configuration, HasText, IsGood, IsJob, IsRole, IsSession, IsSessionRole, IsStored, IsWait, IsWhole, JobId, JobRecord, NodeEntry, NodeId, NodeRecord, NonePass, PoolId, Registration, RequestEntry, RequestId, RequestRecord, RequesterId, Rises, Role, RoleRecord, Row, Seen, SemId, SessionFacts, SessionId, SessionRecord, Stat, State, TreeState, above, at_path, bytes_at, child_name, children_of, decoded, find_named, handles_of, has_handle, is_among, is_at, is_in, is_named, is_owner, is_pair, is_queued, is_session, is_some, is_swept, job_text, list_any, name_of, node_entry, node_in, node_queue, node_view, number_of, option_map, option_map_or, path_of, place_name, place_of_role, queued_nodes, queued_requests, range_with_len, registered, request_entry, request_in, request_of, request_queue, request_view, role_in, role_text, row_before, row_of, rows_at, seen_at, seen_in, seen_of, session_of, session_text, stat_at, stat_of, stat_of_child, tree_session, under, with_row}
pub use Rattle.np_tree_rows.specs.Rows.{node_if_queued, request_if_queued, SiteState}
pub use Rattle.std.proofs.Common.{Bool, Err, List, None, Ok, Option, Result, Some, add-one, ap, arith, cond, drop, false, length, map, refl, replicate, rules, subst, suc, sym, true, unwrap_or, zero, ℕ, [], ◌++◌, ◌+◌, ◌-◌, ◌<◌, ◌^◌, ◌||◌, ◌∙◌, ◌∷◌, ◌≡◌, ◌≤◌}
pub use Rattle.std.proofs.lemmas.Bool.{eqb-false, eqb-true, or_parts}
pub use Rattle.std.proofs.lemmas.Bool.Decides.{nat_tests}
pub use Rattle.std.proofs.lemmas.Fmt.{decimal_is_IsNumeral}
pub use Rattle.std.proofs.lemmas.List.{drop_all, length-map}
pub use Rattle.std.proofs.lemmas.List.Folds.{list_any-append}
pub use Rattle.std.proofs.lemmas.Option.{slice_get_past, slice_get_within}
pub use Rattle.std.specs.Fmt.{decimal}
pub use Rattle.std.specs.Prelude.{IfSome, filter, find, nat_le, nat_lt, option_and_then, slice_get, ◌==◌}
pub use Rattle.std.specs.Str.{bytes_eq}
pub use Rattle.std.specs.Str.Parse.{AllDigits, IsNumeral, ParsesUnsigned, digits_value, without_leading_plus}
