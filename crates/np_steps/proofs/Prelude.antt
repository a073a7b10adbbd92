-- The names from elsewhere that the proofs cite, passed on from one place. Declares nothing.
pub use Rattle.np_changes.proofs.Jobs.{jobs-grown}
pub use Rattle.np_changes.proofs.Lookups.{remove-alone}
pub use Rattle.np_changes.specs.declared.changes.Changes.{Changes}
pub use Rattle.np_changes.specs.declared.changes.Deed.{Deed}
pub use Rattle.np_changes.specs.declared.changes.Growth.{Growth}
pub use Rattle.np_changes.specs.declared.changes.HandlesChange.{HandlesChange}
pub use Rattle.np_changes.specs.declared.changes.JobsChange.{JobsChange}
pub use Rattle.np_changes.specs.declared.changes.Maker.{Maker}
pub use Rattle.np_changes.specs.declared.changes.NodesChange.{NodesChange}
pub use Rattle.np_changes.specs.declared.changes.RequestEdit.{RequestEdit}
pub use Rattle.np_changes.specs.declared.changes.RequestsChange.{RequestsChange}
pub use Rattle.np_changes.specs.declared.changes.RequestsChange.TheVariants.{Edit}
pub use Rattle.np_changes.specs.declared.changes.SessionsChange.{SessionsChange}
pub use Rattle.np_config.specs.Configuration.{IsTaken, StandsByOwner, is_untaken}
pub use Rattle.np_layout.proofs.ChangeParts.{freed-keeps}
pub use Rattle.np_layout.proofs.Deletes.{found-node, is_node_it, is_request_it, request-good}
pub use Rattle.np_layout.proofs.Stands.{edit-leaves, freeing-grows, same-requests, same-roles}
pub use Rattle.np_layout.specs.declared.place.Place.{Place}
pub use Rattle.np_lists.proofs.Changes.{all-at, all-find, find-change_first, find-passes, found-change_first, slice_get-change_at, slice_get-change_at_other}
pub use Rattle.np_lists.proofs.Plain.{equal-numbers, from-map_some, set-here}
pub use Rattle.np_machine.proofs.Ids.{request-equal}
pub use Rattle.np_steps.specs.Lower.{AllByRecursion, Any, Configuration, EachAfter, GrowthReady, Handle, HasNodeLock, HasQueue, HasSpellings, HasText, IsCarried, IsGood, IsJob, IsNode, IsReady, IsRequest, IsRole, IsSessionRole, IsSound, IsStored, Job, JobId, JobRecord, NoMemory, Node, NodeEntry, NodeId, NodeLock, NodeRecord, NodesPremise, Op, PersistentSequential, PoolId, Request, RequestEntry, RequestId, RequestLock, RequestRecord, Requests, RequestsPremise, Role, RoleRecord, Row, SemId, Session, SessionFacts, SessionId, State, TenantId, Tick, TreeState, acquire_parts, allocate_parts, allocated, below, by_session, change_at, change_first, change_janitor, change_launcher, change_parts, change_requester, change_role, child_name, deed_parts, delete, delete_parts, each_changed, edited, freed, freed_from, grown, grown_parts, handles_parts, has_handle, in_call, in_use, is_among, is_numbered, is_owner, is_queued, is_request, is_some, is_swept, job_text, jobs_changed, jobs_parts, join_parts, leave_parts, list_all, list_any, make, marked, node_deletes, node_entry, node_in, node_parts, node_queue, node_text, nodes_changed, nodes_left, nodes_of, nodes_parts, one_more_act, one_more_start, option_map, option_map_or, parts_of, path_of, place_of_role, put_node, release_parts, request_deletes, request_entry, request_in, request_parts, request_prefix, request_queue, request_record_text, requests_changed, requests_left, requests_parts, role_in, role_parts, role_text, rows_at, same_request, semaphores_of, session_of, session_parts, session_text, set, settled_parts, struck_unless, tick_parts, tree_session, under, wait_at, where_there, with_deed, with_deeds, with_handle, with_mark, without_handle}
pub use Rattle.np_steps.specs.NodeEdits.{KeepsNodes, edited_entry, edited_record, each_released, released}
pub use Rattle.np_steps.specs.declared.nodes.NodeEdit.{NodeEdit}
pub use Rattle.np_text.specs.declared.id.Role.TheVariants.{Launcher as LauncherOf}
pub use Rattle.np_tree_rows.proofs.Registered.{is_waiting, lock-any}
pub use Rattle.np_tree_rows.proofs.Shown.{name-at}
pub use Rattle.std.proofs.Common.{Bool, Err, List, None, Ok, OnOk, Option, Result, Some, add-one, ap, append-nil, arith, cond, drop, drop-cons, false, get_or, length, refl, subst, suc, sym, take, true, zero, ℕ, [], ◌&&◌, ◌++◌, ◌+◌, ◌-◌, ◌<◌, ◌||◌, ◌∙◌, ◌∷◌, ◌≡◌, ◌≢◌, ◌≤◌}
pub use Rattle.std.proofs.Math.Path.{ap₂}
pub use Rattle.std.proofs.lemmas.Bool.{not-true, or_parts}
pub use Rattle.std.proofs.lemmas.Bool.Decides.{nat_tests}
pub use Rattle.std.proofs.lemmas.List.{append_assoc, drop_all, drop_more}
pub use Rattle.std.proofs.lemmas.List.Folds.{list_all-append, list_any-append}
pub use Rattle.std.specs.Fmt.{decimal}
pub use Rattle.std.specs.Prelude.{IfSome, filter, find, map, not, slice_get, slice_set, unwrap_or, ◌==◌}
