-- What the definitions take from the crates below, passed on from one place. Declares nothing.
pub use Rattle.np_changes.specs.Parts.{AllocationsListed, DistinctSessions, Invariant, IsLiveQueue, IsNumbered}
pub use Rattle.np_changes.specs.Prelude.{AllByRecursion, AllZip, AsksForJob, AsksToKeep, Configuration, EachAfter, EditPremise, Ending, EndsNode, Event, Fits, Frees, GivesUp, GoesFulfilled, GoesWithdrawn, GrowthPremise, HasText, IsOffer, IsPool, IsPriority, IsSound, IsWanted, JobId, JobRecord, JobsPremise, LabelId, Locked, MakerPremise, Marked, MayDecline, NodeEntry, NodeFits, NodeId, NodeRecord, NodeState, NodesPremise, Offer, Phase, Pool, PoolId, Premises, PutsJob, Reaper, Reason, Registration, Reports, RequestEntry, RequestFits, RequestId, RequestRecord, RequestState, RequestsPremise, Rises, Role, RoleFits, RoleRecord, SemId, SessionFacts, SessionId, SessionRecord, SessionsPremise, StandsByOwner, Starts, State, Swept, TakesOver, TenantId, all_freed, all_in_use, all_with_handle, all_without_handle, allocated, by_maker, change_at, change_first, change_janitor, change_launcher, change_requester, change_role, change_session, changed, edited, ended, ended_as, ending_of, freed, freed_from, grown, handles_changed, handles_of, has_handle, in_use, insert_before, insert_request, is_among, is_building, is_id_before, is_offered, is_pair_after, is_pending, is_pool, is_queued, is_request, is_requested, is_role, is_session, is_swept, jobs_changed, joined, judge, launched, left, marked, muted, new_job, new_node, new_record, next, next_id, next_label, no_deeds, node_entry, node_left, node_queue, nodes_changed, nodes_left, number_of, offers_of, one_more_act, one_more_start, option_map, option_map_or, plan, put_job, put_node, put_node_queue, put_request_queue, range_with_len, registered, registers, registrations_left, remove_node, remove_request, request_after_withdraw, request_entry, request_in, request_left, request_of, request_queue, requests_changed, requests_left, retries_of, role_in, same, same_request, semaphores_of, session_of, sessions_changed, start, struck_unless, ten_digits_of, tenant_of_request, unended, with_deed, with_handle, with_mark, with_pair, without_handle}
pub use Rattle.np_changes.specs.declared.changes.Changes.{Changes}
pub use Rattle.np_changes.specs.declared.changes.Deed.{Deed}
pub use Rattle.np_changes.specs.declared.changes.Growth.{Growth}
pub use Rattle.np_changes.specs.declared.changes.HandlesChange.{HandlesChange}
pub use Rattle.np_changes.specs.declared.changes.JobsChange.{JobsChange}
pub use Rattle.np_changes.specs.declared.changes.Maker.{Maker}
pub use Rattle.np_changes.specs.declared.changes.NodesChange.{NodesChange}
pub use Rattle.np_changes.specs.declared.changes.RequestEdit.{RequestEdit}
pub use Rattle.np_changes.specs.declared.changes.RequestsChange.{RequestsChange}
pub use Rattle.np_changes.specs.declared.changes.SessionsChange.{SessionsChange}
pub use Rattle.np_spelling.specs.Reading.{answer, job_in, max_u32, max_u64, node_in, request_record_in, session_in}
pub use Rattle.np_spelling.specs.Spelling.{EndsIn, HasParts, IsAsked, IsDeclined, IsJob, IsLabel, IsMarked, IsNode, IsNodeId, IsReason, IsRequest, IsRole, IsServed, IsSession, IsSessionRole, SpellsNode, declined_text, flag_text, job_end, job_front, job_text, label_text, list_text, marked_text, node_front, node_id_text, node_server, node_tenant, node_text, request_job, request_pinned, request_pool, request_record_text, rest_text, role_name, role_text, session_text}
pub use Rattle.np_spelling.specs.declared.fault.BadRecord.{BadRecord}
pub use Rattle.np_text.specs.Request.{request_cmp}
pub use Rattle.np_text.specs.declared.id.Role.TheVariants.{Launcher as LauncherOf}
pub use Rattle.np_text.specs.declared.word.NodeState.TheVariants.{Building}
pub use Rattle.np_text.specs.declared.word.RequestState.TheVariants.{Requested}
pub use Rattle.np_tree.specs.Multi.{answers_from}
pub use Rattle.np_tree.specs.Prelude.{Any, AtPart, Ephemeral, EphemeralSequential, Goes, HasRoomFor, IsLater, IsPart, IsTree, IsWhole, Mode, Node, NonePass, OnFalse, OnTrue, Op, Persistent, PersistentSequential, Row, Seen, Since, Stat, TreeRefusal, TreeState, after_begin, after_create_under, after_end, after_loss, after_multi, after_part, after_parts, after_set, and_then, at_path, below, bytes_at, change_node, child_answer, child_name, children_of, counter_after, counter_at, create_answer, create_under_answer, delete_answer, delete_parts, find_named, is_at, is_check, is_child, is_element, is_in, is_named, is_numbered, is_owned, is_owner, is_path, is_sequential, is_some, list_all, list_any, name_of, next_change, option_copied, owner_at, parent_of, part_answer, remove_first, request_text_of, root, row_before, row_of, row_with, rows_at, seen_at, seen_in, seen_of, sequence_of, set_answer, stat_at, stat_of, stat_of_child, where_found, with_bytes, with_new_child, with_next_number, with_row, with_spare, without, without_child, without_child_above, without_node}
pub use Rattle.np_tree.specs.TreeState.{new_tree}
