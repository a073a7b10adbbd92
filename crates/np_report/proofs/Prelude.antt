-- The names that the proofs cite from elsewhere, passed on from one place. Declares nothing.
pub use Rattle.json.proofs.Printed.Decimals.{IsNumber-decimal}
pub use Rattle.json.proofs.Printed.Tokens.{tokens-print}
pub use Rattle.json.proofs.Printed.Trees.{ArePrintable-json_tokens, value-json_tokens}
pub use Rattle.json.proofs.Printed.Utf8.{IsUtf8-are_ascii, IsUtf8-quoted, are_ascii}
pub use Rattle.json.specs.Lex.{tokens}
pub use Rattle.json.specs.Print.{escape, quoted}
unfoldable pub use Rattle.json.specs.Print.{escape_byte}
pub use Rattle.np_changes.proofs.Accepted.{on-own_job, plan-next}
pub use Rattle.np_changes.proofs.Jobs.{jobs-grown}
pub use Rattle.np_changes.proofs.Lookups.{rows-few}
pub use Rattle.np_changes.proofs.Premises.{premises}
pub use Rattle.np_changes.proofs.Records.{kept-every_step}
pub use Rattle.np_changes.proofs.Runs.{caused-every_step, fenced-every_step, invariant-next, invariant-start, safe-every_step}
pub use Rattle.np_changes.proofs.Shapes.{NodeKept, RequestKept, RequestShape, Shaped, node-found, node-queue, request-found, shape-Runs, shape-next, sound_fits, starts-few}
pub use Rattle.np_changes.specs.Parts.{Invariant, IsLauncher, IsLive, IsLiveQueue}
pub use Rattle.np_changes.specs.Prelude.{◌>>=◌, ◌>>◌, Amount, AmountFits, Answer, AsksForJob, AsksToKeep, EachAfter, EndAs, Fault, FaultKind, GrowthPremise, HasText, IsFew, IsFitSite, IsJob, IsOffer, IsPool, IsPriority, IsTaken, IsWanted, Janitor, JobId, JobRecord, Label, LabelId, Launcher, NodeEntry, NodeRecord, NodeState, NodesPremise, Offer, Phase, Pool, Premises, PutsNode, Reaper, Reason, Registration, RequestEntry, RequestRecord, Role, Sem, SemId, SessionFacts, SessionId, StandsByOwner, Tenant, TenantId, ahead_of, all_in_use, allocated, amount_of, amount_of_all, amount_of_node, as_launcher, blocking, by_node_holder, by_registrant, by_request_holder, change_first, changed, comes_before, count_by, count_of, count_of_tenant, earlier, edited, first_full, first_of, first_unoffered, found, freed, freed_from, grown, has_handle, holder, in_state_for, in_use, is_asked, is_building, is_candidate, is_coming, is_declined_by, is_deleting, is_filled, is_finishable, is_free_ready, is_fulfilled, is_id_before, is_in_use, is_new, is_offered, is_over, is_pending_by, is_pending_of, is_pinned_away, is_queued, is_ready, is_request, is_role, is_session, is_session_of, is_short, is_some, is_spent_min_ready, is_tenant, is_true, is_wanted, janitor, jobs_changed, joined, judge_accept, judge_acquire, judge_create, judge_decline, judge_done, judge_end_node, judge_fail_declined, judge_finish, judge_free_node, judge_fulfil, judge_gone, judge_lock_node, judge_mark_deleting, judge_min_ready, judge_open, judge_register, judge_release, judge_reset, judge_revise, judge_start, judge_submit, judge_sweep, judge_take, judge_take_ready, judge_unlock_node, judge_withdraw, launcher, least, left, list_any, lock_request_as, maker, may_finish, may_release, missing_handles, need, never_fits, new_record, next_id, next_label, node_at, node_entry, node_holder, node_in, node_left, node_queue, nodes_changed, nodes_left, none_missing, not_declined, nothing, of_pool, option_copied, other_than, own_job, place_reply, plan, ready_age, ready_count, registered, replayed, request_at, request_entry, request_holder, request_in, request_left, request_queue, requester, requester_or_janitor, requests_changed, requests_left, rest_of_request, same_request, session_of, standing, state_after, tenant_never_fits, total, undeclined, unfilled, unheld, unlock_request_as, vacant, wrong_node, wrong_request}
pub use Rattle.np_changes.specs.Premises.{Gains}
pub use Rattle.np_changes.specs.declared.asked.Asked.{Asked}
pub use Rattle.np_changes.specs.declared.changes.Changes.{Changes}
pub use Rattle.np_changes.specs.declared.changes.Growth.{Growth}
pub use Rattle.np_changes.specs.declared.changes.JobsChange.{JobsChange}
pub use Rattle.np_changes.specs.declared.changes.Maker.{Maker}
pub use Rattle.np_changes.specs.declared.changes.NodesChange.{NodesChange}
pub use Rattle.np_changes.specs.declared.changes.RequestEdit.{RequestEdit}
pub use Rattle.np_changes.specs.declared.changes.RequestsChange.{RequestsChange}
pub use Rattle.np_changes.specs.declared.changes.SessionsChange.{SessionsChange}
pub use Rattle.np_config.specs.Configuration.{tenant_of, IsFault, IsLabel, IsProvider, IsRequester, IsSem, IsStart, IsTenant}
pub use Rattle.np_config.specs.Word.{fault_kind_word}
pub use Rattle.np_config.specs.declared.row.FaultKind.TheVariants.{Expire}
pub use Rattle.np_config.specs.declared.row.Provider.{Provider}
pub use Rattle.np_config.specs.declared.row.Requester.{Requester}
pub use Rattle.np_config_read.proofs.WalkTakes.{reads-takes}
pub use Rattle.np_config_read.specs.Providers.{pool_name}
pub use Rattle.np_config_read.specs.Requesters.{count}
pub use Rattle.np_config_text.proofs.Again.{at_place, label-ascii, pool_name-ascii, requester-ascii, semaphore-ascii, tenant-ascii}
pub use Rattle.np_config_text.proofs.AgainWhole.{reads-again}
pub use Rattle.np_config_text.proofs.Values.{configuration-depth}
unfoldable pub use Rattle.np_config_text.specs.Canonical.{canonical}
pub use Rattle.np_event.proofs.Fields.{bytes_eq-refl, same_bytes}
pub use Rattle.np_event.proofs.Lines.{entry_in-line, entry_in-told, entry_line-injective, entry_line-no_bar, event_in-spelled, is_line-entry}
unfoldable pub use Rattle.np_event.specs.Line.{entry_in, sides_of}
pub use Rattle.np_event.specs.declared.event.Event.TheVariants.{Tick}
pub use Rattle.np_lists.proofs.Changes.{EachAfter-from_all, all-at, all-change_first, all-filter, all-find, all-from_at, all-insert_before, all-mapped, all-push, all-remove_first, all-weaker, find-passes, length-change_at}
pub use Rattle.np_lists.proofs.Plain.{by_bool, drop-past, drop-there, found-some, from-map_some, length-set, need-last}
pub use Rattle.np_machine.proofs.Runs.{state_after-push}
pub use Rattle.np_machine.specs.Node.{is_own, may_delete, owner_from}
pub use Rattle.np_machine.specs.Reasons.{due_tick}
pub use Rattle.np_machine.specs.Semaphore.{may_take}
pub use Rattle.np_machine.specs.Session.{judge_crash, judge_expire}
pub use Rattle.np_machine.specs.Tests.{Check, as_janitor, as_requester, in_pending, in_pending_by, in_requested, incomplete, job_at, not_blocked, of_requester, quota_short, record_of, unlocked, wrong_job}
pub use Rattle.np_report.specs.Agreement.{common_lines, finding_of, newline_count, newlines}
pub use Rattle.np_report.specs.Audit.{BeginsAText, IsAText, IsNoText, IsSo}
pub use Rattle.np_report.specs.Lines.{IsFirstFault, are_read, lines_read, with_line}
pub use Rattle.np_report.specs.Lower.{AllByRecursion, ConfigFault, Configuration, Declined, Done, Entry, Event, Fate, HasEntryLine, HasEventLine, HasReplyLine, IsSound, Job, NodeId, PoolId, Ran, Refusal, RequestId, Running, Runs, State, after, applied, bar, configuration_data, end_as_word, entry_line, fate_of, fates, fault_data, flat_map, full_name, given, given_count, has_bar, has_room, is_line, job_data, job_tenant, judge, label_data, label_name, line, line_in, line_length, lines_of, list_all, list_data, list_if_any, next, offer_data, option_map, option_map_or, phase_word, placed, pool_data, pools_of, priority_word, provider_data, ran_of, reads, reason_text_of, reply_of, requester_data, role_name, role_word, sections_of, semaphore_data, semaphore_name, start, tenant_data, tenant_name, worked, worked_text}
pub use Rattle.np_report.specs.Script.{IsPlayable, event_said, events_of, most_lines}
pub use Rattle.np_report.specs.Summary.{event_told, events_told, first_line, later_lines, leading_events, with_event, played, played_from, ran, is_end}
pub use Rattle.np_report.specs.Told.{HoldsThroughout, IsPrinted, decline_text, entry_lines, fate_lines, fate_text, node_text, pool_text, requester_name, IsToldEntry, has_digits, is_told, is_told_done, is_told_refusal}
unfoldable pub use Rattle.np_report.specs.Told.{job_text, text_of}
pub use Rattle.np_report.specs.declared.finding.Finding.{Finding}
pub use Rattle.np_report.specs.declared.finding.Finding.TheVariants.{No, Yes}
pub use Rattle.np_report.specs.declared.lines.LinesFault.{LinesFault}
pub use Rattle.np_report.specs.declared.lines.LinesFault.TheVariants.{Line, TooMany}
pub use Rattle.np_report.specs.declared.script.Script.{Script}
pub use Rattle.np_rules.proofs.First.{applied-first}
pub use Rattle.np_text.proofs.LineLemmas.{lines_of-line, lines_of-lines, lines_of-walk}
pub use Rattle.np_text.proofs.NameLemmas.{IsAscii-name}
pub use Rattle.np_text.proofs.SectionLemmas.{sections_of-bar}
pub use Rattle.np_text.specs.Name.{is_name_byte}
unfoldable pub use Rattle.np_text.specs.Name.{is_name_text}
pub use Rattle.np_text.specs.declared.word.EndAs.TheVariants.{Hold, Used}
pub use Rattle.serde_json.proofs.Numbers.{number_of-decimal}
pub use Rattle.serde_json.proofs.Texts.{print-outline}
pub use Rattle.serde_json.specs.Data.{Data, Items, Members, Num, array, boolean, depth, float, item, items_depth, member, members_depth, negative, no_items, no_members, null, number, object, put, string, unsigned}
pub use Rattle.serde_json.specs.Read.{max_depth, of_items, of_json, of_members, read}
pub use Rattle.serde_json.specs.View.{items_of}
pub use Rattle.serde_json.specs.Written.{comma_if, compact_text, items_outline, items_text, members_outline, members_text, number_text, outline}
pub use Rattle.std.proofs.Common.{All, Bool, Err, IfOk, IfSome, IsAscii, IsUtf8, List, None, Ok, Option, Result, Some, [], add-one, ap, append-nil, append_assoc, arith, bytes_eq, codes, cond, decimal, drop, drop_at, eq-eqb, eqb-true, false, filter, find, fold, get_or, if◌then◌else◌, inl, inr, is_none, is_ok, length, length-drop, length-take, map, nat_le, nat_lt, negsuc, not, pos, refl, slice_get, subst, suc, sym, take, take_all, take_at, true, zero, ℕ, ◌%◌, ◌&&◌, ◌*◌, ◌++◌, ◌+◌, ◌-◌, ◌/◌, ◌<◌, ◌==◌, ◌^◌, ◌||◌, ◌∙◌, ◌∷◌, ◌≡◌, ◌≢◌, ◌≤◌, ◌⊎◌}
pub use Rattle.std.proofs.lemmas.Bool.{and_parts}
pub use Rattle.std.proofs.lemmas.Bool.Decides.{nat_tests}
pub use Rattle.std.proofs.lemmas.Fmt.{IsAscii-decimal}
pub use Rattle.std.proofs.lemmas.List.{append_cancel_left, drop_all, drop_min, drop_more, length-map, length_push, nil_from_length, take_more}
pub use Rattle.std.proofs.lemmas.List.Elements.{All-head, All-tail}
pub use Rattle.std.proofs.lemmas.List.Folds.{list_all-append}
pub use Rattle.std.proofs.lemmas.List.Sums.{count_by-le-length, sum_by-append, sum_by-cons}
pub use Rattle.std.proofs.lemmas.Option.{slice_get_within}
pub use Rattle.std.proofs.lemmas.Str.{IsUtf8-append, IsUtf8-from_ascii}
pub use Rattle.std.specs.Fmt.{digit_glyph, digits_onto}
unfoldable pub use Rattle.std.specs.Fmt.{digits}
