-- What the definitions take from the crates below, passed on from one place. Declares nothing.
pub use Rattle.np_changes.specs.Prelude.{Amount, Configuration, Declined, Ending, Entry, Event, Fits, Janitor, JobId, JobRecord, Launcher, Outcome, PoolId, Reaper, Requester, Role, Runs, SemId, SessionFacts, SessionId, State, TenantId, after, count_by, count_of, count_of_tenant, flat_map, handles_of, is_done, is_full, is_session_of, limit_of, limit_of_tenant, line, list_all, next, nothing, option_map, option_map_or, range_with_len, registered, session_of, start, state_after, turns, turns_from}
pub use Rattle.np_explain_lines.specs.Line.{amount_words, job_words, label_words, node_words, pool_words, request_words, role_words, semaphore_words, session_words, tenant_words}
pub use Rattle.np_look.specs.Readers.{queued_nodes, queued_requests}
pub use Rattle.np_look.specs.Jobs.{node_view, request_view}
pub use Rattle.np_look.specs.declared.asked.NodeView.{NodeView}
pub use Rattle.np_look.specs.declared.asked.RequestView.{RequestView}
pub use Rattle.np_text.specs.Word.{node_state_word, reason_text_of, request_state_word}
