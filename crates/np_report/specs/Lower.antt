-- What the definitions take from the crates below, passed on from one place. Declares nothing.
pub use Rattle.np_changes.specs.Steps.{AfterEveryStep}
pub use Rattle.np_config_read.specs.Walk.{reads}
pub use Rattle.np_config_text.specs.Canonical.{canonical, configuration_data, fault_data, full_name, given, given_count, job_data, job_tenant, label_data, label_name, list_data, list_if_any, offer_data, placed, pool_data, pools_of, priority_word, provider_data, requester_data, role_name, role_word, semaphore_data, semaphore_name, tenant_data, tenant_name, worked, worked_text}
pub use Rattle.np_event.specs.Line.{HasEntryLine, HasEventLine, HasReplyLine, entry_in, entry_line, event_in}
pub use Rattle.np_event.specs.Words.{words_of}
pub use Rattle.np_event.specs.declared.fault.LineFault.{LineFault}
pub use Rattle.np_json.specs.declared.fault.ConfigFault.{ConfigFault}
pub use Rattle.np_machine.specs.Fates.{declines_of, fate_of}
pub use Rattle.np_machine.specs.Prelude.{AllByRecursion, Caused, Configuration, Declined, Done, Ending, Entry, Event, Fate, Fenced, IsSound, Job, Kept, NodeId, PoolId, Refusal, Reply, RequestId, Runs, Safe, State, after, bar, fates, flat_map, is_line, judge, line, list_all, next, option_map, option_map_or, reply_of, start}
pub use Rattle.np_rules.specs.Running.{Ran, Running, applied, has_room, ran_of}
pub use Rattle.np_text.specs.Lines.{line_in, line_length, lines_of}
pub use Rattle.np_text.specs.Sections.{has_bar, sections_of}
pub use Rattle.np_text.specs.Word.{end_as_word, phase_word, reason_text_of}
