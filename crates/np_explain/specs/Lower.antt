-- What the definitions take from the crates below, passed on from one place. Declares nothing.
pub use Rattle.np_changes.specs.Prelude.{AllByRecursion, Configuration, Declined, Ending, Entry, Event, JobId, JobRecord, Reply, RequestId, RequestRecord, Runs, State, flat_map, is_over, judge, list_any, next, reply_of, request_in}
pub use Rattle.np_check.specs.Report.{fault_text, finding_lines, findings, places, verdict_of}
pub use Rattle.np_check.specs.Spot.{spot_of}
pub use Rattle.np_check.specs.declared.spot.Spot.{Spot}
pub use Rattle.np_config_read.specs.Walk.{reads}
pub use Rattle.np_event.specs.Line.{HasEventLine}
pub use Rattle.np_explain_lines.specs.Chains.{ExplainsAll, facts_of}
pub use Rattle.np_explain_lines.specs.Line.{job_words, line_of, pool_words, reason_words, request_words}
pub use Rattle.np_explain_lines.specs.declared.chain.Link.{Link}
pub use Rattle.np_io.specs.Memory.{IsWritten, Rose, SinkFacts, SourceFacts}
pub use Rattle.np_json.specs.declared.fault.ConfigFault.{ConfigFault}
pub use Rattle.np_listing.specs.Listing.{listing_of}
pub use Rattle.np_listing.specs.Summary.{summary_of}
pub use Rattle.np_listing.specs.Tally.{Counted, counted}
pub use Rattle.np_replay.specs.Failures.{ShowsFailures}
pub use Rattle.np_replay.specs.Input.{IsInput, Stops, most}
pub use Rattle.np_replay.specs.Told.{EndsSo, IsTold}
pub use Rattle.np_replay.specs.declared.ending.Ending.{Ending as CommandEnding}
pub use Rattle.np_report.specs.Audit.{IsNoText}
pub use Rattle.np_report.specs.Told.{IsPrinted}
pub use Rattle.np_rules.specs.Running.{Ran, Running, RunsOn, answer_after, applied_after, has_room_after, ran_of}
