-- What the definitions take from the crates below, passed on from one place. Declares nothing.
pub use Rattle.np_config_read.specs.Walk.{reads}
pub use Rattle.np_event.specs.Line.{HasEventLine}
pub use Rattle.np_gen.specs.Site.{drill_site}
pub use Rattle.np_io.specs.Memory.{IsWritten, Rose, SinkFacts, SourceFacts}
pub use Rattle.np_json.specs.declared.fault.ConfigFault.{ConfigFault}
pub use Rattle.np_machine.specs.Prelude.{AllByRecursion, Configuration, Entry, Event, Fate, IsSound, Outcome, PoolId, Reason, Role, Runs, SessionId, after, fate_of, fates, line, list_any, outcome_of}
pub use Rattle.np_replay.specs.Command.{command}
pub use Rattle.np_replay.specs.Failures.{ShowsFailures}
pub use Rattle.np_replay.specs.Input.{IsInput, Stops, most}
pub use Rattle.np_replay.specs.Keep.{Keeps}
pub use Rattle.np_replay.specs.Lines.{config_line, hosted_line, hosted_status}
pub use Rattle.np_replay.specs.Replay.{Replays}
pub use Rattle.np_replay.specs.Resume.{Resumes}
pub use Rattle.np_replay.specs.Told.{EndsSo, IsTold, full_line, memory_line}
pub use Rattle.np_replay.specs.declared.ending.Ending.{Ending}
pub use Rattle.np_report.specs.Audit.{IsAText, IsNoText}
pub use Rattle.np_report.specs.Summary.{summary_of}
pub use Rattle.np_report.specs.Told.{HoldsThroughout, IsPrinted, has_digits, text_of}
pub use Rattle.np_rounds.specs.Laps.{WasPlayed}
pub use Rattle.np_rounds.specs.Played.{EndsWithTick}
pub use Rattle.np_static.specs.Loads.{is_sound, launched_numbers, numbers_with}
pub use Rattle.np_static.specs.Read.{HasHostLines, Hosted, hosted_of, hosted_read, hosted_view}
pub use Rattle.np_static.specs.Site.{Hosting, Site, host_facts, hosted, room_at, simulated, site_facts, site_of, site_plan, site_planned, site_room, site_sound, sound_at, told_of}
pub use Rattle.np_static.specs.declared.fault.HostedFault.{HostedFault}
pub use Rattle.np_worker.specs.Drive.{AreAloneSound, FailAfter, number_in, numbers_in, reports_of}
pub use Rattle.np_worker.specs.Hosting.{AreCarried, BeginsEmpty, BeginsNew, FailOnlyFull, NeverRepeats, servers_up}
pub use Rattle.np_worker.specs.Prelude.{DistinctNumbers, Driven, DrivenBy, DriverFacts, Driving, IsSettled, Launch, Says, Tag, WasOfUse, driving, is_planned}
pub use Rattle.np_worker.specs.Servers.{DrivenAs, IsPlannedTurn, PlannedBy, PlannedDriven, WasAnswered, launch_of}
