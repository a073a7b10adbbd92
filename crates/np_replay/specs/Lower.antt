-- What the definitions take from the crates below, passed on from one place. Declares nothing.
pub use Rattle.np_changes.specs.Prelude.{AllByRecursion, Configuration, Event, PoolId, line, lines_of, number_of}
pub use Rattle.np_config_read.specs.Walk.{reads}
pub use Rattle.np_config_text.specs.Canonical.{canonical}
pub use Rattle.np_event.specs.Line.{HasEventLine}
pub use Rattle.np_event.specs.declared.fault.LineFault.{LineFault}
pub use Rattle.np_io.specs.Memory.{Rose, IsCutShort, IsWritten, SinkFacts, SourceFacts}
pub use Rattle.np_io.specs.Disk.{DiskFacts, LeavesOnly, Only}
pub use Rattle.np_io.specs.declared.whole.ReadAll.{ReadAll}
pub use Rattle.np_json.specs.declared.fault.ConfigFault.{ConfigFault}
pub use Rattle.np_json.specs.declared.fault.ConfigKind.{ConfigKind}
pub use Rattle.np_log.specs.Log.{Content, content_of}
pub use Rattle.np_log.specs.Place.{IsSettled, Place, SaysNewLog}
pub use Rattle.np_log.specs.declared.fault.AppendFault.{AppendFault}
pub use Rattle.np_log.specs.declared.fault.CreateFault.{CreateFault}
pub use Rattle.np_log.specs.declared.fault.LoadFault.{LoadFault}
pub use Rattle.np_report.specs.Lines.{lines_read}
pub use Rattle.np_report.specs.Summary.{played}
pub use Rattle.np_report.specs.Told.{IsPrinted}
pub use Rattle.np_report.specs.Script.{IsPlayable, event_said, most_lines, script_of}
pub use Rattle.np_report.specs.declared.lines.LinesFault.{LinesFault}
pub use Rattle.np_report.specs.declared.script.Script.{Script}
pub use Rattle.np_report.specs.declared.script.ScriptFault.{ScriptFault}
pub use Rattle.np_static.specs.declared.fault.HostedFault.{HostedFault}
pub use Rattle.np_static.specs.declared.fault.HostsFault.{HostsFault}
