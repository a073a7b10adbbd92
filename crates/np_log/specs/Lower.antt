-- What the definitions take from the crates below, passed on from one place. Declares nothing.
pub use Rattle.np_event.specs.Line.{HasEventLine, event_in, event_line}
pub use Rattle.np_event.specs.Words.{words_of}
pub use Rattle.np_event.specs.declared.event.Event.{Event}
pub use Rattle.np_io.specs.Memory.{Rose}
pub use Rattle.np_io.specs.Disk.{AfterTornWrite, DiskFacts, IsDisk, LeavesOnly, Only, Settles, Stays, TornWrite, put_at}
pub use Rattle.np_lists.specs.Refusals.{found, need}
pub use Rattle.np_text.specs.Lines.{line, line_in, lines_of}
pub use Rattle.np_text.specs.declared.limit.TheConstants.{JOURNAL_ENTRIES}
