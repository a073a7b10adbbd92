-- The names that the proofs cite from elsewhere, passed on from one place. Declares nothing.
unfoldable pub use Rattle.clap.proofs.OnLiterals.{clap_on_literals}
pub use Rattle.clap.proofs.WalkLemmas.{first_value-rows}
pub use Rattle.clap.specs.Faults.{check_fault, defaults_fault, entered_fault, settle_fault, step_fault, turn_fault, walk_fault, word_fault}
pub use Rattle.clap.specs.Kinds.{HasKind, Kinds, or_else}
pub use Rattle.clap.specs.Simple.{Shape, built, entered}
pub use Rattle.clap.specs.Walk.{Held, Row, Step, Text, Walk, after_step, finished, idle, nothing_held, settled, value, walked, word_met}
pub use Rattle.clap.specs.Words.{App, HasMatchesOf, fault_of, first_of, found_of, is_simple, is_simple_and_free, kind_of, matches_of, rows_of}
pub use Rattle.clap.specs.declared.builder.value_parser.Reading.TheVariants.{AsWritten}
pub use Rattle.clap.specs.declared.error.Error.{Error}
pub use Rattle.clap.specs.declared.error.kind.ErrorKind.TheVariants.{OutOfMemory, UnknownArgument}
pub use Rattle.clap.specs.declared.parser.matches.ArgMatches.{ArgMatches}
pub use Rattle.clap.specs.declared.parser.matches.ValueSource.TheVariants.{CommandLine}
pub use Rattle.np_config_text.proofs.Short.{canonical-short}
pub use Rattle.np_event.proofs.Lines.{event_in-spelled}
pub use Rattle.np_io.proofs.Moments.{LeavesOnly-then, LeavesOnly-weaker}
pub use Rattle.np_lists.proofs.Plain.{by_bool}
pub use Rattle.np_log.proofs.Walks.{lines-append}
pub use Rattle.np_replay.specs.Application.{application, command_found, command_given}
pub use Rattle.np_replay.specs.Command.{bare_command, command, command_pair, drill_of, without_dashes}
pub use Rattle.np_replay.specs.Faults.{TellsScript}
pub use Rattle.np_replay.specs.Input.{IsInput, Stops, most}
pub use Rattle.np_replay.specs.Keep.{EndsKeep, HasScript, IsBegun, IsBroken, IsKept, IsNotKept, IsOccupied, IsStatusBy, IsStatusIf, Keeps, KeepsWhole, WasNotEmpty}
pub use Rattle.np_replay.specs.Keeping.{EndsKeeping, HasCome, IsBegunBy}
pub use Rattle.np_replay.specs.Lines.{script_status}
pub use Rattle.np_replay.specs.Logged.{IsDamagedAt, IsPartOfLog, disk_line, more_of, not_empty_line}
pub use Rattle.np_replay.specs.Lower.{AllByRecursion, Configuration, DiskFacts, Event, HasEventLine, IsCutShort, IsPlayable, IsWritten, LeavesOnly, LineFault, LinesFault, Place, Rose, Script, ScriptFault, SinkFacts, SourceFacts, canonical, event_said, lines_of, most_lines, script_of}
pub use Rattle.np_replay.specs.Replay.{EndsReplay, IsFaulty, IsReplayed, Replays, status_by}
pub use Rattle.np_replay.specs.Resume.{EndsResume, IsCutOff, IsDamaged, IsGoingOn, IsMisread, IsNotResumed, IsReadLogOf, IsResumed, Resumes, ResumesWhole}
pub use Rattle.np_replay.specs.Resuming.{IsReady}
pub use Rattle.np_replay.specs.Told.{EndsSo, IsSaid, IsTold, full_line, long_line, memory_line, read_line, write_line}
pub use Rattle.np_replay.specs.declared.command.Command.{Command}
pub use Rattle.np_replay.specs.declared.ending.Ending.{Ending}
pub use Rattle.np_report.proofs.PlayedLemmas.{lines_read-all, lines_read-few}
unfoldable pub use Rattle.np_text.specs.Number.{digits_within, number_of}
pub use Rattle.std.proofs.Common.{Bool, Err, IfSome, List, None, Ok, Option, Result, Some, [], ap, append-nil, append_assoc, ap₂, arith, bytes_eq, chars, codes, decimal, eqb-true, false, fold, if◌then◌else◌, inl, inr, is_some, length, length-append, nat_eq, nat_lt, refl, subst, sym, true, true≢false, ℕ, ◌++◌, ◌+◌, ◌-◌, ◌<◌, ◌==◌, ◌∙◌, ◌∷◌, ◌≡◌, ◌≢◌, ◌≤◌, ◌⊎◌}
pub use Rattle.std.proofs.lemmas.Bool.Decides.{nat_tests}
pub use Rattle.std.proofs.lemmas.Option.{IfSome_then}
pub use Rattle.std.specs.Global.{Vec}
