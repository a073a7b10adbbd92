-- The names from elsewhere that the proofs cite, passed on from one place. Declares nothing.
pub use Rattle.np_check.specs.declared.finding.Finding.{Finding}
pub use Rattle.np_explain.specs.Answers.{Answers, Refuses, Ends, Explains, IsAnswered, IsRefused, IsStatusIf}
pub use Rattle.np_explain.specs.Explained.{is_open, link_lines, status_of, declined_line, lines_of_job, GoesOn, IsPlayed}
pub use Rattle.np_explain.specs.Lower.{AllByRecursion, Configuration, Counted, Entry, Event, HasEventLine, IsInput, IsTold, IsWritten, Ran, Reply, Running, Runs, RunsOn, SinkFacts, SourceFacts, answer_after, applied_after, counted, findings, flat_map, has_room_after, judge, list_any, next, places, ran_of, reply_of, verdict_of}
pub use Rattle.np_explain.specs.declared.command.Asked.{Asked}
pub use Rattle.np_explain.specs.declared.command.Query.{Query}
pub use Rattle.np_lists.proofs.Changes.{all-push}
pub use Rattle.np_lists.proofs.Plain.{drop-there}
pub use Rattle.np_replay.proofs.Statuses.{HasOwn, ShowsOwn, complete-read, tells}
pub use Rattle.np_replay.specs.declared.ending.Ending.{Ending}
pub use Rattle.np_rules.proofs.First.{Runs-first}
pub use Rattle.np_rules.proofs.RunLemmas.{RunsOn-fits}
pub use Rattle.std.proofs.Common.{Bool, List, Some, add-one, ap, append-nil, append_assoc, arith, drop, false, get_or, if◌then◌else◌, inl, inr, length, nat_lt, refl, slice_get, subst, suc, sym, take, true, ℕ, [], ◌++◌, ◌+◌, ◌<◌, ◌∙◌, ◌∷◌, ◌≡◌, ◌≤◌}
pub use Rattle.std.proofs.lemmas.Bool.Decides.{nat_tests}
pub use Rattle.std.proofs.lemmas.List.{length-append, take_more}
pub use Rattle.std.specs.Prelude.{◌⊎◌}
