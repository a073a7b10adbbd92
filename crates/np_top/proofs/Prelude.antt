-- The names from elsewhere that the proofs cite, passed on from one place. Declares nothing.
pub use Rattle.np_board.specs.Outstanding.{ran_of as planning_ran}
pub use Rattle.np_changes.specs.Prelude.{◌>>=◌, Answer, EachAfter, JobId, NodeId, Refusal, RequestId, RequestRecord, State, Turn, found, janitor, judge, launcher, lock_request_as, maker, next, option_map, request_at, request_in, start, turns, turns_from, unlock_request_as}
pub use Rattle.np_cloud.proofs.CloudLemmas.{simulations-planned}
pub use Rattle.np_cloud.specs.Inventory.{ArePlanned, simulations, Told, told_nothing, Simulation, simulated_outcome, simulation_facts, simulation_of, simulation_plan}
pub use Rattle.np_cloud.specs.Sound.{every_list}
pub use Rattle.np_replay.proofs.ResumeStatuses.{resumes}
pub use Rattle.np_replay.proofs.Statuses.{HasOwn, IsOwn, Printed, Said, ShowsOwn, complete-read, complete-shown, keeps, printed-of, replays, said-of, tells}
pub use Rattle.np_report.proofs.Named.{HasIds, HasIds-next, HasIds-start, IsSayable, request-digits, text-of}
pub use Rattle.np_report.proofs.PlayedLemmas.{printed-Runs}
pub use Rattle.np_report.proofs.Prelude.{drop-past, from-map_some}
pub use Rattle.np_report.proofs.Rows.{jobs-Runs}
pub use Rattle.np_rules.proofs.First.{Runs-first}
pub use Rattle.np_rules.specs.Running.{Ran, ran_of}
pub use Rattle.np_static.proofs.Sites.{IsFresh, hosted-count, hosted-fresh, hosted-lines, hosted-simulated}
pub use Rattle.np_static.specs.declared.driver.HostDriver.{HostDriver}
pub use Rattle.np_static.specs.declared.hosted.HostedSite.{HostedSite}
pub use Rattle.np_static.specs.declared.site.SiteDriver.{SiteDriver}
pub use Rattle.np_top.specs.Audit.{Audits, EndsAudit, InputIsNoText, InputIsText, IsAuditStatusIf, yes_line, IsTyped}
pub use Rattle.np_top.specs.Lower.{AllByRecursion, AreAloneSound, AreCarried, BeginsEmpty, BeginsNew, Configuration, DistinctNumbers, Driven, DrivenAs, DrivenBy, DriverFacts, Driving, Ending, EndsSo, EndsWithTick, Entry, Event, FailAfter, FailOnlyFull, Fate, HasEventLine, HasHostLines, Hosted, HostedFault, Hosting, IsInput, IsPlannedTurn, IsPrinted, IsSettled, IsSound, IsTold, IsWritten, Launch, NeverRepeats, Outcome, PlannedBy, PoolId, Reason, Role, Runs, Says, SessionId, SinkFacts, Site, SourceFacts, Tag, WasAnswered, WasOfUse, WasPlayed, after, drill_site, driving, fate_of, fates, full_line, has_digits, host_facts, hosted, hosted_read, hosted_view, is_planned, launch_of, launched_numbers, number_in, numbers_in, numbers_with, outcome_of, reports_of, room_at, servers_up, simulated, site_facts, site_of, site_plan, site_planned, site_room, site_sound, sound_at, summary_of, text_of, told_of}
pub use Rattle.np_top.specs.Play.{Drills, EndsDrill, IsDrill, EndsPlay, HasEnded, HasStopped, IsPlayedTo, WasPlayedBy, is_waiting, some_waits, status_of_fates}
pub use Rattle.np_top.specs.Run.{EndsRun, EndsSite, HasCome, IsNoSite, IsRun, IsStatusBy, IsStatusIf, RunsSite, SiteCommand, driven_as, fates_of_run, plain_run, planned_run, site_run, AreHosted, IsDrivenWithHosts, IsPlannedAt, hosted_run, planned_without_hosts}
pub use Rattle.np_useful.specs.Driven.{DrivenFrom, IsDrivenTurn}
pub use Rattle.np_useful.specs.Useful.{IsUseful, row_holds}
pub use Rattle.np_worker.proofs.Journals.{driven-more, planned-driven, planned-planned}
pub use Rattle.std.proofs.Common.{Bool, Err, List, None, Ok, Result, add-one, ap, arith, drop, false, if◌then◌else◌, inl, inr, length, map, refl, rules, subst, suc, sym, take, true, zero, ℕ, [], ◌++◌, ◌-◌, ◌<◌, ◌∙◌, ◌∷◌, ◌≡◌, ◌≤◌}
pub use Rattle.std.proofs.lemmas.List.{length-map}
pub use Rattle.std.proofs.lemmas.List.Elements.{All-append, All-cons, All-head, All-map, All-nil, All-tail, All-weaker}
pub use Rattle.std.proofs.lemmas.Option.{slice_get-map, slice_get_within}
pub use Rattle.std.specs.List.{list_any}
pub use Rattle.std.specs.Prelude.{All, IfOk, IfSome, IsTrue, Option, Some, is_ok, is_some, slice_get, ◌||◌, ◌⊎◌}
