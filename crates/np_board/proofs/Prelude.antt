-- The names from elsewhere that the proofs cite, passed on from one place. Declares nothing.
pub use Rattle.np_board.specs.Batch.{HearsWithTicket, asks_once, asks_with_ticket, hears_once, launcher_ask, next_ask, turn_ask, unless_heard, plan_answers, plan_recorded, IsMayDo, fired_spot, told_by}
pub use Rattle.np_board.specs.Lower.{AllByRecursion, Also, Answered, AnsweredAtOnce, AreFreshPaths, Ask, Asked, Configuration, DeskView, Entry, Event, FreshCommits, Heard, Holds, IsDue, IsKept, IsLater, IsNotKept, IsOf, IsReplied, IsSettled, IsStored, IsUseful, Janitor, Launcher, NoMemory, NodeId, NodeRecord, Pool, PoolId, Ran, Records, Reply, Role, Running, Runs, SessionId, Sight, Since, Spot, SpotsHaveParents, SpotsHavePaths, StaleHasParent, State, Took, TookAtOnce, TreeState, Turn, Turned, Unturned, Walk, Walked, WasUseful, Watch, after, answer_of, answers, answers_act, answers_also, answers_do, answers_due, answers_sweep, applied, change_at, entries_of, has_key, has_room, insert_before, is_deleting, is_fired, is_legal, is_session_of, is_some, is_swept, is_watched, judge, key_before, list_any, node_holder, node_in, node_queue, option_map_or, path_at, paths_at, ran_of, recorded, remove_first, reply_of, sight_of, spots_of, watch_of, with_watch}
pub use Rattle.np_board.specs.Outstanding.{is_due, AreOfSpots, FreshAreAccepted, IsNewPlan, IsOutstanding, IsPlanning, Outstanding, Planning, plan_in, plan_of, planning_of, watches_from, watches_of, with_plan, HasEnded, TookWithTicket, TookWithTickets, launchers_before}
pub use Rattle.np_board.specs.PlanTaken.{HasNoNews, IsAsBefore, IsBarred, IsCommitted, IsPlanTaken, TakenNews, IsTaken}
pub use Rattle.np_board.specs.declared.batch.Batch.{Batch}
pub use Rattle.np_board.specs.declared.batch.Stage.{Stage}
pub use Rattle.np_board.specs.declared.board.plan.PlanAsk.{PlanAsk}
pub use Rattle.np_board.specs.declared.board.plan.PlanTurn.{PlanTurn}
pub use Rattle.np_board.specs.declared.once.Once.{Once}
pub use Rattle.np_changes.proofs.Accepted.{change_at-twice, ok-is}
pub use Rattle.np_changes.proofs.Shapes.{sound_fits}
pub use Rattle.np_changes.proofs.Turns.{holder-waits}
pub use Rattle.np_desk.proofs.HistoryLemmas.{Went, heard-append, starts_on, starts_same, took-part, took-whole, unturned-same, unturned_on, walk-append}
pub use Rattle.np_jobs.proofs.Settles.{outside-idle}
pub use Rattle.np_lists.proofs.Changes.{all-find, all-remove_first, change_at-past, change_at-set, length-change_at, remove_first-absent, slice_get-change_at, slice_get-change_at_other}
pub use Rattle.np_lists.proofs.Plain.{equal-itself, equal-numbers, from-map_some, length-map, member-there, not-past, there-at}
pub use Rattle.np_look.specs.Readers.{queued_nodes}
pub use Rattle.np_rules.proofs.First.{Runs-first, answer-first, applied-first}
pub use Rattle.np_rules.proofs.RunLemmas.{RunsOn-fits, RunsOn-reached}
pub use Rattle.np_tree.proofs.LaterLemmas.{later-joined, later-than-itself}
pub use Rattle.np_useful.proofs.Useful.{StandsIn, current-has, holder-queued, one-current, queued-node}
pub use Rattle.np_useful.specs.Sessions.{has_current, is_current}
pub use Rattle.np_useful.specs.Useful.{takes_part}
pub use Rattle.np_worker.proofs.Journals.{legal-next}
pub use Rattle.np_worker.proofs.Walks.{turn-replied}
pub use Rattle.std.proofs.Common.{Bool, Err, IfOk, List, None, Ok, OnErr, Option, Result, Some, ap, append-nil, arith, below_more, false, inl, inr, length, length-append, not, refl, rules, subst, suc, sym, take, true, zero, ℕ, [], ⊎_elim, ◌++◌, ◌+◌, ◌-◌, ◌<◌, ◌∙◌, ◌∷◌, ◌≡◌, ◌≢◌, ◌≤◌, ◌⊎◌}
pub use Rattle.std.proofs.Math.Seq.{take-length}
pub use Rattle.std.proofs.lemmas.Bool.{and_from, and_parts, eqb-false, false_from_ne_true}
pub use Rattle.std.proofs.lemmas.Bool.Decides.{nat_tests}
pub use Rattle.std.proofs.lemmas.List.{length-replicate, length-take-le, take-append-le, take_more}
pub use Rattle.std.proofs.lemmas.Option.{get_or_from_slice_get, slice_get-get_or}
pub use Rattle.std.proofs.lemmas.Result.{IfOk-weaker}
pub use Rattle.std.specs.Prelude.{MatchResult, find, if◌then◌else◌, is_ok, nat_lt, option_and_then, replicate, slice_get, slice_set, ◌&&◌, ◌==◌, ◌↔◌}
pub use mathlib.Core.Logic.{dite}
pub use native.Mathlib.Decide.{ℕ_discrete}
