-- The names from elsewhere that the proofs cite, passed on from one place. Declares nothing.
pub use Rattle.np_changes.proofs.Accepted.{head-reply, launcher-role, ok-is, on-found, on-given, on-need, plan-next, tail-replies, take_ready-stands}
pub use Rattle.np_changes.proofs.HeldNodes.{is_first, one-named}
pub use Rattle.np_changes.proofs.Holding.{replied-at}
pub use Rattle.np_changes.proofs.Lookups.{Added, Altered, IsAllocated, IsFreed, IsPut, IsUsed, NodeChange, NodeStep, Removed, Stays, node-step, node_queue-removed, grown-numbered, next-more, node_in-allocated, node_in-below, node_in-freed, node_in-in_use, node_in-later, node_in-left, node_in-new, node_in-other, node_in-put, node_in-queue, node_in-remove, node_in-removed, node_queue-allocated, node_queue-freed, node_queue-in_use, node_queue-left, node_queue-new, node_queue-nowhere, node_queue-other, node_queue-put, node_queue-queue, node_queue-remove, row-of, same_node-is, same_pool, used_from}
pub use Rattle.np_changes.proofs.Premises.{premises}
pub use Rattle.np_changes.proofs.Queues.{facts-grown, facts_in}
pub use Rattle.np_changes.proofs.RequestStates.{Way, owned-node, owns-if}
pub use Rattle.np_changes.proofs.Runs.{Runs-next, invariant-after, invariant-next, invariant-start}
pub use Rattle.np_changes.specs.Parts.{Invariant, IsLive, IsLiveQueue, RunsWhileBuilding}
pub use Rattle.np_changes.specs.Prelude.{◌>>=◌, ◌>>◌, Answer, EachTurn, EndAs, JobId, JobRecord, LabelId, NodesPremise, Premises, PutsNode, RequestId, RequestRecord, Rises, SessionFacts, Swept, TenantId, all_freed, all_in_use, allocated, as_launcher, change_first, change_session, changed, create_by, create_for, created, decline_by, declined, effect, ended_as, expired, found, freed, fulfilled, given_back, given_up, grown, holder, insert_before, is_building, is_fulfilled, is_in_use, is_node, is_pair, is_pair_after, is_pending_by, is_ready, is_request, is_server, is_session, is_session_of, janitor, joined, judge_done, judge_end_node, judge_start, judge_take, judge_take_ready, launcher, left, made, muted, need, next_label, node_ended, node_freed, node_left, node_queue, nodes_changed, nodes_left, outcome_of, plan, put_node, put_node_queue, registered, remove_node, replayed, request_holder, request_in, retries_of, same_role, session_of, sessions_changed, start_by, started, starts_of, state_after, take_for, take_from, taken, tenant_of_request, took_ready, turns_from, with_act, with_pair}
pub use Rattle.np_changes.specs.declared.changes.Changes.{Changes}
pub use Rattle.np_changes.specs.declared.changes.Growth.{Growth}
pub use Rattle.np_changes.specs.declared.changes.Maker.{Maker}
pub use Rattle.np_changes.specs.declared.changes.NodesChange.{NodesChange}
pub use Rattle.np_changes.specs.declared.changes.RequestsChange.{RequestsChange}
pub use Rattle.np_changes.specs.declared.changes.SessionsChange.{SessionsChange}
pub use Rattle.np_cloud.specs.declared.driver.LaunchFault.{LaunchFault}
pub use Rattle.np_desk.proofs.HistoryLemmas.{rising_more, starts_more, starts_on, starts_same, unturned-same as unturned_same, unturned_on}
pub use Rattle.np_lists.proofs.Changes.{EachAfter-push, EachAfter-weaker, all-filter, all-filter_to, all-find, all-push, all-weaker, kept-change_at, length-filter_at_most, list_any-insert_before, slice_get-change_at, slice_get-change_at_other}
pub use Rattle.np_lists.proofs.Plain.{above-apart, by_bool, drop-past, drop-there, equal-numbers, is-at_most, not-second}
pub use Rattle.np_machine.proofs.Ids.{session-equal}
pub use Rattle.np_machine.proofs.Runs.{Runs-prefix}
pub use Rattle.np_machine.proofs.Steps.{after_found-keeps, after_given-keeps, next-keeps}
pub use Rattle.np_machine.specs.Node.{effect_lock_node}
pub use Rattle.np_machine.specs.State.{start as start_state}
pub use Rattle.np_machine.specs.Tests.{incomplete}
pub use Rattle.np_useful.specs.Launcher.{is_by_registrant}
pub use Rattle.np_worker.specs.Answers.{IsKept}
pub use Rattle.np_worker.specs.Board.{AnswersAsBoard, AreSweptSo, CameFar, CameToEnd, HadNothing, HasRoundAtBoard, IsRoundAtBoard, IsSweptSo, RolesCameFar, ServersGo, ServersLeave, ServersStay, acts_as, IsOfRole, IsOfWorker, EachPlaysFrom, IsCutOff, IsRound, PlayerEnd, PlaysFrom, fresh_sight}
pub use Rattle.np_worker.specs.Drive.{AreSoundAlone, FailFull, FailsFull, FollowsPlan, AreAloneSound, FailAfter, is_node_of, number_in, numbers_in, reported, reports_from, reports_of, was_node_of}
pub use Rattle.np_worker.specs.Hosting.{AreCarried, BeginsEmpty, BeginsNew, FailOnlyFull, NeverRepeats, ArePresent, BeginAfter, Carries, Earlier, HaveHosted, HaveSoundness, Hosts, IsHosted, IsServerOf, WasLaunchedFor, WereLaunched, is_up, listed, server_up, servers_up, EndsAs, Rests, driving_of, work_of}
pub use Rattle.np_worker.specs.Lower.{AllByRecursion, Answers, ArePlanned, Asked, Configuration, Done, DrivenFrom, EachAfter, Entry, Event, Heard, IsAsPlanned, IsDrivenTurn, IsOfUse, IsOver, IsReportOfLaunch, IsSweepOfServer, IsTickBetween, Janitor, KeepsCounts, Launcher, MOST_LAUNCHES, NoMemory, NodeEntry, NodeId, NodeRecord, NodeState, Outcome, PoolId, Reaper, Refusal, Reply, Requester, RequesterId, Role, Runs, SessionId, SomeTurn, State, Took, Walked, after, as_planned, is_current, is_deleting, is_maker_of, is_number, is_report_of, is_swept, is_wanted, judge, list_any, maker_of, next, node_holder, node_in, numbers_of, option_map, option_map_or, reply_of, role_of, start, turns, with_launch}
pub use Rattle.np_worker.specs.Move.{entries_of, MayLaunch, MayRemove, after_act, after_entry, after_look, after_report, after_start, after_sweep, is_remove, server_in, start_in}
pub use Rattle.np_worker.specs.Moves.{AreOrderly, HasMoves, RolesTook}
pub use Rattle.np_worker.specs.Prelude.{Answered, AreAsksOf, AreRising, BeginsLaunch, DistinctNumbers, Driven, DrivenBy, DriverFacts, Drives, Driving, Drove, IsAskOf, IsDue, IsFull, IsOfServer, IsReplied, IsSoundAlone, IsUseful, Launch, Leads, MayAsk, Move, NamesServer, OwesRemoval, Phase, Records, Says, Server, Sight, Soundness, StartsWith, SweepsServers, Tag, Turned, Unturned, Walk, WasKept, WasOfUse, WasUseful, Work, acting, acts, after_launch, after_removal, after_role, after_turn, answers, answers_sweep, asked, driving, ended, first_phase, is_planned, is_tick, is_unwanted, launched, launches_of, looks, of_pool, of_reaper, of_requester, owes_due, owes_launch, owes_report, owes_swept, recorded, removed, report_of, rests, servers_after, start_of, sweeps, with_launched, without_number}
pub use Rattle.np_worker.specs.Replies.{has_replies, is_same_reply, reply_numbers}
unfoldable pub use Rattle.np_worker.specs.Replies.{is_legal}
pub use Rattle.np_worker.specs.Servers.{DrivenAs, IsChosen, IsPlannedTurn, IsTurnAs, PlannedBy, PlannedDriven, answers_of, AreNamed, AreNumbered, HaveDriven, HaveDrivenAs, IsNumbered, Player, WasAnswered, WasNamed, driving_in, drivings_of, launch_of, next_number, HasServers, IsOfRound, IsOnlyNodeOfItsNumber, IsOnlyOfItsNumber, IsSweepAt, IsSweptAfter, KeepsJanitor, LeftWithCause, StaysKept, WasDue, WasLaunched, WasSwept, WasUnwanted}
pub use Rattle.np_worker.specs.Stage.{AreKept, Came, Comes, Counts, Goes, IsDealtWith, IsOfDriver, Part, RemovalEnds, RemovalFailed, SweepsAll, SweepsOne, entry_count, is_full, Hears, IsLone, IsOfWork, IsPlayed, Reaches, WentFar, WentOn, ask_of, asks, phase_of, player, steps_left}
pub use Rattle.np_worker.specs.Trace.{AreInOrder, AreReported, EndsWhereFull, Gains, IsPastJanitor, IsPastLauncher, IsReported, Reports, StandAt, TookAll, WasFull, WasIdle, WasRemoved, did_count, is_did, is_idle, is_janitor_act, is_launcher_act, is_lone_act, owed_tags, stage_of, start_made, tags_launched, tags_of}
pub use Rattle.np_worker.specs.declared.ask.Ask.{Ask}
pub use Rattle.np_worker.specs.declared.ask.Turn.{Turn}
pub use Rattle.np_worker.specs.declared.next.Next.{Next}
pub use Rattle.np_worker.specs.declared.playing.Playing.{Playing}
pub use Rattle.np_worker.specs.declared.stage.Stage.{Stage}
pub use Rattle.np_worker.specs.declared.start.Start.{Start}
pub use Rattle.np_worker.specs.declared.worker.RoundEnd.{RoundEnd}
pub use Rattle.np_worker.specs.declared.worker.Worker.{Worker}
pub use Rattle.std.proofs.Common.{All, Bool, Contains, Err, IfOk, IfSome, IsTrue, List, MatchBool, MatchResult, None, Ok, Option, Result, Some, ap, append-nil, append_assoc, arith, cond, drop, eq-eqb, eqb-true, false, filter, get_or, if◌then◌else◌, inl, inr, is_none, is_ok, is_some, length, length-append, map, nat_le, nat_lt, not, refl, slice_get, subst, subst₂, suc, sym, take, take-append-drop, true, zero, ℕ, [], ⊎_elim, ◌&&◌, ◌++◌, ◌+◌, ◌-◌, ◌<◌, ◌==◌, ◌^◌, ◌||◌, ◌∙◌, ◌∷◌, ◌≡◌, ◌≢◌, ◌≤◌, ◌⊎◌}
pub use Rattle.std.proofs.lemmas.Bool.{and_from, and_parts, cases_lt, false_from_ne_true, false≢true, or_left, or_right}
pub use Rattle.std.proofs.lemmas.Bool.Decides.{nat_tests}
pub use Rattle.std.proofs.lemmas.List.{drop_all}
pub use Rattle.std.proofs.lemmas.List.Elements.{All-append, All-cons, All-contains, All-contains_itself, All-filter, All-from_recursion, All-head, All-nil, All-push, All-tail, All-weaker, Contains-append_left, Contains-append_right, Contains-push, Contains-push_cases}
pub use Rattle.std.proofs.lemmas.Option.{none-some, same_Some}
pub use Rattle.std.proofs.lemmas.Result.{err_from_is_err_and}
pub use Rattle.std.proofs.lemmas.Slice.Eq.{bytes_eq-Decides}
