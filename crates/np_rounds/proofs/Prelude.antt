-- The names from elsewhere that the proofs cite, passed on from one place. Declares nothing.
pub use Rattle.np_board.specs.Batch.{plan_answers, plan_recorded}
pub use Rattle.np_desk.proofs.HistoryLemmas.{Went, length-rest, starts_more, starts_on, starts_same, times_merged, took-loosely}
pub use Rattle.np_desk.specs.Part.{first_half}
pub use Rattle.np_desk.specs.Series.{Asked, Heard, IsOver, Took, TookAtOnce, AnsweredAtOnce}
pub use Rattle.np_desk.specs.declared.view.Origin.{Origin}
pub use Rattle.np_lists.proofs.Plain.{by_bool, length-map, length-none, map-push, or_false}
pub use Rattle.np_rounds.specs.Backs.{AreBack, DidEnd, IsBack, IsUncut, TookBack, end_players, is_full_end, merged_ends, some_full}
pub use Rattle.np_rounds.specs.Crews.{AreGiven, Plan, Seat, Terms, crew_players, given_pass, player_of, players_of, split_pass, terms_of, zeros}
pub use Rattle.np_rounds.specs.Laps.{EachAtBoard, EntriesStand, HasLaps, HaveRounds, IsLap, IsPlayedRound, IsTick, Lap, Laps, LapsStand, TicksAfter, WasPlayed, is_full_lap, is_full_tick, with_tick}
pub use Rattle.np_rounds.specs.Lower.{Answered, AreCarried, AreNumbered, AreRising, Ask, BeginAfter, BeginsEmpty, BeginsNew, Configuration, DeskView, DrivenAs, DriverFacts, Driving, Drove, EachPlaysFrom, Earlier, EndsAs, Entry, Event, FailOnlyFull, HaveDrivenAs, HaveHosted, HaveSoundness, IsCutOff, IsFull, IsHosted, IsMade, IsOf, IsRound, IsRoundAtBoard, IsSettled, IsSound, IsWhole, Launcher, Leads, Move, NoMemory, Outcome, OwesRemoval, Part, PassView, Phase, PlanAsk, PlanTurn, Player, PlayerEnd, PlaysFrom, Pool, PoolId, RequesterId, Rests, Role, RoleRecord, RoundEnd, Runs, Sight, Soundness, StandAt, StartsWith, State, Turn, Walk, WasAnswered, Work, Worker, acting, acts, added, after, after_entry, after_launch, after_removal, after_role, after_start, after_turn, answers, answers_of, asked, driving, driving_in, driving_of, drivings_of, ended, first_phase, is_legal, is_role, is_unwanted, launched, list_any, looks, merged, no_deeds, of_pool, of_reaper, of_requester, option_map_or, owes_launch, owes_report, owes_swept, places, recorded, removed, second_half, sight_of, start, start_of, sweeps, times, with_place, work_of}
pub use Rattle.np_rounds.specs.Played.{HearsPlain, asks_plain, is_plain_full, plain_ask, EndsWithTick, IsDriven, IsRested, Stops, is_full, terms_in, with_end}
pub use Rattle.np_rounds.specs.Plays.{CrewPlays, Pairwise}
pub use Rattle.np_rounds.specs.declared.crew.Crew.{Crew}
pub use Rattle.np_rounds.specs.declared.crew.CrewEnd.{CrewEnd}
pub use Rattle.np_rounds.specs.declared.plain.PlainSeries.{PlainSeries}
pub use Rattle.np_rounds.specs.declared.round.Together.{Together}
pub use Rattle.np_useful.specs.Sessions.{may_open}
pub use Rattle.np_worker.proofs.Board.{at_board}
pub use Rattle.np_worker.proofs.Hosted.{are-carried, begin-counted, begin-hosted, begin-new, counted, fail-only-full, round-hosted, stop-hosted, tick-hosted}
pub use Rattle.np_worker.proofs.Journals.{Runs-legal, legal-Runs, legal-beginning, start-have-driven, tick-have-driven}
pub use Rattle.np_worker.proofs.Reports.{allowed-walk}
pub use Rattle.np_worker.proofs.Rounds.{numbered-after, round-driven, round-have-driven, round-no-tick}
pub use Rattle.np_worker.specs.declared.start.Start.{Start}
pub use Rattle.std.proofs.Common.{Bool, List, ap, append-nil, append_assoc, arith, cond, drop, eq-eqb, eqb, false, inl, inr, length, length-append, map, ne_eqb, refl, rules, subst, suc, sym, true, zero, ℕ, [], ⊎_elim, ◌++◌, ◌+◌, ◌<◌, ◌∙◌, ◌∷◌, ◌≡◌, ◌≤◌, ◌⊎◌}
pub use Rattle.std.proofs.Crossing.{Vec-send, Vec-sync}
pub use Rattle.std.proofs.lemmas.Bool.{false≢true, not-false, not-true, or_cases, or_parts}
pub use Rattle.std.proofs.lemmas.Bool.Decides.{nat_tests}
pub use Rattle.std.proofs.lemmas.List.Elements.{All-append, All-cons, All-head, All-map, All-nil, All-same, All-tail, All-weaker}
pub use Rattle.std.proofs.lemmas.List.Folds.{list_any-append}
pub use Rattle.std.proofs.lemmas.Result.{IfOk-weaker}
pub use Rattle.std.proofs.lemmas.Simd.{map-map}
pub use Rattle.std.specs.Prelude.{All, Contains, Err, IfOk, IfSome, MatchBool, None, Ok, Option, Result, Some, filter, is_some, nat_lt, slice_get, slice_index_or, ◌||◌}
pub use Rattle.std.specs.Thread.{IsSend, IsSync}
pub use denote.Enum.Enum.{Enum}
pub use denote.Exit.{unseen}
pub use denote.Param.Send.{Quiet-if, enum_send, enum_sync, recorded_send, recorded_sync}
pub use mathlib.Core.Logic.{dite}
pub use mir.Syntax.{of_param}
pub use native.Mathlib.Decide.{dec_le, ℕ_discrete}
