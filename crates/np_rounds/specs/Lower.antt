-- What the definitions take from the crates below, passed on from one place. Declares nothing.
pub use Rattle.np_board.specs.declared.board.plan.PlanAsk.{PlanAsk}
pub use Rattle.np_board.specs.declared.board.plan.PlanTurn.{PlanTurn}
pub use Rattle.np_changes.specs.Prelude.{Configuration, Entry, Event, IsSound, Launcher, NoMemory, Outcome, Pool, PoolId, RequesterId, Role, RoleRecord, Runs, State, after, is_role, list_any, no_deeds, option_map_or, start}
pub use Rattle.np_desk.specs.Rule.{AreRising, StartsWith, added, merged, places, times, with_place}
pub use Rattle.np_worker.specs.Board.{EachPlaysFrom, IsCutOff, IsMade, IsRound, IsRoundAtBoard, PlayerEnd, PlaysFrom}
pub use Rattle.np_worker.specs.Hosting.{AreCarried, BeginAfter, BeginsEmpty, BeginsNew, Earlier, EndsAs, FailOnlyFull, HaveHosted, HaveSoundness, IsHosted, Rests, driving_of, work_of}
pub use Rattle.np_worker.specs.Move.{Leads, Phase, Work, acting, acts, after_entry, after_launch, after_removal, after_role, after_start, after_turn, ended, entries_of, is_unwanted, looks, of_pool, of_reaper, of_requester, owes_launch, owes_report, owes_swept, start_of, sweeps}
pub use Rattle.np_worker.specs.Prelude.{Answered, DeskView, DrivenBy, DriverFacts, Driving, Drove, IsFull, IsOf, IsSettled, IsWhole, Move, OwesRemoval, PassView, Sight, Soundness, Tag, Walk, answers, asked, driving, first_phase, is_legal, launched, recorded, removed, second_half, sight_of}
pub use Rattle.np_worker.specs.Servers.{AreNumbered, DrivenAs, HaveDrivenAs, PlannedBy, Player, WasAnswered, answers_of, driving_in, drivings_of}
pub use Rattle.np_worker.specs.Stage.{Part}
pub use Rattle.np_worker.specs.Trace.{StandAt, WasFull}
pub use Rattle.np_worker.specs.declared.ask.Ask.{Ask}
pub use Rattle.np_worker.specs.declared.ask.Turn.{Turn}
pub use Rattle.np_worker.specs.declared.worker.RoundEnd.{RoundEnd}
pub use Rattle.np_worker.specs.declared.worker.Worker.{Worker}
