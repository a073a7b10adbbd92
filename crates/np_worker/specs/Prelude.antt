-- The names of answers that are cited most, and of what they stand on, passed on from one place. Declares nothing.
pub use Rattle.np_worker.specs.Answers.{IsDue, IsFull, IsReplied, answers, answers_also, answers_sweep}
pub use Rattle.np_worker.specs.Move.{recorded, Move, asked, launched, launches_of, removed, Leads, MayAsk, OwesRemoval, Phase, Work, acting, acts, after_launch, after_removal, after_role, after_turn, ended, first_phase, is_unwanted, looks, of_pool, of_reaper, of_requester, owes_due, owes_launch, owes_report, owes_swept, report_of, rests, start_of, sweeps, Walk}
pub use Rattle.np_worker.specs.Drive.{Drives, Driving, Drove, IsOfServer, IsSoundAlone, SweepsServers, driving, servers_after}
pub use Rattle.np_worker.specs.Replies.{is_legal}
pub use Rattle.np_worker.specs.Trace.{AreAsksOf, IsAskOf, WasKept}
pub use Rattle.std.specs.List.{AllByRecursion}
pub use Rattle.np_worker.specs.Lower.{Answered, AreRising, BeginsLaunch, DeskView, DistinctNumbers, Driven, DrivenBy, DriverFacts, IsOf, IsSettled, IsUseful, IsWhole, Launch, NamesServer, PassView, Records, Says, Server, Sight, Soundness, StartsWith, Tag, Turned, Unturned, WasOfUse, WasUseful, entries_of, is_planned, is_tick, second_half, sight_of, with_launched, without_number}
