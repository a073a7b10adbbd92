-- The names from elsewhere that the proofs cite, passed on from one place. Declares nothing.
pub use Rattle.np_lists.proofs.Changes.{kept-change_at, length-change_at, slice_get-change_at, slice_get-change_at_other}
pub use Rattle.np_machine.specs.History.{Runs, after, replayed, state_after}
pub use Rattle.np_machine.specs.Laws.{RisesFrom, acts_of, same_role}
pub use Rattle.np_machine.specs.LiveHolder.{HoldsSince, IsLiveHolder, IsLiveRequestHolder, LockedSince, holds_after, holds_from, is_ending, is_holding, is_locking, is_unlocking, locks_after, locks_from}
pub use Rattle.np_machine.specs.Lower.{Configuration, Done, Entry, Event, Janitor, Launcher, Reaper, Refusal, Reply, Requester, Role, RoleRecord, SessionId, change_at}
pub use Rattle.np_machine.specs.Node.{create_by, create_for, created, given_up, node_ended, node_freed, one_more_start, reported, start_by, started, took_ready}
pub use Rattle.np_machine.specs.Prelude.{NodeId, RequestId, is_session, same_request}
pub use Rattle.np_machine.specs.Reasons.{next_label}
pub use Rattle.np_machine.specs.Request.{accept_by, accepted, decline_by, declined, failed, fulfilled, given_back, kept_ready, registers, request_of_job, revise_request, revised, submit_for, submitted}
pub use Rattle.np_machine.specs.Semaphore.{acquired, finished, released, take_for, take_from, taken, withdrawn}
pub use Rattle.np_machine.specs.Session.{crashed, expired, struck_unless}
pub use Rattle.np_machine.specs.State.{State, start}
pub use Rattle.np_machine.specs.Step.{acting, effect, judge, maker_of, next, one_more_act, reply_of, with_act}
pub use Rattle.np_machine.specs.Tables.{ahead_of, change_role, node_in, request_in, role_of, session_of}
pub use Rattle.np_machine.specs.Tests.{Answer, after_found, after_given, launcher}
pub use Rattle.np_machine.specs.Turns.{is_done}
pub use Rattle.np_machine.specs.declared.state.SessionFacts.{SessionFacts}
pub use Rattle.std.proofs.Common.{Bool, Err, List, None, Ok, Option, Result, Some, ap, arith, drop, false, inl, inr, length, length-append, refl, rules, sym, true, ℕ, [], ◌++◌, ◌+◌, ◌∙◌, ◌∷◌, ◌≡◌, ◌≤◌}
pub use Rattle.std.proofs.lemmas.Bool.Decides.{nat_tests}
pub use Rattle.std.proofs.lemmas.Fn.{filter_same}
pub use Rattle.std.specs.List.{AllByRecursion}
pub use Rattle.std.specs.Option.{option_map}
pub use Rattle.std.specs.Prelude.{cond, is_ok, is_some, option_and_then, slice_get, ◌&&◌, ◌==◌, ◌⊎◌}
