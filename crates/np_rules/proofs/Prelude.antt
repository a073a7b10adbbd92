-- The names from elsewhere that the proofs cite, passed on from one place. Declares nothing.
pub use Rattle.np_changes.proofs.Accepted.{plan-next}
pub use Rattle.np_changes.proofs.Runs.{Runs-next, Runs-start}
pub use Rattle.np_changes.proofs.Shapes.{Fits-Runs, sound_fits}
pub use Rattle.np_changes.specs.Prelude.{Configuration, Entry, Event, Fits, IsFitSite, IsReached, PoolId, Refusal, RequestEntry, Runs, State, changed, is_pending_by, judge, next, plan, reply_of, start}
pub use Rattle.np_changes.specs.declared.changes.Changes.{Changes}
pub use Rattle.np_decision.specs.declared.verdict.Verdict.{Verdict}
pub use Rattle.np_lists.proofs.Changes.{length-filter_at_most}
pub use Rattle.np_look.specs.Readers.{pending_requests}
pub use Rattle.np_lookups.proofs.QueueLemmas.{few-nodes, few-requests}
pub use Rattle.np_rules.specs.Running.{Ran, answer_of, applied, Running, ran_of, RunsOn, answer_after, applied_after, has_room_after}
pub use Rattle.std.proofs.Common.{List, Result, ap, append-nil, arith, length, refl, subst, sym, true, ℕ, [], ◌++◌, ◌+◌, ◌<◌, ◌∙◌, ◌∷◌, ◌≡◌, ◌≤◌}
pub use Rattle.std.proofs.lemmas.Bool.Decides.{nat_tests}
pub use Rattle.std.proofs.lemmas.List.{append_assoc, length-append, length-map}
pub use Rattle.std.specs.Prelude.{filter, is_ok}
