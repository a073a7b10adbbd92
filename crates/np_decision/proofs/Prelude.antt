-- The names from elsewhere that the proofs cite, passed on from one place. Declares nothing.
pub use Rattle.np_changes.proofs.Accepted.{found-is}
pub use Rattle.np_decision.specs.Lower.{Asked, Configuration, Fits, Job, JobId, JobRecord, LabelId, NodeEntry, NodeFits, NodeId, NodeRecord, PoolId, Reason, Refusal, RequestId, RequestRecord, SessionId, State, asked_of, by_registrant, by_request_holder, found, in_state_for, is_building, is_marked, judge_decline, launcher, new_record, node_entry, node_in, option_map, owner_from, owner_of, request_at, request_in, unended, unfilled}
pub use Rattle.np_decision.specs.Verdicts.{lack_at, without_declines}
pub use Rattle.np_lists.proofs.Changes.{all-find}
pub use Rattle.np_look.proofs.Looks.{position-here, position-later}
pub use Rattle.np_text.specs.declared.word.Reason.TheVariants.{NeverFits, NoLabel, Spent, TenantNeverFits}
pub use Rattle.std.proofs.Common.{Bool, Err, List, None, Ok, Option, Some, add-one, ap, arith, drop, false, length, map, refl, suc, sym, take, true, zero, ℕ, [], ◌+◌, ◌<◌, ◌∙◌, ◌∷◌, ◌≡◌, ◌≤◌}
pub use Rattle.std.proofs.lemmas.Bool.Decides.{nat_tests}
pub use Rattle.std.proofs.lemmas.Grind.{common_steps}
pub use Rattle.std.proofs.lemmas.Result.{err_from_is_err_and}
pub use Rattle.std.specs.List.{position}
pub use Rattle.std.specs.Prelude.{if◌then◌else◌, not, option_and_then, slice_get, ◌&&◌, ◌==◌}
