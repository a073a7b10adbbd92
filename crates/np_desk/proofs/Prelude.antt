-- The names from elsewhere that the proofs cite, passed on from one place. Declares nothing.
pub use Rattle.atomic_table.proofs.Lists.{at_longer, at_set, at_snoc, exchanged, set_again, set_else, set_here}
pub use Rattle.atomic_table.specs.Seated.{TableId}
pub use Rattle.atomic_table.specs.Table.{Act, Allows, Final, Joins, Me, Seen, Splits, State, Valid, carried_after, gives, keeps, opening, step, stepped, takes}
pub use Rattle.np_desk.specs.Rule.{AreRising, StartsWith, added, merged, places, with_place, Fits, IsFair, IsHome, IsOut, Kept, Shared, Stands, AreShort, share, times, total}
pub use Rattle.np_desk.specs.Part.{IsWhole, first_half, has_word, is_same, joined, second_half, with_word, without}
pub use Rattle.np_desk.specs.Step.{PassView, Sight, origin_of, whole_sight, IsPass, KnowsMine, after_turn, at_stage, both_views, drew, first_view, learned, left_half, looked, pass_view, posted, right_half, rung, seat_view, spent}
pub use Rattle.np_desk.specs.Series.{Asked, Heard, IsOver, Took, TookAtOnce, Walk, grown, Answered, AnsweredAtOnce, Records, Turned, Unturned, entries_of}
pub use Rattle.np_desk.specs.declared.view.Origin.{Origin}
pub use Rattle.np_desk.specs.declared.view.SeatView.{SeatView}
pub use Rattle.np_desk.specs.declared.view.Stage.{Stage}
pub use Rattle.np_desk.specs.declared.view.Stage.TheVariants.{Has, Idle, Waits}
pub use Rattle.np_text.specs.declared.memory.NoMemory.{NoMemory}
pub use Rattle.std.proofs.Common.{Bool, List, ap, append-nil, append_assoc, arith, cond, drop, eq-eqb, eqb, false, get_or, inl, inr, length, length-append, ne_eqb, not, refl, rules, set, subst, suc, sym, true, zero, zero-add, ℕ, [], ⊎_elim, ◌++◌, ◌+◌, ◌-◌, ◌<◌, ◌^◌, ◌∙◌, ◌∷◌, ◌≡◌, ◌≢◌, ◌≤◌}
pub use Rattle.std.proofs.Math.Nat.{pow-suc}
pub use Rattle.std.proofs.lemmas.Bool.Decides.{nat_tests}
pub use Rattle.std.proofs.lemmas.Option.{IfSome_then}
pub use Rattle.std.proofs.lemmas.Result.{err_from_is_err_and}
pub use Rattle.std.specs.Prelude.{Err, IfOk, IfSome, MatchResult, None, Ok, Result, Some, nat_lt, ◌%◌, ◌⊎◌}
pub use lib.ListN.{get_elem?}
pub use lib.Seq.{set-get_or}
pub use mathlib.Core.Logic.{dite}
pub use mathlib.Core.Option.{Option, none, some, some-injective, some-ne-none}
pub use native.Mathlib.Decide.{ℕ_discrete}
pub use prog.Atomic.{either}
