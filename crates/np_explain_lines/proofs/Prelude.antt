-- The names from elsewhere that the proofs cite, passed on from one place. Declares nothing.
pub use Rattle.np_causes.proofs.Growing.{push_grows, push_told, told_later}
pub use Rattle.np_changes.proofs.RequestStates.{push-places}
pub use Rattle.np_explain_lines.specs.Chains.{ExplainsAll, IsDue, IsOnItsWay, IsPending, IsSoundFrom, IsWaiting, Names, facts_of}
pub use Rattle.np_explain_lines.specs.Lower.{Configuration, Fact, IsNamed, IsTold, IsTrueOf, JobId, JobRecord, State, Tells, Thing, about_of, is_over, named_by, option_map, option_map_or, waits}
pub use Rattle.np_explain_lines.specs.declared.chain.Link.{Link}
pub use Rattle.np_explain_lines.specs.declared.chain.Next.{Next}
pub use Rattle.np_lists.proofs.Changes.{EachAfter-push}
pub use Rattle.np_lists.proofs.Plain.{map-push, past-end}
pub use Rattle.np_lists.proofs.Searches.{slice_get-left, slice_get-middle}
pub use Rattle.std.proofs.Common.{Err, List, None, Ok, Option, Result, Some, ap, append_assoc, arith, false, get_or, inl, inr, length, refl, subst, sym, true, ℕ, [], ⊎_elim, ◌++◌, ◌+◌, ◌-◌, ◌<◌, ◌∙◌, ◌∷◌, ◌≡◌, ◌≤◌}
pub use Rattle.std.proofs.lemmas.Bool.{cases_lt}
pub use Rattle.std.proofs.lemmas.List.Elements.{All-get_or, All-nil, All-push}
pub use Rattle.std.proofs.lemmas.Option.{get_or_from_slice_get, slice_get-get_or, slice_get-map, slice_get_within}
pub use Rattle.std.specs.Prelude.{All, OnOk, map, not, slice_get, ◌⊎◌}
