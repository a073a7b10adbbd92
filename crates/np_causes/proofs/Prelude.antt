-- The names from elsewhere that the proofs cite, passed on from one place. Declares nothing.
pub use Rattle.np_causes.specs.Explains.{Explains, Follows, Grows, IfNamed, IfTold, IsNamed, IsSound, IsTold, NamesTold, a_node, if_live, if_near, if_pending_of, is_near, named_by, nodes_in, offers_for, sessions_for}
pub use Rattle.np_causes.specs.Fact.{IsTrueOf, Tells, about_of}
pub use Rattle.np_causes.specs.Lower.{Configuration, JobId, NodeId, Pool, PoolId, RequestEntry, RequestId, RequestRecord, Role, SessionId, State, asked_of, held_by, holder, option_map, option_map_or, range_with_len, request_in, request_seen, request_view, requests_near}
pub use Rattle.np_causes.specs.declared.fact.Fact.{Fact}
pub use Rattle.np_causes.specs.declared.fact.Thing.{Thing}
pub use Rattle.np_changes.specs.declared.asked.Asked.{Asked}
pub use Rattle.np_lists.proofs.Changes.{EachAfter-push}
pub use Rattle.np_lists.proofs.Plain.{past-end}
pub use Rattle.np_lists.proofs.Searches.{slice_get-left, slice_get-middle}
pub use Rattle.np_look.proofs.Looks.{count_here}
pub use Rattle.np_look.specs.declared.asked.RequestView.{RequestView}
pub use Rattle.np_text.specs.declared.limit.TheConstants.{POOLS}
pub use Rattle.std.proofs.Common.{Bool, List, None, Option, Some, add-one, ap, arith, cond, drop, get_or, inl, inr, length, refl, subst, suc, sym, true, zero, ℕ, [], ◌++◌, ◌+◌, ◌-◌, ◌<◌, ◌∙◌, ◌∷◌, ◌≡◌, ◌≤◌}
pub use Rattle.std.proofs.lemmas.Bool.{cases_lt}
pub use Rattle.std.proofs.lemmas.List.Elements.{All-nil, All-push}
pub use Rattle.std.proofs.lemmas.List.FromFn.{get_or-map-range_with_len, length-map-range_with_len}
pub use Rattle.std.proofs.lemmas.Option.{slice_get-get_or, slice_get-map, slice_get_past, slice_get_within}
pub use Rattle.std.specs.Prelude.{count_by, if◌then◌else◌, map, slice_get, ◌||◌, ◌⊎◌}
