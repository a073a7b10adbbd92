-- The names from elsewhere that the proofs cite, passed on from one place. Declares nothing.
pub use Rattle.np_lists.specs.Change.{change_at, change_first, insert_before, remove_first}
pub use Rattle.np_lists.specs.EachAfter.{EachAfter}
pub use Rattle.np_lists.specs.Groups.{group_after, group_from, has_member, id_if, ids_in, is_group_before, is_member_before, member, same_group, same_member, with_member, without_member}
pub use Rattle.np_lists.specs.Moves.{Placed, is_among, is_place, shift, with_all_moved, with_group, with_groups, with_moved, without_group, without_groups}
pub use Rattle.np_lists.specs.Ranks.{AreRanked, outside}
pub use Rattle.np_lists.specs.Refusals.{found, need, ◌>>=◌, ◌>>◌}
pub use Rattle.np_lists.specs.Rising.{FirstAt, IsSplit, NonePass, Rises}
pub use Rattle.np_lists.specs.Rows.{AreFilled, StockOf, items_of, row_is_before}
pub use Rattle.np_lists.specs.declared.groups.Group.{Group}
pub use Rattle.np_lists.specs.declared.groups.Member.{Member}
pub use Rattle.std.proofs.Common.{Bool, Err, List, None, Ok, Option, Result, Some, ap, append-nil, append_assoc, arith, cond, drop, false, get_or, inl, inr, length, length-append, max, not, refl, rules, subst, suc, sym, take, true, zero, ℕ, [], ⊎_elim, ◌++◌, ◌+◌, ◌-◌, ◌<◌, ◌^◌, ◌∙◌, ◌∷◌, ◌≡◌, ◌≢◌, ◌≤◌}
pub use Rattle.std.proofs.lemmas.Bool.{OnFalse_from, OnTrue_from, cases_lt, false_from_ne_true, or_right}
pub use Rattle.std.proofs.lemmas.Bool.Decides.{nat_tests}
pub use Rattle.std.proofs.lemmas.Fmt.{length-decimal-le}
pub use Rattle.std.proofs.lemmas.List.{drop_all, get_or-append-add, get_or_append_left, length-drop, length-map, length-take, length-take-le, take_all}
pub use Rattle.std.proofs.lemmas.List.Edits.{insert-append_left, insert-append_right, length-insert, length-remove, map_over_more, remove-append_left, remove-append_right}
pub use Rattle.std.proofs.lemmas.List.Elements.{All-cons, All-head, All-nil, All-tail}
pub use Rattle.std.proofs.lemmas.List.Filters.{length-filter_both, length-filter_more}
pub use Rattle.std.proofs.lemmas.List.Folds.{prefix_len-append}
pub use Rattle.std.proofs.lemmas.List.Quantifiers.{position-Some}
pub use Rattle.std.proofs.lemmas.List.Sorted.{IsPartitionPoint-from_clause}
pub use Rattle.std.proofs.lemmas.List.Sums.{prefix_len-le-length, prefix_len_passes, prefix_len_stops}
pub use Rattle.std.proofs.lemmas.Map.Views.{any-filter_same}
pub use Rattle.std.proofs.lemmas.Option.{get_or_from_slice_get, slice_get-get_or, slice_get-map, slice_get_past, slice_get_within}
pub use Rattle.std.proofs.lemmas.Slice.Eq.{bytes_eq-Decides}
pub use Rattle.std.specs.Fmt.{decimal}
pub use Rattle.std.specs.List.{AllByRecursion, AllWithin, insert, list_any, position, position_or_len, prefix_len, remove}
pub use Rattle.std.specs.List.Sorted.{IsPartitionPoint, IsPartitionedBy}
pub use Rattle.std.specs.Option.{option_copied, option_map, option_map_or}
pub use Rattle.std.specs.Prelude.{All, filter, find, is_none, is_some, map, min, nat_le, nat_lt, slice_get, slice_set, ◌&&◌, ◌==◌, ◌||◌, ◌⊎◌}
pub use Rattle.std.specs.Str.{bytes_eq}
