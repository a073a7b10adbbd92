-- The names from elsewhere that the proofs cite, passed on from one place. Declares nothing.
pub use Rattle.np_lists.proofs.Changes.{all-find, all-insert_before, all-remove_first, all-weaker, filter-not_none, length-insert_before, length-remove_first, none-list_any, remove_first-absent}
pub use Rattle.np_lists.proofs.Plain.{by_bool}
pub use Rattle.np_lists.proofs.Searches.{none-find}
pub use Rattle.np_tree.specs.Prelude.{Node, NonePass, Rises, TreeState, at_path, parent_of, remove_first, stat_at, stat_of}
pub use Rattle.np_watch.specs.Watching.{IsFreshPath, StaleIsLater, TestSaysFresh, is_fresh, is_listed_by, is_written_by, stat_above, AreWatches, has_key, is_between, is_fired, key_before, watch_of, with_watch}
pub use Rattle.np_watch.specs.Keys.{key_transitive}
pub use Rattle.np_watch.specs.declared.watch.Watch.{Watch}
pub use Rattle.std.proofs.Common.{Bool, List, None, Option, Some, ap, arith, cond, false, filter, find, length, not, refl, subst, suc, sym, true, ℕ, [], ◌<◌, ◌∙◌, ◌∷◌, ◌≡◌, ◌≤◌}
pub use Rattle.std.proofs.lemmas.Bool.{and_from, and_parts}
pub use Rattle.std.proofs.lemmas.Bool.Decides.{nat_tests}
pub use Rattle.std.specs.Option.{option_and_then, option_map}
pub use Rattle.std.specs.Prelude.{max, nat_le, ◌&&◌}
