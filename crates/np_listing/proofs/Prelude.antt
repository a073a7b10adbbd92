-- The names from elsewhere that the proofs cite, passed on from one place. Declares nothing.
pub use Rattle.np_listing.specs.Listing.{cell_text, cells_text, row_line, width, width_at, decline_words, handle_head, handle_row, handle_rows_of, node_row, node_rows, numbered, request_row, request_rows, session_row, session_rows}
pub use Rattle.np_listing.specs.Tally.{is_failed, is_launched, is_of_kind, is_refused, counted, full_in, kind_count, larger, largest, last_row, most_ticks, pool_row, semaphore_row, since, states, tenant_row, ticks_in}
pub use Rattle.np_listing.specs.Lower.{Amount, Configuration, Entry, JobId, JobRecord, Runs, SemId, SessionFacts, State, after, count_by, count_of, count_of_tenant, handles_of, label_words, next, node_view, node_words, nothing, option_map, option_map_or, request_view, session_of, start, state_after, turns_from}
pub use Rattle.np_listing.specs.Summary.{more_of_kind, noted, one_more, raised_pool, raised_tenant, since_now, watched, has_fate, kind_text, pool_line, semaphore_line, tenant_line, text_of}
pub use Rattle.np_listing.specs.declared.rows.FullTime.{FullTime}
pub use Rattle.np_listing.specs.declared.rows.KindCount.{KindCount}
pub use Rattle.np_listing.specs.declared.rows.PoolPeak.{PoolPeak}
pub use Rattle.np_listing.specs.declared.rows.TenantPeak.{TenantPeak}
pub use Rattle.np_lists.proofs.Plain.{and_false, by_bool, drop-there, from-map_some}
pub use Rattle.std.proofs.Common.{Bool, Bor, List, None, Option, Some, add-one, ap, append-nil, append_assoc, arith, codes, cond, drop, drop-cons, false, get_or, length, length-append, map, max, refl, replicate, suc, sym, take, true, zero, ℕ, [], ◌++◌, ◌+◌, ◌-◌, ◌<◌, ◌^◌, ◌∙◌, ◌∷◌, ◌≡◌, ◌≤◌}
pub use Rattle.std.proofs.lemmas.Bool.Decides.{nat_tests}
pub use Rattle.std.proofs.lemmas.List.{drop_more, get_or_default, map-append, take_more}
pub use Rattle.std.proofs.lemmas.List.Edits.{map_over_more}
pub use Rattle.std.proofs.lemmas.List.Folds.{list_all-append}
pub use Rattle.std.proofs.lemmas.List.FromFn.{map-range_with_len_more}
pub use Rattle.std.proofs.lemmas.List.Sums.{count_by-le-length, sum_by-append}
pub use Rattle.std.proofs.lemmas.Option.{get_or_from_slice_get, slice_get-get_or, slice_get-map, slice_get_past, slice_get_within}
pub use Rattle.std.specs.List.{flat_map, list_all, range_with_len, sum_by}
pub use Rattle.std.specs.Prelude.{slice_get, unwrap_or, ◌&&◌, ◌==◌}
