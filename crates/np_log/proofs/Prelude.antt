-- The names that the proofs cite from elsewhere, passed on from one place. Declares nothing.
pub use Rattle.np_event.proofs.Fields.{is_line-inside}
pub use Rattle.np_event.proofs.Lines.{event_in-spelled, event_in-words, inside-event_line}
unfoldable pub use Rattle.np_event.specs.EventForm.{event_forms}
pub use Rattle.np_event.specs.EventForm.{event_parts, event_row}
pub use Rattle.np_event.specs.Kind.{HasWord, field_text, lettered}
unfoldable pub use Rattle.np_event.specs.Line.{event_in}
pub use Rattle.np_event.specs.declared.fault.LineFault.{LineFault}
pub use Rattle.np_io.proofs.Moments.{LeavesOnly-stays, LeavesOnly-then, LeavesOnly-weaker}
pub use Rattle.np_lists.proofs.Changes.{all-weaker}
pub use Rattle.np_lists.proofs.Plain.{by_bool, decimal-short}
pub use Rattle.np_lists.specs.Refusals.{◌>>=◌, ◌>>◌}
pub use Rattle.np_log.specs.Batch.{IsBatch, batch_of, batch_text, ends_in_newline, events_of, is_newline, within_batch}
pub use Rattle.np_log.specs.Log.{Content, Walk, add_events, after_batch, after_config, after_record, content_of, content_with, first_bytes, go_on, is_open, map_ok, past_gate, record_text}
unfoldable pub use Rattle.np_log.specs.Log.{record_in, walk, walk_of}
pub use Rattle.np_log.specs.Lower.{AfterTornWrite, DiskFacts, Event, HasEventLine, IsDisk, JOURNAL_ENTRIES, LeavesOnly, Only, Settles, Stays, TornWrite, event_line, found, line, line_in, lines_of, need, put_at, words_of}
pub use Rattle.np_log.specs.Place.{IsSettled, IsSettledIn, Place, SaysAllOrNone, SaysFirst, SaysNewLog}
pub use Rattle.np_log.specs.Walking.{Fails, IsNear, walk_view}
pub use Rattle.np_log.specs.Writing.{TornBehindOrAt, TornFirst, behind_gate, behind_open_gate, record_and_gate}
pub use Rattle.np_log.specs.declared.fault.LoadFault.{LoadFault}
pub use Rattle.np_text.proofs.LineLemmas.{lines_of-line, lines_of-walk}
pub use Rattle.np_text.proofs.OrderLemmas.{length-ten}
pub use Rattle.np_text.proofs.SpellingLemmas.{some_injective}
pub use Rattle.np_text.specs.Number.{ten_digits_of}
pub use Rattle.np_text.specs.Request.{HasText}
unfoldable pub use Rattle.np_text.specs.Request.{request_text_of}
pub use Rattle.np_text.specs.declared.id.RequestId.{RequestId}
pub use Rattle.std.proofs.Common.{Bool, Err, IfSome, List, None, Ok, Option, Result, Some, [], ap, append-nil, append_assoc, arith, cond, decimal, drop, drop_at, eq-eqb, false, flat_map, get_or, inl, inr, length, length-append, length-drop, length-take-le, map, nat_le, ne_eqb, option_and_then, option_map, refl, slice_get, subst, suc, sym, take, take-append-drop, take_at, true, zero, ℕ, ⊎_elim, ◌&&◌, ◌*◌, ◌++◌, ◌+◌, ◌-◌, ◌<◌, ◌==◌, ◌^◌, ◌∙◌, ◌∷◌, ◌≡◌, ◌≢◌, ◌≤◌, ◌⊎◌}
pub use Rattle.std.proofs.Math.Seq.{get_or-append_seam, take-add}
pub use Rattle.std.proofs.lemmas.Bool.{cases_eq}
pub use Rattle.std.proofs.lemmas.Bool.Decides.{nat_tests}
pub use Rattle.std.proofs.lemmas.Fmt.{length-decimal-le}
pub use Rattle.std.proofs.lemmas.List.{drop_all, drop_min, drop_more}
pub use Rattle.std.proofs.lemmas.Nat.{from_be_bytes-to_be_bytes_4}
pub use Rattle.std.proofs.lemmas.Option.{IfSome_then, cond_some, option_and_then_some, slice_get-get_or}
pub use Rattle.std.proofs.lemmas.Result.{err_from_is_err_and}
pub use Rattle.std.specs.Int.{from_be_bytes, to_be_bytes, w32}
pub use Rattle.std.specs.List.{AllByRecursion, onto_first}
pub use Rattle.std.specs.Result.{result_ok}
