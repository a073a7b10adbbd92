-- The names from elsewhere that the proofs cite, passed on from one place. Declares nothing.
pub use Rattle.np_event.specs.EventForm.{event_of, event_parts, event_row}
unfoldable pub use Rattle.np_event.specs.EventForm.{event_forms}
pub use Rattle.np_event.specs.Faults.{IsFirstUnfit, IsOfNoForm}
pub use Rattle.np_event.specs.Kind.{HasWord, field_text, fixed_text, found_text, lettered, number_behind, told_ending, with_field}
unfoldable pub use Rattle.np_event.specs.Kind.{found_of}
pub use Rattle.np_event.specs.Line.{HasEntryLine, HasEventLine, HasReplyLine, OpensNoReaper, begins_reply, chosen, done_line, done_with, entry_from, entry_line, entry_with, event_form_of, event_line, is_agreed, is_headed, is_headed_done, is_headed_refusal, refusal_in, refusal_line, refusal_with, reply_line, told, told_entry, undecided, with_fields, with_form, HaveWords, fields_from, fitting, row_fields, row_line, stand, stands}
unfoldable pub use Rattle.np_event.specs.Line.{entry_in, event_in, reply_in, sides_of}
pub use Rattle.np_event.specs.Lower.{EndAs, Ending, HasText, NodeState, Reason, ReasonKind, RequestState, Role, RoleKind, bar, behind, end_as_of, end_as_word, ending_of, ending_word, is_line, node_state_of, number_of, phase_of, request_of, request_state_of, ten_digits_of}
pub use Rattle.np_event.specs.ReplyForm.{done_fields, done_of, done_row, refusal_fields, refusal_of, refusal_row, told_found, Row, blank}
unfoldable pub use Rattle.np_event.specs.ReplyForm.{done_forms, refusal_forms}
pub use Rattle.np_event.specs.Words.{is_space, left_of, words_of}
pub use Rattle.np_event.specs.declared.entry.Entry.{Entry}
pub use Rattle.np_event.specs.declared.event.Event.{Event}
pub use Rattle.np_event.specs.declared.event.Outcome.{Outcome}
pub use Rattle.np_event.specs.declared.event_form.EventForm.{EventForm}
pub use Rattle.np_event.specs.declared.fault.LineFault.{LineFault}
pub use Rattle.np_event.specs.declared.fault.LineFault.TheVariants.{BadArgument, UnknownEvent, WrongCount}
pub use Rattle.np_event.specs.declared.kind.Fields.{Fields}
pub use Rattle.np_event.specs.declared.kind.Fixed.{Fixed}
pub use Rattle.np_event.specs.declared.kind.Kind.{Kind}
pub use Rattle.np_event.specs.declared.reply.Done.{Done}
pub use Rattle.np_event.specs.declared.reply.Found.{Found}
pub use Rattle.np_event.specs.declared.reply.Refusal.{Refusal}
pub use Rattle.np_event.specs.declared.reply.Reply.{Reply}
pub use Rattle.np_text.proofs.OrderLemmas.{all_ascii_digits-ten}
pub use Rattle.np_text.proofs.RequestLemmas.{request_of-spelled, request_of-text}
pub use Rattle.np_text.proofs.SectionLemmas.{behind-nil, behind_behind}
pub use Rattle.np_text.proofs.SpellingLemmas.{model, number_of-decimal, number_of-spelled, some_injective, when_found, when_some}
pub use Rattle.np_text.proofs.WordLemmas.{end_as_words, ending_words, node_state_words, phase_words, request_state_words}
unfoldable pub use Rattle.np_text.specs.Request.{request_text_of}
pub use Rattle.np_text.specs.declared.id.RequestId.{RequestId}
pub use Rattle.np_text.specs.declared.word.Phase.{Phase}
pub use Rattle.std.proofs.Common.{Bool, Err, List, None, Ok, Option, Result, Some, ap, append_assoc, arith, drop, false, get_or, length, length-append, map, not, refl, rules, subst, suc, sym, take, true, zero, ℕ, [], ◌&&◌, ◌++◌, ◌+◌, ◌<◌, ◌==◌, ◌^◌, ◌∙◌, ◌∷◌, ◌≡◌, ◌≢◌, ◌≤◌}
pub use Rattle.std.proofs.lemmas.Bool.{and_from, and_left, and_parts, both_ways, cond-false, cond-true, cond_both, eq-eqb, eqb-false, eqb-true, false_from_ne_true, ne_eqb}
pub use Rattle.std.proofs.lemmas.Bool.Decides.{nat_tests}
pub use Rattle.std.proofs.lemmas.Fmt.{digits_decimal}
pub use Rattle.std.proofs.lemmas.Grind.{flat_map-append}
pub use Rattle.std.proofs.lemmas.List.{append-nil, drop-drop, drop_all, drop_more, length-map, take-take, take_at, take_more}
pub use Rattle.std.proofs.lemmas.List.Elements.{All-weaker}
pub use Rattle.std.proofs.lemmas.List.Folds.{list_all-append}
pub use Rattle.std.proofs.lemmas.List.Splits.{join_with_byte-slice_split, length-slice_split, slice_split_at, slice_split_first, slice_split_none}
pub use Rattle.std.proofs.lemmas.List.Sums.{AllPass-from_list_all, fails_before_first, list_all-from_AllPass}
pub use Rattle.std.proofs.lemmas.Option.{none-some}
pub use Rattle.std.proofs.lemmas.Result.{on_err_weaker}
pub use Rattle.std.proofs.lemmas.Slice.Eq.{bytes_eq-Decides}
pub use Rattle.std.specs.Char.{is_ascii_digit}
pub use Rattle.std.specs.Fmt.{decimal}
pub use Rattle.std.specs.Io.{StartsWith}
pub use Rattle.std.specs.List.{All, find, flat_map, join_with_byte, list_all, position, position_or_len}
pub use Rattle.std.specs.Option.{option_copied, option_map, option_or}
pub use Rattle.std.specs.Prelude.{IfOk, OnErr, codes, if◌then◌else◌, nat_le, slice_get, ◌↔◌}
pub use Rattle.std.specs.Result.{result_ok}
pub use Rattle.std.specs.Str.{all_ascii_digits, bytes_eq}
