-- The names from elsewhere that the proofs cite, passed on from one place. Declares nothing.
pub use Rattle.np_text.specs.Lines.{is_line, line, line_in, line_length, lines_of}
pub use Rattle.np_text.specs.Name.{is_name_byte}
unfoldable pub use Rattle.np_text.specs.Name.{is_name_text}
pub use Rattle.np_text.specs.Number.{begins_as_number, padded}
unfoldable pub use Rattle.np_text.specs.Number.{digits_within, number_of, ten_digits_of, without_zeros}
pub use Rattle.np_text.specs.Request.{HasText, request_cmp, request_from}
unfoldable pub use Rattle.np_text.specs.Request.{request_of, request_text_of, sequence_of}
pub use Rattle.np_text.specs.Sections.{bar, begins_with_bar, behind, has_bar, sections_of}
unfoldable pub use Rattle.np_text.specs.Sections.{sections_from}
pub use Rattle.np_text.specs.Word.{AreWords, end_as_of, end_as_word, ending_of, ending_word, node_state_of, node_state_word, phase_of, phase_word, request_state_of, request_state_word, role_kind_of, role_kind_word}
pub use Rattle.np_text.specs.declared.id.RequestId.{RequestId}
pub use Rattle.np_text.specs.declared.limit.TheConstants.{SEQUENCE}
pub use Rattle.np_text.specs.declared.word.EndAs.{EndAs}
pub use Rattle.np_text.specs.declared.word.Ending.{Ending}
pub use Rattle.np_text.specs.declared.word.NodeState.{NodeState}
pub use Rattle.np_text.specs.declared.word.Phase.{Phase}
pub use Rattle.np_text.specs.declared.word.RequestState.{RequestState}
pub use Rattle.np_text.specs.declared.word.RoleKind.{RoleKind}
pub use Rattle.np_text.specs.declared.word.TheConstants.EndAs.{ALL as ends}
pub use Rattle.np_text.specs.declared.word.TheConstants.Ending.{ALL as endings}
pub use Rattle.np_text.specs.declared.word.TheConstants.NodeState.{ALL as node_states}
pub use Rattle.np_text.specs.declared.word.TheConstants.Phase.{ALL as phases}
pub use Rattle.np_text.specs.declared.word.TheConstants.RequestState.{ALL as request_states}
pub use Rattle.np_text.specs.declared.word.TheConstants.RoleKind.{ALL as role_kinds}
pub use Rattle.std.proofs.Common.{Bool, Equal, Greater, Less, List, None, Option, Ordering, Some, add-one, ap, append_assoc, arith, cond, drop, false, get_or, inl, inr, length, length-append, ltb, not, refl, replicate, set, suc, sym, take, true, zero, ℕ, [], ◌%◌, ◌&&◌, ◌*◌, ◌++◌, ◌+◌, ◌-◌, ◌/◌, ◌<◌, ◌==◌, ◌^◌, ◌∙◌, ◌∷◌, ◌≡◌, ◌≢◌, ◌≤◌, ◌⊎◌}
pub use Rattle.std.proofs.Math.Numerals.{one-add}
pub use Rattle.std.proofs.lemmas.Bool.{and_parts, and_right, cases_eq, cases_lt, cond_both, eq-eqb, eqb-true, or_parts}
pub use Rattle.std.proofs.lemmas.Bool.Decides.{nat_tests}
pub use Rattle.std.proofs.lemmas.Fmt.{decimal-digits_value, decimal_digit, decimal_injective, decimal_nonempty, decimal_step, digits_decimal, digits_value-decimal, first_decimal, length-decimal-le}
pub use Rattle.std.proofs.lemmas.List.{append-nil, drop-drop, drop-set, drop_all, drop_at, drop_more, length-drop, length-replicate, length_push, replicate_more, take_more}
pub use Rattle.std.proofs.lemmas.List.Sums.{prefix_len-le-length}
pub use Rattle.std.proofs.lemmas.Slice.Eq.{bytes_eq-Decides}
pub use Rattle.std.proofs.lemmas.Str.Ascii.{IsAscii-cons, IsAscii-nil}
pub use Rattle.std.proofs.lemmas.Str.Parse.{IsNumeralModel, digits_value_short, numerals_by_value, tells_all_ascii_digits}
pub use Rattle.std.specs.Char.{digit_value, is_ascii_digit}
pub use Rattle.std.specs.Cmp.{nat_cmp_is}
pub use Rattle.std.specs.Cmp.Lexicographic.{slice_cmp}
pub use Rattle.std.specs.Fmt.{decimal, digit_glyph, digits_onto}
unfoldable pub use Rattle.std.specs.Fmt.{digits}
pub use Rattle.std.specs.List.{find, flat_map, list_all, onto_first, position, position_or_len}
pub use Rattle.std.specs.Ordering.{nat_cmp, ordering_then}
pub use Rattle.std.specs.Prelude.{if◌then◌else◌, nat_le, nat_lt, unwrap_or}
pub use Rattle.std.specs.Str.{IsAscii, all_ascii_digits, bytes_eq}
pub use Rattle.std.specs.Str.Parse.{digits_value, digits_value_after}
pub use borrow.Rule.Slice.PartMut.{put_mid}
