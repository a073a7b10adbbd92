-- The names from elsewhere that the proofs cite, passed on from one place. Declares nothing.
pub use Rattle.np_path.specs.Grammar.{fault_in, fault_or, first_fault, path_fault, elements, is_control, is_dots, is_element, is_kept, is_path, is_slash, IsNameAt, below, name_of, or_root, parent_of, root, slashed}
pub use Rattle.np_text.proofs.OrderLemmas.{all_ascii_digits-ten, ten-le-length}
pub use Rattle.np_text.specs.Number.{ten_digits_of}
pub use Rattle.std.proofs.Common.{Bool, List, None, Option, Some, ap, arith, cond, drop, false, get_or, inl, inr, length, nat_lt, not, refl, subst, suc, sym, take, true, zero, ℕ, [], ◌&&◌, ◌++◌, ◌+◌, ◌-◌, ◌<◌, ◌||◌, ◌∙◌, ◌∷◌, ◌≡◌, ◌≢◌, ◌≤◌}
pub use Rattle.std.proofs.Math.Utf8.{encode}
pub use Rattle.std.proofs.lemmas.Bool.{and_from, and_parts, cases_lt, false_from_ne_true}
pub use Rattle.std.proofs.lemmas.Bool.Decides.{nat_tests}
pub use Rattle.std.proofs.lemmas.List.{append_assoc, drop-drop, drop_at, drop_more, get_or-append_right, get_or-drop, get_or-take, get_or_append_left, get_or_at, length-append, length-drop, length-take, length-take-le, take-append-drop, take-take, take_all, take_at, take_more, take_rest}
pub use Rattle.std.proofs.lemmas.List.Elements.{All-from_get_or, All-weaker}
pub use Rattle.std.proofs.lemmas.List.Folds.{drop_split, list_all-append, list_any_none}
pub use Rattle.std.proofs.lemmas.List.Splits.{length-slice_split, slice_split-cons_no, slice_split-cons_yes, slice_split_at, slice_split_none}
pub use Rattle.std.proofs.lemmas.List.Sums.{AllPass-from_list_all, position_or_len_is, suffix_len_is}
pub use Rattle.std.proofs.lemmas.Str.{IsCharBoundary-after_ascii, encode_ascii}
pub use Rattle.std.specs.Char.{is_ascii_digit}
pub use Rattle.std.specs.List.{All, AllPass, before_last, list_all, list_any, onto_first, position, position_or_len, slice_range, suffix_len}
pub use Rattle.std.specs.Option.{is_none}
pub use Rattle.std.specs.Str.{IsCharBoundary, IsUtf8, all_ascii_digits}
pub use Rattle.std.specs.String.{string_bytes}
