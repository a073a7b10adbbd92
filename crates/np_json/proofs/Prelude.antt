-- The names from elsewhere that the proofs cite, passed on from one place. Declares nothing.
pub use Rattle.np_json.specs.Leaf.{in_range, list_value, object_at, of_length, only_keys, required, text_value, whole_maybe, whole_or, whole_value}
unfoldable pub use Rattle.np_json.specs.Leaf.{name_at, named_at, new_name, whole_required}
pub use Rattle.np_json.specs.Reading.{Fails, below, fault, fault_of}
pub use Rattle.np_json.specs.Rows.{ReadsItem}
unfoldable pub use Rattle.np_json.specs.Rows.{items_from, list_at, list_maybe, list_required}
pub use Rattle.np_json.specs.declared.fault.ConfigFault.{ConfigFault}
pub use Rattle.np_json.specs.declared.fault.ConfigKind.TheVariants.{BadName, OutOfRange, Repeated, TooMany, WrongType}
pub use Rattle.np_json.specs.declared.fault.ConfigRead.{ConfigRead}
pub use Rattle.np_json.specs.declared.leaf.Length.{Length}
pub use Rattle.np_lists.proofs.Plain.{bind-ok, need-ok, rest-ok}
pub use Rattle.np_lists.specs.Refusals.{found, need, ◌>>=◌, ◌>>◌}
pub use Rattle.np_text.specs.Name.{is_name_text}
pub use Rattle.serde_json.proofs.Views.{items_len-items_view}
pub use Rattle.serde_json.specs.Data.{Data, Items, item, no_items}
pub use Rattle.serde_json.specs.Events.{items_len}
pub use Rattle.serde_json.specs.Find.{as_array, as_number, as_u64, get}
pub use Rattle.serde_json.specs.View.{items_view, members_view, view}
pub use Rattle.serde_json.specs.declared.value.Value.{Value}
pub use Rattle.std.proofs.Common.{Bool, Err, IfSome, List, None, Ok, Option, Result, Some, add-one, ap, arith, codes, cond, decimal, drop, false, get_or, length, length-append, ltb, map, nat_eq, nat_le, not, refl, subst, suc, sym, true, ℕ, [], ◌&&◌, ◌++◌, ◌+◌, ◌<◌, ◌||◌, ◌∙◌, ◌∷◌, ◌≡◌, ◌≤◌}
pub use Rattle.std.proofs.Math.Seq.{drop-cons}
pub use Rattle.std.proofs.lemmas.Bool.{not-true}
pub use Rattle.std.proofs.lemmas.Bool.Decides.{nat_tests}
pub use Rattle.std.proofs.lemmas.List.{drop_all, length-map, map-append}
pub use Rattle.std.proofs.lemmas.Result.{err_from_is_err_and}
pub use Rattle.std.specs.List.{list_any, position_or_len, prefix_len}
pub use Rattle.std.specs.Option.{option_and_then, option_map_or}
pub use Rattle.std.specs.Prelude.{position}
pub use Rattle.std.specs.Str.{bytes_eq}
