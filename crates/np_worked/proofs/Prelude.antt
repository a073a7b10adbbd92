-- The names from elsewhere that the proofs cite, passed on from one place. Declares nothing.
pub use Rattle.np_layout.proofs.Rows.{refute}
unfoldable pub use Rattle.np_layout.specs.Place.{path_of}
pub use Rattle.np_machine.specs.declared.state.Registration.{Registration}
unfoldable pub use Rattle.np_text.specs.Number.{ten_digits_of}
unfoldable pub use Rattle.np_text.specs.Request.{request_text_of}
pub use Rattle.np_worked.specs.Examples.{all_kinds, expiring_site}
pub use Rattle.np_worked.specs.Lower.{Configuration, Event, HasCause, HasDeclined, IsDrivenTurn, NodeState, Outcome, Reaper, RequestId, RequestRecord, Role, Row, Says, Turn, is_maker_of, judge, list_any, maker_of, row_holds, turns}
pub use Rattle.np_worked.specs.WorkedTree.{held_node}
pub use Rattle.np_worked.specs.Parts.{allocated, node, request, session}
pub use Rattle.np_worked.specs.Site.{janitor, launcher, pool, requester}
pub use Rattle.np_worked.specs.Turns.{of_request_1, was}
pub use Rattle.std.proofs.Common.{List, None, Option, Some, arith, codes, false, inl, inr, not, refl, rules, sym, take, true, ℕ, [], ◌==◌, ◌∷◌, ◌≡◌}
pub use Rattle.std.proofs.lemmas.Bool.{and_parts}
unfoldable pub use Rattle.std.specs.Fmt.{digits}
pub use Rattle.std.specs.Prelude.{Bool, Contains, is_ok, ◌&&◌}
pub use Rattle.std.specs.Str.{bytes_eq}
