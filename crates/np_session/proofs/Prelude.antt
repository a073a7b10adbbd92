-- The names from elsewhere that the proofs cite, passed on from one place. Declares nothing.
pub use Rattle.np_session.specs.Known.{IsKnown, Known, after_begin, after_end, after_mute, is_in, mute_with, with_spare, without}
pub use Rattle.np_session.specs.Numbers.{is_live, is_mute, known_of, life_of, numbers}
pub use Rattle.np_session.specs.declared.sessions.Life.{Life}
pub use Rattle.np_session.specs.declared.sessions.Life.TheVariants.{Live, Mute, Over}
pub use Rattle.std.proofs.Common.{Bool, List, add-zero, ap, arith, cond, eqb, false, get_or, inl, inr, length, not, refl, set, subst, suc, sym, true, vec_capacity, zero, ℕ, [], ◌&&◌, ◌++◌, ◌+◌, ◌-◌, ◌<◌, ◌||◌, ◌∙◌, ◌∷◌, ◌≡◌, ◌≢◌, ◌≤◌, ◌⊎◌}
pub use Rattle.std.proofs.lemmas.Bool.{cases_lt}
pub use Rattle.std.proofs.lemmas.Bool.Decides.{eqb_tells, nat_tests}
pub use Rattle.std.proofs.lemmas.List.{append-nil, get_or-set_other, get_or-set_same, get_or_past, length-set, length_push}
pub use Rattle.std.specs.List.Sorted.{IsStrictlyIncreasing}
pub use Rattle.std.specs.Prelude.{filter}
