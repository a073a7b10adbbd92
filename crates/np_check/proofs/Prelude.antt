-- The names from elsewhere that the proofs cite, passed on from one place. Declares nothing.
pub use Rattle.np_changes.proofs.Shapes.{sound_fits}
pub use Rattle.np_check.specs.Demand.{any_below, has_room, keeps_ready, number_below, offers_all, request_of}
pub use Rattle.np_check.specs.Report.{is_true, of_job, of_label, of_pool, of_semaphore, of_tenant, places, finding_line}
pub use Rattle.np_check.specs.Lower.{AmountFits, is_offered, may_fit, offers_of}
pub use Rattle.np_check.specs.Near.{distance}
pub use Rattle.np_check.specs.Spot.{behind}
pub use Rattle.np_check.specs.declared.finding.Finding.TheVariants.{OfferTooLarge}
pub use Rattle.std.proofs.Common.{Bool, List, ap, append_assoc, arith, drop, get_or, length, map, refl, subst, sym, take, ℕ, [], ◌*◌, ◌++◌, ◌+◌, ◌<◌, ◌^◌, ◌∙◌, ◌∷◌, ◌≡◌, ◌≤◌}
pub use Rattle.std.proofs.lemmas.List.Elements.{filter-append}
pub use Rattle.std.proofs.lemmas.Result.{IfOk-equal}
pub use Rattle.std.specs.List.{flat_map}
pub use Rattle.std.specs.Prelude.{filter, fold}
