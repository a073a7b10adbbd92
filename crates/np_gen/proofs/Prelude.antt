-- The names that the proofs cite from elsewhere, passed on from one place. Declares nothing.
pub use Rattle.np_config.proofs.Owners.{after_earlier}
pub use Rattle.np_config.specs.declared.row.Fault.{Fault}
pub use Rattle.np_config.specs.declared.row.Tenant.{Tenant}
pub use Rattle.np_gen.specs.Lower.{AreProviders, AreRequesters, Configuration, IsFault, IsJob, IsLabel, IsOffer, IsPool, IsPriority, IsProvider, IsRequester, IsSem, IsSound, IsTaken, IsWanted, Job, Label, LabelId, Pool, Provider, Requester, Sem, SemId, StandsByOwner, configuration}
pub use Rattle.np_gen.specs.Site.{after_draws, after_job, asks_for_nine, deploy, drawn_jobs, drawn_labels, drill_job, drill_jobs, drill_labels, drill_offer, drill_pool, drill_pools, drill_providers, drill_requesters, drill_semaphores, is_large, job_labels, job_name, job_priority, job_semaphores, jobs_from, jobs_of, label_at, label_count, stage}
unfoldable pub use Rattle.np_gen.specs.Site.{draw, next_state, drill_site}
pub use Rattle.np_lists.proofs.Changes.{All-filter_number, EachAfter-append, all-push, all-weaker}
pub use Rattle.np_lists.proofs.Plain.{by_bool, bytes_eq-apart}
pub use Rattle.np_lists.specs.EachAfter.{EachAfter}
pub use Rattle.np_text.proofs.SpellingLemmas.{model}
pub use Rattle.np_text.specs.Name.{is_name_byte}
unfoldable pub use Rattle.np_text.specs.Name.{is_name_text}
pub use Rattle.std.proofs.Common.{All, Bool, IfOk, List, [], ap, append-nil, append_assoc, arith, bytes_eq, codes, cond, decimal, drop, false, filter, length, length-append, lit<, lit≤, nat_le, refl, replicate, rules, subst, suc, sym, true, zero, ℕ, ◌%◌, ◌++◌, ◌+◌, ◌-◌, ◌/◌, ◌<◌, ◌==◌, ◌∙◌, ◌∷◌, ◌≡◌, ◌≢◌, ◌≤◌}
pub use Rattle.std.proofs.lemmas.Bool.Decides.{nat_tests}
pub use Rattle.std.proofs.lemmas.Fmt.{decimal_injective, digits_decimal, length-decimal-le}
pub use Rattle.std.proofs.lemmas.List.Elements.{All-append, All-cons, All-filter, All-head, All-nil, All-push, All-replicate, All-tail, All-weaker, filter-append}
pub use Rattle.std.specs.List.{AllByRecursion, list_all, list_any}
pub use Rattle.std.specs.Str.{all_ascii_digits}
