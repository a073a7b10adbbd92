-- The names from elsewhere that the proofs cite, passed on from one place. Declares nothing.
pub use Rattle.np_config.proofs.Owners.{after_earlier}
pub use Rattle.np_config.specs.declared.row.FaultKind.{FaultKind}
pub use Rattle.np_config_read.specs.Requesters.{AllStand, StandsFor, count, default, job_defaults, label_defaults, no_rows, offer_defaults, pool_defaults, provider_defaults, requester_defaults, semaphore_defaults, top_defaults, meaning_of, priority_of, word_or}
pub use Rattle.np_config_read.specs.Walk.{role_named, faults_at, labels_at, parsed, providers_at, requesters_at, semaphores_at, tenants_at}
unfoldable pub use Rattle.np_config_read.specs.Walk.{fault_at, required_word, role_at, label_at, label_row, semaphore_at, tenant_at, configuration_at, reads}
pub use Rattle.np_config_read.specs.Providers.{fault_keys, job_keys, label_keys, offer_keys, pool_keys, provider_keys, requester_keys, semaphore_keys, tenant_keys, top_keys, IsUnused, label_named, pool_name, pool_named, pool_names, requester_named, semaphore_named, tenant_id, tenant_named}
pub use Rattle.np_config_read.specs.Lower.{AGE, Amount, AreProviders, AreRequesters, CONCURRENCY, ConfigFault, Configuration, EachAfter, FAIL_STARTS, FAULTS, FAULT_ACTS, Fails, Fault, Gives, HANDLES, HasNewName, IsFault, IsJob, IsLabel, IsLimit, IsOffer, IsPool, IsPriority, IsProvider, IsRequester, IsRole, IsSem, IsSound, IsStart, IsTaken, IsTenant, IsWanted, JOBS, JOB_LABELS, JOB_SEMAPHORES, Job, LABELS, LAUNCHES, Label, LabelId, Limit, MIN_READY, NODE_CORES, NODE_RAM, NotJson, Offer, OutOfRange, POOLS, POOL_CORES, POOL_RAM, POOL_SERVERS, PROVIDERS, Pool, Provider, RELATIVE_PRIORITY, REQUESTERS, ReadsItem, Repeated, Requester, RequesterId, Role, RoleKind, SEMAPHORES, START_NUMBER, Sem, SemId, StandsByOwner, TENANTS, Tenant, TenantId, UnknownName, Used, WINDOW, at_most, behind, below, configuration, default_name, end_as_of, fault, fault_kind_of, fault_of, flag_or, is_above, is_unoffered, is_untaken, need, object_at, one_to, only_keys, pointer_to, required, role_kind_of, text_value, whole_maybe, whole_or, whole_value}
unfoldable pub use Rattle.np_config_read.specs.Providers.{label_for, label_value, limit_at, offer_amount, offer_at, offer_label, offers_at, pool_at, pool_row, pools_at, provider_at, provider_row, start_at, starts_at}
unfoldable pub use Rattle.np_config_read.specs.Requesters.{demand_at, job_at, job_row, jobs_at, requester_at, requester_row, semaphore_for, taken_at, takes_at, wanted_at, wants_at, word_value}
pub use Rattle.np_config_read.specs.declared.providers.PoolsOf.{PoolsOf}
pub use Rattle.np_config_read.specs.declared.providers.Providers.{Providers}
pub use Rattle.np_config_read.specs.declared.requesters.Demand.{Demand}
pub use Rattle.np_config_read.specs.declared.requesters.JobsOf.{JobsOf}
pub use Rattle.np_config_read.specs.declared.requesters.Requesters.{Requesters}
pub use Rattle.np_json.proofs.Binds.{binds}
pub use Rattle.np_json.proofs.Lists.{list_any-map, position-map}
pub use Rattle.np_json.proofs.Takes.{list_maybe-takes, list_required-takes, named_at-takes, ok, same_ok, whole_maybe-takes, whole_or-takes, whole_required-takes, whole_value-takes}
unfoldable pub use Rattle.np_json.specs.Leaf.{name_at, named_at, new_name, whole_required}
unfoldable pub use Rattle.np_json.specs.Rows.{items_from, list_at, list_maybe, list_required}
pub use Rattle.np_json.specs.declared.fault.ConfigRead.{ConfigRead}
pub use Rattle.np_json.specs.declared.leaf.Length.{Length}
pub use Rattle.np_lists.proofs.Changes.{EachAfter-append, EachAfter-push, filter-keeps_all}
pub use Rattle.np_lists.proofs.Plain.{and_false, bind-ok, found-ok, found-some, from-map_some, is-at_most, need-ok, rest-ok}
pub use Rattle.np_lists.specs.Refusals.{◌>>=◌, ◌>>◌}
pub use Rattle.np_text.specs.Name.{is_name_byte}
unfoldable pub use Rattle.np_text.specs.Name.{is_name_text}
pub use Rattle.np_text.specs.declared.word.EndAs.{EndAs}
unfoldable pub use Rattle.serde_json.proofs.OnLiterals.{serde_json_on_literals}
pub use Rattle.serde_json.specs.Data.{Data, Members, boolean, member, no_members, put, string}
pub use Rattle.serde_json.specs.Find.{get, get_member}
pub use Rattle.serde_json.specs.Read.{read}
pub use Rattle.serde_json.specs.View.{view}
pub use Rattle.std.proofs.Common.{Bool, Equal, Err, Greater, IfOk, IfSome, Less, List, None, Ok, Option, Ordering, Result, Some, ap, append-nil, append_assoc, arith, codes, cond, false, get_or, inl, inr, length, length-append, map, not, refl, subst, suc, sym, take, true, zero, ℕ, [], ◌&&◌, ◌++◌, ◌+◌, ◌<◌, ◌∙◌, ◌∷◌, ◌≡◌, ◌≤◌}
pub use Rattle.std.proofs.lemmas.Bool.{and_parts, cases_lt, not-true, or_parts}
pub use Rattle.std.proofs.lemmas.Bool.Decides.{nat_tests}
pub use Rattle.std.proofs.lemmas.List.{length-map, map-append}
pub use Rattle.std.proofs.lemmas.List.Elements.{All-append, All-head, All-nil, All-push, All-tail, All-weaker, filter-append}
pub use Rattle.std.proofs.lemmas.List.Quantifiers.{position-Some}
pub use Rattle.std.proofs.lemmas.Result.{err_from_is_err_and}
pub use Rattle.std.proofs.lemmas.Str.{IsUtf8-from_is_utf8, is_utf8-from_IsUtf8}
pub use Rattle.std.specs.Cmp.Lexicographic.{slice_cmp}
unfoldable pub use Rattle.std.specs.Fmt.{digits}
pub use Rattle.std.specs.List.{list_all, list_any}
pub use Rattle.std.specs.Option.{option_map, option_map_or}
pub use Rattle.std.specs.Ordering.{is_eq, match_ordering, nat_cmp}
pub use Rattle.std.specs.Prelude.{All, filter, nat_le, position, slice_get, ⊤, ◌==◌, ◌^◌}
pub use Rattle.std.specs.Str.{IsUtf8, bytes_eq}
unfoldable pub use Rattle.std.specs.Str.{chars, is_utf8}
