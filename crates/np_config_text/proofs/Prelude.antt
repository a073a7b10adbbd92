-- The names from elsewhere that the proofs cite, passed on from one place. Declares nothing.
pub use Rattle.json.specs.Print.{escape}
unfoldable pub use Rattle.json.specs.Print.{escape_byte}
pub use Rattle.np_config.proofs.Owners.{below-all, below-more, below-none, rows_of}
pub use Rattle.np_config.specs.declared.row.FaultKind.{FaultKind}
pub use Rattle.np_config_read.proofs.DefaultLemmas.{other, passed, reached}
pub use Rattle.np_config_read.proofs.Parsed.{parsed-some}
unfoldable pub use Rattle.np_config_read.proofs.Parsed.{reading_on_literals}
pub use Rattle.np_config_read.proofs.WalkTakes.{pool_names-unused}
unfoldable pub use Rattle.np_config_read.specs.Providers.{label_for, label_value, limit_at, offer_amount, offer_at, offer_label, offers_at, pool_at, pool_row, pools_at, provider_at, provider_row, start_at, starts_at}
unfoldable pub use Rattle.np_config_read.specs.Requesters.{demand_at, job_at, job_row, jobs_at, requester_at, requester_row, semaphore_for, taken_at, takes_at, wanted_at, wants_at, word_value}
unfoldable pub use Rattle.np_config_read.specs.Walk.{fault_at, required_word, role_at, label_at, label_row, semaphore_at, tenant_at, configuration_at, reads}
pub use Rattle.np_config_text.specs.Canonical.{configuration_data, fault_data, full_name, given, given_count, given_limit, job_data, job_tenant, jobs_of, label_data, label_name, list_data, list_if_any, offer_data, placed, pool_data, pools_of, priority_word, provider_data, requester_data, requester_name, role_name, role_word, semaphore_data, semaphore_name, tenant_data, tenant_name, put_given, put_limit}
unfoldable pub use Rattle.np_config_text.specs.Canonical.{canonical}
pub use Rattle.np_config_text.specs.Lower.{AreProviders, AreRequesters, Configuration, Crash, Expire, Fault, HasNewName, Hold, IsFault, IsJob, IsLabel, IsLimit, IsOffer, IsPool, IsPriority, IsProvider, IsRequester, IsRole, IsSem, IsSound, IsStart, IsTaken, IsTenant, IsUnused, IsWanted, Job, JobsSoFar, Label, LabelId, Limit, Offer, Pool, PoolId, PoolsSoFar, Provider, ProvidersSoFar, Requester, RequesterId, RequestersSoFar, Role, Sem, SemId, StandsByOwner, Stop, Tenant, TenantId, Used, count, default_name, default_tenant, end_as_of, end_as_word, fault_kind_of, fault_kind_word, job_keys, label_named, pool_keys, pool_name, pool_named, pool_names, priority_of, provider_keys, requester_named, semaphore_named, tenant_id, tenant_keys, tenant_named, tenant_of, top_keys}
pub use Rattle.np_json.proofs.Takes.{ok}
pub use Rattle.np_json.specs.Leaf.{at_most, behind, one_to, only_keys, whole_value}
unfoldable pub use Rattle.np_json.specs.Leaf.{name_at, named_at, new_name, whole_required}
pub use Rattle.np_json.specs.Reading.{below, below as under}
pub use Rattle.np_json.specs.Rows.{ReadsItem}
unfoldable pub use Rattle.np_json.specs.Rows.{items_from, list_at, list_maybe, list_required}
pub use Rattle.np_json.specs.declared.leaf.Length.{Length}
pub use Rattle.np_lists.proofs.Changes.{All-filter_number, All-from_each, EachAfter-from_all, length-filter_at_most}
pub use Rattle.np_lists.proofs.Plain.{get-map, is-at_most}
pub use Rattle.np_lists.specs.EachAfter.{EachAfter}
pub use Rattle.np_lists.specs.Refusals.{◌>>=◌}
pub use Rattle.np_text.proofs.NameLemmas.{IsAscii-name}
unfoldable pub use Rattle.np_text.specs.Name.{is_name_text}
pub use Rattle.np_text.specs.declared.limit.TheConstants.{AGE, CONCURRENCY, FAIL_STARTS, FAULTS, FAULT_ACTS, HANDLES, JOBS, JOB_LABELS, JOB_SEMAPHORES, LABELS, LAUNCHES, MIN_READY, NAME_BYTES, NODE_CORES, NODE_RAM, POOLS, POOL_CORES, POOL_RAM, POOL_SERVERS, PROVIDERS, RELATIVE_PRIORITY, REQUESTERS, SEMAPHORES, START_NUMBER, TENANTS, WINDOW}
pub use Rattle.np_text.specs.declared.word.EndAs.{EndAs}
pub use Rattle.serde_json.proofs.Views.{view-Array, view-Object}
pub use Rattle.serde_json.specs.Data.{Data, Members, array, boolean, depth, items_depth, member, members_depth, no_members, number, object, put, string, unsigned}
pub use Rattle.serde_json.specs.Events.{items_len}
pub use Rattle.serde_json.specs.Find.{get, get_member}
pub use Rattle.serde_json.specs.Read.{read}
pub use Rattle.serde_json.specs.View.{items_of, view}
pub use Rattle.serde_json.specs.Written.{comma_if, compact_text, has_float, items_have_float, items_text, members_have_float, members_text}
pub use Rattle.serde_json.specs.declared.value.Value.{Value}
pub use Rattle.std.proofs.Common.{Bool, Equal, Greater, IfSome, Less, List, None, Ok, Option, Ordering, Some, ap, append-nil, append_assoc, arith, codes, cond, decimal, false, get_or, inl, inr, length, length-append, length-take-le, map, nat_le, nat_lt, refl, subst, suc, sym, take, take_all, true, zero, ℕ, [], ◌&&◌, ◌*◌, ◌++◌, ◌+◌, ◌<◌, ◌^◌, ◌∙◌, ◌∷◌, ◌≡◌, ◌≤◌}
pub use Rattle.std.proofs.lemmas.Bool.{and_parts, or_parts}
pub use Rattle.std.proofs.lemmas.Bool.Decides.{nat_tests}
pub use Rattle.std.proofs.lemmas.Fmt.{length-decimal-le}
pub use Rattle.std.proofs.lemmas.List.{length-map, map-append, take_more}
pub use Rattle.std.proofs.lemmas.List.Elements.{All-cons, All-filter, All-head, All-map, All-nil, All-tail, filter-append}
pub use Rattle.std.proofs.lemmas.List.Sums.{count_by-le-length, length-filter}
pub use Rattle.std.proofs.lemmas.Nat.{mul-le}
pub use Rattle.std.proofs.lemmas.Slice.Eq.{bytes_eq-Decides}
pub use Rattle.std.proofs.lemmas.Str.{IsAscii-append, IsUtf8-from_ascii}
pub use Rattle.std.proofs.lemmas.Str.Ascii.{IsAscii-cons, IsAscii-nil}
pub use Rattle.std.specs.Cmp.Lexicographic.{slice_cmp}
pub use Rattle.std.specs.List.{list_any, position_or_len}
pub use Rattle.std.specs.Option.{option_map, option_map_or}
pub use Rattle.std.specs.Ordering.{is_eq, is_gt, match_ordering, nat_cmp}
pub use Rattle.std.specs.Prelude.{All, filter, position, slice_get, ⊤, ◌==◌}
pub use Rattle.std.specs.Str.{IsAscii, IsUtf8, bytes_eq}
