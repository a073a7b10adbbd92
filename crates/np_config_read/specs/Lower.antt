-- What the definitions take from the crates below, passed on from one place. Declares nothing.
pub use Rattle.np_amount.specs.declared.amount.Amount.{Amount}
pub use Rattle.np_amount.specs.declared.amount.Limit.{Limit}
pub use Rattle.np_config.specs.Configuration.{Configuration, configuration, default_name, AreProviders, AreRequesters, HasNewName, IsFault, IsJob, IsLabel, IsLimit, IsOffer, IsPool, IsPriority, IsProvider, IsRequester, IsRole, IsSem, IsSound, IsStart, IsTaken, IsTenant, IsWanted, StandsByOwner, is_above, is_unoffered, is_untaken}
pub use Rattle.np_config.specs.Word.{fault_kind_of}
pub use Rattle.np_config.specs.declared.row.Fault.{Fault}
pub use Rattle.np_config.specs.declared.row.Job.{Job}
pub use Rattle.np_config.specs.declared.row.Label.{Label}
pub use Rattle.np_config.specs.declared.row.Offer.{Offer}
pub use Rattle.np_config.specs.declared.row.Pool.{Pool}
pub use Rattle.np_config.specs.declared.row.Provider.{Provider}
pub use Rattle.np_config.specs.declared.row.Requester.{Requester}
pub use Rattle.np_config.specs.declared.row.Sem.{Sem}
pub use Rattle.np_config.specs.declared.row.Tenant.{Tenant}
pub use Rattle.np_json.specs.Leaf.{at_most, behind, flag_or, named_at, object_at, one_to, only_keys, required, text_value, whole_maybe, whole_or, whole_required, whole_value}
pub use Rattle.np_json.specs.Reading.{Fails, Gives, below, fault, fault_of, pointer_to}
pub use Rattle.np_json.specs.Rows.{ReadsItem, list_maybe, list_required}
pub use Rattle.np_json.specs.declared.fault.ConfigFault.{ConfigFault}
pub use Rattle.np_json.specs.declared.fault.ConfigKind.{ConfigKind}
pub use Rattle.np_json.specs.declared.fault.ConfigKind.TheVariants.{BadName, Missing, NotJson, OutOfRange, Repeated, UnknownKey, UnknownName, WrongType}
pub use Rattle.np_lists.specs.EachAfter.{EachAfter}
pub use Rattle.np_lists.specs.Refusals.{found, need}
pub use Rattle.np_text.specs.Word.{end_as_of, role_kind_of}
pub use Rattle.np_text.specs.declared.id.LabelId.{LabelId}
pub use Rattle.np_text.specs.declared.id.RequesterId.{RequesterId}
pub use Rattle.np_text.specs.declared.id.Role.{Role}
pub use Rattle.np_text.specs.declared.id.SemId.{SemId}
pub use Rattle.np_text.specs.declared.id.TenantId.{TenantId}
pub use Rattle.np_text.specs.declared.limit.TheConstants.{AGE, CONCURRENCY, FAIL_STARTS, FAULTS, FAULT_ACTS, HANDLES, JOBS, JOB_LABELS, JOB_SEMAPHORES, LABELS, LAUNCHES, MIN_READY, NODE_CORES, NODE_RAM, POOLS, POOL_CORES, POOL_RAM, POOL_SERVERS, PROVIDERS, RELATIVE_PRIORITY, REQUESTERS, SEMAPHORES, START_NUMBER, TENANTS, WINDOW}
pub use Rattle.np_text.specs.declared.word.EndAs.TheVariants.{Used}
pub use Rattle.np_text.specs.declared.word.RoleKind.{RoleKind}
